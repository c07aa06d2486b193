use Rattle.lsp_text.proofs.TextLines.IndexesLemmas.{indexes_from, starts_from, made_whole}
use Rattle.lsp_text.proofs.lines.Lines.new.Goals as goal

pub invariant_of-result : goal.invariant_of-result
invariant_of-result c =
    starts_from c.args.text.now c.push_ends.new.starts.items
    (made_whole c.args.text.now c.as_bytes-bytes.result.now c.new-starts.result.items c.push.new.self.items
    c.push_ends.new.starts.items c.as_bytes-bytes.ensures.value c.new-starts.ensures.items c.in_ok-push.ensures.items
    c.in_ok-push_ends.ensures.ok)

pub returns : goal.returns
returns c =
    indexes_from c.args.text.now c.push_ends.new.starts.items c.utf8.text c.requires
    (made_whole c.args.text.now c.as_bytes-bytes.result.now c.new-starts.result.items c.push.new.self.items
    c.push_ends.new.starts.items c.as_bytes-bytes.ensures.value c.new-starts.ensures.items c.in_ok-push.ensures.items
    c.in_ok-push_ends.ensures.ok)

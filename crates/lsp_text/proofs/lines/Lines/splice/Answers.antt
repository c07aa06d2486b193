use Rattle.lsp_text.proofs.TextLines.SpliceLemmas.{replaces_from, indexes_ok, starts_kept}
use Rattle.lsp_text.proofs.lines.Lines.splice.Goals as goal

pub splice_starts-requires-clause-replaces : goal.splice_starts-requires-clause-replaces
splice_starts-requires-clause-replaces c =
    replaces_from c.requires.spliced.old c.args.self.now c.self.inside.starts.items c.args.text.now
    c.as_bytes.result.now c.args.from c.args.to c.args.len
    c.self.view_is c.requires.spliced.indexed c.requires.spliced.utf8 c.as_bytes.ensures.value
    c.requires.spliced.replaced

pub invariant_of-self : goal.invariant_of-self
invariant_of-self c =
    starts_kept c.splice_starts.new.starts.items c.args.text.now c.as_bytes.result.now c.as_bytes.ensures.value
    c.splice_starts.result c.self.inside.starts.items c.self.invariant c.splice_starts.ensures.ok
    c.splice_starts.ensures.unchanged

pub returns-clause-ok : goal.returns-clause-ok
returns-clause-ok c =
    indexes_ok c.splice_starts.new.starts.items c.args.text.now c.as_bytes.result.now c.as_bytes.ensures.value
    c.splice_starts.result c.utf8.text c.requires.size c.splice_starts.ensures.ok

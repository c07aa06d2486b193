use Rattle.lsp_text.proofs.Prelude.{refl}
use Rattle.lsp_text.proofs.TextLines.EndLemmas.{ends_of-all, Marks-part}
use Rattle.lsp_text.proofs.lines.ends.push_ends.Goals as goal

pub loop-at-init : goal.loop-at-init
loop-at-init c =
    let within = Marks-part c.args.bytes.now c.args.low c.args.high c.requires.order c.requires.within in
    rw (c.into_iter-at-iterator.ensures.into_iter_gives, c.memchr2_iter-at-items.ensures.value) record {
      within = within;
      found = refl;
    }

pub returns : goal.returns
returns c = record {
  ok = ends_of-all c.args.bytes.now c.args.low c.args.high c.loop-at.starts.items c.args.starts.now.items
      c.loop-at.at-iterator c.requires.order c.requires.within c.in-None.ensures.steps.0 c.loop-at.invariant.found;
}

use Rattle.lsp_buffer.proofs.Prelude.{◌-◌, arith, subst, ℕ, List, IsCharBoundary-after_ascii, IsFeed}
use Rattle.lsp_buffer.proofs.cut.cut_of.Goals as goal

pub returns-in-Some-clause-boundary : goal.returns-in-Some-clause-boundary
returns-in-Some-clause-boundary c =
    let feed : IsFeed c.args.text.now c.in-Some.at =
    subst (λ (bytes : List ℕ). IsFeed bytes c.in-Some.at) c.as_bytes-bytes.ensures.value c.in-Some.ensures.feed in
    IsCharBoundary-after_ascii c.args.text.now c.in-Some.at c.utf8.text feed.within (omega (arith, feed.feed))

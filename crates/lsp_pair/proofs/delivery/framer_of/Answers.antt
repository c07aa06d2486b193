use Rattle.lsp_pair.proofs.Prelude.{◌≡◌, List, ◌++◌, take, ap, ◌∙◌, subst, IsFrame, FramerData}
use Rattle.lsp_pair.proofs.Steps.FramerLemmas.{whole_taken}
use Rattle.lsp_pair.proofs.delivery.framer_of.Goals as goal

pub returns-in-Ok : goal.returns-in-Ok
returns-in-Ok c =
    let k = c.in-Ok.field-0 in
    let kept : c.feed.new.self.buffered ≡ take k c.args.bytes.now =
    ap (λ (f : FramerData). f.buffered) c.in-Ok.ensures.buffered
    ∙ ap (λ (f : FramerData). f.buffered ++ take k c.args.bytes.now) c.new-framer.ensures in
    let limits : c.feed.new.self.limits ≡ c.args.limits = ap (λ (f : FramerData). f.limits) c.in-Ok.ensures.buffered
    ∙ ap (λ (f : FramerData). f.limits) c.new-framer.ensures in
    let failed = ap (λ (f : FramerData). f.failed) c.in-Ok.ensures.buffered ∙ ap (λ (f : FramerData). f.failed)
    c.new-framer.ensures in
    let same : c.feed.new.self.buffered ≡ c.args.bytes.now =
    kept ∙ whole_taken c.args.limits.max_body c.args.bytes.now k c.requires c.in-Ok.ensures.taken
    (λ less. subst (λ (xs : List _). IsFrame c.args.limits.max_body xs) kept
    (subst (λ l. IsFrame l.max_body c.feed.new.self.buffered) limits (c.in-Ok.ensures.stops less))) in
    (same, failed, limits, rw (same, limits) c.requires)

use Rattle.lsp_log.proofs.Prelude.{sym, ap, ◌∙◌, length, FramerData, place_after}
use Rattle.lsp_log.proofs.SplitLemmas.{new_stands}
use Rattle.lsp_log.proofs.splitter.Splitter.new.Goals as goal

pub returns-clause-is_after : goal.returns-clause-is_after
returns-clause-is_after c = λ log_rules input more limited at_start.
    let skipped = c.skip.ensures in
    let fresh = c.new-framer.ensures in
    new_stands log_rules input more _ (ap (λ (f : FramerData). f.buffered) skipped ∙ ap (λ (f : FramerData). f.buffered)
    fresh)
    (ap (λ (f : FramerData). f.limits.max_body) skipped ∙ ap (λ (f : FramerData). f.limits.max_body) fresh
    ∙ sym limited)
    (ap (λ (f : FramerData). f.place) skipped ∙ ap (λ (f : FramerData). place_after f.place (length c.line.result.now))
    fresh ∙ ap (λ z. place_after 0 (length z)) c.line.ensures)
    c.first_side.ensures.none c.first_side.ensures.side (ap length c.line.ensures) c.has_line.ensures at_start

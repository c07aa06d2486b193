use Rattle.lsp_simulate.proofs.Prelude.{List, ℕ, ◌+◌, ◌++◌, false, ap, sym, ◌∙◌, lines_from, is_begun, unused}
use Rattle.lsp_simulate.proofs.InputLemmas.{after_line, first_line, no_line}
use Rattle.lsp_simulate.proofs.lines.InputLines.take_into.Goals as goal

pub returns-in_ok-extend_from_slice-in-Some-clause-whole :
    goal.returns-in_ok-extend_from_slice-in-Some-clause-whole
returns-in_ok-extend_from_slice-in-Some-clause-whole c _ more =
    let piece = c.args.self.now.piece in
    first_line (is_begun c.args.line.now.items) (unused c.args.self.now) more c.in-Some.len c.in-Some.ensures
    ∙ ap (λ (z : List ℕ). 1 + lines_from false (z ++ more))
    (after_line piece.from piece.to c.in-Some.len piece.bytes c.in-Some.ensures.0.high)

pub returns-in_ok-extend_from_slice-in-None-clause-part :
    goal.returns-in_ok-extend_from_slice-in-None-clause-part
returns-in_ok-extend_from_slice-in-None-clause-part c _ more =
    no_line c.args.line.now.items (unused c.args.self.now) more c.in-None.ensures
    ∙ ap (λ (z : List ℕ). lines_from (is_begun z) more) (sym c.in_ok-extend_from_slice-in-None.ensures.items)

-- Lines that were written, and those that are written next.
use Rattle.lsp_simulate.proofs.Prelude.{◌≡◌, ◌⊎◌, inl, inr, ℕ, ◌+◌, List, [], ◌∷◌, ◌++◌, length, codes, decimal, refl, sym, ap, ◌∙◌, subst, arith, append_assoc, append-nil, EngineFault, PairData, IsStep, RunFault, Write, run_fault, AreSteps, AreWholeLines, PairStep, next_line_number, step_line, step_lines}
use Rattle.lsp_simulate.specs.Words.{happened_words}
use Rattle.lsp_stream.specs.declared.fault.EngineFault.TheVariants as engine

pub lines-append : (xs ys : List ℕ) → AreWholeLines xs → AreWholeLines ys → AreWholeLines (xs ++ ys)
lines-append xs ys whole (inl none) = subst AreWholeLines (sym (append-nil xs) ∙ ap (λ z. xs ++ z) (sym none)) whole
lines-append xs ys whole (inr end) =
    inr (xs ++ end.0, ap (λ z. xs ++ z) end.1 ∙ sym (append_assoc xs end.0 (codes "\n")))

pub whole_steps : (number : ℕ) (steps : List PairStep) → AreWholeLines (step_lines number steps)
whole_steps number [] = inl refl
whole_steps number (s ∷ steps) =
    lines-append (step_line (next_line_number number) s.happened) (step_lines (next_line_number number) steps)
    (inr ((decimal (next_line_number number) ++ codes " ") ++ happened_words s.happened, refl))
    (whole_steps (next_line_number number) steps)

-- What a fault of writing is for the session.
pub write_fault : (fault : EngineFault) (given : RunFault) → given ≡ run_fault fault
    → (fault ≡ engine.Write) ⊎ (fault ≡ engine.TooManyTurns) → given ≡ Write
write_fault fault given is (inl at) = is ∙ ap run_fault at
write_fault fault given is (inr at) = is ∙ ap run_fault at

-- ---- one step more

pub steps_more : (old : PairData) (steps : List PairStep) (mid : PairData) (s : PairStep) (new : PairData)
    → AreSteps old steps mid → IsStep mid s.event s.happened new → AreSteps old (steps ++ s ∷ []) new
steps_more old [] mid s new are is = (new, subst (λ (p : PairData). IsStep p s.event s.happened new) are is, refl)
steps_more old (t ∷ steps) mid s new are is = (are.0, are.1, steps_more are.0 steps mid s new are.2 is)

pub lines_more : (number : ℕ) (steps : List PairStep) (s : PairStep) (next : ℕ)
    → next ≡ next_line_number (number + length steps)
    → step_lines number (steps ++ s ∷ []) ≡ step_lines number steps ++ step_line next s.happened
lines_more number [] s next is =
    let first : next_line_number number ≡ next = omega arith in
    append-nil (step_line (next_line_number number) s.happened) ∙ ap (λ n. step_line n s.happened) first
lines_more number (t ∷ steps) s next is =
    let one = next_line_number number in
    ap (λ z. step_line one t.happened ++ z) (lines_more one steps s next (omega arith))
    ∙ sym (append_assoc (step_line one t.happened) (step_lines one steps) (step_line next s.happened))

-- The units between two indexes: they add up, and rise with the index.
use Rattle.lsp_text.proofs.Prelude.{ℕ, zero, suc, ◌≡◌, ◌+◌, ◌-◌, ◌<◌, ◌≤◌, List, length, get_or, drop, ⊎_elim, refl, arith, length-drop, cases_eq, cases_order, get_or-drop, sum_by_more, units_between, common_steps}

-- One character more has its units more.
pub units_more : (units : ℕ → ℕ) (text : List ℕ) (i k : ℕ) → i ≤ k → k < length text
    → units_between units text i (suc k) ≡ units_between units text i k + units (get_or text k 0)
units_more units text i k order within =
    let len : length (drop i text) ≡ length text - i = length-drop i text in
    let inside : k - i < length (drop i text) = omega arith in
    let here : i + (k - i) ≡ k = omega arith in
    let next : suc k - i ≡ (k - i) + 1 = omega arith in
    let at_k : get_or (drop i text) (k - i) 0 ≡ get_or text k 0 = rw (get_or-drop, here) refl in
    rw (next, sum_by_more units (drop i text) (k - i) 0 inside, at_k) refl

-- Each character has a unit, so a longer part of a text has more of them.
module _ (units : ℕ → ℕ) (some : (c : ℕ) → 1 ≤ units c) (text : List ℕ) where
  pub units_rise : (i j k : ℕ) → i ≤ j → j < k → k ≤ length text → units_between units text i j < units_between units
      text i k
  units_rise i j zero from order within = absurd (omega arith)
  units_rise i j (suc k) from order within =
      ⊎_elim
      (λ (e : j ≡ k). rw e (here (omega arith)))
      (λ (e : j ≡ k → ⊥). further (units_rise i j k from (omega arith) (omega arith)))
      (cases_eq j k)
    where
      here : i ≤ k → units_between units text i k < units_between units text i (suc k)
      here o = grind (arith, common_steps, units_more)

      further : units_between units text i j < units_between units text i k → units_between units text i j
          < units_between units text i (suc k)
      further ih = let step : units_between units text i k < units_between units text i (suc k) = here (omega arith) in
          omega arith

  -- Equal units from one index on reach equal indexes.
  pub units_same : (i j k : ℕ) → i ≤ j → i ≤ k → j ≤ length text → k ≤ length text → units_between units text i j
      ≡ units_between units text i k → j ≡ k
  units_same i j k from_j from_k to_j to_k same = grind (arith, common_steps, units_rise, cases_order)

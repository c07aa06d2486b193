-- Runs of a pair.
use Rattle.lsp_pair.proofs.Prelude.{ℕ, ◌≡◌, ◌<◌, ◌+◌, length, map, take, get_or, arith, List, [], ◌∷◌, ◌++◌, refl, sym, ap, ◌∙◌, subst, Happened, EventData, PairData, IsStep, IsRun}
use Rattle.std.proofs.lemmas.List.{take_more, get_or-map, length-map}

-- A run goes on by one step.
pub run-last : (old mid new : PairData) (events : List EventData) (event : EventData) (happened : Happened)
    → IsRun old events mid → IsStep mid event happened new → IsRun old (events ++ event ∷ []) new
run-last old mid new [] event happened run steps =
    (happened, new, subst (λ (p : PairData). IsStep p event happened new) run steps, refl)
run-last old mid new (first ∷ events) event happened run steps =
    (run.0, run.1, run.2, run-last run.1 mid new events event happened run.3 steps)

-- one more of what a list is read as
pub take_mapped : {X Y : Type 0} (f : X → Y) (xs : List X) (i : ℕ) (x : X) → i < length xs → x ≡ get_or xs i x
    → take (i + 1) (map f xs) ≡ take i (map f xs) ++ f x ∷ []
take_mapped f xs i x within is =
    take_more (map f xs) i (f x) (omega (arith, within, length-map xs f))
    ∙ ap (λ y. take i (map f xs) ++ y ∷ []) (get_or-map f xs i x (f x) within ∙ ap f (sym is))

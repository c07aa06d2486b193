use Rattle.log_report.proofs.Prelude.{◌≡◌, ◌∙◌, ◌<◌, ℕ, suc, List, ◌∷◌, ◌++◌, length, take, drop, get_or, set, true, ap, ap₂, sym, refl, add-one, drop-cons, drop-set, get_or_read, take-append-drop, take-set, Tally, count_of, raised, tallied}
use Rattle.std.specs.Str.{bytes_eq}
use Rattle.log_report.proofs.counts.tallies.index_of.Goals as goal

module _ (words : List ℕ) (ts : List Tally) (i : ℕ) (t : Tally) (within : i < length ts)
    (is : bytes_eq t.words words ≡ true) (here : t ≡ get_or ts i t) where
  rest : drop i ts ≡ t ∷ drop (suc i) ts
  rest = drop-cons ts i t within ∙ ap (λ x. x ∷ drop (suc i) ts) (sym here)

  tallied_here : (number : ℕ) → take i ts ++ tallied words number (drop i ts) ≡ set ts i (raised t)
  tallied_here number =
      ap (λ l. take i ts ++ tallied words number l) rest
      ∙ rw is (ap₂ ◌++◌ (sym (take-set ts i (raised t)))
      (sym (rw (add-one i) at (drop-set ts i (raised t) within))) ∙ take-append-drop i (set ts i (raised t)))

  count_here : count_of words (drop i ts) ≡ t.count
  count_here = ap (count_of words) rest ∙ rw is refl

pub returns-then-is_of : goal.returns-then-is_of
returns-then-is_of c =
    let words = c.args.words.now in
    let ts = c.args.tallies.now in
    let i = c.tallies.next in
    let t = c.index-tallies-next.result in
    let within = c.tallies-test.true in
    let is = sym c.is_of.ensures ∙ c.if-is_of.true in
    let at = get_or_read ts i t within c.index-tallies-next.is in (
      within,
      λ d number. c.tallies.invariant.others number ∙ tallied_here words ts i t within is c.index-tallies-next.is number
          ∙ ap (λ x. set ts i (raised x)) (at d),
      λ d. c.tallies.invariant.count ∙ count_here words ts i t within is c.index-tallies-next.is
          ∙ ap (λ x. x.count) (at d),
    )

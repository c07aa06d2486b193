-- Items that keep each CRLF whole, in plain words: behind a kept CR of a CRLF stands its LF, and before that LF its CR.
use Rattle.lsp_edit.proofs.Prelude.{ℕ, suc, ◌≡◌, true, false, List, [], ◌∷◌, ◌++◌, ⊎_elim, sym, ap, subst, arith, splits_crlf, Item, Old, New, Keeps, KeepsPairs}
use Rattle.lsp_edit.proofs.Canonical.KeepsLemmas.{after, rest_keeps}

module _ (old : List ℕ) where
  after_return : (index : ℕ) (rest : List Item) → splits_crlf old (suc index) ≡ true → Keeps old (suc index) rest
      → (more : List Item) × (rest ≡ Old (suc index) ∷ more)
  after_return index [] split keeps = absurd (cc)
  after_return index (New character ∷ rest) split keeps =
      absurd (let k : splits_crlf old (suc index) ≡ false = keeps.0 in cc)
  after_return index (Old next ∷ rest) split keeps =
      ⊎_elim
      (λ (e : suc index ≡ next). (rest, ap (λ (n : ℕ). Old n ∷ rest) (sym e)))
      (λ (e : (splits_crlf old (suc index) ≡ false) × (splits_crlf old next ≡ false)). absurd
      (let k : splits_crlf old (suc index) ≡ false = e.0 in cc))
      keeps.2

  last_kept : (low : ℕ) (item : Item) (front rest : List Item) (index : ℕ) → splits_crlf old (suc index) ≡ true
      → Keeps old low (item ∷ front ++ rest) → after low (item ∷ front) ≡ suc index → (more : List Item)
      × (item ∷ front ≡ more ++ Old index ∷ [])
  last_kept low (Old here) [] rest index split keeps is = let e : here ≡ index = omega arith in
      ([], ap (λ (n : ℕ). Old n ∷ []) e)
  last_kept low (New character) [] rest index split keeps is = absurd (let k : splits_crlf old low ≡ false = keeps.0 in
      let s : splits_crlf old low ≡ splits_crlf old (suc index) = ap (splits_crlf old) is in cc)
  last_kept low (Old here) (next ∷ front) rest index split keeps is =
      let r = last_kept (suc here) next front rest index split keeps.3 is in
      (Old here ∷ r.0, ap (λ (items : List Item). Old here ∷ items) r.1)
  last_kept low (New character) (next ∷ front) rest index split keeps is =
      let r = last_kept low next front rest index split keeps.1 is in
      (New character ∷ r.0, ap (λ (items : List Item). New character ∷ items) r.1)

  before_feed : (front rest : List Item) (index : ℕ) → splits_crlf old (suc index) ≡ true
      → Keeps old 0 (front ++ Old (suc index) ∷ rest) → (more : List Item) × (front ≡ more ++ Old index ∷ [])
  before_feed front rest index split keeps = nonempty front keeps rest_after
    where
      rest_after : after 0 front ≡ suc index
      rest_after =
          ⊎_elim
          (λ (e : after 0 front ≡ suc index). e)
          (λ (e : (splits_crlf old (after 0 front) ≡ false) × (splits_crlf old (suc index) ≡ false)). absurd
          (let k : splits_crlf old (suc index) ≡ false = e.1 in cc))
          (rest_keeps old 0 front (Old (suc index) ∷ rest) keeps).2

      nonempty : (some : List Item) → Keeps old 0 (some ++ Old (suc index) ∷ rest) → after 0 some ≡ suc index
          → (more : List Item) × (some ≡ more ++ Old index ∷ [])
      nonempty [] k is = absurd (omega arith)
      nonempty (item ∷ some) k is = last_kept 0 item some (Old (suc index) ∷ rest) index split k is

  pub pairs_kept : (items : List Item) → Keeps old 0 items → KeepsPairs old items
  pairs_kept items keeps = record {
    after_return =
        λ front rest index split e. after_return index rest split
        (rest_keeps old 0 front (Old index ∷ rest) (subst (Keeps old 0) e keeps)).3;
    before_feed = λ front rest index split e. before_feed front rest index split (subst (Keeps old 0) e keeps);
  }

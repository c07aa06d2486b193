-- Exact positions are local: that of an index goes by the characters before it alone, where the index splits no CRLF.
use Rattle.lsp_text.proofs.Prelude.{ℕ, zero, suc, ◌≡◌, ◌-◌, ◌<◌, ◌≤◌, true, false, ◌||◌, List, length, take, slice_index, sum_by, ◌==◌, ⊎_elim, refl, sym, ap, ◌∙◌, arith, get_or-take, cases_eq, cases_Bool, and_cases, drop-take, line_feed, carriage_return, starts_line, splits_crlf, line_at, is_in_content, line_start, units_between, exact_position, common_steps}
use Rattle.lsp_text.proofs.TextLines.LineLemmas.{in_content, in_content_line, in_content_whole, start_in_content, IsStart}
use Rattle.std.proofs.lemmas.Grind.{common_steps}

-- The texts have the same characters below k.
abbrev pub AgreeBelow : List ℕ → List ℕ → ℕ → Type 0
AgreeBelow text other k = (j : ℕ) → j < k → slice_index text j ≡ slice_index other j

pub agree_back : (text other : List ℕ) (k : ℕ) → AgreeBelow text other k → AgreeBelow other text k
agree_back text other k agree = λ j h. sym (agree j h)

pub agree_from_take : (text other : List ℕ) (k : ℕ) → take k text ≡ take k other → AgreeBelow text other k
agree_from_take text other k same j h = grind (arith, common_steps, get_or-take)

-- Where an index splits no CRLF, it ends a line exactly if a line feed or a carriage return stands before it.
ends_line_whole : (text : List ℕ) (k : ℕ) → splits_crlf text (suc k) ≡ false → starts_line text (suc k)
    ≡ ((slice_index text k == line_feed) || (slice_index text k == carriage_return))
ends_line_whole text k whole = grind (arith, common_steps, cases_Bool, and_cases)

module _ (text other : List ℕ) where
  -- below the index up to which they agree, the texts split and end lines alike
  pub splits_near : (k j : ℕ) → AgreeBelow text other k → j < k → splits_crlf text j ≡ splits_crlf other j
  splits_near k zero agree h = refl
  splits_near k (suc j) agree h = rw (agree j (omega arith), agree (suc j) h) refl

  ends_near : (k j : ℕ) → AgreeBelow text other k → j < k → starts_line text j ≡ starts_line other j
  ends_near k zero agree h = refl
  ends_near k (suc j) agree h = rw (agree j (omega arith), agree (suc j) h) refl

  ends_near_whole : (k : ℕ) → AgreeBelow text other k → splits_crlf text k ≡ false → splits_crlf other k ≡ false
      → starts_line text k ≡ starts_line other k
  ends_near_whole zero agree whole other_whole = refl
  ends_near_whole (suc k) agree whole other_whole =
      rw (ends_line_whole text k whole, ends_line_whole other k other_whole, agree k (omega arith)) refl

  line_near : (k j : ℕ) → AgreeBelow text other k → j < k → line_at text j ≡ line_at other j
  line_near k zero agree h = refl
  line_near k (suc j) agree h = rw (ends_near k (suc j) agree h, line_near k j agree (omega arith)) refl

  pub line_near_whole : (k : ℕ) → AgreeBelow text other k → splits_crlf text k ≡ false → splits_crlf other k ≡ false
      → line_at text k ≡ line_at other k
  line_near_whole zero agree whole other_whole = refl
  line_near_whole (suc k) agree whole other_whole =
      rw (ends_near_whole (suc k) agree whole other_whole, line_near (suc k) k agree (omega arith)) refl

  -- An index up to k in one text's content of a line is in the other's.
  content_near : (k line j : ℕ) → AgreeBelow text other k → splits_crlf text k ≡ false → splits_crlf other k ≡ false
      → j ≤ k → is_in_content text line j ≡ true → is_in_content other line j ≡ true
  content_near k line j agree whole other_whole order h =
      ⊎_elim
      (λ (e : j ≡ k). grind (arith, common_steps, in_content_line, line_near_whole, agree, in_content))
      (λ (e : j ≡ k → ⊥).
      grind (arith, common_steps, in_content_line, in_content_whole, line_near, agree, splits_near, in_content))
      (cases_eq j k)

-- What a longer text has of units below k goes by what stands below k.
units_near : (units : ℕ → ℕ) (text other : List ℕ) (i k : ℕ) → take k text ≡ take k other → i ≤ k
    → units_between units text i k ≡ units_between units other i k
units_near units text other i k same order =
    grind (arith, common_steps, (drop-take i (k - i) text), (drop-take i (k - i) other), (sum_by units))

-- Two texts with the same first k characters, of which k splits no CRLF of either, give k the same exact position.
pub exact_near : (units : ℕ → ℕ) (text other : List ℕ) (k : ℕ) → take k text ≡ take k other → k ≤ length text
    → k ≤ length other → splits_crlf text k ≡ false → splits_crlf other k ≡ false → exact_position units text k
    ≡ exact_position units other k
exact_near units text other k same within other_within whole other_whole =
    let starts : line_start text (line_at text k) ≡ line_start other (line_at other k) =
    ap (line_start text) line_same ∙ start_same in
    let order : line_start other (line_at other k) ≤ k = other_begins.least k (omega arith) other_content in
    let u : units_between units text (line_start text (line_at text k)) k ≡ units_between units other
    (line_start other (line_at other k)) k
    = grind (arith, common_steps, units_between, units_near, line_start, line_at) in
    λ i. record { line = line_same i; character = u i }
  where
    agree : AgreeBelow text other k
    agree = agree_from_take text other k same

    line_same : line_at text k ≡ line_at other k
    line_same = line_near_whole text other k agree whole other_whole

    content : is_in_content text (line_at other k) k ≡ true
    content = in_content text (line_at other k) k line_same whole

    begins : IsStart text (line_at other k) (line_start text (line_at other k))
    begins = start_in_content text (line_at other k) k within content

    other_content : is_in_content other (line_at other k) k ≡ true
    other_content = in_content other (line_at other k) k refl other_whole

    other_begins : IsStart other (line_at other k) (line_start other (line_at other k))
    other_begins = start_in_content other (line_at other k) k other_within other_content

    start_same : line_start text (line_at other k) ≡ line_start other (line_at other k)
    start_same =
        let low : line_start text (line_at other k) ≤ k = begins.least k (omega arith) content in
        let other_low : line_start other (line_at other k) ≤ k = other_begins.least k (omega arith) other_content in
        let one = other_begins.least (line_start text (line_at other k)) (omega arith)
        (content_near text other k (line_at other k) (line_start text (line_at other k)) agree whole other_whole low
        begins.passes) in
        let two = begins.least (line_start other (line_at other k)) (omega arith) (content_near other text k (line_at other k)
        (line_start other (line_at other k)) (agree_back text other k agree) other_whole whole other_low
        other_begins.passes) in
        omega arith

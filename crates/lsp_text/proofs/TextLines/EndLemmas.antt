-- The line ends of a text, found among its line feeds and carriage returns.
use Rattle.lsp_text.proofs.Prelude.{◌≡◌, ℕ, zero, suc, ◌+◌, ◌-◌, ◌≤◌, ◌<◌, false, List, [], ◌∷◌, ◌++◌, length, take, drop, map, get_or, slice_index, filter, refl, ◌∙◌, arith, length-take, length-take-le, length-drop, get_or-take, get_or-drop, append-nil, cases_Bool, nat_tests, starts_line, numbers_from, common_steps}
use Rattle.memchr.specs.Find.{places_from, places, is_byte2}
use Rattle.std.proofs.lemmas.Grind.{common_steps}

-- the ends behind the marks at these offsets from `low`
abbrev pub ends_of : List ℕ → ℕ → List ℕ → List ℕ
ends_of text low marks = filter (starts_line text) (map (λ at. suc (low + at)) marks)

-- each offset from `low` stays below `high`
abbrev pub Marks : ℕ → ℕ → List ℕ → Type 0
Marks low high [] = Unit {0}
Marks low high (at ∷ marks) = (low + at < high) × Marks low high marks

-- behind any other character no line ends
no_mark : (text : List ℕ) (k : ℕ) → is_byte2 10 13 (slice_index text k) ≡ false → starts_line text (suc k) ≡ false
no_mark text k e = grind (arith, nat_tests)

pub ends_of-places : (text part : List ℕ) (low i n : ℕ)
    → ((k : ℕ) → k < length part → get_or part k 0 ≡ get_or text (low + k) 0) → i + n ≡ length part →
    ends_of text low (places_from (is_byte2 10 13) part i n) ≡ filter (starts_line text) (numbers_from (suc (low + i)) n)
unfolding places_from
ends_of-places text part low i zero same e = refl
ends_of-places text part low i (suc n) same e =
    grind (arith, common_steps, no_mark, cases_Bool, (ends_of-places text part low (i + 1) n same (omega arith)))

pub Marks-places : (part : List ℕ) (low high i n : ℕ) → low + (i + n) ≤ high
    → Marks low high (places_from (is_byte2 10 13) part i n)
unfolding places_from
Marks-places part low high i zero e = tt
Marks-places part low high i (suc n) e =
    grind (arith, common_steps, cases_Bool, (Marks-places part low high (i + 1) n (omega arith)))

-- The marks of the bytes from `low` to `high` give the ends behind `low`, up to `high`.
pub ends_of-part : (text : List ℕ) (low high : ℕ) → low ≤ high → high ≤ length text →
    ends_of text low (places (is_byte2 10 13) (take (high - low) (drop low text)))
    ≡ filter (starts_line text) (numbers_from (suc low) (high - low))
ends_of-part text low high order within =
    let part = take (high - low) (drop low text) in
    let size = length-take-le (high - low) (drop low text) (omega (arith, length-drop low text)) in
    let same = λ (k : ℕ) (h : k < length part). get_or-take (high - low) (drop low text) k 0 (omega arith)
    ∙ get_or-drop low text k 0 in
    let count : length part - 0 ≡ high - low = omega (arith, size) in
    let from : suc (low + 0) ≡ suc low = omega arith in
    ends_of-places text part low 0 (length part - 0) same (omega arith)
    ∙ (grind (arith, common_steps, starts_line, numbers_from))

pub Marks-part : (text : List ℕ) (low high : ℕ) → low ≤ high → high ≤ length text →
    Marks low high (places (is_byte2 10 13) (take (high - low) (drop low text)))
Marks-part text low high order within =
    Marks-places (take (high - low) (drop low text)) low high 0 _ (grind (arith, common_steps, length-take, length-drop))

-- the last turn: nothing is left
pub ends_of-all : (text : List ℕ) (low high : ℕ) (starts old marks : List ℕ) → low ≤ high → high ≤ length text
    → marks ≡ [] → starts ++ ends_of text low marks
    ≡ old ++ ends_of text low (places (is_byte2 10 13) (take (high - low) (drop low text))) →
    starts ≡ old ++ filter (starts_line text) (numbers_from (suc low) (high - low))
ends_of-all text low high starts old marks order within none found =
    grind (arith, common_steps, append-nil, ends_of-part)

-- The line starts of a text are where the line starts of its bytes are: the bytes, read as a text, have the same lines.
use Rattle.lsp_text.proofs.Prelude.{◌≡◌, ℕ, zero, suc, ◌+◌, ◌-◌, ◌≤◌, ◌<◌, Bool, true, false, not, ◌&&◌, ◌||◌, ◌==◌, cond, ltb, List, [], ◌∷◌, ◌++◌, length, drop, map, get_or, slice_index, filter, refl, sym, ap, ◌∙◌, arith, ⊎_elim, encode_utf8_all, len_utf8, chars, IsUtf8, drop-cons, get_or-drop, map-id, drop_all, cases_lt, cond_both, nat_tests, encode_ascii, length-encode, len_utf8_ascii, len_utf8_bounds, encodes-chars, place_of, starts_line, numbers_from, line_starts, start_places, common_steps}
use Rattle.std.proofs.Math.Utf8.{encode}
use Rattle.lsp_text.proofs.Positions.PlaceLemmas.{place_more}
use Rattle.std.proofs.lemmas.Grind.{common_steps}

-- the ends of a text, where `before` stands before it and a character c weighs `weight c`: what stands before each
abbrev pub weighed_ends : (ℕ → ℕ) → ℕ → List ℕ → List ℕ
weighed_ends weight before [] = []
weighed_ends weight before (c ∷ cs) =
    cond (starts_line (c ∷ cs) 1) ((before + weight c) ∷ weighed_ends weight (before + weight c) cs)
    (weighed_ends weight (before + weight c) cs)

-- An index ends a line in a text exactly as it does in what is left of the text before it.
ends_left : (text : List ℕ) (k : ℕ) → starts_line (get_or text k 0 ∷ drop (suc k) text) 1 ≡ starts_line text (suc k)
ends_left text k =
    ap (λ x. (slice_index text k == 10) || ((slice_index text k == 13) && not (x == 10)))
    (get_or-drop (suc k) text 0 0 ∙ ap (λ i. get_or text i 0) (omega arith))

map_cond : (f : ℕ → ℕ) (b : Bool) (x : ℕ) (xs ys : List ℕ) → map f xs ≡ ys → map f (cond b (x ∷ xs) xs)
    ≡ cond b (f x ∷ ys) ys
map_cond f true x xs ys e = ap (λ zs. f x ∷ zs) e
map_cond f false x xs ys e = e

-- `where_is` gives what stands before each index
pub ends_weighed : (where_is weight : ℕ → ℕ) (text : List ℕ)
    → ((k : ℕ) → k < length text → where_is (suc k) ≡ where_is k + weight (get_or text k 0)) →
    (k n : ℕ) → k + n ≡ length text → map where_is (filter (starts_line text) (numbers_from (suc k) n))
    ≡ weighed_ends weight (where_is k) (drop k text)
ends_weighed where_is weight text more k zero e =
    ap (weighed_ends weight (where_is k)) (sym (drop_all k text (omega arith)))
ends_weighed where_is weight text more k (suc n) e =
    let x = get_or text k 0 in
    let rest = drop (suc k) text in
    let ends = λ (b : Bool) (m : ℕ). cond b (m ∷ weighed_ends weight m rest) (weighed_ends weight m rest) in
    let within : k < length text = omega arith in
    map_cond where_is (starts_line text (suc k)) (suc k) (filter (starts_line text) (numbers_from (suc (suc k)) n))
    (weighed_ends weight (where_is (suc k)) rest)
    (ends_weighed where_is weight text more (suc k) n (omega arith)) ∙
    (ap (λ m. ends (starts_line text (suc k)) m) (more k within) ∙
    (ap (λ b. ends b (where_is k + weight x)) (sym (ends_left text k)) ∙
    ap (weighed_ends weight (where_is k)) (sym (drop-cons text k 0 within))))

-- Bytes of characters past ASCII end no line.
abbrev pub AllHigh : List ℕ → Type 0
AllHigh [] = Unit {0}
AllHigh (b ∷ bs) = (128 ≤ b) × AllHigh bs

high_ends_none : (b : ℕ) (bs : List ℕ) → 128 ≤ b → starts_line (b ∷ bs) 1 ≡ false
high_ends_none b bs h = grind (arith, nat_tests)

high_skipped : (high rest : List ℕ) (before : ℕ) → AllHigh high → weighed_ends (λ _. 1) before (high ++ rest)
    ≡ weighed_ends (λ _. 1) (before + length high) rest
high_skipped [] rest before all = ap (λ n. weighed_ends (λ _. 1) n rest) (omega arith)
high_skipped (b ∷ bs) rest before all =
    let later = weighed_ends (λ (_ : ℕ). 1) (before + 1) (bs ++ rest) in
    ap (λ t. cond t ((before + 1) ∷ later) later) (high_ends_none b (bs ++ rest) all.0) ∙
    (high_skipped bs rest (before + 1) all.1 ∙ ap (λ n. weighed_ends (λ _. 1) n rest) (omega arith))

pub encode_high : (c : ℕ) → 128 ≤ c → AllHigh (encode c)
unfolding encode
encode_high c h = grind (arith, common_steps, cond_both, ltb)

-- the first byte is a line feed exactly if the first character is
pub first_line_feed : (cs : List ℕ) → (slice_index (encode_utf8_all cs) 0 == 10) ≡ (slice_index cs 0 == 10)
first_line_feed [] = refl
first_line_feed (c ∷ cs) =
    grind (arith, common_steps, encode_high, length-encode, len_utf8_bounds, cases_lt)

pub ends_of_bytes : (cs : List ℕ) (before : ℕ) → weighed_ends (λ _. 1) before (encode_utf8_all cs)
    ≡ weighed_ends len_utf8 before cs
ends_of_bytes [] before = refl
ends_of_bytes (c ∷ cs) before =
    ⊎_elim
    (λ (h : c < 128).
    grind (arith, common_steps, encode_ascii, first_line_feed, len_utf8_ascii, (ends_of_bytes cs (before + 1))))
    (λ (h : 128 ≤ c).
    grind (
      arith,
      common_steps,
      high_skipped,
      encode,
      encode_high,
      length-encode,
      high_ends_none,
      (ends_of_bytes cs (before + len_utf8 c)),
    ))
    (cases_lt c 128)

-- The line starts of the bytes are the places of those of the characters.
pub starts_of_bytes : (text : List ℕ) → line_starts (encode_utf8_all text) ≡ start_places text
starts_of_bytes text =
    let bytes = encode_utf8_all text in
    ap (λ ends. 0 ∷ ends)
    (sym (map-id (filter (starts_line bytes) (numbers_from 1 (length bytes - 0)))) ∙
    (ends_weighed (λ n. n) (λ _. 1) bytes (λ k h. omega arith) 0 (length bytes - 0) (omega arith) ∙
    (ends_of_bytes text 0 ∙
    sym (ends_weighed (place_of text) len_utf8 text (place_more text) 0 (length text - 0) (omega arith)))))

pub starts_of_text : (bytes : List ℕ) → IsUtf8 bytes → line_starts bytes ≡ start_places (chars bytes)
starts_of_text bytes utf8 = ap line_starts (sym (encodes-chars bytes utf8)) ∙ starts_of_bytes (chars bytes)

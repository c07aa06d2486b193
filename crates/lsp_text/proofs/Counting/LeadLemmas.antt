-- Units counted byte by byte are those counted character by character.
use Rattle.lsp_text.proofs.Prelude.{◌≡◌, ℕ, zero, suc, ◌+◌, ◌-◌, ◌≤◌, ◌<◌, Bool, true, false, cond, ltb, List, [], ◌∷◌, ◌++◌, length, get_or, sum_by, Option, Some, None, option_map, ltb as nat_lt, ◌==◌, refl, sym, ap, ◌∙◌, arith, ⊎_elim, ◌&&◌, lt-ltb, le-ltb, encode_utf8_all, len_utf8, length-append, sum_by-append, sum_by-cons, cases_lt, cond_both, ne_eqb, nat_tests, length-encode, len_utf8_bounds, encodes-chars, IsUtf8, chars, units_in, Utf16, lead_units_utf16, lead_units_utf32, HaveNone, FirstHas, line_place, byte_place, common_steps}
use Rattle.std.proofs.Math.Utf8.{encode}
use Rattle.std.proofs.lemmas.Grind.{common_steps}

-- a byte inside a character has no units
utf32_none : (b : ℕ) → 128 ≤ b → b < 192 → lead_units_utf32 b ≡ 0
utf32_none b low high = grind (arith, nat_tests)

utf16_ascii : (b : ℕ) → b < 128 → lead_units_utf16 b ≡ 1
utf16_ascii b low = grind (arith, nat_tests)

utf32_lead : (b : ℕ) → 192 ≤ b → lead_units_utf32 b ≡ 1
utf32_lead b low = grind (arith, nat_tests)

utf32_ascii : (b : ℕ) → b < 128 → lead_units_utf32 b ≡ 1
utf32_ascii b low = grind (arith, nat_tests)

units_utf16_one : (c : ℕ) → c < 65536 → units_in Utf16 c ≡ 1
units_utf16_one c h = grind (arith, nat_tests)

pub utf16_first : (c : ℕ) → FirstHas lead_units_utf16 (encode c) (units_in Utf16 c)
unfolding encode
utf16_first c =
    grind (arith, common_steps, cond_both, ltb, utf16_ascii, units_utf16_one)

pub utf32_first : (c : ℕ) → FirstHas lead_units_utf32 (encode c) 1
unfolding encode
utf32_first c = grind (arith, common_steps, cond_both, ltb, utf32_ascii, utf32_lead, utf32_none)

pub map_twice : (a b : ℕ) (o : Option ℕ) → option_map (λ n. a + n) (option_map (λ n. b + n) o)
    ≡ option_map (λ n. (a + b) + n) o
map_twice a b None = refl
map_twice a b (Some n) = ap Some (omega arith)

pub map_none : (o : Option ℕ) → option_map (λ n. 0 + n) o ≡ o
map_none None = refl
map_none (Some n) = ap Some (omega arith)

module _ (lead units : ℕ → ℕ) where
  sum_none : (bytes : List ℕ) → HaveNone lead bytes → sum_by lead bytes ≡ 0
  sum_none [] all = refl
  sum_none (b ∷ bytes) all = omega (arith, sum_by-cons lead b bytes, all.0, sum_none bytes all.1)

  sum_first : (bytes : List ℕ) (n : ℕ) → FirstHas lead bytes n → sum_by lead bytes ≡ n
  sum_first [] n first = absurd first
  sum_first (b ∷ bytes) n first = omega (arith, sum_by-cons lead b bytes, first.0, sum_none bytes first.1)

  -- The bytes of characters have the units of the characters.
  pub sum_of_bytes : ((c : ℕ) → FirstHas lead (encode c) (units c)) → (cs : List ℕ) → sum_by lead (encode_utf8_all cs)
      ≡ sum_by units cs
  sum_of_bytes first [] = refl
  sum_of_bytes first (c ∷ cs) =
      grind (arith, common_steps, sum_by-append, encode, sum_first, sum_by-cons, (sum_of_bytes first cs))

  skip_none : (bytes rest : List ℕ) (c : ℕ) → HaveNone lead bytes → byte_place lead (bytes ++ rest) c
      ≡ option_map (λ n. length bytes + n) (byte_place lead rest c)
  skip_none [] rest c all = sym (map_none (byte_place lead rest c))
  skip_none (b ∷ bytes) rest c all =
      grind (arith, common_steps, nat_lt, nat_tests, map_twice, (skip_none bytes rest c all.1))

  first_place : (bytes rest : List ℕ) (n c : ℕ) → FirstHas lead bytes n → 1 ≤ n → byte_place lead (bytes ++ rest) c
      ≡ cond (c == 0) (Some 0)
      (cond (nat_lt c n) None (option_map (λ m. length bytes + m) (byte_place lead rest (c - n))))
  first_place [] rest n c first some = absurd first
  first_place (b ∷ bytes) rest n c first some =
      grind (arith, common_steps, nat_lt, nat_tests, skip_none, map_twice, cases_lt)

  -- A place found byte by byte is the one found character by character.
  pub place_of_bytes : ((c : ℕ) → FirstHas lead (encode c) (units c)) → ((c : ℕ) → 1 ≤ units c) → (cs : List ℕ) (c : ℕ)
      → byte_place lead (encode_utf8_all cs) c ≡ line_place units cs c
  place_of_bytes first some [] c = refl
  place_of_bytes first some (x ∷ cs) c =
      first_place (encode x) (encode_utf8_all cs) (units x) c (first x) (some x) ∙
      (grind (arith, common_steps, nat_lt, length-encode, (place_of_bytes first some cs (c - units x))))

-- a byte that no character's UTF-8 begins with
abbrev pub is_inside : ℕ → Bool
is_inside b = lead_units_utf32 b == 0

at_inside : (bytes rest : List ℕ) (k : ℕ) → HaveNone lead_units_utf32 bytes → k < length bytes
    → is_inside (get_or (bytes ++ rest) k 0) ≡ true
at_inside [] rest k all h = absurd (omega arith)
at_inside (b ∷ bytes) rest zero all h = ap (λ (n : ℕ). n == 0) all.0
at_inside (b ∷ bytes) rest (suc k) all h = at_inside bytes rest k all.1 (omega arith)

at_first : (bytes rest : List ℕ) → FirstHas lead_units_utf32 bytes 1 → is_inside (get_or (bytes ++ rest) 0 0) ≡ false
at_first [] rest first = absurd first
at_first (b ∷ bytes) rest first = ap (λ (n : ℕ). n == 0) first.0

behind_first : (bytes rest : List ℕ) (k : ℕ) → FirstHas lead_units_utf32 bytes 1 → 0 < k → k < length bytes
    → is_inside (get_or (bytes ++ rest) k 0) ≡ true
behind_first [] rest k first some h = absurd first
behind_first (b ∷ bytes) rest zero first some h = absurd (omega arith)
behind_first (b ∷ bytes) rest (suc k) first some h = at_inside bytes rest k first.1 (omega arith)

not_zero : (c : ℕ) → 0 < c → (c == 0) ≡ false
not_zero c h = grind (arith, nat_tests)

-- In UTF-8 a place in a line is its units: the line's end past it, and none inside a character.
pub utf8_past : (cs : List ℕ) (c : ℕ) → length (encode_utf8_all cs) ≤ c → line_place len_utf8 cs c
    ≡ Some (length (encode_utf8_all cs))
utf8_past [] c h = refl
utf8_past (x ∷ cs) c h =
    let sum = length-append (encode x) (encode_utf8_all cs) ∙ ap (λ n. n + length (encode_utf8_all cs)) (length-encode x) in
    let some = (len_utf8_bounds x).0 in
    let above : (c == 0) ≡ false = not_zero c (omega (arith, some, sum)) in
    let less : nat_lt c (len_utf8 x) ≡ false = le-ltb c (len_utf8 x) (omega (arith, sum)) in
    rw (above, less, utf8_past cs (c - len_utf8 x) (omega (arith, sum))) (ap Some (sym sum))

pub utf8_at : (cs : List ℕ) (c : ℕ) → c < length (encode_utf8_all cs) → line_place len_utf8 cs c
    ≡ cond (is_inside (get_or (encode_utf8_all cs) c 0)) None (Some c)
utf8_at [] c h = absurd (omega arith)
utf8_at (x ∷ cs) zero h = rw (at_first (encode x) (encode_utf8_all cs) (utf32_first x)) refl
utf8_at (x ∷ cs) (suc k) h =
    let rest = encode_utf8_all cs in
    let size : length (encode x) ≡ len_utf8 x = length-encode x in
    let sum = length-append (encode x) rest ∙ ap (λ n. n + length rest) size in
    ⊎_elim
    (λ (l : suc k < len_utf8 x).
    grind (arith, common_steps, nat_lt, lt-ltb, encode, behind_first, utf32_first))
    (λ (l : len_utf8 x ≤ suc k).
    grind (arith, common_steps, (utf8_at cs (suc k - len_utf8 x) (omega (arith, sum)))))
    (cases_lt (suc k) (len_utf8 x))

-- The same over the bytes of a text.
pub units_of_text : (lead units : ℕ → ℕ) → ((c : ℕ) → FirstHas lead (encode c) (units c)) → (bytes : List ℕ)
    → IsUtf8 bytes → sum_by lead bytes ≡ sum_by units (chars bytes)
units_of_text lead units first bytes utf8 = ap (sum_by lead) (sym (encodes-chars bytes utf8))
    ∙ sum_of_bytes lead units first (chars bytes)

pub place_of_text : (lead units : ℕ → ℕ) → ((c : ℕ) → FirstHas lead (encode c) (units c)) → ((c : ℕ) → 1 ≤ units c)
    → (bytes : List ℕ) → IsUtf8 bytes → (c : ℕ) → byte_place lead bytes c ≡ line_place units (chars bytes) c
place_of_text lead units first some bytes utf8 c =
    ap (λ bs. byte_place lead bs c) (sym (encodes-chars bytes utf8)) ∙ place_of_bytes lead units first some
    (chars bytes) c

-- In UTF-8 the units are the bytes.
pub utf8_units : (cs : List ℕ) → sum_by len_utf8 cs ≡ length (encode_utf8_all cs)
utf8_units [] = refl
utf8_units (c ∷ cs) = grind (arith, common_steps, sum_by-cons, length-append, encode, length-encode, (utf8_units cs))

pub utf8_units_of_text : (bytes : List ℕ) → IsUtf8 bytes → length bytes ≡ sum_by len_utf8 (chars bytes)
utf8_units_of_text bytes utf8 = ap length (sym (encodes-chars bytes utf8)) ∙ sym (utf8_units (chars bytes))

pub utf8_past_text : (bytes : List ℕ) → IsUtf8 bytes → (c : ℕ) → length bytes ≤ c → Some (length bytes)
    ≡ line_place len_utf8 (chars bytes) c
utf8_past_text bytes utf8 c past = grind (arith, common_steps, encodes-chars, utf8_past)

utf8_at_text : (bytes : List ℕ) → IsUtf8 bytes → (c : ℕ) → c < length bytes → line_place len_utf8 (chars bytes) c
    ≡ cond (is_inside (get_or bytes c 0)) None (Some c)
utf8_at_text bytes utf8 c within = grind (arith, common_steps, encodes-chars, utf8_at)

pub utf8_inside_text : (bytes : List ℕ) → IsUtf8 bytes → (c : ℕ) → c < length bytes
    → lead_units_utf32 (get_or bytes c 0) ≡ 0 → None ≡ line_place len_utf8 (chars bytes) c
utf8_inside_text bytes utf8 c within none =
    sym (utf8_at_text bytes utf8 c within ∙ ap (λ (n : ℕ). cond (n == 0) None (Some c)) none)

pub utf8_outside_text : (bytes : List ℕ) → IsUtf8 bytes → (c : ℕ) → c < length bytes
    → (lead_units_utf32 (get_or bytes c 0) ≡ 0 → ⊥) → Some c ≡ line_place len_utf8 (chars bytes) c
utf8_outside_text bytes utf8 c within some =
    sym (utf8_at_text bytes utf8 c within
    ∙ ap (λ b. cond b None (Some c)) (ne_eqb (lead_units_utf32 (get_or bytes c 0)) 0 some))

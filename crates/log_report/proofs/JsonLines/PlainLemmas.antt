-- Texts that need no escape in a JSON string, and texts without line breaks.
use Rattle.log_report.proofs.Prelude.{◌≡◌, inl, inr, ℕ, ℤ, pos, negsuc, zero, suc, ◌/◌, ◌%◌, ◌<◌, ◌≤◌, Bool, true, false, cond, ◌&&◌, ◌||◌, ◌==◌, List, [], ◌∷◌, ◌++◌, decimal, refl, sym, ap, ◌∙◌, arith, IsUtf8, if◌then◌else◌, nat_lt, digit_char, list_all, and_from, and_parts, cases_Bool, eqb-false, eqb-true, le-ltb, lt-ltb, ltb-false, ltb-true, ne_eqb, or_cases, list_all-append, are_ascii, IsUtf8-are_ascii, escape_byte_plain, comma_if, compact_text, items_text, members_text, number_text, common_steps}
use Rattle.std.specs.Fmt.{digit_glyph, digits, digits_onto, signed_decimal}
use Rattle.std.proofs.Math.Nat.{mod-lt}
use Rattle.json.specs.Run.{is_plain}
use Rattle.json.specs.Print.{escape, escape_byte, quoted}
use Rattle.serde_json.specs.Data.{Num, unsigned, negative, float, Data, boolean, number, string, array, object, Items, no_items, item, Members, no_members, member}
use Rattle.log_session.proofs.Json.StringLemmas.{are_visible, one_visible, visible-append}

-- ---- texts that need no escape

-- a byte of ASCII that needs no escape
abbrev pub is_ascii_plain : ℕ → Bool
is_ascii_plain x = is_plain x && nat_lt x 128

-- each byte is such a one
abbrev pub IsPlain : List ℕ → Type 0
IsPlain s = list_all is_ascii_plain s ≡ true

pub plain-append : (xs ys : List ℕ) → IsPlain xs → IsPlain ys → IsPlain (xs ++ ys)
plain-append xs ys h k = grind (arith, common_steps, list_all-append, and_from)

record IsPlainByte (x : ℕ) : Type 0 where
  quote : x ≡ 34 → ⊥
  backslash : x ≡ 92 → ⊥
  high : 32 ≤ x

plain_byte : (x : ℕ) → is_ascii_plain x ≡ true → IsPlainByte x
plain_byte x both = grind (arith, common_steps, and_parts, eqb-false, ltb-false)

-- such a text is written in a JSON string as it is, and has no line break
record IsPlainText (s : List ℕ) : Type 0 where
  escaped : escape s ≡ s
  ascii : are_ascii s ≡ true
  visible : are_visible s ≡ true

plain_text : (s : List ℕ) → IsPlain s → IsPlainText s
plain_text [] h = record { escaped = refl; ascii = refl; visible = refl }
plain_text (x ∷ s) h =
    let both = and_parts (is_ascii_plain x) (list_all is_ascii_plain s) h in
    let byte = plain_byte x both.0 in
    let more = plain_text s both.1 in
    record {
      escaped = ap (λ l. l ++ escape s) (escape_byte_plain x byte.quote byte.backslash byte.high)
          ∙ ap (λ l. x ∷ l) more.escaped;
      ascii = and_from (nat_lt x 128) (are_ascii s) (and_parts (is_plain x) (nat_lt x 128) both.0).1 more.ascii;
      visible = one_visible x s byte.high more.visible;
    }

pub escape_plain : (s : List ℕ) → IsPlain s → escape s ≡ s
escape_plain s h = let is = plain_text s h in is.escaped

pub utf8_plain : (s : List ℕ) → IsPlain s → IsUtf8 s
utf8_plain s h = let is = plain_text s h in IsUtf8-are_ascii s is.ascii

visible_plain : (s : List ℕ) → IsPlain s → are_visible s ≡ true
visible_plain s h = let is = plain_text s h in is.visible

-- a plain text between quotation marks is a string
pub quoted_plain : (s : List ℕ) → IsPlain s → 34 ∷ (s ++ 34 ∷ []) ≡ quoted s
quoted_plain s h = ap (λ l. 34 ∷ (l ++ 34 ∷ [])) (sym (escape_plain s h))

-- ---- digits

plain_digit : (d : ℕ) → d < 10 → is_ascii_plain (digit_glyph false d) ≡ true
plain_digit d l = grind (arith, common_steps, lt-ltb, ne_eqb, le-ltb)

pub either_plain : (b : Bool) (x y : List ℕ) → IsPlain x → IsPlain y → IsPlain (if b then x else y)
either_plain true x y h k = h
either_plain false x y h k = k

plain_onto : (k n : ℕ) (acc : List ℕ) → IsPlain acc → IsPlain (digits_onto k 10 false n acc)
plain_onto zero n acc h = h
plain_onto (suc k) n acc h =
    let more : IsPlain (digit_glyph false (n % 10) ∷ acc) =
    and_from (is_ascii_plain (digit_glyph false (n % 10))) (list_all is_ascii_plain acc)
    (plain_digit (n % 10) (mod-lt n (omega arith))) h in
    either_plain (n / 10 == 0) (digit_glyph false (n % 10) ∷ acc) _ more
    (plain_onto k (n / 10) (digit_glyph false (n % 10) ∷ acc) more)

pub plain_decimal : (n : ℕ) → IsPlain (decimal n)
unfolding digits
plain_decimal n = plain_onto 64 n [] refl

pub plain_signed : (z : ℤ) → IsPlain (signed_decimal z)
plain_signed (pos n) = plain_decimal n
plain_signed (negsuc n) = plain_decimal (suc n)

-- ---- texts without line breaks

either_visible : (b : Bool) (x y : List ℕ) → (b ≡ true → are_visible x ≡ true) → (b ≡ false → are_visible y ≡ true)
    → are_visible (cond b x y) ≡ true
either_visible true x y h k = h refl
either_visible false x y h k = k refl

letter_high : (a b c d e f : Bool) (x : ℕ) → (a ≡ true → 32 ≤ x)
    → (l : ℕ) → l ≡ cond a x (cond b 98 (cond c 102 (cond d 110 (cond e 114 (cond f 116 0))))) → 0 < l → 32 ≤ l
letter_high true b c d e f x h l is some = let high = h refl in omega (arith, is)
letter_high false false false false false false x h l is some = absurd (let never : ⊥ = omega (arith, is) in never)
letter_high false _ _ _ _ _ x h l is some = omega (arith, is)

special_high : (x : ℕ) → ((x == 34) || (x == 92)) ≡ true → 32 ≤ x
special_high x e = grind (arith, common_steps, or_cases, inl, eqb-true, inr)

digit_high : (d : ℕ) → 32 ≤ digit_char d
digit_high d = grind (arith, common_steps, cases_Bool, inl, inr)

visible_byte : (x : ℕ) → are_visible (escape_byte x) ≡ true
unfolding escape_byte
visible_byte x =
    grind (arith, common_steps, either_visible, one_visible, letter_high, special_high, ltb-true, digit_high, ltb-false)

visible_escape : (s : List ℕ) → are_visible (escape s) ≡ true
visible_escape [] = refl
visible_escape (x ∷ s) = visible-append (escape_byte x) (escape s) (visible_byte x) (visible_escape s)

pub visible_quoted : (s : List ℕ) → are_visible (quoted s) ≡ true
visible_quoted s = visible-append (escape s) (34 ∷ []) (visible_escape s) refl

visible_number : (n : Num) → are_visible (number_text n) ≡ true
visible_number (unsigned n) = visible_plain (decimal n) (plain_decimal n)
visible_number (negative z) = visible_plain (signed_decimal z) (plain_signed z)
visible_number (float x) = refl

visible_comma : (later : Bool) → are_visible (comma_if later) ≡ true
visible_comma true = refl
visible_comma false = refl

mutual
  pub visible_compact : (d : Data) → are_visible (compact_text d) ≡ true
  visible_compact (boolean true) = refl
  visible_compact (number n) = visible_number n
  visible_compact (string s) = visible_quoted s
  visible_compact (array ds) = visible_items false ds
  visible_compact (object ms) = visible_members false ms
  visible_compact _ = refl

  visible_items : (later : Bool) (ds : Items) → are_visible (items_text later ds) ≡ true
  visible_items later no_items = refl
  visible_items later (item d ds) =
      visible-append (comma_if later) (compact_text d ++ items_text true ds) (visible_comma later)
      (visible-append (compact_text d) (items_text true ds) (visible_compact d) (visible_items true ds))

  visible_members : (later : Bool) (ms : Members) → are_visible (members_text later ms) ≡ true
  visible_members later no_members = refl
  visible_members later (member k d ms) =
      visible-append (comma_if later) (quoted k ++ 58 ∷ (compact_text d ++ members_text true ms)) (visible_comma later)
      (visible-append (quoted k) (58 ∷ (compact_text d ++ members_text true ms)) (visible_quoted k)
      (visible-append (compact_text d) (members_text true ms) (visible_compact d) (visible_members true ms)))

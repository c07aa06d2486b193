-- A JSON string behind its opening quotation mark: where it ends, and what it is read as, whatever comes after it.
use Rattle.log_session.proofs.Prelude.{◌≡◌, ◌⊎◌, inl, inr, ℕ, zero, suc, ◌+◌, ◌<◌, ◌≤◌, Bool, true, false, cond, ◌&&◌, ◌==◌, List, [], ◌∷◌, ◌++◌, length, drop, get_or, Option, Some, None, option_and_then, refl, sym, ap, ◌∙◌, subst, arith, append_assoc, append-nil, length-append, take_at, drop_at, nat_le, nat_lt, list_all, list_all-append, ⊤, IsUtf8, IsUtf8-append, IsUtf8-encode, IsUtf8-take, IsUtf8-drop, IsCharBoundary-before_ascii, IsCharBoundary-after_ascii, IsUtf8-are_ascii, is_digit, digit_value, encode_utf8, and_from, and_parts, cases_Bool, cases_eq, cases_lt, cond_both, eqb-true, leb-true, le-leb, le-ltb, lt-ltb, ltb-true, ne_eqb, nat_tests, is_operator, is_space, one_line, common_steps}
use Rattle.std.proofs.lemmas.List.{get_or_at}
use Rattle.std.proofs.lemmas.Option.{none-some, option_and_then_some, same_Some}
use Rattle.std.proofs.Math.Utf8.{scalar}
use Rattle.json.specs.Text.{plain, after_backslash, after_u, after_high, content, prepend, code_unit, short_escape, is_high_surrogate, is_low_surrogate, surrogate_pair}
use Rattle.json.specs.Lex.{Class, quote, operator, space, other, class, Lexeme, Mode, between, in_string, in_escape, lex, lex_byte}

-- ---- bytes that are no line breaks

-- are all bytes at least a space?
abbrev pub are_visible : List ℕ → Bool
are_visible xs = list_all (nat_le 32) xs

pub one_visible : (x : ℕ) (xs : List ℕ) → 32 ≤ x → are_visible xs ≡ true → are_visible (x ∷ xs) ≡ true
one_visible x xs l h = and_from (nat_le 32 x) (are_visible xs) (le-leb 32 x l) h

pub visible-append : (xs ys : List ℕ) → are_visible xs ≡ true → are_visible ys ≡ true → are_visible (xs ++ ys) ≡ true
visible-append xs ys h k = grind (arith, common_steps, list_all-append, and_from)

stays : (x : ℕ) (xs : List ℕ) → 32 ≤ x → one_line (x ∷ xs) ≡ x ∷ one_line xs
stays x xs l = rw (ne_eqb x 10 (λ e. omega arith), ne_eqb x 13 (λ e. omega arith)) refl

-- a text without line breaks is on one line
pub stays_text : (text xs : List ℕ) → are_visible text ≡ true → one_line (text ++ xs) ≡ text ++ one_line xs
stays_text [] xs h = refl
stays_text (x ∷ text) xs h =
    let both = and_parts (nat_le 32 x) (are_visible text) h in
    stays x (text ++ xs) (leb-true 32 x both.0) ∙ ap (λ l. x ∷ l) (stays_text text xs both.1)

-- ---- a text is cut at an ASCII byte into texts

pub cut_ascii : (front : List ℕ) (x : ℕ) (xs : List ℕ) → x < 128 → IsUtf8 (front ++ x ∷ xs) → IsUtf8 front × IsUtf8 xs
cut_ascii front x xs small u =
    let all = front ++ x ∷ xs in
    let i = length front + 1 in
    let within : length front < length all = omega (arith, length-append front (x ∷ xs)) in
    let at : get_or all (length front) 0 < 128 = omega (arith, get_or_at front x xs 0 (length front) refl) in (
      subst IsUtf8 (take_at front (x ∷ xs) (length front) refl)
          (IsUtf8-take all (length front) u (IsCharBoundary-before_ascii all (length front) within at)),
      subst IsUtf8 (ap (drop i) (sym (append_assoc front (x ∷ []) xs))
          ∙ drop_at (front ++ x ∷ []) xs i (omega (arith, length-append front (x ∷ []))))
          (IsUtf8-drop all i u (IsCharBoundary-after_ascii all (length front) u within at)),
    )

-- are all bytes ASCII, and at least a space?
abbrev are_seen : List ℕ → Bool
are_seen xs = list_all (λ x. nat_le 32 x && nat_lt x 128) xs

one_seen : (x : ℕ) (xs : List ℕ) → 32 ≤ x → x < 128 → are_seen xs ≡ true → are_seen (x ∷ xs) ≡ true
one_seen x xs l m h =
    and_from (nat_le 32 x && nat_lt x 128) (are_seen xs)
    (and_from (nat_le 32 x) (nat_lt x 128) (le-leb 32 x l) (lt-ltb x 128 m)) h

record IsSeen (front rest : List ℕ) : Type 0 where
  visible : are_visible front ≡ true
  behind : IsUtf8 (front ++ rest) → IsUtf8 rest

seen : (front rest : List ℕ) → are_seen front ≡ true → IsSeen front rest
seen [] rest h = record { visible = refl; behind = λ u. u }
seen (x ∷ front) rest h =
    let all = and_parts (nat_le 32 x && nat_lt x 128) (are_seen front) h in
    let both = and_parts (nat_le 32 x) (nat_lt x 128) all.0 in
    let more = seen front rest all.1 in
    record {
      visible = and_from (nat_le 32 x) (are_visible front) both.0 more.visible;
      behind = λ u. more.behind (cut_ascii [] x (front ++ rest) (ltb-true x 128 both.1) u).1;
    }

-- ---- bytes of a string

stays_inside : (o s : Bool) (x : ℕ) (r : List ℕ) (k : Mode → List Lexeme)
    → lex_byte in_string (cond o operator (cond s space other)) x r k ≡ k in_string
stays_inside false true x r k = refl
stays_inside _ _ x r k = refl

lex-inside : (x : ℕ) (r : List ℕ) → (x ≡ 34 → ⊥) → (x ≡ 92 → ⊥) → lex in_string (x ∷ r) ≡ lex in_string r
unfolding lex
lex-inside x r q b = rw (ne_eqb x 34 q, ne_eqb x 92 b) (stays_inside (is_operator x) (is_space x) x r (λ m. lex m r))

in_any : (c : Class) (x : ℕ) (xs : List ℕ) (k : Mode → List Lexeme) → lex_byte in_escape c x xs k ≡ k in_string
in_any quote x xs k = refl
in_any _ x xs k = refl

lex-escaped : (x : ℕ) (r : List ℕ) → lex in_escape (x ∷ r) ≡ lex in_string r
unfolding lex
lex-escaped x r = in_any (class x) x r (λ m. lex m r)

-- a hexadecimal digit
record IsHex (x : ℕ) : Type 0 where
  low : 48 ≤ x
  ascii : x < 128
  other : x ≡ 92 → ⊥
  value : digit_value x < 16

hex : (x : ℕ) → is_digit x 16 ≡ true → IsHex x
hex x h =
    let both : (48 ≤ x) × (x ≡ 92 → ⊥) = grind (arith, common_steps, cases_lt, inl, lt-ltb, inr) in
    let value : digit_value x < 16 = ltb-true (digit_value x) 16 h in
    let small : x < 128 = grind arith in
    record { low = both.0; ascii = small; other = both.1; value = value }

lex-hex : (x : ℕ) (r : List ℕ) → IsHex x → lex in_string (x ∷ r) ≡ lex in_string r
lex-hex x r h = lex-inside x r (λ e. let small = h.low in omega arith) h.other

all_four : (p q r t : Bool) (v u : ℕ) → cond (p && q && r && t) (Some v) None ≡ Some u
    → (p ≡ true) × (q ≡ true) × (r ≡ true) × (t ≡ true) × (v ≡ u)
all_four true true true true v u h = (refl, refl, refl, refl, same_Some v u h)
all_four _ _ _ _ v u h = absurd (none-some u h)

-- four digits, which spell no more than 16 bits
record IsUnit (a b c d u : ℕ) : Type 0 where
  small : u < 65536
  seen : (xs : List ℕ) → are_seen xs ≡ true → are_seen (a ∷ b ∷ c ∷ d ∷ xs) ≡ true
  lexes : (r : List ℕ) → lex in_string (a ∷ b ∷ c ∷ d ∷ r) ≡ lex in_string r

unit : (a b c d u : ℕ) → code_unit a b c d ≡ Some u → IsUnit a b c d u
unfolding code_unit
unit a b c d u h =
    let all = all_four (is_digit a 16) (is_digit b 16) (is_digit c 16) (is_digit d 16) _ u h in
    let p = hex a all.0 in
    let q = hex b all.1 in
    let r = hex c all.2 in
    let t = hex d all.3 in
    record {
      small = omega (arith, all.4);
      seen = λ xs v. one_seen a (b ∷ c ∷ d ∷ xs) (omega arith) p.ascii
          (one_seen b (c ∷ d ∷ xs) (omega arith) q.ascii
          (one_seen c (d ∷ xs) (omega arith) r.ascii (one_seen d xs (omega arith) t.ascii v)));
      lexes = λ xs. lex-hex a (b ∷ c ∷ d ∷ xs) p ∙ lex-hex b (c ∷ d ∷ xs) q ∙ lex-hex c (d ∷ xs) r ∙ lex-hex d xs t;
    }

-- what a short escape stands for is ASCII, and so is its byte
abbrev ShortAt : ℕ → Option ℕ → Type 0
ShortAt x None = ⊤
ShortAt x (Some c) = (c < 128) × (x < 128) × (32 ≤ x)

is_byte : (x n c : ℕ) (rest : Option ℕ) → n < 128 → 32 ≤ n → c < 128 → ShortAt x rest
    → ShortAt x (cond (x == n) (Some c) rest)
is_byte x n c rest small high also good =
    cond_both (x == n) (Some c) rest (ShortAt x)
    (λ e. let same = eqb-true x n e in (also, omega arith, omega arith)) (λ e. good)

short_ascii : (x : ℕ) → ShortAt x (short_escape x)
unfolding short_escape
short_ascii x = grind (arith, common_steps, cond_both, nat_tests, is_byte)

-- ---- a step of the reading: some bytes are read as some, whatever comes after them

record Step (text : List ℕ) : Type 0 where
  front : List ℕ
  rest : List ℕ
  is : text ≡ front ++ rest
  shorter : length rest < length text
  visible : are_visible front ≡ true
  bytes : List ℕ
  reads : (r : List ℕ) → content plain (front ++ r) ≡ prepend bytes (content plain r)
  lexes : (r : List ℕ) → lex in_string (front ++ r) ≡ lex in_string r
  utf8 : (before s : List ℕ) → IsUtf8 (before ++ text)
      → ((more : List ℕ) → IsUtf8 (more ++ rest) → IsUtf8 (more ++ s)) → IsUtf8 (before ++ (bytes ++ s))

plain_step : (x : ℕ) (xs : List ℕ) → (x ≡ 34 → ⊥) → (x ≡ 92 → ⊥) → 32 ≤ x → Step (x ∷ xs)
unfolding content
plain_step x xs q b l = record {
  front = x ∷ [];
  rest = xs;
  is = refl;
  shorter = omega arith;
  visible = one_visible x [] l refl;
  bytes = x ∷ [];
  reads = λ r. rw (ne_eqb x 34 q, ne_eqb x 92 b, le-ltb x 32 l) refl;
  lexes = λ r. lex-inside x r q b;
  utf8 = λ before s u more. subst IsUtf8 (append_assoc before (x ∷ []) s)
      (more (before ++ x ∷ []) (subst IsUtf8 (sym (append_assoc before (x ∷ []) xs)) u));
}

-- a backslash, and ASCII behind it
escape_step : (front rest bytes : List ℕ) → are_seen front ≡ true → IsUtf8 bytes
    → ((r : List ℕ) → content after_backslash (front ++ r) ≡ prepend bytes (content plain r))
    → ((r : List ℕ) → lex in_escape (front ++ r) ≡ lex in_string r) → Step (92 ∷ (front ++ rest))
unfolding content lex
escape_step front rest bytes all utf8 reads lexes =
    let is = seen front rest all in
    record {
      front = 92 ∷ front;
      rest = rest;
      is = refl;
      shorter = omega (arith, length-append front rest);
      visible = one_visible 92 front (omega arith) is.visible;
      bytes = bytes;
      reads = reads;
      lexes = lexes;
      utf8 = λ before s u more.
          let both = cut_ascii before 92 (front ++ rest) (omega arith) u in
          IsUtf8-append before (bytes ++ s) both.0 (IsUtf8-append bytes s utf8 (more [] (is.behind both.1)));
    }

other_read : (x : ℕ) (r : List ℕ) → (x ≡ 117 → ⊥)
    → content after_backslash (x ∷ r) ≡ option_and_then (λ c. prepend (c ∷ []) (content plain r)) (short_escape x)
unfolding content
other_read x r n = rw (ne_eqb x 117 n)

short_step : (x c : ℕ) (xs : List ℕ) → (x ≡ 117 → ⊥) → short_escape x ≡ Some c → Step (92 ∷ x ∷ xs)
short_step x c xs n e =
    let is = subst (ShortAt x) e (short_ascii x) in
    escape_step (x ∷ []) xs (c ∷ []) (one_seen x [] is.2 is.1 refl)
    (IsUtf8-are_ascii (c ∷ []) (and_from (nat_lt c 128) true (lt-ltb c 128 is.0) refl))
    (λ r. other_read x r n ∙ ap (option_and_then (λ (y : ℕ). prepend (y ∷ []) (content plain r))) e)
    (λ r. lex-escaped x r)

unit_scalar : (u : ℕ) → u < 65536 → is_high_surrogate u ≡ false → is_low_surrogate u ≡ false → scalar u ≡ true
unit_scalar u small high low = grind (arith, nat_tests)

pair_scalar : (u l : ℕ) → is_high_surrogate u ≡ true → is_low_surrogate l ≡ true → scalar (surrogate_pair u l) ≡ true
pair_scalar u l high low = grind (arith, nat_tests)

-- what a unit is, before more text, and the second unit of a pair
abbrev unit_content : List ℕ → ℕ → Option (List ℕ)
unit_content r u = cond (is_high_surrogate u) (content (after_high u) r)
    (cond (is_low_surrogate u) None (prepend (encode_utf8 u) (content plain r)))

abbrev pair_content : ℕ → List ℕ → ℕ → Option (List ℕ)
pair_content high r l = cond (is_low_surrogate l) (prepend (encode_utf8 (surrogate_pair high l)) (content plain r)) None

pub if_some : {A : Type 0} (b : Bool) (o : Option A) (a : A) → cond b o None ≡ Some a → (b ≡ true) × (o ≡ Some a)
if_some true o a h = (refl, h)
if_some false o a h = absurd (none-some a h)

-- a pair of units
pair_step : (a b c d u : ℕ) (xs s : List ℕ) → code_unit a b c d ≡ Some u → is_high_surrogate u ≡ true
    → content (after_high u) xs ≡ Some s → Step (92 ∷ 117 ∷ a ∷ b ∷ c ∷ d ∷ xs)
unfolding content lex
pair_step a b c d u (x ∷ y ∷ e ∷ f ∷ g ∷ h ∷ xs) s first high found =
    let test = if_some ((x == 92) && (y == 117)) _ s found in
    let both = and_parts (x == 92) (y == 117) test.0 in
    option_and_then_some (pair_content u xs) (code_unit e f g h) s test.1
    (λ l second is.
    let low = (if_some (is_low_surrogate l) _ s is).0 in
    let k = unit a b c d u first in
    let m = unit e f g h l second in
    rw (eqb-true x 92 both.0, eqb-true y 117 both.1)
    (escape_step (117 ∷ a ∷ b ∷ c ∷ d ∷ 92 ∷ 117 ∷ e ∷ f ∷ g ∷ h ∷ []) xs (encode_utf8 (surrogate_pair u l))
    (k.seen (92 ∷ 117 ∷ e ∷ f ∷ g ∷ h ∷ []) (m.seen [] refl))
    (IsUtf8-encode (surrogate_pair u l) (pair_scalar u l high low)) (λ r. rw (first, high, second, low) refl)
    (λ r. lex-escaped 117 (a ∷ b ∷ c ∷ d ∷ 92 ∷ 117 ∷ e ∷ f ∷ g ∷ h ∷ r)
    ∙ k.lexes (92 ∷ 117 ∷ e ∷ f ∷ g ∷ h ∷ r) ∙ lex-escaped 117 (e ∷ f ∷ g ∷ h ∷ r) ∙ m.lexes r)))
pair_step a b c d u _ s first high found = absurd (none-some s found)

unit_step : (xs s : List ℕ) → content after_u xs ≡ Some s → Step (92 ∷ 117 ∷ xs)
unfolding content
unit_step (a ∷ b ∷ c ∷ d ∷ xs) s found =
    option_and_then_some (unit_content xs) (code_unit a b c d) s found
    (λ u e is. by u e is (cases_Bool (is_high_surrogate u)) (cases_Bool (is_low_surrogate u)))
  where
    by : (u : ℕ) → code_unit a b c d ≡ Some u → unit_content xs u ≡ Some s
        → (is_high_surrogate u ≡ true) ⊎ (is_high_surrogate u ≡ false)
        → (is_low_surrogate u ≡ true) ⊎ (is_low_surrogate u ≡ false) → Step (92 ∷ 117 ∷ a ∷ b ∷ c ∷ d ∷ xs)
    by u e is (inl high) low = pair_step a b c d u xs s e high (rw high at is)
    by u e is (inr high) (inl low) = absurd (none-some s (rw (high, low) at is))
    by u e is (inr high) (inr low) =
        let k = unit a b c d u e in
        escape_step (117 ∷ a ∷ b ∷ c ∷ d ∷ []) xs (encode_utf8 u) (k.seen [] refl)
        (IsUtf8-encode u (unit_scalar u k.small high low)) (λ r. rw (e, high, low) refl)
        (λ r. lex-escaped 117 (a ∷ b ∷ c ∷ d ∷ r) ∙ k.lexes r)
unit_step _ s found = absurd (none-some s found)

escaped_step : (xs s : List ℕ) → content after_backslash xs ≡ Some s → Step (92 ∷ xs)
unfolding content
escaped_step [] s h = absurd (none-some s h)
escaped_step (x ∷ xs) s h = by (cases_eq x 117)
  where
    by : (x ≡ 117) ⊎ (x ≡ 117 → ⊥) → Step (92 ∷ x ∷ xs)
    by (inl e) = rw e (unit_step xs s (rw e at h))
    by (inr n) =
        option_and_then_some (λ c. prepend (c ∷ []) (content plain xs)) (short_escape x) s (sym (other_read x xs n) ∙ h)
        (λ c e found. short_step x c xs n e)

-- ---- a whole string

pub record IsString (text s : List ℕ) : Type 0 where
  pub front : List ℕ
  pub rest : List ℕ
  pub is : text ≡ front ++ 34 ∷ rest
  pub visible : are_visible front ≡ true
  pub reads : (r : List ℕ) → content plain (front ++ 34 ∷ r) ≡ Some s
  pub lexes : (r : List ℕ) → lex in_string (front ++ 34 ∷ r) ≡ lex between r
  pub utf8 : (before : List ℕ) → IsUtf8 (before ++ text) → IsUtf8 (before ++ s)

closed : (xs s : List ℕ) → content plain (34 ∷ xs) ≡ Some s → IsString (34 ∷ xs) s
unfolding content lex
closed xs s h = record {
  front = [];
  rest = xs;
  is = refl;
  visible = refl;
  reads = λ r. h;
  lexes = λ r. refl;
  utf8 = λ before u. subst (λ t. IsUtf8 (before ++ t)) (same_Some [] s h)
      (subst IsUtf8 (sym (append-nil before)) (cut_ascii before 34 xs (omega arith) u).0);
}

prepended : (bytes : List ℕ) (o : Option (List ℕ)) (s : List ℕ) → prepend bytes o ≡ Some s
    → (t : List ℕ) × (o ≡ Some t) × (bytes ++ t ≡ s)
prepended bytes None s h = absurd (none-some s h)
prepended bytes (Some t) s h = (t, refl, same_Some (bytes ++ t) s h)

string_byte : (x : ℕ) (xs s : List ℕ)
    → ((rest t : List ℕ) → length rest < length (x ∷ xs) → content plain rest ≡ Some t → IsString rest t)
    → content plain (x ∷ xs) ≡ Some s → IsString (x ∷ xs) s
unfolding content
string_byte x xs s again h = by (cases_eq x 34) (cases_eq x 92) (cases_lt x 32)
  where
    goes_on : Step (x ∷ xs) → IsString (x ∷ xs) s
    goes_on k =
        let tail = prepended k.bytes (content plain k.rest) s
        (sym (k.reads k.rest) ∙ ap (content plain) (sym k.is) ∙ h) in
        let more = again k.rest tail.0 k.shorter tail.1 in
        let front = λ (ys : List ℕ). append_assoc k.front more.front (34 ∷ ys) in
        subst (IsString (x ∷ xs)) tail.2 (record {
          front = k.front ++ more.front;
          rest = more.rest;
          is = k.is ∙ ap (λ l. k.front ++ l) more.is ∙ sym (front more.rest);
          visible = visible-append k.front more.front k.visible more.visible;
          reads = λ r. ap (content plain) (front r) ∙ k.reads (more.front ++ 34 ∷ r)
              ∙ ap (prepend k.bytes) (more.reads r);
          lexes = λ r. ap (lex in_string) (front r) ∙ k.lexes (more.front ++ 34 ∷ r) ∙ more.lexes r;
          utf8 = λ before u. k.utf8 before tail.0 u more.utf8;
        })

    by : (x ≡ 34) ⊎ (x ≡ 34 → ⊥) → (x ≡ 92) ⊎ (x ≡ 92 → ⊥) → (x < 32) ⊎ (32 ≤ x) → IsString (x ∷ xs) s
    by (inl e) b c = rw e (closed xs s (ap (λ y. content plain (y ∷ xs)) (sym e) ∙ h))
    by (inr q) (inl e) c = goes_on (rw e (escaped_step xs s (ap (λ y. content plain (y ∷ xs)) (sym e) ∙ h)))
    by (inr q) (inr b) (inl l) = absurd (none-some s (rw (ne_eqb x 34 q, ne_eqb x 92 b, lt-ltb x 32 l) at h))
    by (inr q) (inr b) (inr l) = goes_on (plain_step x xs q b l)

pub string_is : (n : ℕ) (text s : List ℕ) → length text < n → content plain text ≡ Some s → IsString text s
unfolding content
string_is zero text s short h = absurd (omega arith)
string_is (suc n) [] s short h = absurd (none-some s h)
string_is (suc n) (x ∷ xs) s short h =
    string_byte x xs s (λ rest t less found. string_is n rest t (omega arith) found) h

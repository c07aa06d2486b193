-- The lines of the input.
use Rattle.lsp_simulate.proofs.Prelude.{◌≡◌, ◌<◌, ◌≤◌, ℕ, zero, suc, ◌+◌, ◌-◌, Bool, true, false, List, [], ◌∷◌, ◌++◌, length, get_or, take, drop, refl, ap, ◌∙◌, arith, append-nil, Option, None, Some, IfSome, drop-drop, drop-take, length-take, IsAtEnd, prepend_known, Spends, line_count, lines_from, Passed, is_begun}
use Rattle.memchr.specs.Find.{IsFirstByte, is_byte}

-- ---- the lines of bytes one after another

not_true : (b : Bool) → (b ≡ true → ⊥) → b ≡ false
not_true true never = absurd (never refl)
not_true false never = refl

first_at : (begun : Bool) (bytes more : List ℕ) (at : ℕ) → at < length bytes
    → ((k : ℕ) → k < at → is_byte 10 (get_or bytes k 0) ≡ false) → is_byte 10 (get_or bytes at 0) ≡ true
    → lines_from begun (bytes ++ more) ≡ 1 + lines_from false (drop (suc at) bytes ++ more)
first_at begun [] more at within none hit = absurd (omega arith)
first_at begun (byte ∷ bytes) more zero within none hit =
    let here : is_byte 10 byte ≡ true = hit in rw here refl
first_at begun (byte ∷ bytes) more (suc at) within none hit =
    let here : is_byte 10 byte ≡ false = none 0 (omega arith) in
    rw here (first_at true bytes more at (omega arith) (λ k below. none (suc k) (omega arith)) hit)

none_in : (bytes more : List ℕ) → ((k : ℕ) → k < length bytes → is_byte 10 (get_or bytes k 0) ≡ false)
    → lines_from true (bytes ++ more) ≡ lines_from true more
none_in [] more none = refl
none_in (byte ∷ bytes) more none =
    let here : is_byte 10 byte ≡ false = none 0 (omega arith) in
    rw here (none_in bytes more (λ k below. none (suc k) (omega arith)))

begun_last : (line : List ℕ) (byte : ℕ) (bytes : List ℕ) → is_begun (line ++ byte ∷ bytes) ≡ true
begun_last [] byte bytes = refl
begun_last (first ∷ line) byte bytes = refl

-- ---- what `memchr` found

pub first_line : (begun : Bool) (bytes more : List ℕ) (at : ℕ) → IsFirstByte (is_byte 10) bytes (Some at)
    → lines_from begun (bytes ++ more) ≡ 1 + lines_from false (drop (suc at) bytes ++ more)
first_line begun bytes more at first =
    first_at begun bytes more at first.0.high
    (λ k below. not_true (is_byte 10 (get_or bytes k 0)) (first.0.before k (omega arith) below)) first.1

pub no_line : (line bytes more : List ℕ) → IsFirstByte (is_byte 10) bytes None
    → lines_from (is_begun line) (bytes ++ more) ≡ lines_from (is_begun (line ++ bytes)) more
no_line line [] more none = rw (append-nil line) refl
no_line line (byte ∷ bytes) more none =
    let here : is_byte 10 byte ≡ false = not_true (is_byte 10 byte) (none 0 (omega arith) (omega arith)) in
    rw (here, begun_last line byte bytes) (none_in bytes more (λ k below.
    not_true (is_byte 10 (get_or bytes k 0)) (none (suc k) (omega arith) (omega arith))))

-- What is left of a piece after a line and its end.
pub after_line : (from to len : ℕ) (bytes : List ℕ) → len < length (take (to - from) (drop from bytes))
    → drop (suc len) (take (to - from) (drop from bytes))
    ≡ take (to - (from + (len + 1))) (drop (from + (len + 1)) bytes)
after_line from to len bytes within =
    let more = to - (from + (len + 1)) in
    let count : to - from ≡ suc len + more = omega (arith, within, length-take (to - from) (drop from bytes)) in
    let place : from + suc len ≡ from + (len + 1) = omega arith in
    ap (λ z. drop (suc len) (take z (drop from bytes))) count ∙ drop-take (suc len) more (drop from bytes)
    ∙ ap (λ z. take more z) (drop-drop (suc len) from bytes ∙ ap (λ z. drop z bytes) place)

-- ---- lines that were passed

pub none_spent : (calls most left : ℕ) → left ≡ most → Spends calls calls most left
none_spent calls most left all = record {
  within = omega (arith, all);
  least = omega arith;
  most = omega (arith, all);
  exact = λ _. omega (arith, all);
}

pub nothing_taken : (input : Option (List ℕ)) (bytes : List ℕ) → bytes ≡ []
    → Passed input 0 false (prepend_known bytes input)
nothing_taken None bytes is = tt
nothing_taken (Some all) bytes is = rw is (omega arith)

pub passed_more : (old mid new : Option (List ℕ)) (m n k : ℕ) → Passed old m false mid → Passed mid n false new
    → k ≡ m + n → Passed old k false new
passed_more None mid new m n k first second sum = tt
passed_more (Some all) None new m n k first second sum = absurd first
passed_more (Some all) (Some some) None m n k first second sum = absurd second
passed_more (Some all) (Some some) (Some rest) m n k first second sum = omega (arith, first, second, sum)

-- ---- how many lines the input has

pub at_least : (old new : Option (List ℕ)) (n : ℕ) → Passed old n false new → IfSome old (λ input. n ≤ line_count input)
at_least None new n passed = tt
at_least (Some all) None n passed = absurd passed
at_least (Some all) (Some rest) n passed = omega (arith, passed)

pub fewer : (old new : Option (List ℕ)) (n m : ℕ) → Passed old m false new → n < m
    → IfSome old (λ input. n < line_count input)
fewer None new n m passed less = tt
fewer (Some all) None n m passed less = absurd passed
fewer (Some all) (Some rest) n m passed less = omega (arith, passed, less)

pub all_passed : (old new : Option (List ℕ)) (n : ℕ) → Passed old n false new → IsAtEnd new
    → IfSome old (λ input. n ≡ line_count input)
all_passed None new n passed end = tt
all_passed (Some all) None n passed end = absurd passed
all_passed (Some all) (Some rest) n passed end =
    let none : lines_from false rest ≡ 0 = ap (λ z. lines_from false z) end in
    omega (arith, passed, none)

pub at_end : (later : Option (List ℕ)) (bytes : List ℕ) → bytes ≡ [] → IsAtEnd later
    → IsAtEnd (prepend_known bytes later)
at_end None bytes none end = tt
at_end (Some rest) bytes none end = rw (none, end) refl

-- A written frame is a frame as it is read.
use Rattle.lsp_frame.proofs.Prelude.{◌≡◌, ℕ, ◌+◌, ◌-◌, ◌*◌, ◌^◌, ◌<◌, ◌≤◌, Bool, true, false, not, ◌&&◌, lit<, List, [], ◌∷◌, length, get_or, reverse, refl, sym, ap, subst, append_assoc, arith, inl, Vec, Global, IfOk, codes, decimal, fold, nat_le, nat_lt, Result, Ok, Err, ◌==◌, AllByRecursion, list_all, length-append, length-reverse, get_or-reverse, reverse-reverse, le-leb, leb-true, eqb-false, ne_eqb, lt-ltb, le-ltb, Line, IsNameByte, IsValueByte, is_blank, trimmed, trimmed_start, trimmed_end, common_steps}
use Rattle.std.proofs.lemmas.Fmt.{length-decimal-le, decimal_nonempty, digits_decimal, digits_value-decimal}
use Rattle.std.proofs.lemmas.Str.Parse.{IsNumeralModel, IsDigitsTest, FoldsDigits, numerals_by_fold}
use Rattle.lsp_frame.specs.Verdict.{is_digit, number, judge_header}
use Rattle.lsp_frame.specs.Frame.{frame, IsFrameOf}

-- a digit
abbrev pub IsDigit : ℕ → Type 0
IsDigit b = (48 ≤ b) × (b ≤ 57)

abbrev pub AreDigits : List ℕ → Type 0
AreDigits bs = AllByRecursion IsDigit bs

pub tells_own_digits : IsDigitsTest AreDigits
tells_own_digits = record { empty = tt; parts = λ c cs p. p; more = λ c cs h p. (h, p) }

pub number_folds : FoldsDigits (λ n bs. fold (λ (m b : ℕ). 10 * m + (b - 48)) n bs)
number_folds = record {
  empty = λ n. refl;
  more = λ n c cs h. ap (λ m. fold (λ (k b : ℕ). 10 * k + (b - 48)) m cs)
      (let e : 10 * n + (c - 48) ≡ n * 10 + (c - 48) = omega arith in e);
}

pub numerals : IsNumeralModel AreDigits number
numerals = numerals_by_fold AreDigits tells_own_digits (λ n bs. fold (λ (m b : ℕ). 10 * m + (b - 48)) n bs) number_folds

pub is_digit_true : (b : ℕ) → IsDigit b → is_digit b ≡ true
is_digit_true b h = rw (le-leb 48 b h.0, le-leb b 57 h.1) refl

pub all_digits : (bs : List ℕ) → AreDigits bs → list_all is_digit bs ≡ true
all_digits [] all = refl
all_digits (b ∷ bs) all = rw (is_digit_true b all.0) (all_digits bs all.1)

pub digits_are_values : (bs : List ℕ) → AreDigits bs → AllByRecursion IsValueByte bs
digits_are_values [] all = tt
digits_are_values (b ∷ bs) all = let low : 48 ≤ b = all.0.0 in let high : b ≤ 57 = all.0.1 in
    (inl (omega arith, omega arith), digits_are_values bs all.1)

pub digit_not_blank : (b : ℕ) → IsDigit b → is_blank b ≡ false
digit_not_blank b h = grind (arith, common_steps, ne_eqb)

pub start_same : (bs : List ℕ) → (0 < length bs → is_blank (get_or bs 0 0) ≡ false) → trimmed_start bs ≡ bs
start_same [] first = refl
start_same (b ∷ bs) first = let f : is_blank b ≡ false = first (omega arith) in rw f refl

pub end_same : (bs : List ℕ) → AreDigits bs → trimmed_end bs ≡ bs
end_same bs all =
    grind (arith, common_steps, reverse, length-reverse, get_or-reverse, digit_not_blank, start_same, reverse-reverse)

pub trimmed_digits : (bs : List ℕ) → AreDigits bs → trimmed (32 ∷ bs) ≡ bs
trimmed_digits bs all = grind (arith, common_steps, digit_not_blank, start_same, end_same)

-- the one line of a written header
abbrev pub length_line : ℕ → Line
length_line n = record { name = codes "Content-Length"; value = 32 ∷ decimal n }

pub name_from_test : (bs : List ℕ) → list_all (λ b. nat_le 33 b && nat_le b 126 && not (b == 58)) bs ≡ true
    → AllByRecursion IsNameByte bs
name_from_test [] t = tt
name_from_test (b ∷ bs) t =
    let parts = three (nat_le 33 b) (nat_le b 126) (b == 58)
    (list_all (λ c. nat_le 33 c && nat_le c 126 && not (c == 58)) bs) t in
    ((leb-true 33 b parts.0, leb-true b 126 parts.1, eqb-false b 58 parts.2), name_from_test bs parts.3)
  where
    three : (p q r s : Bool) → ((p && q && not r) && s) ≡ true → (p ≡ true) × (q ≡ true) × (r ≡ false) × (s ≡ true)
    three true true false true e = (refl, refl, refl, refl)
    three true true false false e = cc
    three true true true s e = cc
    three true false r s e = cc
    three false q r s e = cc

pub written_judged : (max_body n : ℕ) → n ≤ max_body → n < 2 ^ 64 → judge_header max_body (length_line n ∷ []) ≡ Ok n
unfolding judge_header
written_judged max_body n within small =
    let all : AreDigits (decimal n) = digits_decimal numerals n small in
    let value : number (decimal n) ≡ n = digits_value-decimal numerals n small in
    let cut : trimmed (32 ∷ decimal n) ≡ decimal n = trimmed_digits (decimal n) all in
    let some : nat_lt 0 (length (decimal n)) ≡ true = lt-ltb 0 (length (decimal n)) (decimal_nonempty n small) in
    let not_more : nat_lt max_body n ≡ false = le-ltb max_body n within in
    rw (cut, some, all_digits (decimal n) all, value, not_more) refl

pub written_is_frame : (max_body : ℕ) (body : List ℕ) → length body ≤ max_body → length body < 2 ^ 64
    → IsFrameOf max_body (frame body) body
unfolding frame
written_is_frame max_body body within small =
    let all : AreDigits (decimal (length body)) = digits_decimal numerals (length body) small in
    let len : length (decimal (length body)) ≤ 20 = length-decimal-le 20 (length body) (lit< tt) (omega arith) small in
    record {
      lines = length_line (length body) ∷ [];
      each = grind (arith, common_steps, name_from_test, inl, digits_are_values);
      is = simp append_assoc;
      short = simp length-append (omega (arith, len));
      good = written_judged max_body (length body) within small;
    }

pub frame_len : (body : List ℕ) → length body ≤ length (frame body)
unfolding frame
frame_len body = simp length-append (omega arith)

pub ok_is_frame : {E : Type 0} (body : List ℕ) (r : Result (Vec ℕ Global) E) → IfOk r (λ v. v.items ≡ frame body)
    → IfOk r (λ v. (max_body : ℕ) → length body ≤ max_body → IsFrameOf max_body v.items body)
ok_is_frame body (Ok v) e = λ max_body within.
    let small : length body < 2 ^ 64 = omega (arith, frame_len body, ap length e, v.ok, v.small) in
    subst (λ (bytes : List ℕ). IsFrameOf max_body bytes body) (sym e) (written_is_frame max_body body within small)
ok_is_frame body (Err f) e = tt

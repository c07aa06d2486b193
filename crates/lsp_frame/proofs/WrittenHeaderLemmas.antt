-- A header in the written raw is one as it is read.
use Rattle.lsp_frame.proofs.Prelude.{◌≡◌, ℕ, ◌+◌, ◌<◌, ◌≤◌, Bool, true, false, ◌&&◌, List, [], ◌∷◌, ◌++◌, length, take, drop, get_or, refl, sym, ◌∙◌, ap, append_assoc, arith, inl, inr, codes, nat_le, nat_lt, if◌then◌else◌, Ok, Some, None, list_all, take-append-add, take-append_seam, drop-append_seam, get_or-append_seam, length-append, length-take, take-take, get_or-take, list_all_at, cases_order, leb-true, lt-ltb, le-ltb, ltb-false, Line, header_of, trimmed, BeginsWritten, IsInBody, common_steps}
use Rattle.std.proofs.Math.ListN.{get_or-append}
use Rattle.lsp_frame.specs.Verdict.{is_digit, number, judge_header}
use Rattle.lsp_frame.specs.declared.written.WrittenHeader.{WrittenHeader}
use Rattle.lsp_frame.proofs.FramedLemmas.{same_length_front}
use Rattle.lsp_frame.proofs.WrittenLemmas.{AreDigits, all_digits, digits_are_values, trimmed_digits, name_from_test}

-- the one line of such a header
abbrev pub digits_line : List ℕ → Line
digits_line digits = record { name = codes "Content-Length"; value = 32 ∷ digits }

pub digits_of : (bs : List ℕ) → list_all is_digit bs ≡ true → AreDigits bs
digits_of [] t = tt
digits_of (b ∷ bs) t =
    let parts = three (nat_le 48 b) (nat_le b 57) (list_all is_digit bs) t in
    ((leb-true 48 b parts.0, leb-true b 57 parts.1), digits_of bs parts.2)
  where
    three : (p q s : Bool) → ((p && q) && s) ≡ true → (p ≡ true) × (q ≡ true) × (s ≡ true)
    three true true true e = (refl, refl, refl)
    three true true false e = cc
    three true false s e = cc
    three false q s e = cc

pub digits_judged : (max_body : ℕ) (digits : List ℕ) → AreDigits digits → 0 < length digits → number digits ≤ max_body
    → judge_header max_body (digits_line digits ∷ []) ≡ Ok (number digits)
unfolding judge_header
digits_judged max_body digits all some within =
    let cut : trimmed (32 ∷ digits) ≡ digits = trimmed_digits digits all in
    let any : nat_lt 0 (length digits) ≡ true = lt-ltb 0 (length digits) some in
    let not_more : nat_lt max_body (number digits) ≡ false = le-ltb max_body (number digits) within in
    rw (cut, any, all_digits digits all, not_more) refl

-- The first bytes of the frame.
pub written_in_body : (max_body : ℕ) (bytes : List ℕ) (header : WrittenHeader) → BeginsWritten max_body bytes header
    → IsInBody max_body (take (header.len + header.body) bytes) header.len (header.len + header.body)
written_in_body max_body bytes header w =
    let all : AreDigits w.digits = digits_of w.digits w.each in
    let front : List ℕ = header_of (digits_line w.digits ∷ []) in
    let whole : bytes ≡ header_of (digits_line w.digits ∷ []) ++ w.rest = w.is ∙ simp append_assoc in
    let len : header.len ≡ length (header_of (digits_line w.digits ∷ [])) = w.len ∙ simp length-append (omega arith) in
    let is : take (header.len + header.body) bytes ≡ header_of (digits_line w.digits ∷ []) ++ take header.body w.rest =
    ap (take (header.len + header.body)) whole
    ∙ ap (λ n. take (n + header.body) (header_of (digits_line w.digits ∷ []) ++ w.rest)) len
    ∙ take-append-add (header_of (digits_line w.digits ∷ [])) w.rest header.body in
    let within : number w.digits ≤ max_body = omega (arith, w.body, w.small) in
    record {
      lines = digits_line w.digits ∷ [];
      body = take header.body w.rest;
      wanted = header.body;
      each = grind (arith, common_steps, name_from_test, inl, digits_are_values);
      is = is;
      starts = len;
      short = omega (arith, w.len, w.few);
      good = digits_judged max_body w.digits all w.some within ∙ ap Ok (sym w.body);
      ends = refl;
      within = omega (arith, length-take (header.len + header.body) bytes);
      small = w.small;
    }

-- The digits at the front, as they are found in the first bytes alone.
pub digits_front : (rest window digits : List ℕ) (most n : ℕ) → window ≡ take most rest → n ≤ length window
    → digits ≡ take n rest → list_all is_digit (take n window) ≡ true → list_all is_digit digits ≡ true
digits_front rest window digits most n e within front each = grind (arith, common_steps, length-take, take-take)

-- The parts of the header, as they are found.
pub begins_written : (max_body : ℕ) (bytes rest digits rest_after : List ℕ) (len body : ℕ)
    → bytes ≡ codes "Content-Length: " ++ rest → rest ≡ digits ++ rest_after → rest_after ≡ codes "\r\n\r\n"
    ++ drop 4 rest_after → 0 < length digits → length digits ≤ 10 → list_all is_digit digits ≡ true
    → len ≡ 16 + length digits + 4 → Some body
    ≡ (if nat_lt max_body (number digits) then None else Some (number digits))
    → BeginsWritten max_body bytes (record { len = len; body = body })
begins_written max_body bytes rest digits rest_after len body named split ends some few each is_len error = record {
  digits = digits;
  rest = drop 4 rest_after;
  is = named ∙ ap (λ x. codes "Content-Length: " ++ x) (split ∙ ap (λ x. digits ++ x) ends) ∙ simp append_assoc;
  some = some;
  few = few;
  each = each;
  len = is_len ∙ omega arith;
  body = (within_body max_body (number digits) body error).0;
  small = (within_body max_body (number digits) body error).1;
}
  where
    within_body : (most n got : ℕ) → Some got ≡ (if nat_lt most n then None else Some n) → (got ≡ n) × (got ≤ most)
    within_body most n got e =
        elim (nat_lt most n) as (λ b. nat_lt most n ≡ b → Some got ≡ (if b then None else Some n) → (got ≡ n)
        × (got ≤ most)) [
          | true ↦ λ t h. absurd (cc)
          | false ↦ λ t h. let same : got ≡ n = cc in (same, omega (arith, ltb-false most n t))
        ] refl e

-- The digits that are found are those of the header.
pub same_len : (rest window digits more : List ℕ) (most n : ℕ) → window ≡ take most rest → rest ≡ digits ++ 13 ∷ more
    → length digits ≤ most → list_all is_digit digits ≡ true → n ≤ length window → list_all is_digit (take n window)
    ≡ true → (n < length window → is_digit (get_or window n 0) ≡ false) → n ≡ length digits
same_len rest window digits more most n cut is few each within found last =
    let len : length window ≡ length (take most rest) = ap length cut in
    let all : length rest ≡ length (digits ++ 13 ∷ more) = ap length is in
    elim (cases_order n (length digits)) [
      | inl e ↦ e
      | inr other ↦ elim other [
        | inl less ↦ grind (arith, common_steps, length-take, length-append, get_or-take, get_or-append, list_all_at)
        | inr above ↦ absurd (
            let low : length digits < most = omega (arith, len, length-take most rest) in
            let here : length digits < length (take n window) = omega (arith, length-take n window) in
            let there : get_or (take n window) (length digits) 0 ≡ 13 =
            grind (arith, common_steps, get_or-take, get_or-append_seam) in
            let none : list_all is_digit (take n window) ≡ false =
            list_all_at is_digit (take n window) (length digits) 0 here (ap is_digit there) in
            cc
            )
      ]
    ]

-- What stands behind the name in a header that is written so.
pub written_rest : (max_body : ℕ) (bytes : List ℕ) (header : WrittenHeader) (w : BeginsWritten max_body bytes header)
    → bytes ≡ codes "Content-Length: " ++ (w.digits ++ 13 ∷ 10 ∷ 13 ∷ 10 ∷ w.rest)
written_rest max_body bytes header w = w.is ∙ simp append_assoc

-- The parts that are found are those of the header.
pub found_parts : (max_body : ℕ) (bytes rest window digits rest_after : List ℕ) (n : ℕ) (header : WrittenHeader)
    (w : BeginsWritten max_body bytes header) → bytes ≡ codes "Content-Length: " ++ rest → window ≡ take 10 rest
    → n ≤ length window → list_all is_digit (take n window) ≡ true
    → (n < length window → is_digit (get_or window n 0) ≡ false) → digits ≡ take n rest → rest_after ≡ drop n rest
    → (digits ≡ w.digits) × (rest_after ≡ codes "\r\n\r\n" ++ w.rest)
found_parts max_body bytes rest window digits rest_after n header w named cut within found last front back =
    let is : rest ≡ w.digits ++ 13 ∷ 10 ∷ 13 ∷ 10 ∷ w.rest =
    (same_length_front (codes "Content-Length: ") (codes "Content-Length: ") rest
    (w.digits ++ 13 ∷ 10 ∷ 13 ∷ 10 ∷ w.rest) refl (sym named ∙ written_rest max_body bytes header w)).1 in
    let len : n ≡ length w.digits = same_len rest window w.digits (10 ∷ 13 ∷ 10 ∷ w.rest) 10 n cut is w.few w.each
    within found last in (
      front ∙ ap (λ k. take k rest) len ∙ ap (take (length w.digits)) is ∙ take-append_seam w.digits
          (13 ∷ 10 ∷ 13 ∷ 10 ∷ w.rest),
      back ∙ ap (λ k. drop k rest) len ∙ ap (drop (length w.digits)) is ∙ drop-append_seam w.digits
          (13 ∷ 10 ∷ 13 ∷ 10 ∷ w.rest),
    )

-- A length that is within the limit is not refused.
pub within_told : (max_body : ℕ) (bytes digits : List ℕ) (header : WrittenHeader)
    (w : BeginsWritten max_body bytes header) → digits ≡ w.digits
    → None ≡ (if nat_lt max_body (number digits) then None else Some (number digits)) → ⊥
within_told max_body bytes digits header w same error = grind (arith, common_steps, le-ltb)

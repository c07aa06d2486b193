-- What a header says, and the frame that it begins.
use Rattle.lsp_frame.proofs.Prelude.{◌≡◌, ℕ, ◌+◌, ◌-◌, ◌<◌, ◌≤◌, Bool, true, false, ◌||◌, List, [], ◌∷◌, ◌++◌, length, refl, sym, ◌∙◌, ap, subst, arith, codes, nat_lt, Result, Ok, Err, lt-ltb, ltb-false, length-append, append-nil, take_at, Line, header_of, IsFrame, IsJudgedAt, IsDecidedAt, both_judged, length_judged, judge_notes, HeaderFault, Notes, common_steps}
use Rattle.lsp_frame.specs.Verdict.{values_of, judge_header, judge_values, judge_single}
use Rattle.lsp_frame.specs.inside.Stage.{IsWhole, IsInBody, length_said, length_of, charset_of, notes_of}
use Rattle.lsp_frame.specs.declared.fault.HeaderFault.TheVariants as header
use Rattle.lsp_frame.specs.declared.framer.notes.Length.TheVariants as said
use Rattle.lsp_frame.specs.declared.framer.notes.Charset.TheVariants as named

pub or-true : (b : Bool) → (b || true) ≡ true
or-true true = refl
or-true false = refl

-- Two values or more are too many.
pub many : {A : Type 0} (a b : A) (xs : List A) → nat_lt 1 (length (a ∷ b ∷ xs)) ≡ true
many a b xs = lt-ltb 1 (length (a ∷ b ∷ xs)) (omega arith)

pub judged_one : (max_body : ℕ) (value : List ℕ) → length_judged (length_said max_body value) named.Missing
    ≡ judge_single max_body (value ∷ []) []
judged_one max_body value = grind (arith, common_steps)

pub judged_two : (max_body : ℕ) (value content : List ℕ) → both_judged (length_said max_body value)
    (charset_of (content ∷ [])) ≡ judge_single max_body (value ∷ []) (content ∷ [])
judged_two max_body value content = grind (arith, common_steps)

pub missing_one : (max_body : ℕ) (content : List ℕ) → both_judged said.Missing (charset_of (content ∷ []))
    ≡ Err header.MissingLength
missing_one max_body content = grind (arith, common_steps)

pub repeated_one : (content : List ℕ) → both_judged said.Repeated (charset_of (content ∷ []))
    ≡ Err header.RepeatedHeader
repeated_one content = grind (arith, common_steps)

-- The notes of a header say what its lines say.
pub judged_values : (max_body : ℕ) (lengths types : List (List ℕ)) → both_judged (length_of max_body lengths)
    (charset_of types) ≡ judge_values max_body lengths types
judged_values max_body [] [] = refl
judged_values max_body (value ∷ []) [] = judged_one max_body value
judged_values max_body (value ∷ other ∷ values) [] = rw (many value other values) refl
judged_values max_body [] (content ∷ []) = missing_one max_body content
judged_values max_body (value ∷ []) (content ∷ []) = judged_two max_body value content
judged_values max_body (value ∷ other ∷ values) (content ∷ []) = rw (many value other values) (repeated_one content)
judged_values max_body lengths (content ∷ other ∷ types) =
    rw (many content other types, or-true (nat_lt 1 (length lengths))) refl

pub judge_notes_is : (max_body : ℕ) (lines : List Line) → judge_notes (notes_of max_body lines)
    ≡ judge_header max_body lines
unfolding notes_of judge_header
judge_notes_is max_body lines =
    judged_values max_body (values_of (codes "content-length") lines) (values_of (codes "content-type") lines)

-- what a verdict can be
abbrev pub IsVerdict : ℕ → Result ℕ HeaderFault → Type 0
IsVerdict max_body (Ok n) = n ≤ max_body
IsVerdict max_body (Err header.BadHeader) = ⊥
IsVerdict max_body (Err header.HeaderTooLong) = ⊥
IsVerdict max_body _ = Unit {0}

pub single_verdict : (max_body : ℕ) (lengths types : List (List ℕ))
    → IsVerdict max_body (judge_single max_body lengths types)
single_verdict max_body [] types = tt
single_verdict max_body (value ∷ values) types = grind (arith, common_steps, ltb-false)

pub is_verdict : (max_body : ℕ) (lines : List Line) → IsVerdict max_body (judge_header max_body lines)
unfolding judge_header
is_verdict max_body lines = grind (arith, common_steps, single_verdict)

pub judge_within : (max_body : ℕ) (lines : List Line) (n : ℕ) → judge_header max_body lines ≡ Ok n → n ≤ max_body
judge_within max_body lines n e = subst (IsVerdict max_body) e (is_verdict max_body lines)

pub judged_decided : (max_body : ℕ) (bytes : List ℕ) (k : ℕ) (fault : HeaderFault) → IsJudgedAt max_body bytes k fault
    → IsDecidedAt max_body bytes k fault
judged_decided max_body bytes k header.BadHeader at =
    absurd (subst (IsVerdict max_body) at.judged (is_verdict max_body at.lines))
judged_decided max_body bytes k header.HeaderTooLong at =
    absurd (subst (IsVerdict max_body) at.judged (is_verdict max_body at.lines))
judged_decided max_body bytes k _ at = at

-- The fault of a header that is whole.
pub whole_fault : (max_body : ℕ) (buffered rest : List ℕ) (notes : Notes) (fault : HeaderFault)
    → IsWhole max_body buffered notes → Err fault ≡ judge_notes notes → IsDecidedAt max_body (buffered ++ rest)
    (length buffered - 1) fault
whole_fault max_body buffered rest notes fault whole error =
    let judged : judge_header max_body whole.lines ≡ Err fault =
    sym (error ∙ ap judge_notes whole.noted ∙ judge_notes_is max_body whole.lines) in
    let some : 0 < length buffered = grind (arith, common_steps, length-append) in
    let last : length buffered ≡ length buffered - 1 + 1 = omega arith in
    judged_decided max_body (buffered ++ rest) (length buffered - 1) fault (grind (
      arith,
      common_steps,
      take_at,
      length-append,
    ))

-- A header that is whole, with nothing of its body.
pub whole_body : (max_body : ℕ) (buffered : List ℕ) (notes : Notes) (wanted start stop_at : ℕ)
    → IsWhole max_body buffered notes → Ok wanted ≡ judge_notes notes → start ≡ length buffered
    → stop_at ≡ start + wanted → IsInBody max_body buffered start stop_at
whole_body max_body buffered notes wanted start stop_at whole error starts ends =
    let good : judge_header max_body whole.lines ≡ Ok wanted =
    sym (error ∙ ap judge_notes whole.noted ∙ judge_notes_is max_body whole.lines) in
    record {
      lines = whole.lines;
      body = [];
      wanted = wanted;
      each = whole.each;
      is = whole.is ∙ sym (append-nil (header_of whole.lines));
      starts = starts ∙ ap length whole.is;
      short = omega (arith, starts, whole.short);
      good = good;
      ends = ends;
      within = omega (arith, starts, ends);
      small = judge_within max_body whole.lines wanted good;
    }

-- A body that is all here.
pub body_frame : (max_body : ℕ) (buffered : List ℕ) (start stop_at : ℕ) → IsInBody max_body buffered start stop_at
    → length buffered ≡ stop_at → IsFrame max_body buffered
body_frame max_body buffered start stop_at in_body all = grind (arith, common_steps, length-append)

pub whole_wanted : (max_body : ℕ) (buffered : List ℕ) (notes : Notes) (wanted : ℕ) → IsWhole max_body buffered notes
    → Ok wanted ≡ judge_notes notes → wanted ≤ max_body
whole_wanted max_body buffered notes wanted whole error =
    judge_within max_body whole.lines wanted
    (sym (error ∙ ap judge_notes whole.noted ∙ judge_notes_is max_body whole.lines))

-- Where the colon of a line stands, and what the notes of a header are behind one more line.
use Rattle.lsp_frame.proofs.Prelude.{◌≡◌, ℕ, ◌+◌, ◌-◌, ◌<◌, Bool, true, false, List, [], ◌∷◌, ◌++◌, length, get_or, take, drop, refl, sym, ◌∙◌, ap, append_assoc, append-nil, arith, Option, Some, None, if◌then◌else◌, length-append, take_at, drop_at, get_or_at, get_or_append_left, eqb-true, IsFirstByte, is_byte, Line, IsLine, line_bytes, is_text, has_good_charset, values_of, common_steps}
use Rattle.lsp_frame.specs.inside.Stage.{length_said, length_noted, length_of, charset_noted, charset_of, noted, notes_of}
use Rattle.lsp_frame.specs.declared.framer.notes.Length.TheVariants as said
use Rattle.lsp_frame.specs.declared.framer.notes.Charset.TheVariants as named

-- The first colon of a line stands behind its name.
pub colon_at : (line : Line) (place : Option ℕ) → IsLine line → IsFirstByte (is_byte 58) (line_bytes line) place
    → place ≡ Some (length line.name)
colon_at line None is first =
    let rest : List ℕ = line.value ++ (13 ∷ 10 ∷ []) in
    let there : get_or (line_bytes line) (length line.name) 0 ≡ 58 =
    get_or_at line.name 58 rest 0 (length line.name) refl in
    absurd (first (length line.name) (omega arith) (omega (arith, length-append line.name (58 ∷ rest)))
    (ap (is_byte 58) there))
colon_at line (Some k) is first =
    let rest : List ℕ = line.value ++ (13 ∷ 10 ∷ []) in
    let there : get_or (line_bytes line) (length line.name) 0 ≡ 58 =
    get_or_at line.name 58 rest 0 (length line.name) refl in
    let passes : is_byte 58 (get_or (line_bytes line) k 0) ≡ true = first.1 in
    let at_k : get_or (line_bytes line) k 0 ≡ 58 = eqb-true (get_or (line_bytes line) k 0) 58 passes in
    let not_below : k < length line.name → ⊥ = grind (arith, common_steps, get_or_append_left) in
    let not_above : length line.name < k → ⊥ =
    λ above. first.0.before (length line.name) (omega arith) above (ap (is_byte 58) there) in
    let e : k ≡ length line.name = omega (arith, not_below, not_above) in
    ap Some e

pub name_of_line : (line : Line) → take (length line.name) (line_bytes line) ≡ line.name
name_of_line line = take_at line.name (58 ∷ (line.value ++ (13 ∷ 10 ∷ []))) (length line.name) refl

pub value_of_line : (line : Line) → take (length (line_bytes line) - 2 - (length line.name + 1))
    (drop (length line.name + 1) (line_bytes line)) ≡ line.value
value_of_line line =
    let front : List ℕ = line.name ++ 58 ∷ [] in
    let rest : List ℕ = line.value ++ (13 ∷ 10 ∷ []) in
    let cut : line_bytes line ≡ front ++ rest = simp append_assoc in
    let front_len : length front ≡ length line.name + 1 = omega (arith, length-append line.name (58 ∷ [])) in
    let dropped : drop (length line.name + 1) (line_bytes line) ≡ rest =
    ap (drop (length line.name + 1)) cut ∙ drop_at front rest (length line.name + 1) front_len in
    let count : length line.value ≡ length (line_bytes line) - 2 - (length line.name + 1) =
    omega (arith, ap length cut, length-append front rest, length-append line.value (13 ∷ 10 ∷ []), front_len) in
    rw dropped (take_at line.value (13 ∷ 10 ∷ []) (length (line_bytes line) - 2 - (length line.name + 1)) count)

-- What a whole line is split into.
pub split_is : (bytes : List ℕ) (place : Option ℕ) (k : ℕ) (line : Line) → IsFirstByte (is_byte 58) bytes place
    → ((at : ℕ) → place ≡ Some at → k ≡ at) → IsLine line → bytes ≡ line_bytes line → (take k bytes ≡ line.name)
    × (take (length bytes - 2 - (k + 1)) (drop (k + 1) bytes) ≡ line.value)
split_is bytes place k line first chosen is e = grind (arith, common_steps, colon_at, name_of_line, value_of_line)

-- One more line.
pub values_of-push : (name : List ℕ) (lines : List Line) (line : Line) → values_of name (lines ++ line ∷ [])
    ≡ values_of name lines ++ (if is_text name line.name then line.value ∷ [] else [])
values_of-push name [] line = refl
values_of-push name (other ∷ lines) line = grind (arith, common_steps, (values_of-push name lines line))

pub said_twice : (max_body : ℕ) (value other : List ℕ) → length_noted max_body (length_said max_body value) other
    ≡ said.Repeated
said_twice max_body value other = grind (arith, common_steps)

pub length_of-push : (max_body : ℕ) (values : List (List ℕ)) (value : List ℕ)
    → length_of max_body (values ++ value ∷ []) ≡ length_noted max_body (length_of max_body values) value
length_of-push max_body (first ∷ []) value = sym (said_twice max_body first value)
length_of-push max_body _ value = refl

pub named_twice : (value other : List ℕ) → charset_noted (if has_good_charset value then named.Good else named.Bad)
    other ≡ named.Repeated
named_twice value other = grind (arith, common_steps)

pub charset_of-push : (values : List (List ℕ)) (value : List ℕ) → charset_of (values ++ value ∷ [])
    ≡ charset_noted (charset_of values) value
charset_of-push (first ∷ []) value = sym (named_twice first value)
charset_of-push _ value = refl

pub length_with : (max_body : ℕ) (values : List (List ℕ)) (value : List ℕ) (b : Bool)
    → (if b then length_noted max_body (length_of max_body values) value else length_of max_body values)
    ≡ length_of max_body (values ++ (if b then value ∷ [] else []))
length_with max_body values value true = sym (length_of-push max_body values value)
length_with max_body values value false = ap (length_of max_body) (sym (append-nil values))

pub charset_with : (values : List (List ℕ)) (value : List ℕ) (b : Bool)
    → (if b then charset_noted (charset_of values) value else charset_of values)
    ≡ charset_of (values ++ (if b then value ∷ [] else []))
charset_with values value true = sym (charset_of-push values value)
charset_with values value false = ap charset_of (sym (append-nil values))

pub noted_is : (max_body : ℕ) (lines : List Line) (line : Line) → noted max_body (notes_of max_body lines) line.name
    line.value ≡ notes_of max_body (lines ++ line ∷ [])
unfolding notes_of
noted_is max_body lines line = grind (arith, common_steps, length_with, values_of-push, charset_with)

-- What stands round the first `=`, and how numbers grow.
use Rattle.lsp_frame.proofs.Prelude.{◌≡◌, ℕ, ◌+◌, ◌-◌, ◌*◌, ◌<◌, ◌≤◌, Bool, true, false, not, ◌&&◌, List, [], ◌∷◌, length, get_or, take, drop, refl, sym, ◌∙◌, ap, subst, arith, Some, None, fold, codes, if◌then◌else◌, list_any, list_all, slice_split, position_or_len, take_rest, at_drop_more, get_or_default, length-take, length-drop, number, IsFirstByte, is_byte, is_equals, is_semicolon, is_text, is_good_trimmed, is_good_parameter, has_good_charset, is_utf8_name, unquoted, trimmed, common_steps}
use Rattle.std.proofs.lemmas.Bool.{false_from_ne_true}
use Rattle.std.proofs.lemmas.List.Sums.{position_or_len_is}
use Rattle.std.proofs.lemmas.List.Recursion.{or_from_places, or_at}
use Rattle.std.proofs.lemmas.List.Splits.{slice_split_first, slice_split_none}

pub first_place : (a : ℕ) (hay : List ℕ) (k : ℕ) → IsFirstByte (is_byte a) hay (Some k)
    → position_or_len (is_byte a) hay ≡ k
first_place a hay k first = grind (arith, common_steps, position_or_len_is, false_from_ne_true)

pub some_equals : (hay : List ℕ) (k : ℕ) → IsFirstByte (is_byte 61) hay (Some k) → list_any is_equals hay ≡ true
some_equals hay k first = or_at (list_any is_equals) is_equals refl (λ x xs. refl) hay k 0 first.0.high first.1

pub no_equals : (hay : List ℕ) → IsFirstByte (is_byte 61) hay None → list_any is_equals hay ≡ false
no_equals hay first = or_from_places (list_any is_equals) is_equals refl (λ x xs. refl) hay 0
    (λ i below. false_from_ne_true _ (first i (omega arith) below))

-- A part of a Content-Type without `=`, and one with its first `=` at place k.
pub good_without : (part : List ℕ) → IsFirstByte (is_byte 61) part None → is_good_trimmed part ≡ true
good_without part first = rw (no_equals part first) refl

pub good_with : (part : List ℕ) (k : ℕ) → IsFirstByte (is_byte 61) part (Some k) → is_good_trimmed part
    ≡ (if is_text (codes "charset") (trimmed (take k part)) then is_utf8_name (unquoted (trimmed (drop (k + 1) part)))
    else true)
good_with part k first = rw (some_equals part k first, first_place 61 part k first) refl

-- A number doesn't fall with more digits.
pub number_grows : (n : ℕ) (bs : List ℕ) → n ≤ fold (λ (m b : ℕ). 10 * m + (b - 48)) n bs
number_grows n [] = omega arith
number_grows n (b ∷ bs) = let h = number_grows (10 * n + (b - 48)) bs in omega (arith, h)

-- The same as the code finds it: t is the part without blanks at its ends, name what stands before the `=`.
pub parameter_without : (part t : List ℕ) → t ≡ trimmed part → IsFirstByte (is_byte 61) t None
    → true ≡ is_good_parameter part
parameter_without part t e first = sym (subst (λ (x : List ℕ). is_good_trimmed x ≡ true) e (good_without t first))

pub parameter_other : (part t name : List ℕ) (k : ℕ) (r : Bool) → t ≡ trimmed part → IsFirstByte (is_byte 61) t (Some k)
    → name ≡ trimmed (take k t) → r ≡ is_text (codes "charset") name → r ≡ false → not r ≡ is_good_parameter part
parameter_other part t name k r e first named answer is_not =
    let other : is_text (codes "charset") (trimmed (take k t)) ≡ false = ap (is_text (codes "charset")) (sym named)
    ∙ sym answer ∙ is_not in
    let good : is_good_trimmed t ≡ true = good_with t k first ∙ rw other refl in
    ap not is_not ∙ sym (subst (λ (x : List ℕ). is_good_trimmed x ≡ true) e good)

pub parameter_charset : (part t name value inner : List ℕ) (k : ℕ) (r answer : Bool) → t ≡ trimmed part
    → IsFirstByte (is_byte 61) t (Some k) → name ≡ trimmed (take k t) → r ≡ is_text (codes "charset") name → r ≡ true
    → value ≡ trimmed (take (length t - (k + 1)) (drop (k + 1) t)) → inner ≡ unquoted value
    → answer ≡ is_utf8_name inner → answer ≡ is_good_parameter part
parameter_charset part t name value inner k r answer e first named asked is valued quoted error =
    let charset : is_text (codes "charset") (trimmed (take k t)) ≡ true = ap (is_text (codes "charset")) (sym named)
    ∙ sym asked ∙ is in
    let rest : value ≡ trimmed (drop (k + 1) t) = valued ∙ ap trimmed (take_rest t (k + 1)) in
    let good : is_good_trimmed t ≡ is_utf8_name (unquoted (trimmed (drop (k + 1) t))) =
    good_with t k first ∙ rw charset refl in
    error ∙ ap is_utf8_name (quoted ∙ ap unquoted rest) ∙ sym good ∙ ap is_good_trimmed e

pub number_above : (digits : List ℕ) (n i most : ℕ) → fold (λ (m b : ℕ). 10 * m + (b - 48)) n (drop i digits)
    ≡ number digits → i < length digits → most < n * 10 + (get_or digits i 0 - 48) → most < number digits
number_above digits n i most is within above = grind (arith, common_steps, at_drop_more, number_grows)

-- What is cut at the first `;`.
pub split_some : (hay : List ℕ) (k : ℕ) → IsFirstByte (is_byte 59) hay (Some k) → slice_split is_semicolon hay
    ≡ take k hay ∷ slice_split is_semicolon (take (length hay - (k + 1)) (drop (k + 1) hay))
split_some hay k first = grind (arith, common_steps, first_place, slice_split_first, take_rest)

pub split_none : (hay : List ℕ) → IsFirstByte (is_byte 59) hay None → slice_split is_semicolon hay ≡ hay ∷ []
split_none hay first =
    slice_split_none is_semicolon hay
    (λ k d below. false_from_ne_true _ (λ e. first k (omega arith) below (ap is_semicolon (get_or_default hay k 0 d
    below) ∙ e)))

pub all_split_some : (hay : List ℕ) (k : ℕ) → IsFirstByte (is_byte 59) hay (Some k)
    → list_all is_good_parameter (slice_split is_semicolon hay)
    ≡ (is_good_parameter (take k hay) && list_all is_good_parameter
    (slice_split is_semicolon (take (length hay - (k + 1)) (drop (k + 1) hay))))
all_split_some hay k first = ap (list_all is_good_parameter) (split_some hay k first)

pub all_split_none : (hay : List ℕ) → IsFirstByte (is_byte 59) hay None
    → list_all is_good_parameter (slice_split is_semicolon hay) ≡ (is_good_parameter hay && true)
all_split_none hay first = ap (list_all is_good_parameter) (split_none hay first)

pub rest_shorter : (hay : List ℕ) (k n : ℕ) → length hay ≤ n → length (take (length hay - (k + 1)) (drop (k + 1) hay))
    ≤ n
rest_shorter hay k n h = grind (arith, common_steps, length-take, length-drop)

-- The answer at a part that is bad, behind good ones, and at the last part.
pub bad_part : (hay : List ℕ) (k : ℕ) (r : Bool) → IsFirstByte (is_byte 59) hay (Some k)
    → r ≡ is_good_parameter (take k hay) → r ≡ false → (all : Bool)
    → list_all is_good_parameter (slice_split is_semicolon hay) ≡ all → false ≡ all
bad_part hay k r first error is all e =
    let bad : is_good_parameter (take k hay) ≡ false = sym error ∙ is in
    let none : list_all is_good_parameter (slice_split is_semicolon hay) ≡ false =
    all_split_some hay k first ∙ rw bad refl in
    sym none ∙ e

pub good_part : (hay : List ℕ) (k : ℕ) (r : Bool) → IsFirstByte (is_byte 59) hay (Some k)
    → r ≡ is_good_parameter (take k hay) → r ≡ true → (all : Bool)
    → list_all is_good_parameter (slice_split is_semicolon hay) ≡ all
    → list_all is_good_parameter (slice_split is_semicolon (take (length hay - (k + 1)) (drop (k + 1) hay))) ≡ all
good_part hay k r first error is all e =
    let good : is_good_parameter (take k hay) ≡ true = sym error ∙ is in
    let rest : list_all is_good_parameter (slice_split is_semicolon hay) ≡ list_all is_good_parameter
    (slice_split is_semicolon (take (length hay - (k + 1)) (drop (k + 1) hay))) =
    all_split_some hay k first ∙ rw good refl in
    sym rest ∙ e

pub last_part : (hay : List ℕ) (r : Bool) → IsFirstByte (is_byte 59) hay None → r ≡ is_good_parameter hay → (all : Bool)
    → list_all is_good_parameter (slice_split is_semicolon hay) ≡ all → r ≡ all
last_part hay r first error all e = grind (arith, common_steps, all_split_none)

pub first_part : (value : List ℕ) (k : ℕ) → IsFirstByte (is_byte 59) value (Some k) → has_good_charset value
    ≡ list_all is_good_parameter (slice_split is_semicolon (take (length value - (k + 1)) (drop (k + 1) value)))
first_part value k first = ap (λ (parts : List (List ℕ)). list_all is_good_parameter (drop 1 parts))
    (split_some value k first)

pub only_part : (value : List ℕ) → IsFirstByte (is_byte 59) value None → has_good_charset value ≡ true
only_part value first = ap (λ (parts : List (List ℕ)). list_all is_good_parameter (drop 1 parts))
    (split_none value first)

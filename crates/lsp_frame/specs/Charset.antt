-- Which charset a Content-Type names. (LSP 3.17, Base Protocol, Header Part)
use Rattle.std.specs.Prelude.{ℕ, ◌-◌, Bool, true, ◌||◌, ◌&&◌, ◌==◌, nat_le, if◌then◌else◌, List, [], ◌∷◌, length, take, drop, reverse, slice_index, codes}
use Rattle.std.specs.List.{list_any, list_all, slice_split, before_first, after_first}
use Rattle.std.specs.Str.{str_eq_ignore_ascii_case}

-- A space or a tab.
abbrev pub is_blank : ℕ → Bool
is_blank b = (b == 32) || (b == 9)

-- The bytes without the blanks at their start.
abbrev pub trimmed_start : List ℕ → List ℕ
trimmed_start [] = []
trimmed_start (b ∷ bs) = if is_blank b then trimmed_start bs else b ∷ bs

-- The bytes without the blanks at their end.
abbrev pub trimmed_end : List ℕ → List ℕ
trimmed_end bs = reverse (trimmed_start (reverse bs))

-- The bytes without the blanks at both ends.
abbrev pub trimmed : List ℕ → List ℕ
trimmed bs = trimmed_end (trimmed_start bs)

-- Whether the bytes are this ASCII text, without regard to case.
abbrev pub is_text : List ℕ → List ℕ → Bool
is_text text bs = str_eq_ignore_ascii_case bs text

-- Whether the bytes begin and end with a double quote.
abbrev pub is_quoted : List ℕ → Bool
is_quoted bs = nat_le 2 (length bs) && (slice_index bs 0 == 34)
    && (slice_index bs (length bs - 1) == 34)

-- The bytes without one pair of double quotes around them.
abbrev pub unquoted : List ℕ → List ℕ
unquoted bs = if is_quoted bs then drop 1 (take (length bs - 1) bs) else bs

-- The byte `=`.
abbrev pub is_equals : ℕ → Bool
is_equals b = b == 61

-- Whether the bytes are a name of UTF-8. (LSP 3.17 recommends that `utf8` is taken for `utf-8`.)
abbrev pub is_utf8_name : List ℕ → Bool
is_utf8_name bs = is_text (codes "utf-8") bs || is_text (codes "utf8") bs

-- A parameter is good if it has no `=`, or another name than `charset`, or names UTF-8 after the
-- `=`.
abbrev pub is_good_trimmed : List ℕ → Bool
is_good_trimmed part =
    if list_any is_equals part then
    if is_text (codes "charset") (trimmed (before_first is_equals part)) then
    is_utf8_name (unquoted (trimmed (after_first is_equals part)))
    else true
    else true

-- A parameter, maybe with blanks around it, is good if it is without them.
abbrev pub is_good_parameter : List ℕ → Bool
is_good_parameter part = is_good_trimmed (trimmed part)

-- The byte `;`.
abbrev pub is_semicolon : ℕ → Bool
is_semicolon b = b == 59

-- A Content-Type is good if each of its parts is good. It is cut at each `;`, and the first part,
-- the MIME type, is ignored. (In LSP 3.17 a receiver should answer another charset by an error.
-- Here it is a fault, which ends the stream without an answer.)
abbrev pub has_good_charset : List ℕ → Bool
has_good_charset value = list_all is_good_parameter (drop 1 (slice_split is_semicolon value))

-- What a whole header says: the length of the body, or what is wrong with the header.
use Rattle.std.specs.Prelude.{ℕ, ◌+◌, ◌*◌, ◌-◌, Bool, not, ◌||◌, ◌&&◌, nat_lt, nat_le, if◌then◌else◌, List, [], ◌∷◌, length, fold, codes, Result, Ok, Err}
use Rattle.std.specs.List.{list_all}
use Rattle.lsp_frame.specs.Header.{Line}
use Rattle.lsp_frame.specs.Charset.{trimmed, is_text, has_good_charset}
use Rattle.lsp_frame.specs.declared.fault.HeaderFault.{HeaderFault}
use Rattle.lsp_frame.specs.declared.fault.HeaderFault.TheVariants.{MissingLength, RepeatedHeader, BadLength, BodyTooLong, BadCharset}

-- The values of the lines with a name, which is compared without regard to ASCII case.
abbrev pub values_of : List ℕ → List Line → List (List ℕ)
values_of name [] = []
values_of name (line ∷ lines) = if is_text name line.name then
    line.value ∷ values_of name lines else values_of name lines

-- An ASCII digit.
abbrev pub is_digit : ℕ → Bool
is_digit b = nat_le 48 b && nat_le b 57

-- One or more digits, and nothing else.
abbrev pub is_number : List ℕ → Bool
is_number bs = nat_lt 0 (length bs) && list_all is_digit bs

-- The number that digits write; zeros may come first.
abbrev pub number : List ℕ → ℕ
number bs = fold (λ n b. 10 * n + (b - 48)) 0 bs

-- The length of the body, or the first fault, of these values of Content-Length and of
-- Content-Type, if neither has two.
abbrev pub judge_single : ℕ → List (List ℕ) → List (List ℕ) → Result ℕ HeaderFault
judge_single max_body [] types = Err MissingLength
judge_single max_body (value ∷ values) types =
    let digits = trimmed value in
    if not (is_number digits) then Err BadLength
    else if nat_lt max_body (number digits) then Err BodyTooLong
    else if not (list_all has_good_charset types) then Err BadCharset
    else Ok (number digits)

-- The length of the body, or the first fault, of any values of Content-Length and Content-Type.
-- More than one of either is a fault.
abbrev pub judge_values : ℕ → List (List ℕ) → List (List ℕ) → Result ℕ HeaderFault
judge_values max_body lengths types =
    if nat_lt 1 (length lengths) || nat_lt 1 (length types) then Err RepeatedHeader
    else judge_single max_body lengths types

-- The length of the body after a header with these lines, or the first fault of the header.
unfoldable pub judge_header : ℕ → List Line → Result ℕ HeaderFault
judge_header max_body lines =
    judge_values max_body (values_of (codes "content-length") lines)
    (values_of (codes "content-type") lines)

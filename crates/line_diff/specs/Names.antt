-- Names of files as a person types them, and URIs that end so. Both are bytes.
use Rattle.std.specs.Prelude.{ℕ, ◌-◌, Bool, ◌||◌, ◌&&◌, if◌then◌else◌, length, drop, take, List, [], ◌∷◌, codes}
use Rattle.std.specs.Str.{bytes_eq}
use Rattle.percent_encoding.specs.Percent.{percent_decode}

-- A name without each `./` at its front.
abbrev pub bare : List ℕ → List ℕ
bare [] = []
bare (dot ∷ []) = dot ∷ []
bare (dot ∷ slash ∷ rest) =
    if bytes_eq (dot ∷ slash ∷ []) (codes "./") then bare rest else dot ∷ slash ∷ rest

-- Does a text end in another one?
abbrev pub ends_in : List ℕ → List ℕ → Bool
ends_in text ending = bytes_eq (drop (length text - length ending) text) ending

-- Does a URI end in a name, as it is written or with each escape read? `%` and two hex digits are an
-- escape, of one byte.
unfoldable pub ends_so : List ℕ → List ℕ → Bool
ends_so uri name = ends_in uri (bare name) || ends_in (percent_decode uri) (bare name)

-- Is a URI that of a file?
abbrev pub is_file : List ℕ → Bool
is_file uri = bytes_eq (take 7 uri) (codes "file://")

-- Is a URI this one, or that of the file with this path, as it is written or with each escape read?
unfoldable pub is_exactly : List ℕ → List ℕ → Bool
is_exactly uri name = bytes_eq uri name || bytes_eq (percent_decode uri) name
    || (is_file uri && bytes_eq (drop 7 (percent_decode uri)) name)

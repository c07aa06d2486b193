-- What only private contracts use of `Agreement`.
use Rattle.lsp_message.specs.Prelude.{ℕ, List, Option, option_map, Data, no_members, get_member}
use Rattle.lsp_message.specs.Values.{members_in, optional}

-- The member of this name of an object. An object that is missing has none.
abbrev pub optional_member : List ℕ → Option Data → Option (Option Data)
optional_member name value = option_map (get_member name) (optional no_members members_in value)

-- The value at the head of tokens, as `serde_json` reads it, and the tokens after it. The suffix
-- `_at`: read at the head of tokens.
use Rattle.lsp_message.specs.Prelude.{ℕ, List, length, Option, option_map, Token, Data, Items, no_items, item, Members, no_members, of_json, of_items, of_members, converted}
use Rattle.json.specs.Json.{items, members, value}

-- A value whose arrays and objects nest at most `depth` deep.
abbrev pub value_at : ℕ → List Token → Option (Data × List Token)
value_at depth ts = converted of_json (value depth ts)

-- Items, and then more.
abbrev pub items_then : Items → Items → Items
items_then no_items more = more
items_then (item d ds) more = item d (items_then ds more)

-- At most `count` items, after those found before, and the bracket that closes their array.
abbrev pub items_at : ℕ → ℕ → Items → List Token → Option (Items × List Token)
items_at depth count found ts =
    converted (λ js. option_map (items_then found) (of_items js)) (items (value depth) count ts)

-- The rest of an array, after its bracket.
abbrev pub array_at : ℕ → List Token → Option (Items × List Token)
array_at depth ts = items_at depth (length ts) no_items ts

-- At most `count` members, put one after another into those found before, and the brace that closes
-- their object.
abbrev pub members_at : ℕ → ℕ → Members → List Token → Option (Members × List Token)
members_at depth count found ts =
    converted (λ ms. of_members ms found) (members (value depth) count ts)

-- The rest of an object, after its brace.
abbrev pub object_at : ℕ → List Token → Option (Members × List Token)
object_at depth ts = members_at depth (length ts) no_members ts

-- The tokens of a message's value, as the writer writes them one after another.
use Rattle.std.specs.Prelude.{◌≡◌, ◌∷◌, ◌++◌, if◌then◌else◌}
use Rattle.lsp_message.specs.Prelude.{List, [], Token, Data, Members, no_members, member, Encoding, name_of, Offers}
use Rattle.json.specs.Token as token
use Rattle.json.specs.Tree.{json_tokens}
use Rattle.json.specs.Written.{Written}
use Rattle.serde_json.specs.Written.{outline}
use Rattle.lsp_message.specs.Agreement.{is_offered}

-- The tokens of a JSON value.
abbrev pub tokens_of : Data → List Token
tokens_of value = json_tokens (outline value)

-- A writer has these tokens after those that it had.
pub record Appends (old new : Written) (ts : List Token) : Type 0 where
  pub before : new.before ≡ old.before
  pub tokens : new.tokens ≡ old.tokens ++ ts

-- Members, and then more.
abbrev pub joined : Members → Members → Members
joined no_members more = more
joined (member name value rest) more = member name value (joined rest more)

-- The tokens of members, without the brace after them.
abbrev pub member_tokens : Members → List Token
member_tokens no_members = []
member_tokens (member name value rest) = token.key name ∷ (tokens_of value ++ member_tokens rest)

-- The name of an encoding, where it is offered.
abbrev pub offer_tokens : Offers → Encoding → List Token
offer_tokens offers encoding = if is_offered offers encoding then
    token.string (name_of encoding) ∷ [] else []

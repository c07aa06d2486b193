-- Tokens that are written one after another.
use Rattle.lsp_message.proofs.Prelude.{◌≡◌, List, [], ◌∷◌, ◌++◌, map, refl, sym, ap, ◌∙◌, append_assoc, on_ok_weaker, flat_map, Result, Ok, OnOk, Token, items_tokens, members_tokens, Data, Members, no_members, member, items_of, items_outline, members_outline, Appends, joined, member_tokens, tokens_of}
use Rattle.json.specs.Written.{Written, Writes}
use Rattle.json.specs.Token as token

-- some tokens, and then more
pub add : {old mid new : Written} {xs ys : List Token} → Appends old mid xs → Appends mid new ys
    → Appends old new (xs ++ ys)
add {old} {xs = xs} {ys = ys} first rest = record {
  before = rest.before ∙ first.before;
  tokens = rest.tokens ∙ ap (λ ts. ts ++ ys) first.tokens ∙ append_assoc old.tokens xs ys;
}

-- a token, and then more
pub put : {E : Type 0} {u : Unit {0}} {old mid new : Written} {t : Token} {ts : List Token}
    → Writes {E = E} (Ok u) old mid t → Appends mid new ts → Appends old new (t ∷ ts)
put {t = t} w rest = add {xs = t ∷ []} (record { before = w.room.0; tokens = w.ok }) rest

-- the last token
pub ending : {E P : Type 0} {old new : Written} {t : Token} → (r : Result (Unit {0}) E) → (Appends old new (t ∷ []) → P)
    → Writes r old new t → OnOk r P
ending r whole w = on_ok_weaker r (λ e. whole (record { before = w.room.0; tokens = e })) w.ok

-- the tokens of joined members
pub joined_tokens : (ms more : Members) → member_tokens (joined ms more) ≡ member_tokens ms ++ member_tokens more
joined_tokens no_members more = refl
joined_tokens (member name d ms) more =
    ap (λ ts. token.key name ∷ (tokens_of d ++ ts)) (joined_tokens ms more)
    ∙ sym (append_assoc (token.key name ∷ tokens_of d) (member_tokens ms) (member_tokens more))

-- the tokens of an object's members, with the closing brace
pub object_tokens : (ms : Members) → members_tokens (members_outline ms) ≡ member_tokens ms ++ token.end_object ∷ []
object_tokens no_members = refl
object_tokens (member name d ms) =
    ap (λ ts. token.key name ∷ (tokens_of d ++ ts)) (object_tokens ms)
    ∙ sym (append_assoc (token.key name ∷ tokens_of d) (member_tokens ms) (token.end_object ∷ []))

-- the tokens of a list's items, with the closing bracket
pub array_tokens : {X : Type 0} (f : X → Data) (xs : List X)
    → items_tokens (items_outline (items_of (map f xs))) ≡ flat_map (λ x. tokens_of (f x)) xs ++ token.end_array ∷ []
array_tokens f [] = refl
array_tokens f (x ∷ xs) = ap (λ ts. tokens_of (f x) ++ ts) (array_tokens f xs)
    ∙ sym (append_assoc (tokens_of (f x)) _ _)

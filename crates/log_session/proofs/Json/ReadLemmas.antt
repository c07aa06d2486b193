-- What is read from a text in UTF-8: its texts are UTF-8, and its numbers fit.
use Rattle.log_session.proofs.Prelude.{◌≡◌, ℕ, zero, suc, ◌<◌, Bool, true, false, ◌&&◌, List, [], ◌∷◌, ◌++◌, Option, Some, None, option_map, option_and_then, IsUtf8, sym, subst, arith, Ordering, Less, Equal, Greater, FitsSigned, ◌≤◌, ◌^◌, nat_lt, nat_le, ⊤, if◌then◌else◌, pos, Float, w64, neg_ℤ, match_ordering, cond_both, and_parts, ltb-true, leb-true, Token, json_tokens, items_tokens, members_tokens, common_steps}
use Rattle.json.specs.Print.{ArePrintable}
use Rattle.json.proofs.Printed.Trees.{ArePrintable-json_tokens}
use Rattle.serde_json.specs.Data.{Num, unsigned, negative, float, Data, null, boolean, number, string, array, object, Items, no_items, item, Members, no_members, member, put}
use Rattle.serde_json.specs.Read.{number_of, of_json, of_items, of_members, read}
use Rattle.log_session.proofs.Json.WithinLemmas.{read_is, AllText, text_tokens}
use Rattle.json.specs.Json as json

-- ---- data

-- a negative number fits 64 bits with a sign
abbrev pub NumFits : Num → Type 0
NumFits (unsigned n) = ⊤
NumFits (negative z) = FitsSigned w64 z
NumFits (float x) = ⊤

-- Each string in a value is UTF-8, and each whole number fits.
abbrev mutual
  pub IsHeld : Data → Type 0
  IsHeld null = ⊤
  IsHeld (boolean b) = ⊤
  IsHeld (number n) = NumFits n
  IsHeld (string s) = IsUtf8 s
  IsHeld (array ds) = ItemsAreHeld ds
  IsHeld (object ms) = MembersAreHeld ms

  pub ItemsAreHeld : Items → Type 0
  ItemsAreHeld no_items = ⊤
  ItemsAreHeld (item d ds) = IsHeld d × ItemsAreHeld ds

  pub MembersAreHeld : Members → Type 0
  MembersAreHeld no_members = ⊤
  MembersAreHeld (member k d ms) = IsHeld d × MembersAreHeld ms

-- of what is there, if something is
abbrev pub OnSome : {A : Type 0} → (A → Type 0) → Option A → Type 0
OnSome P None = ⊤
OnSome P (Some a) = P a

pub on_map : {A B : Type 0} (P : A → Type 0) (Q : B → Type 0) (h : A → B) → ((a : A) → P a → Q (h a)) → (o : Option A)
    → OnSome P o → OnSome Q (option_map h o)
on_map P Q h k None x = tt
on_map P Q h k (Some a) x = k a x

pub on_then : {A B : Type 0} (P : A → Type 0) (Q : B → Type 0) (h : A → Option B) → ((a : A) → P a → OnSome Q (h a))
    → (o : Option A) → OnSome P o → OnSome Q (option_and_then h o)
on_then P Q h k None x = tt
on_then P Q h k (Some a) x = k a x

pub on_any : {A B : Type 0} (Q : B → Type 0) (h : A → Option B) → ((a : A) → OnSome Q (h a)) → (o : Option A)
    → OnSome Q (option_and_then h o)
on_any Q h k None = tt
on_any Q h k (Some a) = k a

pub held_ordered : {A : Type 0} (P : A → Type 0) (o : Ordering) (a b c : A) → P a → P b → P c
    → P (match_ordering o a b c)
held_ordered P Less a b c p q r = p
held_ordered P Equal a b c p q r = q
held_ordered P Greater a b c p q r = r

held_put : (k : List ℕ) (d : Data) (ms : Members) → IsHeld d → MembersAreHeld ms → MembersAreHeld (put k d ms)
held_put k d no_members p q = (p, tt)
held_put k d (member l e ms) p q = held_ordered MembersAreHeld _ (member k d (member l e ms)) (member l d ms)
    (member l e (put k d ms)) (p, q) (p, q.1) (q.0, held_put k d ms p q.1)

fits_negative : (n : ℕ) → 0 < n → n ≤ 2 ^ 63 → FitsSigned w64 (neg_ℤ (pos n))
fits_negative zero some small = absurd (omega arith)
fits_negative (suc n) some small = record { sfits = omega arith }

record HasNum (found : Option Num) : Type 0 where
  fits : OnSome NumFits found

a_float : (finite : Bool) (x : Float) → HasNum (if finite then Some (float x) else None)
a_float true x = record { fits = tt }
a_float false x = record { fits = tt }

a_natural : (whole finite : Bool) (n : ℕ) (x : Float) → HasNum (if whole && nat_lt n (2 ^ 64) then Some (unsigned n)
    else if finite then Some (float x) else None)
a_natural whole finite n x = grind (arith, common_steps, cond_both, nat_lt, a_float)

a_negative : (whole finite : Bool) (n : ℕ) (x : Float)
    → HasNum (if whole && nat_lt 0 n && nat_le n (2 ^ 63) then Some (negative (neg_ℤ (pos n))) else if finite then
    Some (float x) else None)
a_negative whole finite n x =
    grind (arith, common_steps, cond_both, nat_lt, nat_le, neg_ℤ, and_parts, fits_negative, ltb-true, leb-true, a_float)

either_num : (minus : Bool) (a b : Option Num) → HasNum a → HasNum b → HasNum (if minus then a else b)
either_num true a b p q = p
either_num false a b p q = q

number_read : (s : List ℕ) → HasNum (number_of s)
unfolding number_of
number_read s = search (either_num, a_negative, a_natural)

both_texts : (ts us : List Token) → AllText (ts ++ us) → AllText ts × AllText us
both_texts [] us has = (tt, has)
both_texts (t ∷ ts) us has = let more = both_texts ts us has.1 in ((has.0, more.0), more.1)

mutual
  held_of_json : (j : json.Json) → AllText (json_tokens j) → OnSome IsHeld (of_json j)
  held_of_json (json.number s) has = on_map NumFits IsHeld number (λ a x. x) (number_of s) (number_read s).fits
  held_of_json (json.string s) has = has.0
  held_of_json (json.array js) has = on_map ItemsAreHeld IsHeld array (λ ds x. x) (of_items js) (held_of_items js has.1)
  held_of_json (json.object ms) has = on_map MembersAreHeld IsHeld object (λ ds x. x) (of_members ms no_members)
      (held_of_members ms no_members has.1 tt)
  held_of_json _ has = tt

  held_of_items : (js : json.Items) → AllText (items_tokens js) → OnSome ItemsAreHeld (of_items js)
  held_of_items json.no_items has = tt
  held_of_items (json.item j js) has =
      let both = both_texts (json_tokens j) (items_tokens js) has in
      on_then IsHeld ItemsAreHeld _ (λ d x. on_map ItemsAreHeld ItemsAreHeld (item d) (λ ds y. (x, y)) (of_items js)
      (held_of_items js both.1)) (of_json j) (held_of_json j both.0)

  held_of_members : (ms : json.Members) (found : Members) → AllText (members_tokens ms) → MembersAreHeld found
      → OnSome MembersAreHeld (of_members ms found)
  held_of_members json.no_members found has so_far = so_far
  held_of_members (json.member k j ms) found has so_far =
      let both = both_texts (json_tokens j) (members_tokens ms) has.1 in
      on_then IsHeld MembersAreHeld _ (λ d x. held_of_members ms (put k d found) both.1 (held_put k d found x so_far))
      (of_json j) (held_of_json j both.0)

-- What is read from a text has texts.
pub read_held : (text : List ℕ) (d : Data) → IsUtf8 text → read text ≡ Some d → IsHeld d
read_held text d u e =
    let it = read_is text d e in
    let right = subst ArePrintable (sym it.1.tokens) (ArePrintable-json_tokens it.0 it.1.numbers) in
    subst (OnSome IsHeld) it.2 (held_of_json it.0 (subst AllText it.1.tokens (text_tokens text u right)))

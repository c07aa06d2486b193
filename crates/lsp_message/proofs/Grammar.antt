-- The grammar, a turn at a time, under the conversion to data.
use Rattle.lsp_message.proofs.Prelude.{◌≡◌, ◌<◌, ◌≤◌, ◌-◌, ℕ, zero, suc, List, [], ◌∷◌, ◌++◌, length, Option, Some, None, Result, Ok, Err, OnErr, option_map, option_and_then, refl, ap, ◌∙◌, arith, Token, Json, if_last, parse_map, after_end_array, read_key, value, value_is, value-begin_array, value-begin_object, items_more, items_end, members_more, members_no_key, members_end, read_key-shorter, Num, Data, array, object, Items, no_items, item, Members, no_members, put, of_json, of_items, of_members, converted, tokens, json_tokens, max_depth, read, items_then, value_at, items_at, members_at, array_at, object_at, kept_number, same_Some}
use Rattle.std.proofs.lemmas.Option.{some_pair_parts}
use Rattle.json.specs.Json as json
use Rattle.json.specs.Tree.{depth}
use Rattle.json.proofs.Printed.Trees.{value-json_tokens}

pub on_err : {A E P : Type 0} (r : Result A E) → P → OnErr r P
on_err (Ok a) h = tt
on_err (Err e) h = h

-- ---- the conversion of what was read

-- a value, and the tokens that follow it
abbrev with_rest : {B : Type 0} → List Token → Option B → Option (B × List Token)
with_rest ts o = option_map (λ b. (b, ts)) o

found_at : {B : Type 0} (ts rest : List Token) (b : B) (o : Option B) → with_rest ts o ≡ Some (b, rest)
    → (o ≡ Some b) × (ts ≡ rest)
found_at ts rest b None e = absurd (cc)
found_at ts rest b (Some x) e = let same = some_pair_parts x b ts rest e in (ap Some same.0, same.1)

none_at : {B : Type 0} (ts : List Token) (o : Option B) → with_rest ts o ≡ None → o ≡ None
none_at ts None e = refl
none_at ts (Some b) e = cc

-- what was read, before it was converted
source : {A B : Type 0} (f : A → Option B) (read : Option (A × List Token)) (b : B) (rest : List Token)
    → converted f read ≡ Some (b, rest) → (a : A) × (read ≡ Some (a, rest)) × (f a ≡ Some b)
source f None b rest e = absurd (cc)
source f (Some p) b rest e = let same = found_at p.1 rest b (f p.0) e in
    (p.0, ap (λ ts. Some (p.0, ts)) same.1, same.0)

-- the conversion of a part is that of the whole
converted_as : {A B C : Type 0} (f : B → Option C) (j : A → B) (g : A → Option C) → ((a : A) → f (j a) ≡ g a)
    → (r : Option (A × List Token)) → converted f (parse_map j r) ≡ converted g r
converted_as f j g same None = refl
converted_as f j g same (Some p) = ap (with_rest p.1) (same p.0)

pub mapped : {A B : Type 0} (f : A → B) (ts : List Token) (o : Option A) → with_rest ts (option_map f o)
    ≡ parse_map f (with_rest ts o)
mapped f ts None = refl
mapped f ts (Some a) = refl

converted_inside : {A B : Type 0} (d : B → Data) (f : A → Option B) (r : Option (A × List Token))
    → converted (λ a. option_map d (f a)) r ≡ parse_map d (converted f r)
converted_inside d f None = refl
converted_inside d f (Some p) = mapped d p.1 (f p.0)

-- a first part that is refused, before others
none_converted : {A B : Type 0} (f : A → Option B) (cons : Json → A → A) → ((j : Json) (a : A) → of_json j ≡ None
    → f (cons j a) ≡ None) → (more : json.Parse A) (o : Option (Json × List Token)) → converted of_json o ≡ None
    → converted f (option_and_then (λ q. parse_map (cons q.0) (more q.1)) o) ≡ None
none_converted f cons none more None e = refl
none_converted {A} {B} f cons none more (Some q) e = by (more q.1) where
  by : (r : Option (A × List Token)) → converted f (parse_map (cons q.0) r) ≡ None
  by None = refl
  by (Some p) = ap (with_rest p.1) (none q.0 p.0 (none_at q.1 (of_json q.0) e))

-- ---- the whole text

abbrev whole : Option (Json × List Token) → Option Data
whole read = option_and_then of_json (option_and_then (λ p. if_last p.0 p.1) read)

pub text_read : (text : List ℕ) (d : Data) → value_at max_depth (tokens text) ≡ Some (d, []) → read text ≡ Some d
text_read text d e = let s = source of_json (value max_depth (tokens text)) d [] e in ap whole s.1 ∙ s.2

-- a text whose tokens are those of a value is read as it
pub read_json : (text : List ℕ) (j : Json) (d : Data) → tokens text ≡ json_tokens j ++ [] → depth j ≤ max_depth
    → of_json j ≡ Some d → read text ≡ Some d
read_json text j d is within same =
    ap (λ ts. whole (value max_depth ts)) is ∙ ap whole (value-json_tokens j max_depth [] within) ∙ same

-- ---- a value

pub value_at-nil : (depth : ℕ) (ts : List Token) → ts ≡ [] → value_at depth ts ≡ None
value_at-nil depth ts none = ap (value_at depth) none ∙ ap (converted of_json) (value_is depth [])

-- the number that was kept of a token
pub parsed : (f : Data) (o : Option Num) → Some f ≡ option_map kept_number o
    → (n : Num) × (o ≡ Some n) × (f ≡ kept_number n)
parsed f None kind = absurd (cc)
parsed f (Some n) kind = (n, refl, same_Some _ _ kind)

pub unparsed : (o : Option Num) → None ≡ option_map kept_number o → o ≡ None
unparsed None none = refl
unparsed (Some n) none = absurd (cc)

pub value_at-shallow_array : (depth : ℕ) (ts : List Token) → depth ≡ 0 → value_at depth (Token.begin_array ∷ ts) ≡ None
value_at-shallow_array zero ts e = ap (converted of_json) (value_is 0 (Token.begin_array ∷ ts))
value_at-shallow_array (suc d) ts e = absurd (omega (arith, e))

pub value_at-shallow_object : (depth : ℕ) (ts : List Token) → depth ≡ 0 → value_at depth (Token.begin_object ∷ ts)
    ≡ None
value_at-shallow_object zero ts e = ap (converted of_json) (value_is 0 (Token.begin_object ∷ ts))
value_at-shallow_object (suc d) ts e = absurd (omega (arith, e))

-- ---- a loop

-- What begins at `start` goes on with `ts`, once this was found.
pub record IsLeft {S : Type 0} (at : ℕ → S → List Token → Option (S × List Token)) (none : S) (start : List Token)
    (found : S) (ts : List Token) : Type 0 where
  pub count : ℕ
  pub enough : length ts ≤ count
  pub fewer : length ts ≤ length start
  pub same : at (length start) none start ≡ at count found ts

pub left_first : {S : Type 0} (at : ℕ → S → List Token → Option (S × List Token)) (none : S) (start : List Token)
    → IsLeft at none start none start
left_first at none start = record { count = length start; enough = omega arith; fewer = omega arith; same = refl }

left_next : {S : Type 0} {at : ℕ → S → List Token → Option (S × List Token)} {none found : S} {start ts : List Token}
    (h : IsLeft at none start found ts) (next : S) (rest : List Token) → length rest < length ts
    → (0 < h.count → at h.count found ts ≡ at (h.count - 1) next rest) → IsLeft at none start next rest
left_next h next rest less turn = record {
  count = h.count - 1;
  enough = omega (arith, less, h.enough);
  fewer = omega (arith, less, h.fewer);
  same = h.same ∙ turn (omega (arith, less, h.enough));
}

-- ---- an array

-- items after those that were found
abbrev after : Items → json.Items → Option Items
after found js = option_map (items_then found) (of_items js)

pub value_at-array : (depth : ℕ) (ts : List Token) → 0 < depth → value_at depth (Token.begin_array ∷ ts)
    ≡ parse_map array (array_at (depth - 1) ts)
value_at-array depth ts h =
    let nested = json.items (value (depth - 1)) (length ts) ts in
    ap (converted of_json) (value-begin_array depth ts h)
    ∙ converted_as of_json json.array (λ js. option_map array (after no_items js)) (λ js. none_found (of_items js))
    nested
    ∙ converted_inside array (after no_items) nested
  where
    none_found : (o : Option Items) → option_map array o ≡ option_map array (option_map (items_then no_items) o)
    none_found None = refl
    none_found (Some ds) = refl

then_nothing : (found : Items) → items_then found no_items ≡ found
then_nothing no_items = refl
then_nothing (item d found) = ap (item d) (then_nothing found)

-- one item more was found
abbrev pub one_more : Items → Data → Items
one_more found d = items_then found (item d no_items)

one_more_then : (found : Items) (d : Data) (ds : Items) → items_then found (item d ds)
    ≡ items_then (one_more found d) ds
one_more_then no_items d ds = refl
one_more_then (item e found) d ds = ap (item e) (one_more_then found d ds)

one_more_of : (found : Items) (d : Data) (o : Option Items) → option_map (items_then found) (option_map (item d) o)
    ≡ option_map (items_then (one_more found d)) o
one_more_of found d None = refl
one_more_of found d (Some ds) = ap Some (one_more_then found d ds)

items_turn : (depth n : ℕ) (found : Items) (ts rest : List Token) (d : Data) → 0 < n → after_end_array ts ≡ None
    → value_at depth ts ≡ Some (d, rest) → items_at depth n found ts ≡ items_at depth (n - 1) (one_more found d) rest
items_turn depth n found ts rest d some going read =
    let s = source of_json (value depth ts) d rest read in
    ap (converted (after found)) (items_more (value depth) n ts rest s.0 some going s.1)
    ∙ converted_as (after found) (json.item s.0) (after (one_more found d)) (λ js. rw s.2 (one_more_of found d
    (of_items js))) (json.items (value depth) (n - 1) rest)

items_none : (depth n : ℕ) (found : Items) (ts : List Token) → after_end_array ts ≡ None → value_at depth ts ≡ None
    → items_at depth n found ts ≡ None
unfolding json.items
items_none depth zero found ts going none = refl
items_none depth (suc n) found ts going none =
    rw going (none_converted (after found) json.item (λ j js is. rw is refl) (json.items (value depth) n)
    (value depth ts) none)

module _ (depth : ℕ) {start ts : List Token} {found : Items} (h : IsLeft (items_at depth) no_items start found ts) where
  pub items_next : {old rest : List Token} {d : Data} → (after_end_array ts ≡ None) × (old ≡ ts)
      → value_at depth old ≡ Some (d, rest) → length rest < length old
      → IsLeft (items_at depth) no_items start (one_more found d) rest
  items_next {rest = rest} {d = d} going is less = left_next h (one_more found d) rest (rw going.1 at less)
      (λ some. items_turn depth h.count found ts rest d some going.0 (rw going.1 at is))

  pub items_refused : {old : List Token} → (after_end_array ts ≡ None) × (old ≡ ts) → value_at depth old ≡ None
      → array_at depth start ≡ None
  items_refused going none = h.same ∙ items_none depth h.count found ts going.0 (rw going.1 at none)

  pub items_last : {rest : List Token} → after_end_array ts ≡ Some rest → array_at depth start ≡ Some (found, rest)
  items_last {rest} ends =
      h.same ∙ ap (converted (after found)) (items_end (value depth) h.count ts rest h.enough ends)
      ∙ ap (λ ds. Some (ds, rest)) (then_nothing found)

-- ---- an object

-- members, put into those that were found
abbrev into : Members → json.Members → Option Members
into found ms = of_members ms found

pub value_at-object : (depth : ℕ) (ts : List Token) → 0 < depth → value_at depth (Token.begin_object ∷ ts)
    ≡ parse_map object (object_at (depth - 1) ts)
value_at-object depth ts h =
    let nested = json.members (value (depth - 1)) (length ts) ts in
    ap (converted of_json) (value-begin_object depth ts h)
    ∙ converted_as of_json json.object (λ ms. option_map object (into no_members ms)) (λ ms. refl) nested
    ∙ converted_inside object (into no_members) nested

members_turn : (depth n : ℕ) (found : Members) (k : List ℕ) (ts s rest : List Token) (d : Data) → 0 < n
    → read_key ts ≡ Some (Some k, s) → value_at depth s ≡ Some (d, rest)
    → members_at depth n found ts ≡ members_at depth (n - 1) (put k d found) rest
members_turn depth n found k ts s rest d some key read =
    let from = source of_json (value depth s) d rest read in
    ap (converted (into found)) (members_more (value depth) n k ts s rest from.0 some key from.1)
    ∙ converted_as (into found) (json.member k from.0) (into (put k d found)) (λ ms. rw from.2 refl)
    (json.members (value depth) (n - 1) rest)

members_none : (depth n : ℕ) (found : Members) (k : List ℕ) (ts s : List Token) → read_key ts ≡ Some (Some k, s)
    → value_at depth s ≡ None → members_at depth n found ts ≡ None
unfolding json.members
members_none depth zero found k ts s key none = refl
members_none depth (suc n) found k ts s key none =
    rw key (none_converted (into found) (json.member k) (λ j ms is. rw is refl) (json.members (value depth) n)
    (value depth s) none)

module _ (depth : ℕ) {start ts : List Token} {found : Members}
    (h : IsLeft (members_at depth) no_members start found ts) where
  pub members_next : {k : List ℕ} {s rest : List Token} {d : Data} → read_key ts ≡ Some (Some k, s)
      → value_at depth s ≡ Some (d, rest) → length rest < length s
      → IsLeft (members_at depth) no_members start (put k d found) rest
  members_next {k} {s} {rest} {d} key is less =
      let shorter = read_key-shorter ts (Some k) s key in
      left_next h (put k d found) rest (omega (arith, less, shorter))
      (λ some. members_turn depth h.count found k ts s rest d some key is)

  pub members_refused : {k : List ℕ} {s : List Token} → read_key ts ≡ Some (Some k, s) → value_at depth s ≡ None
      → object_at depth start ≡ None
  members_refused {k} {s} key none = h.same ∙ members_none depth h.count found k ts s key none

  pub key_refused : read_key ts ≡ None → object_at depth start ≡ None
  key_refused none = h.same ∙ ap (converted (into found)) (members_no_key (value depth) h.count ts none)

  pub members_last : {rest : List Token} → read_key ts ≡ Some (None, rest)
      → object_at depth start ≡ Some (found, rest)
  members_last {rest} ends =
      h.same ∙ ap (converted (into found)) (members_end (value depth) h.count ts rest h.enough ends)

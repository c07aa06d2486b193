-- What a plan is of, and what it makes of a store.
use Rattle.lsp_store.proofs.Prelude.{◌≡◌, ◌≤◌, ℕ, ℤ, zero, suc, Bool, List, [], ◌∷◌, length, map, nat_lt, Option, Some, None, Result, Ok, Err, IfOk, OnOk, option_map, slice_get, position, String, string_bytes, bytes_eq, refl, sym, ap, ◌∙◌, subst, arith, cases_Bool, slice_get-map, bytes_eq-Decides, lookup, lookup_key, Global, set_value_at, LimitsData, Encoding, units_in, Item, ContentChange, meaning, canonical, IsDeltaOf, IsOn, bytes_after, delta_encoding, meant_by, DocumentItem, Plan, Stored, StoreData, Takes, entry_of, entry_under, IsPlanOf, IsPlanOn, after_plan, planned, planned_table, StoreFault, IsRefusal, body_refusal, canonical_batch, canonical_body, change_body, message_refusal, after_change, changed, changes, entry_at, entry_refusal, common_steps}
use Rattle.std.specs.List.{position_or_len}
use Rattle.std.specs.Str.{IsUtf8, chars}
use Rattle.lsp_edit.specs.declared.delta.Delta.{Delta}
use Rattle.lsp_edit.specs.declared.delta.Delta.TheVariants.{Put, Left}
use Rattle.lsp_edit.proofs.Deltas.DeltaLemmas.{IsWithin, within_told}
use Rattle.lsp_store.proofs.Messages.MessageLemmas.{accepted_left}
use Rattle.lsp_store.proofs.Tables.RefusalLemmas.{meaning_accepted, meaning_short}
use Rattle.lsp_store.proofs.Tables.StoreLemmas.{seen}
use Rattle.lsp_store.proofs.Tables.TableLemmas.{at_uri, entry_found}

-- what follows from two facts of a call that succeeds
pub if_ok_on : {A E O : Type 0} {P Q : A → Type 0} (r : Result A E) → ((a : A) → P a → O → Q a) → IfOk r P → OnOk r O
    → IfOk r Q
if_ok_on (Ok a) then p o = then a p o
if_ok_on (Err e) then p o = tt

-- ---- the text that a delta is of

pub on_utf8 : (before : List ℕ) (delta : Delta) → IsOn before delta → IsUtf8 before
on_utf8 before (Put put) on = on.utf8
on_utf8 before (Left left) on = on.utf8

pub on_short : (before : List ℕ) (delta : Delta) → IsOn before delta → length before ≤ 1073741824
on_short before (Put put) on = on.size
on_short before (Left left) on = on.size

-- ---- a document at an index

pub record HasEntry (es : List (String Global × Stored)) (index : ℕ) (stored : Stored) : Type 0 where
  pub key : String Global
  pub at : slice_get es index ≡ Some (key, stored)

pub entry_there : (es : List (String Global × Stored)) (index : ℕ) (stored : Stored) → Some stored
    ≡ slice_get (map (λ e. e.1) es) index → HasEntry es index stored
entry_there [] index stored found = absurd (cc)
entry_there (e ∷ es) zero stored found = let same : stored ≡ e.1 = cc in record { key = e.0; at = rw same refl }
entry_there (e ∷ es) (suc index) stored found = let rest = entry_there es index stored found in
    record { key = rest.key; at = rest.at }

pub put_planned : (es : List (String Global × Stored)) (index : ℕ) (key : String Global) (stored new : Stored)
    (version : ℤ) (delta : Delta) → slice_get es index ≡ Some (key, stored)
    → ((uri : List ℕ) → entry_under uri new ≡ planned (entry_under uri stored) version delta)
    → map entry_of (set_value_at es index new) ≡ planned_table (map entry_of es) index version delta
put_planned [] index key stored new version delta at is = absurd (cc)
put_planned (e ∷ es) zero key stored new version delta at is =
    grind (arith, common_steps, (is (string_bytes e.0)))
put_planned (e ∷ es) (suc index) key stored new version delta at is =
    ap (λ (table : List DocumentItem). entry_of e ∷ table) (put_planned es index key stored new version delta at is)

pub put_unchanged : (es : List (String Global × Stored)) (index : ℕ) (key : String Global) (stored new : Stored)
    → slice_get es index ≡ Some (key, stored) → ((uri : List ℕ) → entry_under uri new ≡ entry_under uri stored)
    → map entry_of (set_value_at es index new) ≡ map entry_of es
put_unchanged [] index key stored new at is = absurd (cc)
put_unchanged (e ∷ es) zero key stored new at is = grind (arith, common_steps, (is (string_bytes e.0)))
put_unchanged (e ∷ es) (suc index) key stored new at is =
    ap (λ (table : List DocumentItem). entry_of e ∷ table) (put_unchanged es index key stored new at is)

pub put_length : (es : List (String Global × Stored)) (index : ℕ) (stored : Stored)
    → length (set_value_at es index stored) ≡ length es
put_length (e ∷ es) (suc index) stored = ap suc (put_length es index stored)
put_length _ _ stored = refl

-- ---- the index of a URI

pub index_found : {X : Type 0} (test : X → Bool) (xs : List X) (index : ℕ) → Some index ≡ position test xs
    → position_or_len test xs ≡ index
index_found test xs index is = grind (arith, common_steps, nat_lt, cases_Bool)

module _ (units : ℕ → ℕ) (uri : List ℕ) (version : ℤ) (batch : List ContentChange) (key : String Global)
    (stored : Stored)
    (delta : Delta) where
  pub after_planned : (is : (u : List ℕ) → changed units (entry_under u stored) version batch
      ≡ planned (entry_under u stored) version delta) (es : List (String Global × Stored)) (index : ℕ)
      → position_or_len (at_uri uri) (map (λ e. e.0) es) ≡ index
      → slice_get es index ≡ Some (key, stored) → after_change units (map entry_of es) uri version batch
      ≡ planned_table (map entry_of es) index version delta
  after_planned is [] index first at = refl
  after_planned is (e ∷ es) zero first at =
      grind (arith, common_steps, bytes_eq, cases_Bool, (is (string_bytes e.0)))
  after_planned is (e ∷ es) (suc index) first at =
      grind (arith, common_steps, bytes_eq, cases_Bool, (after_planned is es index))

-- ---- a plan

module _ (limits : LimitsData) (es : List (String Global × Stored)) (uri : List ℕ) (version given : ℤ)
    (given_is : given ≡ version) (encoding : Encoding) (batch : List ContentChange) (index : ℕ) (key : String Global)
    (stored : Stored) (delta : Delta) where
  pub plan_is : Some index ≡ position (at_uri uri) (map (λ e. e.0) es) → Some key ≡ lookup_key (at_uri uri) es
      → Some stored ≡ lookup (at_uri uri) es → slice_get es index ≡ Some (key, stored)
      → ((u : List ℕ) → entry_refusal limits (units_in encoding) (entry_under u stored) version batch ≡ None)
      → IsDeltaOf (units_in encoding) limits.max_text stored.text batch delta → limits.max_text ≤ 1073741824
      → IsPlanOf (seen limits es) uri version encoding batch (record { index = index; version = given; delta = delta })
  plan_is at_index at_key found at accepted made short = record {
    on = record {
      entry = entry_under (string_bytes key) stored;
      at = slice_get-map entry_of es index ∙ ap (option_map entry_of) at;
      on = made.on;
      short = omega (arith, short, meaning_short limits stored.text _ _ made.is);
    };
    is_open = there;
    accepted = rw there (accepted (string_bytes key));
    delta = made;
    version_is = given_is;
    after =
        rw given_is
        (after_planned (units_in encoding) uri version batch key stored delta
        (λ u. ap (λ (text : List ℕ). record (entry_under u stored) { version = version; text = text })
        (meaning_accepted limits stored.text _ _ made.is).1)
        es index (index_found (at_uri uri) (map (λ e. e.0) es) index at_index) at);
    left = rw there (accepted_left limits (units_in encoding) (entry_under (string_bytes key) stored) version batch
        (accepted (string_bytes key)));
  }
    where
      there : entry_at (map entry_of es) uri ≡ Some (entry_under (string_bytes key) stored)
      there = sym (entry_found uri es key stored at_key found)

module _ (limits : LimitsData) (es : List (String Global × Stored)) (kept : StoreData)
    (view : seen limits es ≡ kept) where
  -- the document that a plan is of
  module _ (plan : Plan) (p : IsPlanOn kept plan) (stored : Stored) (h : HasEntry es plan.index stored) where
    entry_is : Some (entry_under (string_bytes h.key) stored) ≡ Some p.entry
    entry_is = grind (arith, common_steps, slice_get-map, slice_get)

    pub same_entry : p.entry ≡ entry_under (string_bytes h.key) stored
    same_entry = ap (λ (o : Option DocumentItem). elim o [ None ↦ p.entry | Some e ↦ e ]) (sym entry_is)

    pub plan_key : p.entry.uri ≡ string_bytes h.key
    plan_key = ap (λ (e : DocumentItem). e.uri) same_entry

    pub plan_text : p.entry.text ≡ stored.text
    plan_text = ap (λ (e : DocumentItem). e.text) same_entry

    pub plan_on : IsOn stored.text plan.delta
    plan_on = rw same_entry at p.on

    pub plan_short : length (bytes_after stored.text plan.delta) ≤ 1073741824
    plan_short = rw same_entry at p.short

    pub plan_applied : (new : Stored)
        → ((uri : List ℕ) → entry_under uri new ≡ planned (entry_under uri stored) plan.version plan.delta)
        → (next : List (String Global × Stored)) → next ≡ set_value_at es plan.index new → seen limits next
        ≡ after_plan kept plan
    plan_applied new is next set = grind (arith, common_steps, put_planned)

    pub plan_unchanged : (new : Stored) → ((uri : List ℕ) → entry_under uri new ≡ entry_under uri stored)
        → (next : List (String Global × Stored)) → next ≡ set_value_at es plan.index new → seen limits next ≡ kept
    plan_unchanged new is next set =
        rw (set, put_unchanged es plan.index h.key stored new h.at is) view

-- ---- the message of a plan

pub entry_uri : (table : List DocumentItem) (uri : List ℕ) (entry : DocumentItem) → entry_at table uri ≡ Some entry
    → entry.uri ≡ uri
entry_uri [] uri entry found = absurd (cc)
entry_uri (first ∷ table) uri entry found =
    grind (arith, common_steps, bytes_eq, bytes_eq-Decides, cases_Bool, (entry_uri table uri entry))

module _ (kept : StoreData) (uri : List ℕ) (version : ℤ) (encoding : Encoding) (batch : List ContentChange)
    (plan : Plan)
    (q : IsPlanOf kept uri version encoding batch plan) where
  within : IsWithin q.on.entry.text (meaning (units_in encoding) (chars q.on.entry.text) batch)
      (bytes_after q.on.entry.text plan.delta)
  within = within_told kept.limits.max_text q.on.entry.text _ _ q.delta.is

  module _ (text : List ℕ) (same : q.on.entry.text ≡ text) (answered : List ContentChange)
      (is : (items : List Item) → meant_by text plan.delta ≡ Ok items → answered
      ≡ canonical (units_in (delta_encoding plan.delta)) (chars text) items) where
    meant : meant_by text plan.delta ≡ Ok within.items
    meant = subst (λ (t : List ℕ). meant_by t plan.delta ≡ Ok within.items) same (sym q.delta.means ∙ within.means)

    batch_there : canonical_batch (units_in encoding) kept.table uri batch ≡ canonical (units_in encoding)
        (chars q.on.entry.text) within.items
    batch_there = rw (q.is_open, within.means) refl

    planned_is : answered ≡ canonical (units_in encoding) (chars q.on.entry.text) within.items
    planned_is = grind (arith, common_steps, meant)

    pub planned_body : (key : List ℕ) → q.on.entry.uri ≡ key → (given : ℤ) → given ≡ plan.version
        → change_body key given answered ≡ canonical_body (units_in encoding) kept.table uri version batch
    planned_body key key_is given given_is =
        let uri_is = sym key_is ∙ entry_uri kept.table uri q.on.entry q.is_open in
        rw (uri_is, given_is ∙ q.version_is, planned_is, batch_there) refl

  module _ (limits : LimitsData) (limits_is : limits ≡ kept.limits) (body : List ℕ)
      (body_is : body ≡ canonical_body (units_in encoding) kept.table uri version batch) where
    body_refused : body_refusal limits body
        ≡ body_refusal kept.limits (canonical_body (units_in encoding) kept.table uri version batch)
    body_refused = rw (limits_is, body_is) refl

    message_is : message_refusal kept.limits (units_in encoding) kept.table uri version batch ≡ body_refusal limits body
    message_is = grind (arith, common_steps, body_refused)

    pub planned_accepted : body_refusal limits body ≡ None → message_refusal kept.limits (units_in encoding) kept.table
        uri version batch ≡ None
    planned_accepted short = message_is ∙ short

    pub planned_refused : (fault : StoreFault) → IsRefusal (body_refusal limits body) fault
        → IsRefusal (message_refusal kept.limits (units_in encoding) kept.table uri version batch) fault
    planned_refused fault why = rw message_is why

-- A plan that was applied is its command.
pub plan_takes : (kept new : StoreData) (uri : List ℕ) (version : ℤ) (encoding : Encoding) (batch : List ContentChange)
    (plan : Plan) → IsPlanOf kept uri version encoding batch plan → new ≡ after_plan kept plan
    → Takes kept (changes uri version encoding batch) new
plan_takes kept new uri version encoding batch plan p is = grind (arith, common_steps)

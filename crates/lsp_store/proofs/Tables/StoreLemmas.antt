-- What the calls of a store make of it.
use Rattle.lsp_store.proofs.Prelude.{◌≡◌, ◌≤◌, ◌<◌, ◌+◌, ◌++◌, ℕ, ℤ, true, false, List, [], ◌∷◌, length, map, Some, None, option_map, is_some, String, string_bytes, refl, sym, ap, ◌∙◌, arith, inr, length-append, length-map, lookup, remove_entry, Global, LimitsData, Encoding, ContentChange, NotOpen, Stored, DocumentItem, entry_at, is_taken, open_refusal, after_close, after_open, opens, changes, closes, StoreData, Takes, IsRefused, entry_under, entry_of, common_steps}
use Rattle.lsp_store.proofs.Tables.TableLemmas.{at_uri, entry_at-lookup, is_some-entry_at, table-opened, others_all, others_but_one, table-remove_entry}

-- what callers see of the fields
abbrev pub seen : LimitsData → List (String Global × Stored) → StoreData
seen limits es = record { limits = limits; table = map entry_of es }

module _ (limits : LimitsData) (es : List (String Global × Stored)) (uri : List ℕ) where
  pub get_none : None ≡ lookup (at_uri uri) es → None ≡ entry_at (map entry_of es) uri
  get_none absent = ap (option_map (entry_under uri)) absent ∙ sym (entry_at-lookup uri es)

  -- ---- opening

  pub taken_strict : limits.lenient ≡ false → is_some (lookup (at_uri uri) es) ≡ is_taken limits (map entry_of es) uri
  taken_strict strict = rw (strict, is_some-entry_at uri es) refl

  pub others_new : is_some (lookup (at_uri uri) es) ≡ false → length (after_close (map entry_of es) uri) ≡ length es
  others_new new =
      ap length (others_all (map entry_of es) uri (is_some-entry_at uri es ∙ new)) ∙ length-map es entry_of

  pub others_open : is_some (lookup (at_uri uri) es) ≡ true → length (after_close (map entry_of es) uri) + 1 ≡ length es
  others_open is = others_but_one (map entry_of es) uri (is_some-entry_at uri es ∙ is) ∙ length-map es entry_of

  -- ---- changing

  module _ (version : ℤ) (encoding : Encoding) (batch : List ContentChange) where
    pub change_absent : None ≡ lookup (at_uri uri) es
        → IsRefused (seen limits es) (changes uri version encoding batch) NotOpen
    change_absent absent = inr (rw (← get_none absent) refl)

  pub found_at : (stored : Stored) → Some stored ≡ lookup (at_uri uri) es → entry_at (map entry_of es) uri
      ≡ Some (entry_under uri stored)
  found_at stored found = entry_at-lookup uri es ∙ ap (option_map (entry_under uri)) (sym found)

  -- ---- closing

  pub close_absent : None ≡ lookup (at_uri uri) es → IsRefused (seen limits es) (closes uri) NotOpen
  close_absent absent = inr (rw (← get_none absent) refl)

  pub closed : (stored : Stored) → Some stored ≡ lookup (at_uri uri) es → (next : List (String Global × Stored))
      → next ≡ remove_entry (at_uri uri) es → Takes (seen limits es) (closes uri) (seen limits next)
  closed stored found next is = grind (arith, common_steps, entry_at-lookup, table-remove_entry)

-- What is opened goes last.
module _ (limits : LimitsData) (es : List (String Global × Stored)) (uri : String Global) (stored : Stored)
    (entry : DocumentItem) (is : entry_under (string_bytes uri) stored ≡ entry)
    (next : List (String Global × Stored))
    (next_is : next ≡ remove_entry (at_uri (string_bytes uri)) es ++ (uri, stored) ∷ []) where
  opened_table : map entry_of next ≡ after_open (map entry_of es) entry
  opened_table = ap (map entry_of) next_is ∙ (table-opened es uri stored ∙ ap (after_open (map entry_of es)) is)

  pub opened : open_refusal limits (map entry_of es) entry ≡ None
      → Takes (seen limits es) (opens entry) (seen limits next)
  opened may = grind (arith, common_steps, opened_table)

  pub opened_few : length (after_close (map entry_of es) entry.uri) < limits.max_docs → length next ≤ limits.max_docs
  opened_few few = grind (arith, common_steps, length-map, opened_table, length-append)

-- Which values are changes, by a look at them, and that some are there where memory is taken for them.
use Rattle.lsp_message.proofs.Prelude.{◌≡◌, ◌<◌, ℕ, true, List, [], ◌∷◌, length, Option, Some, option_and_then, refl, arith, ℤ, is_some, IsSomeAnd, list_all, view, items_view, Value, ContentChangeData, ChangeData, HasChanges, content_change_in, content_changes_in, common_steps}

pub edits_there : (values : List Value) → list_all (λ v. is_some (content_change_in (view v))) values
    ≡ is_some (content_changes_in (items_view values))
edits_there [] = refl
edits_there (value ∷ values) = grind (arith, common_steps, (edits_there values))

pub has_edits : (values : List Value) → 0 < length values → is_some (content_changes_in (items_view values)) ≡ true
    → IsSomeAnd (content_changes_in (items_view values)) (λ es. 0 < length es)
has_edits [] some there = absurd (omega arith)
has_edits (value ∷ values) some there = grind (arith, common_steps)

pub has_changes : (uri : Option (List ℕ)) (version : Option ℤ) (edits : Option (List ContentChangeData))
    → is_some uri ≡ true → is_some version ≡ true → IsSomeAnd edits (λ es. 0 < length es) → IsSomeAnd (option_and_then
    (λ u. option_and_then
    (λ v. option_and_then (λ es. Some (let c : ChangeData = record { uri = u; version = v; changes = es } in c)) edits)
    version) uri) HasChanges
has_changes uri version edits there known some = grind (arith, common_steps)

-- A store as callers see it, and what its calls do to it.
use Rattle.std.specs.Prelude.{◌≡◌}
use Rattle.lsp_store.specs.Prelude.{ℕ, ℤ, IsSomeAnd, List, String, string_bytes, Option, None, Ok, LimitsData, StoreFault, ContentChange, one_change, DocumentItem}
use Rattle.std.specs.declared.alloc.Global.{Global}
use Rattle.lsp_store.specs.declared.store.stored.Stored.{Stored}
use Rattle.lsp_text.specs.declared.position.Range.{Range}
use Rattle.lsp_store.specs.Table.{Command, IsLeftToMeaning, entry_at, after_command, change_refusal, command_refusal}
use Rattle.lsp_store.specs.Faults.{IsRefusal}

-- A store: its limits, and its open documents in order of opening.
pub record StoreData : Type 0 where
  pub limits : LimitsData
  pub table : List DocumentItem

-- The document of a URI and what is kept under it.
abbrev pub entry_under : List ℕ → Stored → DocumentItem
entry_under uri stored
    = record {
      uri = uri;
      language = string_bytes stored.language;
      version = stored.version;
      text = stored.text;
    }

-- The document of an entry of the store.
abbrev pub entry_of : String Global × Stored → DocumentItem
entry_of pair = entry_under (string_bytes pair.0) pair.1

-- A command is accepted, and the next table is its result.
pub record Takes (old : StoreData) (command : Command) (new : StoreData) : Type 0 where
  pub table : after_command old.limits old.table command ≡ Ok new.table
  pub limits : new.limits ≡ old.limits

-- A command is refused for the cause that the table of refusals names, or for out of memory.
abbrev pub IsRefused : StoreData → Command → StoreFault → Type 0
IsRefused old command fault = IsRefusal (command_refusal old.limits old.table command) fault

-- A change may take memory only where the document of its URI is open and only what the batch
-- means can refuse it.
abbrev pub ChangeMayAllocate : StoreData → List ℕ → ℤ → List ContentChange → Type 0
ChangeMayAllocate old uri version batch =
    IsSomeAnd (entry_at old.table uri) (λ entry. IsLeftToMeaning old.limits entry version batch)

-- A batch of one change may take memory only where it is accepted.
abbrev pub OneMayAllocate : StoreData → (ℕ → ℕ) → List ℕ → ℤ → List ContentChange → Type 0
OneMayAllocate old units uri version batch = (range : Option Range) (text : List ℕ)
    → batch ≡ one_change range text
    → change_refusal old.limits units old.table uri version batch ≡ None

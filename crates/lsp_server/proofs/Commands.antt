-- Commands on the store, as the server's definitions and the store's calls write them.
use Rattle.lsp_server.proofs.Prelude.{◌≡◌, ◌≢◌, List, [], ◌∷◌, map, refl, sym, ap, subst, Option, Some, None, option_map, Result, Ok, Err, IfOk, IfErr, OnOk, OnErr, inl, inr, Change, content_change_view, StoreFault, NoMemory, StoreData, Takes, IsRefused, DocumentItem, Command, unless_refused, command_refusal, table_after, after_command, Answer, Changed, Refused, Store, refused, NeverAllocates, ServerData, content_change_from_data, unchanged_step, result_step, command_step, IsStepOf, IsQuietStepOf, store_of}
use Rattle.lsp_store.specs.Faults.{refusal_fault}
use Rattle.lsp_edit.specs.Edited as made
use Rattle.lsp_store.specs.Table as table

-- The changes as they were read are those that the store is given.
pub edits_of : (changes : List Change) → map content_change_from_data (map content_change_view changes)
    ≡ map made.content_change changes
edits_of [] = refl
edits_of (change ∷ changes) = ap (λ edits. made.content_change change ∷ edits) (edits_of changes)

-- a server with another store
abbrev pub over : ServerData → StoreData → ServerData
over s store = record s { config = record s.config { limits = store.limits }; table = store.table }

-- What is answered to a refused command tells the store's fault.
refusal_answered : (s : ServerData) (refusal : Option table.Refusal) (next : List DocumentItem) (fault : StoreFault)
    → option_map refusal_fault refusal ≡ Some fault → result_step s (unless_refused refusal next)
    ≡ unchanged_step s (refused (Store fault))
refusal_answered s None next fault e = cc
refusal_answered s (Some refusal) next fault e =
    let same : refusal_fault refusal ≡ fault = cc in ap (λ error. unchanged_step s (refused (Store error))) same

pub obeyed_as_refused : (s : ServerData) (command : Command) (fault : StoreFault)
    → fault ≢ NoMemory → IsRefused (store_of s) command fault
    → command_step s command ≡ unchanged_step s (refused (Store fault))
obeyed_as_refused s command fault other (inl e) = absurd (other e)
obeyed_as_refused s command fault other (inr e) =
    refusal_answered s (command_refusal s.config.limits s.table command) (table_after s.table command) fault e

-- The store's result of a command, as an answer, is the step that obeys it.
pub obeyed_step : {E : Type 0} (s : ServerData) (given command : Command) (new : StoreData)
    (outcome : Result (Unit {0}) StoreFault) (result : Result Answer E) → OnOk outcome (Takes (store_of s) given new)
    → OnErr outcome (new ≡ store_of s) → IfErr outcome (IsRefused (store_of s) given)
    → OnOk outcome (result ≡ Ok Changed)
    → IfErr outcome (λ fault. IfOk result (λ a. (fault ≢ NoMemory) × (a ≡ Refused (Store fault)))) → given ≡ command
    → IsStepOf (command_step s command) result s (over s new)
obeyed_step s given command new (Ok u) result takes unchanged error changed other same =
    subst (λ r. IsStepOf (command_step s command) r s (over s new)) (sym changed)
    (record {
      answer = rw (← same, takes.table) refl;
      state = rw (← same, takes.table, takes.limits) refl;
      unchanged = tt;
    })
obeyed_step s given command new (Err fault) (Err e) takes unchanged error changed other same =
    record { answer = tt; state = tt; unchanged = rw unchanged refl }
obeyed_step s given command new (Err fault) (Ok a) takes unchanged error changed other same =
    let refused_step = obeyed_as_refused s given fault other.0 error in record {
      answer = rw (← same, other.1, refused_step) refl;
      state = rw (← same, unchanged, refused_step) refl;
      unchanged = tt;
    }

-- A step that answers for the store takes memory.
loud : (s : ServerData) (result : Result (List DocumentItem) table.Refusal)
    → NeverAllocates (result_step s result).answer → ⊥
loud s (Ok next) quiet = quiet
loud s (Err refusal) quiet = quiet

pub obeyed_row : {E : Type 0} (s : ServerData) (command : Command) (result : Result Answer E) (old new : ServerData)
    → IsStepOf (command_step s command) result old new → IsQuietStepOf (command_step s command) result old new
obeyed_row s command result old new step =
    record { taken = step; quiet = λ quiet. absurd (loud s (after_command s.config.limits s.table command) quiet) }

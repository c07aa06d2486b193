-- What a batch of changes means (LSP 3.17, DidChangeTextDocumentParams): each change applies to the
-- text that the one before it leaves.
use Rattle.std.specs.Prelude.{if◌then◌else◌, ◌∷◌, ◌++◌}
use Rattle.lsp_edit.specs.Prelude.{ℕ, suc, nat_le, List, [], map, take, drop, Option, Some, None, Result, Ok, Err, Range, denoted}
use Rattle.lsp_edit.specs.Items.{Item, New, plain, text_of}

-- One change (LSP 3.17, TextDocumentContentChangeEvent): a range, or none for the whole text, and
-- the characters that replace it.
pub record ContentChange : Type 0 where
  pub range : Option Range
  pub text : List ℕ

-- Why a change has no result: its start denotes nothing, or else its stop, or the start denotes a
-- later index than the stop. (LSP 3.17 says nothing of such changes: that they have no result is
-- this project's choice.)
pub data Fault : Type 0 where
  InsideStart InsideStop Reversed : Fault

-- The indexes that the two ends of a range denote, if both denote and are in order.
abbrev pub in_order : Option ℕ → Option ℕ → Result (ℕ × ℕ) Fault
in_order None stop = Err InsideStart
in_order (Some start) None = Err InsideStop
in_order (Some start) (Some stop) = if nat_le start stop then Ok (start, stop) else Err Reversed

-- The indexes of a range's two ends in a text, or the fault of the range.
abbrev pub ends_of : (ℕ → ℕ) → List ℕ → Range → Result (ℕ × ℕ) Fault
ends_of units text range = in_order (denoted units text range.start) (denoted units text range.stop)

-- The items with those between two indexes replaced by new characters; or the fault of the range.
abbrev pub put_between : List Item → List ℕ → Result (ℕ × ℕ) Fault → Result (List Item) Fault
put_between items characters (Ok ends) =
    Ok (take ends.0 items ++ (map New characters ++ drop ends.1 items))
put_between items characters (Err why) = Err why

-- The items after a change with these characters and this range, which counts in the text of the
-- items before.
abbrev pub changed_in : (ℕ → ℕ) → List ℕ → List Item → List ℕ → Option Range →
    Result (List Item) Fault
changed_in units old items characters None = Ok (map New characters)
changed_in units old items characters (Some range) =
    put_between items characters (ends_of units (text_of old items) range)

-- The items after a change.
abbrev pub items_after : (ℕ → ℕ) → List ℕ → List Item → ContentChange → Result (List Item) Fault
items_after units old items change = changed_in units old items change.text change.range

-- The items after the rest of a batch, if `number` changes came before. Or the first change that
-- has no result, by its number, and why.
abbrev pub continue_with : (List Item → Result (List Item) (ℕ × Fault)) → ℕ →
    Result (List Item) Fault → Result (List Item) (ℕ × Fault)
continue_with rest number (Ok items) = rest items
continue_with rest number (Err fault) = Err (number, fault)

-- The items after these changes, numbered from `number`; or the first change that has no result,
-- and why.
abbrev pub after_changes : (ℕ → ℕ) → List ℕ → ℕ → List Item → List ContentChange →
    Result (List Item) (ℕ × Fault)
after_changes units old number items [] = Ok items
after_changes units old number items (change ∷ changes) =
    continue_with (λ next. after_changes units old (suc number) next changes) number
    (items_after units old items change)

-- What a batch means on an old text: the items after all its changes, or its first fault.
abbrev pub meaning : (ℕ → ℕ) → List ℕ → List ContentChange → Result (List Item) (ℕ × Fault)
meaning units old batch = after_changes units old 0 (plain old) batch

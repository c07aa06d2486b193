-- What only proofs and private contracts use of `Params`.
use Rattle.lsp_message.specs.Prelude.{List, Option, IsSomeAnd, Items, Members}
use Rattle.lsp_message.specs.Values.{each_of}
use Rattle.lsp_message.specs.Params.{ContentChangeData, content_change_in, change_by, HasChanges}

-- The changes that the items of an array are; none if one of them is no change.
abbrev pub content_changes_in : Items → Option (List ContentChangeData)
content_changes_in items = each_of content_change_in items

-- Reading these members and items may take memory.
abbrev pub MembersMayAllocate : Members → Items → Type 0
MembersMayAllocate document changes = IsSomeAnd (change_by document changes) HasChanges

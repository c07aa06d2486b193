-- The typed parameters of the three document messages (LSP 3.17, DidOpen, DidChange and DidClose
-- Text Document Notification). A member that isn't named here is ignored. Where a type is wrong, a
-- member is missing or a number is out of range, there are no parameters.
use Rattle.std.specs.Prelude.{◌≡◌, ◌^◌, ◌||◌, if◌then◌else◌, ◌<◌}
use Rattle.lsp_message.specs.Prelude.{ℕ, ℤ, pos, negsuc, int_lt, List, Option, Some, None, option_map, option_and_then, codes, nat_lt, length, IsSomeAnd, Data, Items, Members, get_member, as_object, Position, Range}
use Rattle.lsp_message.specs.Values.{◌>>=◌, member_at, text_in, members_in, array_in, each_of, whole_in, natural_in, optional}
use Rattle.lsp_message.specs.Message.{notification, message, reading}

-- A document as `didOpen` transfers it (TextDocumentItem). Its URI, language and text are bytes of
-- UTF-8.
pub record DocumentItem : Type 0 where
  pub uri : List ℕ
  pub language : List ℕ
  pub version : ℤ
  pub text : List ℕ

-- One change: the range that its text replaces (none: the whole text), and the text.
pub record ContentChangeData : Type 0 where
  pub range : Option Range
  pub text : List ℕ

-- The params of a `textDocument/didChange`; its changes apply in order.
pub record ChangeData : Type 0 where
  pub uri : List ℕ
  pub version : ℤ
  pub changes : List ContentChangeData

-- The params of a `textDocument/didClose`.
pub record CloseData : Type 0 where
  pub uri : List ℕ

-- A number that is a version: from -2147483648 to 2147483647.
abbrev pub version_from : ℤ → Option ℤ
version_from n = if int_lt n (negsuc 2147483647) || int_lt (pos 2147483647) n then None else
    Some n

-- The version that a value is.
abbrev pub version_in : Option Data → Option ℤ
version_in value = option_and_then version_from (whole_in value)

-- A number that is a line or a character: from 0 to 4294967295. (The protocol's uinteger ends at
-- 2147483647.)
abbrev pub coordinate_from : ℕ → Option ℕ
coordinate_from n = if nat_lt n (2 ^ 32) then Some n else None

-- The line or the character that a value is.
abbrev pub coordinate_in : Option Data → Option ℕ
coordinate_in value = option_and_then coordinate_from (natural_in value)

-- The `Position` that a value is.
abbrev pub position_in : Option Data → Option Position
position_in value = do
  line ← coordinate_in (member_at (codes "line") value)
  character ← coordinate_in (member_at (codes "character") value)
  Some (record { line = line; character = character })

-- The `Range` that a value is.
abbrev pub range_in : Option Data → Option Range
range_in value = do
  start ← position_in (member_at (codes "start") value)
  stop ← position_in (member_at (codes "end") value)
  Some (record { start = start; stop = stop })

-- The range of a change. A missing range means the whole text; a null one too, which the protocol
-- doesn't have.
abbrev pub range_of : Option Data → Option (Option Range)
range_of value = optional None (λ v. option_map Some (range_in v)) value

-- The change that the members of an object are.
abbrev pub content_change_by : Members → Option ContentChangeData
content_change_by ms = do
  text ← text_in (get_member (codes "text") ms)
  range ← range_of (get_member (codes "range") ms)
  Some (record { range = range; text = text })

-- The change that a value is.
abbrev pub content_change_in : Data → Option ContentChangeData
content_change_in value = option_and_then content_change_by (as_object value)

-- The members of `textDocument`.
abbrev pub document_in : Option Data → Option Members
document_in params = members_in (member_at (codes "textDocument") params)

-- The params of a `textDocument/didOpen`, by the members of its document.
abbrev pub open_by : Members → Option DocumentItem
open_by document = do
  uri ← text_in (get_member (codes "uri") document)
  language ← text_in (get_member (codes "languageId") document)
  version ← version_in (get_member (codes "version") document)
  text ← text_in (get_member (codes "text") document)
  Some (record { uri = uri; language = language; version = version; text = text })

-- The document that the params of a `textDocument/didOpen` have; none where they are invalid.
abbrev pub open_of : Option Data → Option DocumentItem
open_of params = option_and_then open_by (document_in params)

-- The params of a `textDocument/didChange`, by the members of its document and the items of its
-- changes.
abbrev pub change_by : Members → Items → Option ChangeData
change_by document changes = do
  uri ← text_in (get_member (codes "uri") document)
  version ← version_in (get_member (codes "version") document)
  edits ← each_of content_change_in changes
  Some (record { uri = uri; version = version; changes = edits })

-- The members of `textDocument` and the items of `contentChanges`.
abbrev pub document_and_changes : Option Data → Option (Members × Items)
document_and_changes params = do
  document ← document_in params
  changes ← array_in (member_at (codes "contentChanges") params)
  Some (document, changes)

-- The batch that the params of a `textDocument/didChange` have; none where they are invalid.
abbrev pub change_of : Option Data → Option ChangeData
change_of params = option_and_then (λ p. change_by p.0 p.1) (document_and_changes params)

-- A batch has changes.
abbrev pub HasChanges : ChangeData → Type 0
HasChanges change = 0 < length change.changes

-- Reading the params of a `textDocument/didChange` may take memory: they are valid and have a
-- change.
abbrev pub ParamsMayAllocate : Option Data → Type 0
ParamsMayAllocate params = IsSomeAnd (change_of params) HasChanges

-- The params of a `textDocument/didClose`, by the members of its document.
abbrev pub close_by : Members → Option CloseData
close_by document
    = option_map (λ uri. record { uri = uri }) (text_in (get_member (codes "uri") document))

-- The document that the params of a `textDocument/didClose` name; none where they are invalid.
abbrev pub close_of : Option Data → Option CloseData
close_of params = option_and_then close_by (document_in params)

-- A body is read as a `textDocument/didChange` with these params.
pub record IsChangeRead (body : List ℕ) (change : ChangeData) : Type 0 where
  pub params : Data
  pub as_sent : reading body
      ≡ message (notification (codes "textDocument/didChange") (Some params))
  pub back : change_of (Some params) ≡ Some change

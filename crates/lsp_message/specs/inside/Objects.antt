-- What the code keeps of objects and arrays. In names, `ms` are the members of an object.
use Rattle.std.specs.Prelude.{◌≡◌}
use Rattle.lsp_message.specs.Prelude.{false, not, Option, Some, None, option_map, option_and_then, is_some, map, codes, ⊤, Data, null, object, Members, get_member, as_object, as_str, Scalar}
use Rattle.lsp_message.specs.Message.{is_version_two}
use Rattle.lsp_message.specs.Params.{coordinate_in, version_in, position_in, range_of, content_change_in}
use Rattle.lsp_message.specs.Seen.{content_change_view}
use Rattle.lsp_message.specs.Values.{is_null, is_missing, text_in, member_at, members_in, array_in, each_of}
use Rattle.lsp_message.specs.declared.reader.object.Object.{Object}
use Rattle.lsp_message.specs.declared.reader.object.Object.TheVariants as read
use Rattle.lsp_message.specs.declared.reader.position.PositionMembers.{PositionMembers}
use Rattle.lsp_message.specs.declared.reader.range.RangeMembers.{RangeMembers}
use Rattle.lsp_message.specs.declared.reader.change.ChangeMembers.{ChangeMembers}
use Rattle.lsp_message.specs.declared.reader.document.DocumentMembers.{DocumentMembers}
use Rattle.lsp_message.specs.declared.reader.params.ParamsMembers.{ParamsMembers}
use Rattle.lsp_message.specs.declared.reader.message.MessageMembers.{MessageMembers}
use Rattle.lsp_message.specs.inside.Scalars.{kept, scalar_data}

-- What was read of a value that may be an object, where `Is` says what is kept of its members.
abbrev pub IsObject : {K : Type 0} → (K → Members → Type 0) → Object K → Data → Type 0
IsObject Is (read.Of k) d = (ms : Members) × (d ≡ object ms) × Is k ms
IsObject Is read.Null d = d ≡ null
IsObject Is read.Other d = (as_object d ≡ None) × (is_null d ≡ false)

-- ---- the members of an object

-- These are what is kept of the members of a position.
abbrev pub IsPositionOf : PositionMembers → Members → Type 0
IsPositionOf p ms =
    (p.line ≡ coordinate_in (get_member (codes "line") ms))
    × (p.character ≡ coordinate_in (get_member (codes "character") ms))

-- These are what is kept of the members of a range.
abbrev pub IsRangeOf : RangeMembers → Members → Type 0
IsRangeOf r ms =
    (r.start ≡ position_in (get_member (codes "start") ms))
    × (r.stop ≡ position_in (get_member (codes "end") ms))

-- These are what is kept of the members of a change.
abbrev pub IsChangeOf : ChangeMembers → Members → Type 0
IsChangeOf c ms =
    (option_map (λ s. s.now) c.text ≡ text_in (get_member (codes "text") ms))
    × (c.range ≡ range_of (get_member (codes "range") ms))

-- These are what is kept of the members of `textDocument`.
abbrev pub IsDocumentOf : DocumentMembers → Members → Type 0
IsDocumentOf d ms =
    (option_map (λ s. s.now) d.uri ≡ text_in (get_member (codes "uri") ms))
    × (option_map (λ s. s.now) d.language ≡ text_in (get_member (codes "languageId") ms))
    × (d.version ≡ version_in (get_member (codes "version") ms))
    × (option_map (λ s. s.now) d.text ≡ text_in (get_member (codes "text") ms))

-- This is what is kept of a `textDocument`; none where it is no object.
abbrev pub IsDocumentIn : Option DocumentMembers → Option Members → Type 0
IsDocumentIn None None = ⊤
IsDocumentIn None (Some ms) = ⊥
IsDocumentIn (Some d) None = ⊥
IsDocumentIn (Some d) (Some ms) = IsDocumentOf d ms

-- These are what is kept of the params of a message.
abbrev pub IsParamsOf : ParamsMembers → Option Data → Type 0
IsParamsOf p value =
    IsDocumentIn p.document (members_in (member_at (codes "textDocument") value))
    × (option_map (λ v. map content_change_view v.items) p.changes
    ≡ option_and_then (each_of content_change_in) (array_in (member_at (codes "contentChanges") value)))

-- These are what is kept of the members of params.
abbrev pub AreParamsMembers : ParamsMembers → Members → Type 0
AreParamsMembers p ms = IsParamsOf p (Some (object ms))

-- This is what is kept of a member `id`.
abbrev pub IsKeptId : Option Scalar → Option Data → Type 0
IsKeptId id value = option_map scalar_data id ≡ option_map kept value

-- These are what is kept of the members of a message.
abbrev pub IsMessageOf : MessageMembers → Members → Type 0
IsMessageOf m ms =
    (m.is_version_two ≡ is_version_two (get_member (codes "jsonrpc") ms))
    × (option_map (λ t. option_map (λ s. s.now) t) m.method
    ≡ option_map as_str (get_member (codes "method") ms))
    × IsKeptId m.id (get_member (codes "id") ms)
    × (m.has_failed ≡ not (is_missing (get_member (codes "error") ms)))
    × (m.has_result ≡ is_some (get_member (codes "result") ms))
    × IsParamsOf m.params (get_member (codes "params") ms)

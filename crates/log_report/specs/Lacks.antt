-- What a message lacks whose params can't be read (LSP 3.17, DidOpenTextDocumentParams and the like).
use Rattle.std.specs.Prelude.{if◌then◌else◌}
use Rattle.log_report.specs.Prelude.{ℕ, Bool, not, List, Option, Some, None, codes, is_some, Data, IncomingData, did_open, did_change, did_close, Sender}
use Rattle.lsp_log.specs.declared.record.Sender.TheVariants.{Client}
use Rattle.lsp_message.specs.Params.{version_in}
use Rattle.lsp_message.specs.Values.{array_in, member_at, text_in}
use Rattle.log_report.specs.declared.lacks.Lack.{Lack}
use Rattle.log_report.specs.declared.lacks.Lack.TheVariants.{Change, Changes, Language, Text, Uri, Version}

-- Has an object this member, a text, or a version?
abbrev pub has_text : List ℕ → Option Data → Bool
has_text name document = is_some (text_in (member_at name document))

abbrev pub has_version : Option Data → Bool
has_version document = is_some (version_in (member_at (codes "version") document))

-- What the document of a `didOpen` lacks first.
abbrev pub open_lack : Option Data → Lack
open_lack document = if not (has_text (codes "uri") document) then Uri
    else if not (has_text (codes "languageId") document) then Language
    else if not (has_version document) then Version
    else Text

-- What the params of a `didChange` lack first, by their document.
abbrev pub change_lack : Option Data → Option Data → Lack
change_lack params document = if not (has_text (codes "uri") document) then Uri
    else if not (has_version document) then Version
    else if not (is_some (array_in (member_at (codes "contentChanges") params))) then Changes
    else Change

-- What a message of one side lacks whose params can't be read.
abbrev pub lack_in : Sender → IncomingData → Option Data → Option Lack
lack_in Client (did_open None) params =
    Some (open_lack (member_at (codes "textDocument") params))
lack_in Client (did_change None) params =
    Some (change_lack params (member_at (codes "textDocument") params))
lack_in Client (did_close None) params = Some Uri
lack_in side m params = None

-- In words.
abbrev pub lack_words : Lack → List ℕ
lack_words Uri = codes ": `textDocument.uri` is missing, or no string"
lack_words Language = codes ": `textDocument.languageId` is missing, or no string"
lack_words Version = codes ": `textDocument.version` is missing, or no 32-bit integer"
lack_words Text = codes ": `textDocument.text` is missing, or no string"
lack_words Changes = codes ": `contentChanges` is missing, or no array"
lack_words Change = codes ": a change has no `text`, or a wrong `range`"

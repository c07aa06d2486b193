-- Why a record was refused, in words for people. They are ASCII, with no quotation mark and no
-- backslash.
use Rattle.std.specs.Prelude.{◌∷◌, ◌++◌, if◌then◌else◌}
use Rattle.log_report.specs.Prelude.{ℕ, Bool, true, false, List, [], Option, Some, None, option_and_then, codes, decimal, slice_get, signed_decimal, LimitsData, Position, Range, EditFault, Side, Start, Stop, ErrorCode, ParseError, InvalidRequest, InvalidParams, ServerNotInitialized, ChangeData, AlreadyOpen, TooManyDocuments, TextTooLong, NotOpen, StaleVersion, TooManyChanges, Edit, Store, AnswerData, reply, refused, exits, Sent, one_more}
use Rattle.lsp_edit.specs.declared.fault.EditFault.TheVariants.{InsideCharacter, ReversedRange, NoMemory as NoMemoryToEdit}
use Rattle.lsp_store.specs.declared.fault.StoreFault.{StoreFault}
use Rattle.log_report.specs.Lacks.{lack_words}
use Rattle.log_report.specs.declared.facts.Hint.{Hint}
use Rattle.log_report.specs.declared.facts.Hint.TheVariants.{Lacks, Renamed, Swapped}
use Rattle.lsp_server.specs.declared.answer.Refusal.TheVariants.{InvalidParams as BadParams}

-- ---- what was sent

-- The version that a change sends.
abbrev pub version_words : Option ChangeData → List ℕ
version_words None = []
version_words (Some p) = signed_decimal p.version

-- Has a list nothing in it?
abbrev pub is_empty : {A : Type 0} → List A → Bool
is_empty [] = true
is_empty (x ∷ xs) = false

-- Is it a change without changes of the text?
abbrev pub is_idle : Option ChangeData → Bool
is_idle None = false
is_idle (Some p) = is_empty p.changes

-- What is said of such a change where its version is refused.
abbrev pub idle_words : Option ChangeData → List ℕ
idle_words p = if is_idle p then codes ", and it has no changes" else []

-- The range of one of its changes, by the index of that.
abbrev pub range_sent : Option ChangeData → ℕ → Option Range
range_sent None index = None
range_sent (Some p) index = option_and_then (λ change. change.range) (slice_get p.changes index)

-- A position, as it was sent.
abbrev pub position_words : Position → List ℕ
position_words p = codes "line " ++ decimal p.line ++ codes ", character " ++ decimal p.character

-- One end of a range, as it was sent.
abbrev pub end_words : Side → Option Range → List ℕ
end_words side None = []
end_words Start (Some range) = codes " starts at " ++ position_words range.start
end_words Stop (Some range) = codes " ends at " ++ position_words range.stop

-- A change, by its number from 1.
abbrev pub change_words : ℕ → List ℕ
change_words index = codes "change " ++ decimal (one_more index)

-- ---- why a notification was refused

-- A change that has no result.
abbrev pub edit_reason : Option ChangeData → EditFault → List ℕ
edit_reason p (InsideCharacter change side) =
    change_words change ++ end_words side (range_sent p change) ++ codes ", inside a character"
edit_reason p (ReversedRange change) =
    change_words change ++ end_words Start (range_sent p change) ++ codes ", after it"
    ++ end_words Stop (range_sent p change)
edit_reason p NoMemoryToEdit = []

-- A command that the documents refuse, by the limits and by the change, if it is one.
abbrev pub store_reason : LimitsData → Option ChangeData → StoreFault → List ℕ
store_reason limits p AlreadyOpen = codes "the document is open already"
store_reason limits p TooManyDocuments =
    codes "as many documents are open as --max-docs allows, " ++ decimal limits.max_docs
store_reason limits p TextTooLong =
    codes "the text has more bytes than --max-text allows, " ++ decimal limits.max_text
store_reason limits p NotOpen = codes "the document is not open"
store_reason limits p (StaleVersion current) =
    codes "version " ++ version_words p ++ codes " was sent, and the current one is "
    ++ signed_decimal current ++ idle_words p
store_reason limits p TooManyChanges =
    codes "there are more changes than --max-changes allows, " ++ decimal limits.max_changes
    ++ codes ", or their texts have more than 1 GiB"
store_reason limits p (Edit fault) = edit_reason p fault
store_reason limits p fault = []

-- ---- why any record was refused

-- An error reply.
abbrev pub error_reason : Option ErrorCode → List ℕ
error_reason (Some ParseError) = codes "the body is no JSON"
error_reason (Some InvalidRequest) =
    codes "this is no message, or a request that may not come now"
error_reason (Some InvalidParams) = codes "the parameters of `initialize` can't be read"
error_reason (Some ServerNotInitialized) = codes "no request may come before `initialize`"
error_reason code = []

-- The words for an answer that counts as refused, by the change that it is the answer to.
abbrev pub reason_words : LimitsData → Option ChangeData → AnswerData Sent → List ℕ
reason_words limits p (reply r) = error_reason r.code
reason_words limits p (refused BadParams) = codes "the parameters can't be read"
reason_words limits p (refused (Store fault)) = store_reason limits p fault
reason_words limits p (exits status) = codes "`exit` came without `shutdown`"
reason_words limits p answer = []

-- What comes after the words: that the document was never open, and another one was, that the
-- version was left out before, or what the params lack.
abbrev pub hint_words : Option Hint → List ℕ
hint_words None = []
hint_words (Some Renamed) = codes "; its editor may have renamed a document that was open"
hint_words (Some Swapped) = codes "; the one that was sent was left out before: messages were swapped"
hint_words (Some (Lacks lack)) = lack_words lack

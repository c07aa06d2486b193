-- The words of a line need no escape in a JSON string.
use Rattle.log_report.proofs.Prelude.{ℕ, changes_words, decimal, usual_words, ◌==◌, [], ◌++◌, Option, Some, None, refl, codes, list_all-append, LimitsData, Position, Range, EditFault, ErrorCode, ParseError, ChangeData, fault_code, StoreFault, AnswerData, reply, refused, exits, Sent, one_more, Sender, Client, Server, Note, code_word, verdict_word, note_words, past_words, side_words, edit_reason, end_words, error_reason, idle_words, is_idle, position_words, range_sent, reason_words, hint_words, Hint, store_reason, version_words, Verdict, answered, side_word}
use Rattle.log_report.specs.Lacks.{lack_words}
use Rattle.log_report.specs.declared.facts.Hint.TheVariants.{Lacks, Renamed, Swapped}
use Rattle.log_report.specs.declared.lacks.Lack.{Lack}
use Rattle.log_report.specs.declared.lacks.Lack.TheVariants.{Change, Changes, Language, Text, Uri, Version}
use Rattle.lsp_edit.specs.declared.fault.EditFault.TheVariants.{InsideCharacter, ReversedRange, NoMemory as NoMemoryToEdit}
use Rattle.lsp_edit.specs.declared.fault.Side.{Side}
use Rattle.lsp_edit.specs.declared.fault.Side.TheVariants.{Start, Stop}
use Rattle.lsp_store.specs.declared.fault.StoreFault.TheVariants.{TooManyDocuments, TextTooLong, StaleVersion, TooManyChanges, Edit}
use Rattle.lsp_server.specs.Codes.{server_refusal_code}
use Rattle.lsp_server.specs.declared.answer.Refusal.{Refusal}
use Rattle.lsp_server.specs.declared.answer.Refusal.TheVariants.{InvalidParams as BadParams, Store}
use Rattle.log_report.specs.declared.notes.Note.TheVariants.{LoneReturn, NoChanges, OddVersion, OpenAlready, PartSaved}
use Rattle.log_report.proofs.JsonLines.PlainLemmas.{IsPlain, either_plain, is_ascii_plain, plain-append, plain_decimal, plain_signed}

-- ---- the word of an answer

pub plain_side : (side : Sender) → IsPlain (side_word side)
plain_side Client = refl
plain_side Server = refl

plain_fault : (fault : StoreFault) → IsPlain (fault_code fault)
plain_fault (Edit (InsideCharacter change side)) = refl
plain_fault _ = refl

plain_refusal : (refusal : Refusal) → IsPlain (server_refusal_code refusal)
plain_refusal BadParams = refl
plain_refusal (Store fault) = plain_fault fault

plain_code : (code : Option ErrorCode) → IsPlain (code_word code)
plain_code (Some ParseError) = refl
plain_code _ = refl

pub plain_verdict : (verdict : Verdict) → IsPlain (verdict_word verdict)
plain_verdict (answered (reply m)) = plain_code m.code
plain_verdict (answered (refused refusal)) = plain_refusal refusal
plain_verdict (answered (exits status)) = plain_decimal status
plain_verdict _ = refl

-- ---- the words of a reason

plain_position : (p : Position) → IsPlain (position_words p)
plain_position p = simp (list_all-append is_ascii_plain, plain_decimal)

plain_end : (side : Side) (range : Option Range) → IsPlain (end_words side range)
plain_end side None = refl
plain_end Start (Some range) = plain_position range.start
plain_end Stop (Some range) = plain_position range.stop

plain_version : (p : Option ChangeData) → IsPlain (version_words p)
plain_version None = refl
plain_version (Some p) = plain_signed p.version

plain_edit : (p : Option ChangeData) (fault : EditFault) → IsPlain (edit_reason p fault)
plain_edit p (InsideCharacter change side) =
    simp (list_all-append is_ascii_plain, plain_decimal (one_more change), plain_end side (range_sent p change))
plain_edit p (ReversedRange change) =
    simp (
      list_all-append is_ascii_plain,
      plain_decimal (one_more change),
      plain_end Start (range_sent p change),
      plain_end Stop (range_sent p change),
    )
plain_edit p NoMemoryToEdit = refl

plain_idle : (p : Option ChangeData) → IsPlain (idle_words p)
plain_idle p = either_plain (is_idle p) (codes ", and it has no changes") [] refl refl

plain_store : (limits : LimitsData) (p : Option ChangeData) (fault : StoreFault) → IsPlain (store_reason limits p fault)
plain_store limits p TooManyDocuments = plain_decimal limits.max_docs
plain_store limits p TextTooLong = plain_decimal limits.max_text
plain_store limits p (StaleVersion current) =
    simp (list_all-append is_ascii_plain, plain_version p, plain_signed current, plain_idle p)
plain_store limits p TooManyChanges = simp (list_all-append is_ascii_plain, plain_decimal limits.max_changes)
plain_store limits p (Edit fault) = plain_edit p fault
plain_store limits p _ = refl

plain_error : (code : Option ErrorCode) → IsPlain (error_reason code)
plain_error (Some ParseError) = refl
plain_error _ = refl

plain_reason : (limits : LimitsData) (p : Option ChangeData) (answer : AnswerData Sent)
    → IsPlain (reason_words limits p answer)
plain_reason limits p (reply m) = plain_error m.code
plain_reason limits p (refused (Store fault)) = plain_store limits p fault
plain_reason limits p _ = refl

plain_lack : (lack : Lack) → IsPlain (lack_words lack)
plain_lack Uri = refl
plain_lack Language = refl
plain_lack Version = refl
plain_lack Text = refl
plain_lack Changes = refl
plain_lack Change = refl

plain_hint : (hint : Option Hint) → IsPlain (hint_words hint)
plain_hint None = refl
plain_hint (Some Renamed) = refl
plain_hint (Some Swapped) = refl
plain_hint (Some (Lacks lack)) = plain_lack lack

pub plain_reason_with : (limits : LimitsData) (p : Option ChangeData) (answer : AnswerData Sent) (hint : Option Hint)
    → IsPlain (reason_words limits p answer ++ hint_words hint)
plain_reason_with limits p answer hint =
    plain-append (reason_words limits p answer) (hint_words hint) (plain_reason limits p answer) (plain_hint hint)

-- ---- the words of a note

plain_from : (side : Side) → IsPlain (side_words side)
plain_from Start = refl
plain_from Stop = refl

plain_past : (sent taken : Position) → IsPlain (past_words sent taken)
plain_past sent taken = either_plain (sent.line == taken.line) _ _ refl refl

plain_changes : (count : ℕ) → IsPlain (changes_words count)
plain_changes count =
    either_plain (count == 1) (codes "1 change") (decimal count ++ codes " changes") refl
    (plain-append (decimal count) (codes " changes") (plain_decimal count) refl)

plain_usual : (usual : Option ℕ) → IsPlain (usual_words usual)
plain_usual None = refl
plain_usual (Some step) = plain_decimal step

pub plain_note : (note : Note) → IsPlain (note_words note)
plain_note OpenAlready = refl
plain_note LoneReturn = refl
plain_note NoChanges = refl
plain_note PartSaved = refl
plain_note (OddVersion sent before changes usual) =
    simp (list_all-append is_ascii_plain, plain_signed, plain_changes changes, plain_usual usual)
plain_note _ = simp (list_all-append is_ascii_plain, plain_decimal, plain_signed, plain_from, plain_past)

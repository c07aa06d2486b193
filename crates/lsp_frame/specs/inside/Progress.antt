-- What only proofs and private contracts use of `Progress`.
use Rattle.std.specs.Prelude.{ℕ, ◌≡◌, ◌+◌, ◌<◌, List, ◌++◌, length, take, Result, Ok, Err}
use Rattle.lsp_frame.specs.Header.{Line, AreLines, header_of, BeginsHeader}
use Rattle.lsp_frame.specs.declared.fault.HeaderFault.{HeaderFault}
use Rattle.lsp_frame.specs.declared.fault.HeaderFault.TheVariants.{MissingLength, RepeatedHeader, BadLength, BodyTooLong, BadCharset, BadHeader}
use Rattle.lsp_frame.specs.declared.framer.notes.Length.{Length}
use Rattle.lsp_frame.specs.declared.framer.notes.Length.TheVariants as said
use Rattle.lsp_frame.specs.declared.framer.notes.Charset.{Charset}
use Rattle.lsp_frame.specs.declared.framer.notes.Charset.TheVariants as named
use Rattle.lsp_frame.specs.declared.framer.notes.Notes.{Notes}
use Rattle.lsp_frame.specs.declared.framer.header.Stop.{Stop}
use Rattle.lsp_frame.specs.declared.framer.header.Stop.TheVariants as stop
use Rattle.lsp_frame.specs.declared.framer.stage.Stage.{Stage}
use Rattle.lsp_frame.specs.declared.framer.stage.Stage.TheVariants as stage
use Rattle.lsp_frame.specs.declared.fault.FrameFault.{FrameFault}
use Rattle.lsp_frame.specs.declared.fault.FrameFault.TheVariants.{NoMemory}
use Rattle.lsp_frame.specs.Faults.{IsDecidedAt, header_fault_at, place_after}

-- These bytes begin no header, nor are they one.
abbrev pub StopsHeader : List ℕ → Type 0
StopsHeader bytes = (lines : List Line) (more : List ℕ) → AreLines lines →
    header_of lines ≡ bytes ++ more → ⊥

-- The length of the body, or the first fault, of a header that gives this length and has this note
-- on the charset.
abbrev pub charset_judged : ℕ → Charset → Result ℕ HeaderFault
charset_judged n named.Bad = Err BadCharset
charset_judged n named.Repeated = Err RepeatedHeader
charset_judged n charset = Ok n

-- The length of the body, or the first fault, by both notes, if the charset is given once at most.
abbrev pub length_judged : Length → Charset → Result ℕ HeaderFault
length_judged said.Missing charset = Err MissingLength
length_judged said.Bad charset = Err BadLength
length_judged said.TooLong charset = Err BodyTooLong
length_judged (said.Given n) charset = charset_judged n charset
length_judged said.Repeated charset = Err RepeatedHeader

-- The length of the body, or the first fault, by both notes. A repeated Content-Type is a fault
-- whatever the length is.
abbrev pub both_judged : Length → Charset → Result ℕ HeaderFault
both_judged length named.Repeated = Err RepeatedHeader
both_judged length charset = length_judged length charset

-- The length of the body, or the first fault, of a header with these notes.
abbrev pub judge_notes : Notes → Result ℕ HeaderFault
judge_notes notes = both_judged notes.length notes.charset

-- No header continues with byte i of the window, which follows the buffered bytes.
pub record IsBadByte (buffered window : List ℕ) (at : ℕ) : Type 0 where
  pub i : ℕ
  pub there : i < length window
  pub place : at ≡ length buffered + i
  pub before : BeginsHeader (buffered ++ take i window)
  pub stops : StopsHeader (buffered ++ take (i + 1) window)

-- Why a line was not taken.
abbrev pub IsLineStop : List ℕ → List ℕ → Stop → Type 0
IsLineStop buffered window (stop.Fault fault at) = (fault ≡ BadHeader)
    × IsBadByte buffered window at
IsLineStop buffered window stop.NoMemory = Unit {0}

-- Why a header was not taken: a fault that was decided on its byte, or out of memory.
abbrev pub IsHeaderStop : ℕ → List ℕ → Stop → Type 0
IsHeaderStop max_body bytes (stop.Fault fault at) = IsDecidedAt max_body bytes at fault
IsHeaderStop max_body bytes stop.NoMemory = Unit {0}

-- The fault of a stream in which `before` bytes came before the frame.
abbrev pub stopped_at : ℕ → Stop → FrameFault
stopped_at before (stop.Fault fault at) = header_fault_at fault (place_after before at)
stopped_at before stop.NoMemory = NoMemory

-- The stage after a piece was not taken.
abbrev pub stage_after : Stage → Stop → Stage
stage_after before (stop.Fault fault at) = stage.Failed
stage_after before stop.NoMemory = before

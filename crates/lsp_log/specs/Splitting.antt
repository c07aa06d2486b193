-- How far a splitter is in a log.
use Rattle.std.specs.Prelude.{ℕ, ◌≡◌, ◌-◌, false, true, List, [], ◌++◌, length, Option, None, Some}
use Rattle.lsp_frame.specs.Stream.{IsFrame, IsPart, HoldsOne}
use Rattle.lsp_frame.specs.Faults.{place_after}
use Rattle.lsp_log.specs.declared.record.Version.{Version}
use Rattle.lsp_log.specs.declared.record.Version.TheVariants.{One, Two}
use Rattle.lsp_log.specs.declared.record.Sender.{Sender}
use Rattle.lsp_log.specs.declared.record.Sender.TheVariants.{Client}
use Rattle.lsp_log.specs.declared.record.Head.{Head}
use Rattle.lsp_log.specs.declared.record.Record as found
use Rattle.lsp_stream.specs.declared.fault.EngineFault.{EngineFault}
use Rattle.lsp_stream.specs.declared.fault.EngineFault.TheVariants.{Frame, NoMemory, BadLog}
use Rattle.lsp_log.specs.declared.splitter.Splitter.{Splitter}
use Rattle.lsp_log.specs.Log.{LogRules, Record, Log, IsVersion, IsReadAs, IsMalformed, IsBadMark, line_of, mark_of, is_line_due}

-- No fault came, and while a mark is to come no byte of a frame is buffered.
pub record IsFed (s : Splitter) : Type 0 where
  pub sound : s.framer.failed ≡ false
  pub between : s.side ≡ None → s.framer.buffered ≡ []

-- More bytes can be taken: no fault came, and no complete frame is buffered.
pub record IsReady (s : Splitter) : Type 0 where
  pub fed : IsFed s
  pub none : IsFrame s.framer.limits.max_body s.framer.buffered → ⊥

-- The mark of the record that is coming in, if it has come.
abbrev pub mark_part : Version → Option Sender → List ℕ
mark_part version None = []
mark_part version (Some side) = mark_of version side

-- The bytes of the record that is coming in.
abbrev pub buffered_of : Splitter → List ℕ
buffered_of s = mark_part s.version s.side ++ s.framer.buffered

-- The side may be unknown only in version 2; in version 1 each record is the client's.
abbrev pub IsSide : Version → Option Sender → Type 0
IsSide One None = ⊥
IsSide One (Some side) = side ≡ Client
IsSide Two side = Unit {0}

-- The input at a splitter: the records that were released, the bytes that it has buffered, and
-- those still to come.
abbrev pub log_at : Splitter → List Record → List ℕ → Log
log_at s records more
    = record { version = s.version; records = records; rest = buffered_of s ++ more }

-- A splitter's state in an input: these records were released, and of the input only these bytes
-- are still to come.
pub record IsAfter (log_rules : LogRules) (input more : List ℕ) (records : List Record)
    (s : Splitter) : Type 0 where
  pub reads : IsReadAs log_rules input (log_at s records more)
  pub limit : s.framer.limits.max_body ≡ log_rules.max_body
  pub placed : s.place ≡ place_after 0 (length input - length (buffered_of s ++ more))
  pub framed : s.framer.place ≡ place_after 0 (length input - length (s.framer.buffered ++ more))
  pub part : IsPart log_rules.max_body s.framer.buffered
  pub one : HoldsOne log_rules.max_body s.framer.buffered
  pub side : IsSide s.version s.side
  pub due : s.line_due ≡ is_line_due s.version records

-- The input at its start: the line of its version, and then these bytes.
pub record IsOpen (log_rules : LogRules) (input : List ℕ) (version : Version)
    (more : List ℕ) : Type 0 where
  pub known : IsVersion log_rules.versions version input
  pub accepted : log_rules.refuses_two ≡ true → version ≡ One
  pub is : input ≡ line_of version ++ more

-- Who wrote the record that is coming in.
abbrev pub side_of : Option Sender → Sender
side_of None = Client
side_of (Some side) = side

-- The side of the record that is coming in, its log's version, its byte offset, and whether the
-- log's line belongs to its output.
abbrev pub record_head : Splitter → Head
record_head s
    = record { side = side_of s.side; version = s.version; place = s.place; line_due = s.line_due }

-- The record that is coming in, with this body.
abbrev pub record_at : Splitter → List ℕ → Record
record_at s body = record { head = record_head s; raw = s.framer.buffered; body = body }

-- A record as it is found, by its bytes.
abbrev pub record_of : found.Record → Record
record_of r = record { head = r.head; raw = r.raw.now; body = r.body.now }

-- Why the rest of the input isn't taken.
abbrev pub IsSplitFault : ℕ → List ℕ → Log → EngineFault → Type 0
IsSplitFault max_body input log (Frame fault) = IsMalformed max_body input fault log
IsSplitFault max_body input log NoMemory = Unit {0}
IsSplitFault max_body input log (BadLog place) = IsBadMark input place log
IsSplitFault max_body input log other = ⊥

-- The faults of splitting: a faulty frame, out of memory, a byte that is no mark.
abbrev pub IsSplitterFault : EngineFault → Type 0
IsSplitterFault (Frame fault) = Unit {0}
IsSplitterFault NoMemory = Unit {0}
IsSplitterFault (BadLog place) = Unit {0}
IsSplitterFault other = ⊥

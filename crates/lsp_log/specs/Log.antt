-- A log, and its complete records.
use Rattle.std.specs.Prelude.{ℕ, ◌≡◌, ◌≢◌, ◌⊎◌, ◌+◌, ◌-◌, Bool, true, false, List, [], ◌∷◌, ◌++◌, length, codes}
use Rattle.lsp_frame.specs.Frame.{IsFrameOf, IsHopeless}
use Rattle.lsp_frame.specs.Stream.{IsPart}
use Rattle.lsp_frame.specs.Faults.{IsDecided, place_after}
use Rattle.lsp_frame.specs.declared.fault.FrameFault.{FrameFault}
use Rattle.lsp_log.specs.declared.record.Version.{Version}
use Rattle.lsp_log.specs.declared.record.Version.TheVariants.{One, Two}
use Rattle.lsp_log.specs.declared.record.Sender.{Sender}
use Rattle.lsp_log.specs.declared.record.Sender.TheVariants.{Client, Server}
use Rattle.lsp_log.specs.declared.record.Head.{Head}

-- How an input is read.
pub record LogRules : Type 0 where
  -- the greatest length of a body
  pub max_body : ℕ
  -- is version 2 recognised?
  pub versions : Bool
  -- is a log of version 2 refused, if it is recognised?
  pub refuses_two : Bool

-- The line that a log of version 2 begins with.
abbrev pub version_line : List ℕ
version_line = codes "lsp-session-log 2\n"

-- What comes before the records: the line of version 2; in version 1 nothing.
abbrev pub line_of : Version → List ℕ
line_of One = []
line_of Two = version_line

-- The version of an input: 2 if that is recognised and the input begins with the line, else 1.
abbrev pub IsVersion : Bool → Version → List ℕ → Type 0
IsVersion versions One input = versions ≡ true → (more : List ℕ) → input ≢ version_line ++ more
IsVersion versions Two input = (versions ≡ true)
    × ((more : List ℕ) × (input ≡ version_line ++ more))

-- The mark before a frame: `>` for one of the client's, `<` for one of the server's. Version 1 has
-- none.
abbrev pub mark_of : Version → Sender → List ℕ
mark_of One side = []
mark_of Two Client = 62 ∷ []
mark_of Two Server = 60 ∷ []

-- A record: its frame, the frame's body, and its side and byte offset.
pub record Record : Type 0 where
  -- its side, its log's version, its byte offset, and whether the log's line belongs to its output
  pub head : Head
  -- the bytes of its frame
  pub raw : List ℕ
  -- the body of its frame
  pub body : List ℕ

-- The bytes of a record: its mark and its frame.
abbrev pub record_bytes : Version → Record → List ℕ
record_bytes version r = mark_of version r.head.side ++ r.raw

-- The records, one after another, and then the rest.
abbrev pub together : Version → List Record → List ℕ → List ℕ
together version [] rest = rest
together version (r ∷ rs) rest = record_bytes version r ++ together version rs rest

-- Does the line of version 2 belong to the output that comes next? It belongs to the first record's
-- output, and without records to that of the end.
abbrev pub is_line_due : Version → List Record → Bool
is_line_due Two [] = true
is_line_due version rs = false

-- A record of a log of this version, whose first byte is at an offset.
pub record IsRecord (max_body : ℕ) (version : Version) (place : ℕ) (line_due : Bool)
    (r : Record) : Type 0 where
  pub is_frame_of : IsFrameOf max_body r.raw r.body
  pub side : version ≡ One → r.head.side ≡ Client
  pub of_version : r.head.version ≡ version
  pub placed : r.head.place ≡ place_after 0 place
  pub due : r.head.line_due ≡ line_due

-- Records one after another, the first at an offset.
abbrev pub AreRecords : ℕ → Version → ℕ → Bool → List Record → Type 0
AreRecords max_body version place line_due [] = Unit {0}
AreRecords max_body version place line_due (r ∷ rs) =
    IsRecord max_body version place line_due r
    × AreRecords max_body version (place + length (record_bytes version r)) false rs

-- An input taken apart: its version, its records, and what is left after them.
pub record Log : Type 0 where
  pub version : Version
  pub records : List Record
  -- what is left after the records
  pub rest : List ℕ

-- The input is the line of its version, these records, and then the rest. Its version isn't
-- refused.
pub record IsReadAs (log_rules : LogRules) (input : List ℕ) (log : Log) : Type 0 where
  -- the input is of this version
  pub version : IsVersion log_rules.versions log.version input
  -- that version isn't refused
  pub accepted : log_rules.refuses_two ≡ true → log.version ≡ One
  -- the line of the version, the records, and the rest
  pub is : input ≡ line_of log.version ++ together log.version log.records log.rest
  -- each record is a frame with its mark, at its byte offset
  pub each : AreRecords log_rules.max_body log.version (length (line_of log.version))
      (is_line_due log.version []) log.records

-- The byte offset at which the rest begins.
abbrev pub rest_at : List ℕ → Log → ℕ
rest_at input log = length input - length log.rest

-- No complete record begins the rest: all complete records of the input were found.
abbrev pub HasNoRecord : ℕ → Log → Type 0
HasNoRecord max_body log = (side : Sender) (raw body more : List ℕ) →
    IsFrameOf max_body raw body → log.rest ≢ mark_of log.version side ++ (raw ++ more)

-- The input is cut: the rest is an incomplete record, so far without a fault.
pub record IsCut (max_body : ℕ) (log : Log) : Type 0 where
  pub side : Sender
  pub part : List ℕ
  pub is : log.rest ≡ mark_of log.version side ++ part
  pub begins : IsPart max_body part
  pub some : log.rest ≢ []
  pub none : HasNoRecord max_body log

-- The rest is empty, or an incomplete record that is so far without a fault.
abbrev pub IsUndecided : ℕ → Log → Type 0
IsUndecided max_body log = (log.rest ≡ []) ⊎ IsCut max_body log

-- The rest begins with a frame that is faulty: the fault is certain, with its byte offset in the
-- input.
pub record IsMalformed (max_body : ℕ) (input : List ℕ) (fault : FrameFault)
    (log : Log) : Type 0 where
  pub side : Sender
  pub part : List ℕ
  pub is : log.rest ≡ mark_of log.version side ++ part
  pub decided : IsDecided max_body (place_after 0 (length input - length part)) part fault
  pub hopeless : IsHopeless max_body part

-- In a log of version 2 the rest begins with a byte that is no mark, at this offset.
pub record IsBadMark (input : List ℕ) (place : ℕ) (log : Log) : Type 0 where
  pub version : log.version ≡ Two
  pub byte : ℕ
  pub more : List ℕ
  pub is : log.rest ≡ byte ∷ more
  pub not_client : byte ≢ 62
  pub not_server : byte ≢ 60
  pub placed : place ≡ place_after 0 (rest_at input log)

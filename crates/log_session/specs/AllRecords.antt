-- The output and the result of an engine, by all the records that are complete in the bytes that
-- were read.
use Rattle.std.specs.Prelude.{◌≡◌, ◌⊎◌, ◌<◌, ◌++◌}
use Rattle.log_session.specs.Prelude.{ℕ, Bool, true, false, List, [], length, Option, Some, None, Result, Ok, Err, Consumes, Appends, place_after, Outcome, EngineFault, Read, Write, Frame, Truncated, BodyTooLong, NoMemory, TooManyTurns, BadLog, Two, LogRules, Record, Log, IsVersion, IsReadAs, HasNoRecord, IsCut, IsMalformed, IsBadMark, is_line_due, IsUnfinished}
use Rattle.log_session.specs.RunOutput.{RunOutput}
use Rattle.log_session.specs.Engine.{PortState}

-- The output at the end of the input, if it is due: the reader reported the end, nothing follows
-- the records, and none of them ended the run.
abbrev pub last_if : Bool → List ℕ → Option (Result Outcome EngineFault) → List ℕ → List ℕ
last_if true [] None last = last
last_if ended rest stop last = []

-- All that an engine is to write for these records: their output, and that of the end if it is due.
abbrev pub all_output : Bool → Log → RunOutput → List ℕ
all_output ended all output = output.out
    ++ last_if ended all.rest output.stop (output.last (is_line_due all.version all.records))

-- With these results a part of it may be unwritten.
abbrev pub is_cut_off : Result Outcome EngineFault → Bool
is_cut_off (Err Write) = true
is_cut_off (Err NoMemory) = true
is_cut_off (Err TooManyTurns) = true
is_cut_off result = false

-- An engine that reads by `log_rules` has read `input`. `all` are its records, and `output` is the
-- engine's for them. The reader and the writer report `state`.
module _ (log_rules : LogRules) (state : PortState) (input : List ℕ) (all : Log)
    (output : RunOutput) where
  -- One more call was needed: to write what is left, to flush what was written, or to read. Then
  -- the output of the records is written, and the input has no fault so far.
  abbrev pub NeedsTurn : (written left : List ℕ) → Type 0
  NeedsTurn written left =
      (0 < length left)
      ⊎ ((state.unflushed ≡ true)
      ⊎ ((state.ended_before ≡ false → state.ended ≡ false) × (written ≡ output.out)
      × (output.stop ≡ None) × IsUnfinished log_rules input all))

  -- What each result says of the input. After `Write` and `NoMemory` nothing more is known.
  abbrev pub IsCause : (written left : List ℕ) → Result Outcome EngineFault → Type 0
  IsCause written left (Ok outcome) =
      (output.stop ≡ Some (Ok outcome))
      ⊎ ((state.ended ≡ true) × (all.rest ≡ []) × (output.stop ≡ None) × (outcome ≡ output.outcome))
  IsCause written left (Err Read) =
      (state.ended ≡ false) × (output.stop ≡ None) × IsUnfinished log_rules input all
  IsCause written left (Err (Frame fault)) =
      (output.stop ≡ None) × IsMalformed log_rules.max_body input fault all
  IsCause written left (Err (Truncated place)) =
      (state.ended ≡ true) × (place ≡ place_after 0 (length input)) × (output.stop ≡ None)
      × IsCut log_rules.max_body all
  IsCause written left (Err (BodyTooLong place)) = output.stop ≡ Some (Err (BodyTooLong place))
  IsCause written left (Err (BadLog place)) =
      (output.stop ≡ Some (Err (BadLog place)))
      ⊎ ((output.stop ≡ None) × IsBadMark input place all)
  IsCause written left (Err TooManyTurns) = NeedsTurn written left
  IsCause written left (Err fault) = Unit {0}

-- What such an engine wrote and answered. The writer has had `received_old` before and has
-- `received_new` now.
pub record IsObserved (log_rules : LogRules) (state : PortState) (input : List ℕ)
    (received_old received_new : Option (List ℕ)) (all : Log) (output : RunOutput)
    (result : Result Outcome EngineFault) : Type 0 where
  -- the output is what was written, and what is left
  pub written : List ℕ
  pub left : List ℕ
  pub is : all_output state.ended all output ≡ written ++ left
  pub wrote : Appends received_old received_new written
  pub whole : is_cut_off result ≡ false → left ≡ []
  pub cause : IsCause log_rules state input all output written left result

-- An engine ran. Whatever records are all that are complete in the bytes that it read, they decide
-- its output and its result. An input of version 2, where that is refused, has no such records.
pub record RanOver (log_rules : LogRules) (run_output : List Record → RunOutput) (state : PortState)
    (left_old left_new received_old received_new : Option (List ℕ))
    (result : Result Outcome EngineFault) : Type 0 where
  pub input : List ℕ
  pub read : Consumes left_old left_new input
  pub reported : (all : Log) → IsReadAs log_rules input all → HasNoRecord log_rules.max_body all →
      IsObserved log_rules state input received_old received_new all (run_output all.records) result
  -- it is a bad log from its first byte on, and nothing is written
  pub refused : log_rules.refuses_two ≡ true → IsVersion log_rules.versions Two input →
      (result ≡ Err (BadLog 0)) × Appends received_old received_new []

-- Why a record can't come where it is in a log.
use Rattle.std.specs.Prelude.{◌≡◌, ◌⊎◌, ◌++◌, ◌+◌}
use Rattle.lspsync.specs.Prelude.{ℕ, false, List, [], take, codes, Option, Some, option_map, Result, Ok, Err, IfSome, Keeps, ReaderState, WriterState, ports, allowed_turns, Settings, Outcome, EngineFault, check_engine, IsEngineRun}
use Rattle.std.specs.Str.{bytes_eq}
use Rattle.lsp_log.specs.Log.{version_line}
use Rattle.lsp_stream.specs.declared.fault.EngineFault.TheVariants.{BadLog}
use Rattle.lspsync.specs.FaultText.{fault_cause}
use Rattle.lspsync.specs.Openings.{file_opened, nothing_written}
use Rattle.lspsync.specs.declared.reasons.Reason.{Reason}
use Rattle.lspsync.specs.declared.reasons.Reason.TheVariants as reason

-- `check` ends so, over a file with these bytes, where they are known.
pub record IsCheckRun (settings : Settings) (left : Option (List ℕ))
    (result : Result Outcome EngineFault) : Type 0 where
  -- the file and the lines after the run
  pub file : ReaderState
  pub writer : WriterState
  pub ran : IsEngineRun (check_engine settings) allowed_turns
      (ports (file_opened left) nothing_written) (ports file writer) result

-- So many bytes of a file, where they are known, and then these.
abbrev pub with_more : Option (List ℕ) → ℕ → List ℕ → Option (List ℕ)
with_more left len more = option_map (λ bytes. take len bytes ++ more) left

-- They are a log.
abbrev pub IsGoodWith : Settings → Option (List ℕ) → ℕ → List ℕ → Type 0
IsGoodWith settings left len more = (outcome : Outcome)
    × IsCheckRun settings (with_more left len more) (Ok outcome)

-- They have a record at this byte offset that can't come there.
abbrev pub IsBadWith : Settings → Option (List ℕ) → ℕ → List ℕ → ℕ → Type 0
IsBadWith settings left len more place =
    IsCheckRun settings (with_more left len more) (Err (BadLog place))

-- A log whose bytes may be known has one side alone: it doesn't begin with the line of version 2.
abbrev pub HasOneSide : Option (List ℕ) → Type 0
HasOneSide left = IfSome left (λ bytes. bytes_eq (take 18 bytes) version_line ≡ false)

-- A message that asks nothing, with the editor's mark; and a change, without a mark.
abbrev pub nothing_probe : List ℕ
nothing_probe = codes ">Content-Length: 32\r\n\r\n{\"jsonrpc\":\"2.0\",\"method\":\"$/x\"}"

abbrev pub change_probe : List ℕ
change_probe = codes "Content-Length: 51\r\n\r\n{\"jsonrpc\":\"2.0\",\"method\":\"textDocument/didChange\"}"

-- Why the record at this byte offset can't come there. Its first byte alone is bad; or not even a
-- message that asks nothing can come there, or the log has one side alone; or a change can't; or after
-- its mark a change can, so it is the server's.
abbrev pub IsReasonIn : Settings → Option (List ℕ) → ℕ → Reason → Type 0
IsReasonIn settings left place reason.NoMark = IsBadWith settings left (place + 1) [] place
IsReasonIn settings left place reason.AfterExit =
    HasOneSide left ⊎ IsBadWith settings left place nothing_probe place
IsReasonIn settings left place reason.EarlyChange =
    IsBadWith settings left (place + 1) change_probe place
IsReasonIn settings left place reason.BadResult =
    IsGoodWith settings left (place + 1) change_probe
IsReasonIn settings left place reason.HasReplies = place ≡ 0

-- The same of a file that was read from its beginning on, by some settings. Of its bytes this may be
-- known.
abbrev pub IsReason : Option (List ℕ) → ℕ → Reason → Type 0
IsReason known place reason = (settings : Settings) × (left : Option (List ℕ)) × Keeps known left
    × IsReasonIn settings left place reason

-- What is said of a reason.
abbrev pub reason_text : Reason → List ℕ
reason_text reason.NoMark = codes "no `>` or `<` is here"
reason_text reason.AfterExit = codes "this message comes after `exit`"
reason_text reason.EarlyChange = codes "this change comes before the result of `initialize`"
reason_text reason.BadResult =
    codes "this result of `initialize` can't be read, or its encoding is unknown"
reason_text reason.HasReplies = codes "the log has its replies already"

-- What is said of a fault of a file's log: its cause, or why a record can't come where it is.
abbrev pub IsCauseOf : Option (List ℕ) → EngineFault → List ℕ → Type 0
IsCauseOf known fault cause = (fault_cause fault ≡ Some cause)
    ⊎ ((place : ℕ) × (fault ≡ BadLog place) × (why : Reason) × (cause ≡ reason_text why)
    × IsReason known place why)

-- What a session writes: a line for each step of a pair, and then how the pair ends.
use Rattle.std.specs.Prelude.{◌≡◌, ◌⊎◌, ◌+◌, ◌-◌, ◌<◌, ◌≤◌, ◌==◌, ◌^◌, ◌++◌, ◌∷◌, if◌then◌else◌}
use Rattle.lsp_simulate.specs.Prelude.{ℕ, [], Bool, true, false, List, length, min, codes, decimal, Option, IfSome, Result, Ok, Err, Appends, EngineFault, Ports, ReaderState, Rose, WriterState, AppendsFront, Spends, IsStopped, allowed_turns, document_text, DocumentItem, Happened, PairFault, NotUtf16, LimitsTooSmall, EventData, PairData, IsFitting, IsStep, are_within, can_choose_utf16, new_pair, Setting, RunFault, Pair, Read, BadEvent}
use Rattle.lsp_pair.specs.Events.{Setting as PairSetting}
use Rattle.lsp_simulate.specs.declared.run.RunFault.TheVariants.{Write, NoMemory}
use Rattle.lsp_simulate.specs.Words.{happened_words}

-- A step: an event, and what happened.
pub record PairStep : Type 0 where
  pub event : EventData
  pub happened : Happened

-- The steps of a pair, in order.
abbrev pub AreSteps : PairData → List PairStep → PairData → Type 0
AreSteps old [] new = new ≡ old
AreSteps old (s ∷ steps) new =
    (mid : PairData) × IsStep old s.event s.happened mid × AreSteps mid steps new

-- The number after this one. It stays at the greatest value of a `u64`.
abbrev pub next_line_number : ℕ → ℕ
next_line_number n = min (n + 1) (2 ^ 64 - 1)

-- The line of a step: its number, and the words for what happened.
abbrev pub step_line : ℕ → Happened → List ℕ
step_line number happened =
    ((decimal number ++ codes " ") ++ happened_words happened) ++ codes "\n"

-- The lines of steps, after so many others.
abbrev pub step_lines : ℕ → List PairStep → List ℕ
step_lines number [] = []
step_lines number (s ∷ steps) =
    step_line (next_line_number number) s.happened ++ step_lines (next_line_number number) steps

-- The line that says how many messages wait for the server, and for the client.
abbrev pub waiting_line : ℕ → ℕ → List ℕ
waiting_line to_server to_client =
    codes "waiting " ++ (decimal to_server ++ (codes " " ++ (decimal to_client ++ codes "\n")))

-- The line of a document: the name of its end, and its object.
abbrev pub end_document : List ℕ → DocumentItem → List ℕ
end_document end item = ((end ++ 32 ∷ []) ++ document_text item) ++ 10 ∷ []

abbrev pub document_lines : List ℕ → List DocumentItem → List ℕ
document_lines end [] = []
document_lines end (item ∷ items) = end_document end item ++ document_lines end items

-- How a pair ends: how many messages wait, and the documents of both ends.
abbrev pub end_lines : PairData → List ℕ
end_lines pair = waiting_line (length pair.to_server) (length pair.to_client)
    ++ (document_lines (codes "client") pair.client.table
    ++ document_lines (codes "server") pair.server.table)

-- The pair's part of the settings: all of them.
abbrev pub pair_setting : Setting → PairSetting
pair_setting setting = record {
  limits = setting.limits;
  offers = setting.offers;
  config = setting.config;
}

-- A pair refuses this setting, with this fault.
abbrev pub IsSettingRefused : PairSetting → PairFault → Type 0
IsSettingRefused setting NotUtf16 = can_choose_utf16 setting.config.choice ≡ false
IsSettingRefused setting LimitsTooSmall =
    (can_choose_utf16 setting.config.choice ≡ true)
    × (are_within setting.limits setting.config.limits ≡ false)

-- Whole lines: nothing, or bytes of which the last is a line end.
abbrev pub AreWholeLines : List ℕ → Type 0
AreWholeLines bytes = (bytes ≡ []) ⊎ ((front : List ℕ) × (bytes ≡ front ++ codes "\n"))

-- Some first lines were written, each whole.
abbrev pub AppendsLines : Option (List ℕ) → Option (List ℕ) → List ℕ → Type 0
AppendsLines old new lines =
    (front rest : List ℕ) × (lines ≡ front ++ rest) × AreWholeLines front × Appends old new front

-- What was written of a session that made these steps, by how it ended. At its end all lines are;
-- where memory ran out some first lines, and where the writer failed some first bytes. After a
-- failed read the lines of the steps are, and so after a line of the input that is no event: it is
-- the next one after those of the steps.
abbrev pub WroteSteps : Result (Unit {0}) RunFault → List PairStep → PairData → WriterState →
    WriterState → Type 0
WroteSteps (Ok _) steps pair before after =
    Appends before.written after.written (step_lines 0 steps ++ end_lines pair)
WroteSteps (Err NoMemory) steps pair before after =
    AppendsLines before.written after.written (step_lines 0 steps ++ end_lines pair)
WroteSteps (Err Write) steps pair before after =
    AppendsFront before.written after.written (step_lines 0 steps ++ end_lines pair)
    × ((fault : EngineFault) × IsStopped before after fault)
WroteSteps (Err (BadEvent line)) steps pair before after =
    (line ≡ next_line_number (length steps))
    × Appends before.written after.written (step_lines 0 steps)
WroteSteps (Err fault) steps pair before after =
    Appends before.written after.written (step_lines 0 steps)

-- How many lines some bytes have, after some of a line (`true`) or none. The last line may lack its
-- line end.
abbrev pub lines_from : Bool → List ℕ → ℕ
lines_from begun [] = if begun then 1 else 0
lines_from begun (byte ∷ bytes) =
    if byte == 10 then 1 + lines_from false bytes else lines_from true bytes

abbrev pub line_count : List ℕ → ℕ
line_count bytes = lines_from false bytes

-- The reader failed: its last read did, or each read that was allowed was made.
abbrev pub HasReadFailed : ReaderState → ReaderState → Type 0
HasReadFailed before after =
    ((after.failed ≡ true) × Rose before.calls after.calls)
    ⊎ Spends before.calls after.calls allowed_turns 0

-- What was read of a session that made so many steps, by how it ended. At its end the input was read
-- to its end, and each of its lines is a step. Else no step is made up: there are as many lines, and
-- where one is no event there is one more.
abbrev pub ReadLines : Result (Unit {0}) RunFault → ℕ → ReaderState → ReaderState → Type 0
ReadLines (Ok _) steps before after = (after.ended ≡ true)
    × IfSome before.left (λ input. steps ≡ line_count input)
ReadLines (Err Read) steps before after = HasReadFailed before after
    × IfSome before.left (λ input. steps ≤ line_count input)
ReadLines (Err (BadEvent line)) steps before after =
    IfSome before.left (λ input. steps < line_count input)
ReadLines (Err fault) steps before after =
    IfSome before.left (λ input. steps ≤ line_count input)

-- A session ran: some steps of a pair, from a new one on. Which events the lines of the input mean,
-- no clause says.
pub record RanSteps (setting : Setting) (result : Result (Unit {0}) RunFault)
    (before after : Ports) : Type 0 where
  pub fits : IsFitting (pair_setting setting)
  pub steps : List PairStep
  -- the pair after them
  pub pair : PairData
  pub are_steps : AreSteps (new_pair (pair_setting setting)) steps pair
  pub read : ReadLines result (length steps) before.reader after.reader
  pub written : WroteSteps result steps pair before.writer after.writer

-- What a session read and wrote, by how it ended. Of a refused setting it does neither.
abbrev pub WroteSession : Setting → Result (Unit {0}) RunFault → Ports → Ports → Type 0
WroteSession setting (Err (Pair fault)) before after =
    IsSettingRefused (pair_setting setting) fault × (after ≡ before)
WroteSession setting result before after = RanSteps setting result before after

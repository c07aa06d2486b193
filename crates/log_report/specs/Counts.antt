-- How often what came, for the last lines of `check --explain`.
use Rattle.std.specs.Prelude.{◌==◌, ◌++◌, if◌then◌else◌, ◌∷◌}
use Rattle.log_report.specs.Prelude.{ℕ, Bool, true, false, one_more, List, [], Option, Some, None, codes, decimal, flat_map, AnswerData, reply, dropped, refused, exits, Sent, server_refusal_code, Note}
use Rattle.log_report.specs.Check.{code_word}
use Rattle.log_report.specs.declared.counts.Hidden.{Hidden}
use Rattle.log_report.specs.Notes.{note_kind}
use Rattle.log_session.specs.Session.{Verdict, answered, count_if, has_changed, is_refused}
use Rattle.log_report.specs.Tallies.{Tally, tallied, tallied_if, tally_words}

-- ---- what is counted of each record

-- What is counted of the records of a log.
pub record Counts : Type 0 where
  -- how many of them changed documents
  pub changes : ℕ
  -- those that were dropped, as one tally if there are any
  pub drops : List Tally
  -- those that count as refused, by their codes
  pub refusals : List Tally
  -- the notes of all of them, by their kinds
  pub noted : List Tally
  -- those with notes that are on no line
  pub hidden : Hidden

-- Before the first record.
abbrev pub nothing_counted : Counts
nothing_counted = record {
  changes = 0;
  drops = [];
  refusals = [];
  noted = [];
  hidden = record { count = 0; first = 0; last = 0 };
}

-- The word of a record that was dropped.
abbrev pub dropped_word : Verdict → Option (List ℕ)
dropped_word (answered dropped) = Some (codes "dropped")
dropped_word verdict = None

-- The code of an answer that counts as refused.
abbrev pub answer_code : AnswerData Sent → List ℕ
answer_code (reply m) = code_word m.code
answer_code (refused refusal) = server_refusal_code refusal
answer_code (exits status) = codes "exit 1"
answer_code answer = []

-- The code of a record that counts as refused.
abbrev pub counted_code : Verdict → Option (List ℕ)
counted_code (answered answer) = if is_refused answer then Some (answer_code answer) else None
counted_code verdict = None

-- Some notes came with the record of this number.
abbrev pub tallied_notes : List Note → ℕ → List Tally → List Tally
tallied_notes [] number ts = ts
tallied_notes (note ∷ notes) number ts =
    tallied_notes notes number (tallied (note_kind note) number ts)

-- ---- notes that are on no line

-- The first record with such notes, where one of this number has some.
abbrev pub first_hidden : Hidden → ℕ → ℕ
first_hidden hidden number = if hidden.count == 0 then number else hidden.first

-- The records with such notes, after one of this number. `hides`: has it some?
abbrev pub hidden_after : Hidden → ℕ → Bool → Hidden
hidden_after hidden number true =
    record { count = one_more hidden.count; first = first_hidden hidden number; last = number }
hidden_after hidden number false = hidden

-- ---- after a record

-- What is counted after a record with this number and these notes. `hides`: are some on no line?
abbrev pub counts_after : Counts → ℕ → Verdict → List Note → Bool → Counts
counts_after counts number verdict notes hides = record {
  changes = count_if (has_changed verdict) counts.changes;
  drops = tallied_if (dropped_word verdict) number counts.drops;
  refusals = tallied_if (counted_code verdict) number counts.refusals;
  noted = tallied_notes notes number counts.noted;
  hidden = hidden_after counts.hidden number hides;
}

-- ---- in words

-- What was counted, and how many of the editor's messages there were.
abbrev pub counts_words : ℕ → Counts → List ℕ
counts_words messages counts =
    codes "messages of the editor: " ++ decimal messages ++ codes ", changed documents: "
    ++ decimal counts.changes ++ codes "\n" ++ flat_map (tally_words []) counts.drops
    ++ flat_map (tally_words (codes "refused by ")) counts.refusals
    ++ flat_map (tally_words (codes "noted ")) counts.noted

-- `normalise` of the records that are about the session and the documents' texts.
use Rattle.std.specs.Prelude.{◌≡◌}
use Rattle.log_rewrite.specs.Prelude.{ℕ, List, Result, IfOk, EngineFault, Ports, Record, Settings, Outcome}
use Rattle.log_session.specs.RunOutput.{RunOutput}
use Rattle.log_session.specs.Settings.{log_config}
use Rattle.log_session.specs.Replay.{report}
use Rattle.log_rewrite.specs.laws.Written.{LeavesAlike, Wrote}
use Rattle.log_session.specs.Run.{Engine, log_engine}
use Rattle.log_session.specs.Session.{opened}
use Rattle.log_rewrite.specs.Squash.{normalised}
use Rattle.log_session.specs.Selection.{nothing_selected, Kept, kept_in, output_of_kept}

-- The records of a log that stay.
abbrev pub kept_records : Settings → List Record → Kept
kept_records settings records = kept_in (opened (log_config settings)) nothing_selected records

-- `normalise` of them, with squash or without. Its counts are of them, too.
abbrev pub documents : Settings → List Record → RunOutput
documents settings records = output_of_kept (normalised settings) (kept_records settings records)

-- The engine of `normalise --documents`.
abbrev pub documents_engine : Settings → Engine
documents_engine settings = log_engine settings (documents settings)

-- ---- what it writes

-- The status and the refusals are those of `replay` of all records, and so are the documents of the
-- log that was written.
pub record KeepsDocuments (settings : Settings) (records : List Record) (outcome : Outcome)
    (bytes : List ℕ) : Type 0 where
  pub status : outcome.status ≡ (report settings records).outcome.status
  pub refused : outcome.refused ≡ (report settings records).outcome.refused
  pub leaves : LeavesAlike settings records bytes

-- If the engine has an outcome, it wrote bytes of which that holds.
abbrev pub WritesDocuments : Settings → Ports → Ports → Result Outcome EngineFault → Type 0
WritesDocuments settings before after result =
    IfOk result (Wrote settings (KeepsDocuments settings) before.reader.left after.reader.left
    before.writer.written after.writer.written)

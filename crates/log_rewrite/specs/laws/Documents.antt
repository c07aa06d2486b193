-- What holds of the records that stay, and of what is written of them.
use Rattle.std.specs.Prelude.{◌≡◌}
use Rattle.log_rewrite.specs.Prelude.{List, Record, Settings}
use Rattle.log_session.specs.Settings.{as_log}
use Rattle.log_rewrite.specs.Normalise.{canonical_log}
use Rattle.log_rewrite.specs.Documents.{KeepsDocuments, documents}
use Rattle.log_rewrite.specs.laws.Written.{LogLaw}

-- What is written.
abbrev pub DocumentsLaw : Type 0
DocumentsLaw = LogLaw as_log documents (λ settings records bytes.
    KeepsDocuments settings records (documents settings records).outcome bytes)

-- A log ends as it does where no record is left out: at the same record, for the same cause.
abbrev pub DocumentsStopAlike : Type 0
DocumentsStopAlike =
    (settings : Settings) (records : List Record) →
    (documents settings records).stop ≡ (canonical_log settings records).stop

-- `normalise` with its options: with whole texts or without, of all records or of those that stay.
use Rattle.std.specs.Prelude.{if◌then◌else◌}
use Rattle.log_rewrite.specs.Prelude.{Bool, List, Settings, Record}
use Rattle.log_rewrite.specs.declared.commands.normalise.Rewriting.{Rewriting}
use Rattle.log_session.specs.RunOutput.{RunOutput}
use Rattle.log_session.specs.Run.{Engine, flushing, log_engine}
use Rattle.log_rewrite.specs.Documents.{kept_records}
use Rattle.log_session.specs.Selection.{output_of_kept}
use Rattle.log_rewrite.specs.Normalise.{whole_log}
use Rattle.log_rewrite.specs.Squash.{normalised}

-- The output of `normalise`, with whole texts or as its settings say.
abbrev pub rewritten_log : Bool → Settings → List Record → RunOutput
rewritten_log whole settings = if whole then whole_log settings else normalised settings

-- The same of all records, or of those that stay.
abbrev pub rewritten : Rewriting → Settings → List Record → RunOutput
rewritten by settings records = if by.documents
    then output_of_kept (rewritten_log by.whole settings) (kept_records settings records)
    else rewritten_log by.whole settings records

-- The engine of `normalise` with these options.
abbrev pub rewriting_engine : Settings → Rewriting → Engine
rewriting_engine settings by = flushing by.live (log_engine settings (rewritten by settings))

-- How a log is read.
use Rattle.log_session.specs.Prelude.{true, false, default_limits, Utf16, LogRules, Config, Settings}
use Rattle.lsp_server.specs.declared.config.EncodingChoice.TheVariants.{Fixed}
use Rattle.lsp_server.specs.declared.config.ChangeForm.TheVariants.{Incremental}

-- ---- the engines, from their settings and an input's records to their output

-- The server of the log commands: it is incremental, with the encoding that the user names.
abbrev pub log_config : Settings → Config
log_config settings
    = record { limits = settings.limits; choice = Fixed settings.encoding; sync = Incremental }

-- How a log is read where a user sets nothing: by the default limits, in UTF-16, each change by
-- itself.
abbrev pub default_settings : Settings
default_settings = record { limits = default_limits; encoding = Utf16; squash = false }

-- A log of either version.
abbrev pub as_log : Settings → LogRules
as_log settings = record { max_body = settings.limits.max_body; versions = true; refuses_two = false }

-- Which messages are read again.
use Rattle.log_report.specs.Prelude.{Bool, true, false, None, IncomingData, did_open, did_change, did_close}

-- Is it a message about a document whose params can't be read?
abbrev pub is_broken : IncomingData → Bool
is_broken (did_open None) = true
is_broken (did_change None) = true
is_broken (did_close None) = true
is_broken m = false

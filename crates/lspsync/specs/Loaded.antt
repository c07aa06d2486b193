-- A call with the text of a file that was read for it.
use Rattle.lspsync.specs.Prelude.{String, Global, Call}
use Rattle.lspsync.specs.declared.command_line.Call.TheVariants as call

-- Only `compare` takes one.
abbrev pub with_text : String Global → Call → Call
with_text text (call.Compare settings against) =
    call.Compare settings (record against { text = text })
with_text text asked = asked

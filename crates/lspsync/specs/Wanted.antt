-- The document that a call names.
use Rattle.std.specs.Prelude.{◌≡◌}
use Rattle.lspsync.specs.Prelude.{Some, None, option_map, string_bytes, Call, Wanted}
use Rattle.lspsync.specs.declared.command_line.Call.TheVariants as call

-- A call names this document, reads its log so, and compares its text with this one.
abbrev pub IsWanted : Call → Wanted → Type 0
IsWanted (call.ReplayPart settings part) wanted = (wanted.settings ≡ settings)
    × (Some (string_bytes wanted.ending) ≡ option_map string_bytes part.uri)
    × (option_map string_bytes wanted.saved ≡ None)
IsWanted (call.Compare settings against) wanted = (wanted.settings ≡ settings)
    × (string_bytes wanted.ending ≡ string_bytes against.ending)
    × (option_map string_bytes wanted.saved ≡ Some (string_bytes against.text))
IsWanted asked wanted = ⊥

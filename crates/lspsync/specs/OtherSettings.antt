-- By which other settings a log gives the text that it is compared with.
use Rattle.std.specs.Prelude.{◌≡◌, ◌≢◌}
use Rattle.lspsync.specs.Prelude.{ℕ, false, true, List, codes, Option, Some, None, option_map, Ok, Keeps, string_bytes, new_comparison, Encoding, ReaderState, WriterState, ports, allowed_turns, Settings, Outcome, compare_engine, IsEngineRun, Wanted}
use Rattle.lsp_text.specs.declared.encoding.Encoding.TheVariants.{Utf8, Utf16, Utf32}
use Rattle.lspsync.specs.Openings.{file_opened, nothing_written}
use Rattle.lspsync.specs.declared.other_settings.OtherSetting.{OtherSetting}
use Rattle.lspsync.specs.declared.other_settings.OtherSetting.TheVariants as other

-- Settings have another value than this.
abbrev pub IsOther : OtherSetting → Settings → Type 0
IsOther (other.Encoding encoding) settings = encoding ≢ settings.encoding
IsOther other.Lenient settings = settings.limits.lenient ≡ false

-- The same settings with this value.
abbrev pub with_other : OtherSetting → Settings → Settings
with_other (other.Encoding encoding) settings = record settings { encoding = encoding }
with_other other.Lenient settings =
    record settings { limits = record settings.limits { lenient = true } }

-- `compare` finds that the texts are equal over a file with these bytes, where they are known.
pub record IsEqualRun (settings : Settings) (ending saved : List ℕ) (left : Option (List ℕ)) :
    Type 0 where
  -- the file and the output after the run
  pub file : ReaderState
  pub writer : WriterState
  pub outcome : Outcome
  pub ran : IsEngineRun (compare_engine settings (new_comparison ending saved)) allowed_turns
      (ports (file_opened left) nothing_written) (ports file writer) (Ok outcome)
  pub equal : outcome.status ≡ 0

-- The same of a file that was read from its beginning on, with this setting. Of its bytes this may be
-- known.
abbrev pub AreEqualWith : Wanted → List ℕ → Option (List ℕ) → OtherSetting → Type 0
AreEqualWith wanted saved known setting = (left : Option (List ℕ)) × Keeps known left
    × IsEqualRun (with_other setting wanted.settings) (string_bytes wanted.ending) saved left

-- The texts differ that a call compares, and with this setting, which it didn't have, they are equal.
abbrev pub IsSettingNamed : Option Wanted → Option (List ℕ) → Outcome → OtherSetting → Type 0
IsSettingNamed (Some wanted) known outcome setting = (outcome.status ≡ 1)
    × (outcome.missing ≡ None) × IsOther setting wanted.settings × (saved : List ℕ)
    × (option_map string_bytes wanted.saved ≡ Some saved) × AreEqualWith wanted saved known setting
IsSettingNamed None known outcome setting = ⊥

-- What is said of an encoding in which they are.
abbrev pub equal_in : Encoding → List ℕ
equal_in Utf8 = codes "with `--encoding utf-8` the texts are equal"
equal_in Utf16 = codes "with `--encoding utf-16` the texts are equal"
equal_in Utf32 = codes "with `--encoding utf-32` the texts are equal"

-- What is said of such a setting.
abbrev pub equal_text : OtherSetting → List ℕ
equal_text (other.Encoding encoding) = equal_in encoding
equal_text other.Lenient = codes "with `--lenient` the texts are equal"

-- The setting of a session, by what `clap` finds in the words.
use Rattle.std.specs.Prelude.{◌≡◌, ◌⊎◌, if◌then◌else◌}
use Rattle.lsp_simulate.specs.Prelude.{ℕ, [], Result, Ok, Err, List, Option, Some, None, codes, option_map, option_and_then, matches_of, kind_of, Error, Setting}
use Rattle.std.specs.Str.{bytes_eq}
use Rattle.clap.specs.Matches.{found_of, first_value}
use Rattle.clap.specs.Simple.{App}
use Rattle.clap.specs.Faults.{fault_of}
use Rattle.clap.specs.Kinds.{IsAmong}
use Rattle.clap.specs.Walk.{rows_of}
use Rattle.clap.specs.declared.error.kind.ErrorKind.TheVariants.{OutOfMemory}
use Rattle.clap.specs.declared.parser.matches.ArgMatches.{ArgMatches}
use Rattle.lsp_frame.specs.Limits.{LimitsData, first_out_of_range}
use Rattle.lsp_text.specs.Units.{encoding_named}
use Rattle.lsp_server.specs.declared.config.Config.{Config}
use Rattle.lsp_server.specs.declared.config.EncodingChoice.{EncodingChoice}
use Rattle.lsp_server.specs.declared.config.EncodingChoice.TheVariants.{Fixed, Negotiated}
use Rattle.lsp_server.specs.declared.config.ChangeForm.{ChangeForm}
use Rattle.lsp_server.specs.declared.config.ChangeForm.TheVariants.{Incremental, Full}
use Rattle.lsp_program.specs.Found.{AreLimits, HasNumber, IsFlag}
use Rattle.lsp_simulate.specs.CommandLine.{IsProgram}

-- The number of the first option, or where that has none, of the second.
abbrev pub HasEither : ArgMatches → List ℕ → List ℕ → ℕ → Type 0
HasEither options first second n = HasNumber options first n
    ⊎ (((m : ℕ) → HasNumber options first m → ⊥) × HasNumber options second n)

-- The server's limits. Those that no option of its own sets are the client's. The flag is the same.
pub record AreServerLimits (options : ArgMatches) (limits : LimitsData) : Type 0 where
  pub max_body : HasEither options (codes "server-max-body") (codes "max-body") limits.max_body
  pub max_text : HasEither options (codes "server-max-text") (codes "max-text") limits.max_text
  pub max_docs : HasEither options (codes "server-max-docs") (codes "max-docs") limits.max_docs
  pub max_changes : HasEither options (codes "server-max-changes") (codes "max-changes")
      limits.max_changes
  pub in_range : first_out_of_range limits ≡ None
  pub lenient : IsFlag options (codes "lenient") limits.lenient

-- The choice of the encoding, by the names of `--fixed` and of `--prefer`. The first comes before
-- the second.
abbrev pub choice_named : Option (List ℕ) → Option (List ℕ) → Option EncodingChoice
choice_named (Some fixed) prefer = option_map Fixed (encoding_named fixed)
choice_named None prefer = option_map Negotiated (option_and_then encoding_named prefer)

-- How the server chooses the encoding.
abbrev pub choice_given : ArgMatches → Option EncodingChoice
choice_given options = choice_named (first_value (found_of options) (codes "fixed"))
    (first_value (found_of options) (codes "prefer"))

-- The meaning of a name of `--sync`.
abbrev pub form_named : List ℕ → ChangeForm
form_named name = if bytes_eq name (codes "full") then Full else Incremental

-- The form in which the client is asked to send changes.
abbrev pub form_given : ArgMatches → Option ChangeForm
form_given options = option_map form_named (first_value (found_of options) (codes "sync"))

-- The set-up of the server.
pub record IsConfig (options : ArgMatches) (config : Config) : Type 0 where
  pub limits : AreServerLimits options config.limits
  pub choice : choice_given options ≡ Some config.choice
  pub sync : form_given options ≡ Some config.sync

-- The set-up of both ends.
pub record IsSetting (options : ArgMatches) (setting : Setting) : Type 0 where
  pub limits : AreLimits options setting.limits
  pub utf8 : IsFlag options (codes "utf-8") setting.offers.utf8
  pub utf32 : IsFlag options (codes "utf-32") setting.offers.utf32
  pub config : IsConfig options setting.config

-- What was found is this setting. It is none only where the options name none.
abbrev pub IsFound : ArgMatches → Option Setting → Type 0
IsFound options (Some setting) = IsSetting options setting
IsFound options None = (setting : Setting) → IsSetting options setting → ⊥

-- The program takes the words, and finds its options in them.
pub record AreTaken (words : List (List ℕ)) (setting : Option Setting) : Type 0 where
  pub app : App
  pub program : IsProgram app
  pub taken : fault_of app words ≡ []
  pub found : ArgMatches
  pub rows : rows_of (found_of found) ≡ matches_of app words
  pub setting_is : IsFound found setting

-- What the words are read as. An error has a kind that the program finds in them, or memory ran
-- out.
abbrev pub AreWordsReadAs : List (List ℕ) → Result (Option Setting) Error → Type 0
AreWordsReadAs words (Ok setting) = AreTaken words setting
AreWordsReadAs words (Err error) = (kind_of error ≡ OutOfMemory)
    ⊎ ((app : App) × IsProgram app × IsAmong (kind_of error) (fault_of app words))

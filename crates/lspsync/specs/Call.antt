-- The calls of the program, by what `clap` finds in its words.
use Rattle.std.specs.Prelude.{◌≡◌, ◌⊎◌, ◌&&◌, ◌||◌, ◌∷◌, if◌then◌else◌}
use Rattle.lspsync.specs.Prelude.{ℕ, not, is_some, [], Result, Ok, Err, Bool, true, false, List, All, map, Option, Some, None, codes, option_map, option_and_then, unwrap_or, Vec, Global, string_bytes, subcommand_of, subcommand_rows_of, kind_of, Error, Encoding, Settings, Call, Task}
use Rattle.std.specs.Option.{option_map_or, option_or}
use Rattle.std.specs.Str.{bytes_eq}
use Rattle.clap.specs.Matches.{found_of, first_value, matched_of, raw_values, subcommand_name_of}
use Rattle.clap.specs.Simple.{App}
use Rattle.clap.specs.Faults.{fault_of}
use Rattle.clap.specs.Kinds.{IsAmong}
use Rattle.clap.specs.declared.error.kind.ErrorKind.TheVariants.{OutOfMemory}
use Rattle.clap.specs.Walk.{rows_of}
use Rattle.clap.specs.declared.parser.matches.ArgMatches.{ArgMatches}
use Rattle.lsp_text.specs.Units.{encoding_named}
use Rattle.lsp_server.specs.declared.config.Config.{Config}
use Rattle.lsp_server.specs.declared.config.EncodingChoice.TheVariants.{Negotiated}
use Rattle.lsp_server.specs.declared.config.ChangeForm.{ChangeForm}
use Rattle.lsp_server.specs.declared.config.ChangeForm.TheVariants.{Incremental, Full}
use Rattle.log_report.specs.declared.commands.explain.Listing.{Listing}
use Rattle.log_rewrite.specs.declared.commands.normalise.Rewriting.{Rewriting}
use Rattle.log_rewrite.specs.declared.commands.part.Part.{Part}
use Rattle.log_report.specs.declared.commands.trace.Details.{Details}
use Rattle.lsp_program.specs.Found.{AreLimits, HasNumber, IsFlag}
use Rattle.lspsync.specs.CommandLine.{IsProgram}
use Rattle.lspsync.specs.declared.command_line.Against.{Against}
use Rattle.lspsync.specs.declared.command_line.Call.TheVariants as call

-- The encoding that the options name.
abbrev pub encoding_given : ArgMatches → Option Encoding
encoding_given options
    = option_and_then encoding_named (first_value (found_of options) (codes "encoding"))

-- The meaning of a name of `--sync`.
abbrev pub sync_named : List ℕ → ChangeForm
sync_named name = if bytes_eq name (codes "full") then Full else Incremental

-- The kind of synchronisation that the options name.
abbrev pub sync_given : ArgMatches → Option ChangeForm
sync_given options = option_map sync_named (first_value (found_of options) (codes "sync"))

-- The settings of a command that reads a log.
pub record AreSettings (options : ArgMatches) (settings : Settings) : Type 0 where
  pub limits : AreLimits options settings.limits
  pub encoding : encoding_given options ≡ Some settings.encoding

-- The set-up of `serve`.
pub record IsConfig (options : ArgMatches) (config : Config) : Type 0 where
  pub limits : AreLimits options config.limits
  pub choice : option_map Negotiated (encoding_given options) ≡ Some config.choice
  pub sync : sync_given options ≡ Some config.sync

-- An option has this number, or none.
abbrev pub HasNumberOrNone : ArgMatches → List ℕ → Option ℕ → Type 0
HasNumberOrNone options id (Some n) = HasNumber options id n
HasNumberOrNone options id None = (n : ℕ) → HasNumber options id n → ⊥

-- The part of a log that the options name.
pub record IsLogPart (options : ArgMatches) (part : Part) : Type 0 where
  pub at : HasNumberOrNone options (codes "at") part.at
  pub uri : option_map string_bytes part.uri ≡ first_value (found_of options) (codes "uri")

-- The part is the whole log, and all its documents.
abbrev pub is_whole : Part → Bool
is_whole part = not (is_some part.at) && not (is_some part.uri)

-- That part.
abbrev pub whole : Part
whole = record { at = None; uri = None }

-- What is written of each record.
pub record AreDetails (options : ArgMatches) (details : Details) : Type 0 where
  pub texts : IsFlag options (codes "texts") details.texts
  pub bodies : IsFlag options (codes "bodies") details.bodies

-- `check` gives reasons: by `--explain`, or by an option that says which.
pub record IsExplained (options : ArgMatches) (explained : Bool) : Type 0 where
  pub explain : Bool
  pub brief : Bool
  pub all : Bool
  pub is_explain : IsFlag options (codes "explain") explain
  pub is_brief : IsFlag options (codes "brief") brief
  pub is_all : IsFlag options (codes "all") all
  pub value : explained ≡ (explain || (brief || all))

-- Which records have a line, and with which notes.
pub record IsListing (options : ArgMatches) (listing : Listing) : Type 0 where
  pub brief : IsFlag options (codes "brief") listing.brief
  pub all : IsFlag options (codes "all") listing.all

-- How a log is written by `normalise`.
pub record IsRewritingGiven (options : ArgMatches) (rewriting : Rewriting) : Type 0 where
  pub whole : IsFlag options (codes "whole") rewriting.whole
  pub documents : IsFlag options (codes "documents") rewriting.documents
  pub live : IsFlag options (codes "live") rewriting.live

-- A flag is there where `clap` has the text `true` under its name.
abbrev pub is_set : ArgMatches → List ℕ → Bool
is_set options id = option_map_or (λ text. bytes_eq text (codes "true"))
    (first_value (found_of options) id) false

-- A series of changes is written once it has ended. So `--squash` goes neither with `--live` nor
-- with `--whole`.
abbrev pub is_contrary : ArgMatches → Bool
is_contrary options = is_set options (codes "squash")
    && (is_set options (codes "whole") || is_set options (codes "live"))

-- How the URI of the document that is compared ends: as `--uri` says, else as the saved text's name.
abbrev pub ending_given : ArgMatches → Option (List ℕ)
ending_given options = option_or (first_value (found_of options) (codes "uri"))
    (first_value (found_of options) (codes "SAVED"))

-- A comparison before the saved text was read.
pub record IsAgainst (options : ArgMatches) (against : Against) : Type 0 where
  pub ending : ending_given options ≡ Some (string_bytes against.ending)
  pub text : string_bytes against.text ≡ []

-- The call of a subcommand with this name and these options.
abbrev pub IsCallNamed : List ℕ → ArgMatches → Call → Type 0
IsCallNamed name options (call.Serve config) = (name ≡ codes "serve") × IsConfig options config
IsCallNamed name options (call.Check settings live) = (name ≡ codes "check")
    × AreSettings options settings × IsExplained options false × IsFlag options (codes "live") live
IsCallNamed name options (call.Explain settings listing live) = (name ≡ codes "check")
    × AreSettings options settings × IsExplained options true × IsListing options listing
    × IsFlag options (codes "live") live
IsCallNamed name options (call.Trace settings details live) = (name ≡ codes "trace")
    × AreSettings options settings × AreDetails options details × IsFlag options (codes "live") live
IsCallNamed name options (call.Replay settings) = (name ≡ codes "replay")
    × AreSettings options settings × IsLogPart options whole
IsCallNamed name options (call.ReplayPart settings part) = (name ≡ codes "replay")
    × AreSettings options settings × IsLogPart options part × (is_whole part ≡ false)
IsCallNamed name options (call.Compare settings against) = (name ≡ codes "compare")
    × AreSettings options settings × IsAgainst options against
IsCallNamed name options (call.Normalise settings rewriting) = (name ≡ codes "normalise")
    × AreSettings options settings × IsFlag options (codes "squash") settings.squash
    × IsRewritingGiven options rewriting × (is_contrary options ≡ false)
IsCallNamed name options (call.Convert settings) = (name ≡ codes "convert")
    × AreSettings options settings

-- The files that the options name. Without one it is `-`.
abbrev pub files_given : ArgMatches → List (List ℕ)
files_given options =
    unwrap_or (option_map raw_values (matched_of (found_of options) (codes "FILE")))
    (codes "-" ∷ [])

-- The file that a word names. `-` is standard input, which is none.
abbrev pub file_named : List ℕ → Option (List ℕ)
file_named word = if bytes_eq word (codes "-") then None else Some word

-- The file of a task.
abbrev pub file_of : Task → Option (List ℕ)
file_of task = option_map string_bytes task.file

-- The file of a saved text that the options name.
abbrev pub saved_given : ArgMatches → Option (List ℕ)
saved_given options = first_value (found_of options) (codes "SAVED")

-- That of a task.
abbrev pub saved_of : Task → Option (List ℕ)
saved_of task = option_map string_bytes task.saved

-- A task has the call of a subcommand, with the saved text that its options name.
abbrev pub IsTaskNamed : List ℕ → ArgMatches → Task → Type 0
IsTaskNamed name options task =
    IsCallNamed name options task.call × (saved_of task ≡ saved_given options)

-- The tasks that were found in the words: the call of the subcommand on each of the files.
pub record AreTasks (found : ArgMatches) (tasks : List Task) : Type 0 where
  pub name : List ℕ
  pub options : ArgMatches
  pub named : subcommand_name_of found ≡ Some name
  pub rows : option_map (λ p. p.1) (subcommand_rows_of found) ≡ Some (rows_of (found_of options))
  pub calls : All (IsTaskNamed name options) tasks
  pub files : map file_of tasks ≡ map file_named (files_given options)

-- No call was found in the words: no subcommand, or one whose name and options are no call.
abbrev pub IsNoCall : ArgMatches → Type 0
IsNoCall found = (subcommand_name_of found ≡ None)
    ⊎ ((name : List ℕ) × (options : ArgMatches) × (subcommand_name_of found ≡ Some name)
    × (option_map (λ p. p.1) (subcommand_rows_of found) ≡ Some (rows_of (found_of options)))
    × ((asked : Call) → IsCallNamed name options asked → ⊥))

-- What was found is tasks, or no call.
abbrev pub IsFound : ArgMatches → Option (Vec Task Global) → Type 0
IsFound found (Some tasks) = AreTasks found tasks.items
IsFound found None = IsNoCall found

-- The program takes the words, and finds in them its subcommand with its options.
pub record AreTaken (words : List (List ℕ)) (tasks : Option (Vec Task Global)) : Type 0 where
  pub app : App
  pub program : IsProgram app
  pub taken : fault_of app words ≡ []
  pub found : ArgMatches
  pub rows : subcommand_rows_of found ≡ subcommand_of app words
  pub tasks_are : IsFound found tasks

-- What the words are read as. An error has a kind that the program finds in them, or memory ran
-- out.
abbrev pub AreWordsReadAs : List (List ℕ) → Result (Option (Vec Task Global)) Error → Type 0
AreWordsReadAs words (Ok tasks) = AreTaken words tasks
AreWordsReadAs words (Err error) = (kind_of error ≡ OutOfMemory)
    ⊎ ((app : App) × IsProgram app × IsAmong (kind_of error) (fault_of app words))

-- The options and files of a command line, as `clap` gets them.
use Rattle.std.specs.Prelude.{ℕ, ◌≡◌, ◌++◌, ◌∷◌, [], true, List, Option, Some, None, codes, decimal, map}
use Rattle.std.specs.Borrow.{Bor}
use Rattle.clap.specs.Words.{App, Rule, Text, app_of, new_rule}
use Rattle.clap.specs.Simple.{on_top}
use Rattle.clap.specs.Lexer.{usize_max}
use Rattle.clap.specs.declared.builder.action.ArgAction.TheVariants.{Append, SetTrue}
use Rattle.clap.specs.declared.builder.command.Command.{Command}
use Rattle.clap.specs.declared.builder.command.Command.TheViews.{out-Command as fields_of}
use Rattle.clap.specs.declared.builder.value_parser.ValueParser.{ValueParser}
use Rattle.clap.specs.declared.builder.value_parser.ValueParser.TheVariants as parsers
use Rattle.lsp_program.specs.declared.arguments.OptionNames.{OptionNames}
use Rattle.lsp_program.specs.declared.arguments.Value.{Value}
use Rattle.lsp_program.specs.declared.arguments.Value.TheVariants as values

-- References to the names that an option takes.
abbrev pub Choices : Type 0
Choices = Bor (List (Bor Text))

-- A flag.
abbrev pub flag_rule : Text → Rule
flag_rule name = record (new_rule name) { long = Some name; action = Some SetTrue }

-- An option with one value, any text.
abbrev pub text_rule : Text → Rule
text_rule name = record (new_rule name) { long = Some name; value_names = 1 }

-- An option with one value, of a kind, and with a default or none.
abbrev pub option_rule : Text → ValueParser → List Text → Rule
option_rule name kind defaults = record (text_rule name) {
  parser = Some kind;
  defaults = defaults;
}

-- An option with a number from `least` to `greatest`.
abbrev pub number_rule : Text → ℕ → ℕ → List Text → Rule
number_rule name least greatest = option_rule name (parsers.Unsigned least greatest)

-- An option with the name of an encoding.
abbrev pub encoding_rule : Text → Choices → List Text → Rule
encoding_rule name encodings = option_rule name (parsers.Names encodings)

-- An option with the name of what a server asks changes for.
abbrev pub form_rule : Text → Choices → Rule
form_rule name forms = option_rule name (parsers.Names forms) (codes "incremental" ∷ [])

-- The limits of a message, a document, open documents, and changes in a message.
abbrev pub limit_rules : List Rule
limit_rules = number_rule (codes "max-body") 4096 1073741824 (decimal 16777216 ∷ [])
    ∷ number_rule (codes "max-text") 0 1073741824 (decimal 16777216 ∷ [])
    ∷ number_rule (codes "max-docs") 1 65536 (decimal 1024 ∷ [])
    ∷ number_rule (codes "max-changes") 1 1048576 (decimal 65536 ∷ []) ∷ []

-- A file that has to be named.
abbrev pub file_rule : Text → Rule
file_rule name = record (new_rule name) { required = true }

-- The file of a log. Without one it is `-`, which is standard input.
abbrev pub log_rule : Text → Rule
log_rule name = record (new_rule name) { defaults = codes "-" ∷ [] }

-- Files of logs.
abbrev pub logs_rule : Text → Rule
logs_rule name = record (log_rule name) {
  action = Some Append;
  range = Some (record { start_inclusive = 0; end_inclusive = usize_max });
}

-- The default of an option, or none.
abbrev pub defaults_of : Option (Bor Text) → List Text
defaults_of None = []
defaults_of (Some default) = default.now ∷ []

-- The option or the file of this name that takes this.
abbrev pub rule_of_value : OptionNames → Text → Value → Rule
rule_of_value names name values.Flag = flag_rule name
rule_of_value names name (values.Text word) = text_rule name
rule_of_value names name (values.Number range default) =
    number_rule name range.least range.greatest (defaults_of default)
rule_of_value names name (values.Encoding default) =
    encoding_rule name names.encodings (defaults_of default)
rule_of_value names name values.ChangeForm = form_rule name names.change_forms
rule_of_value names name values.File = file_rule name
rule_of_value names name values.Log = log_rule name
rule_of_value names name values.Logs = logs_rule name

-- An argument's option or file.
abbrev pub rule_by : OptionNames → Bor Text × Value × Bor Text → Rule
rule_by names argument = rule_of_value names argument.0.now argument.1

-- `new` is `old` with these options and files at its end.
pub record AddsRules (old : Command) (rules : List Rule) (new : Command) : Type 0 where
  pub app : app_of new ≡ on_top (λ s. record s { rules = s.rules ++ rules }) (app_of old)
  pub globals : (fields_of new).has_globals ≡ (fields_of old).has_globals

-- The command line is a program's, with the names of the encodings and of the forms of changes.
pub record IsProgramOf (program : Choices → Choices → App) (app : App) : Type 0 where
  pub encodings : Choices
  pub forms : Choices
  pub names : map (λ s. s.now) encodings.now
      ≡ codes "utf-8" ∷ codes "utf-16" ∷ codes "utf-32" ∷ []
  pub form_names : map (λ s. s.now) forms.now ≡ codes "full" ∷ codes "incremental" ∷ []
  pub same : app ≡ program encodings forms

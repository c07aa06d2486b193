-- The command line: the options of the program, as `clap` gets them.
use Rattle.std.specs.Prelude.{◌++◌, ◌∷◌}
use Rattle.lspsync.specs.Prelude.{[], true, false, List, codes, Rule, Shape, Text, new_shape, Choices, IsProgramOf, encoding_rule, file_rule, flag_rule, form_rule, limit_rules, log_rule, logs_rule, number_rule, text_rule}
use Rattle.clap.specs.Words.{App}

-- The options that each command has: the limits, and whether they are lenient.
abbrev pub common_rules : List Rule
common_rules = limit_rules ++ flag_rule (codes "lenient") ∷ []

-- A command with its own options, and those of all.
abbrev pub command_shape : Text → List Rule → Shape
command_shape name own = record (new_shape name) { rules = own ++ common_rules }

-- `serve`: `--stdio` changes nothing.
abbrev pub serve_rules : Choices → List Rule
serve_rules forms = form_rule (codes "sync") forms ∷ flag_rule (codes "stdio") ∷ []

-- `check`: what it writes of each record, and when.
abbrev pub check_rules : List Rule
check_rules = flag_rule (codes "explain") ∷ flag_rule (codes "brief") ∷ flag_rule (codes "all")
    ∷ flag_rule (codes "live") ∷ logs_rule (codes "FILE") ∷ []

-- `trace`: the same.
abbrev pub trace_rules : List Rule
trace_rules = flag_rule (codes "texts") ∷ flag_rule (codes "bodies") ∷ flag_rule (codes "live")
    ∷ logs_rule (codes "FILE") ∷ []

-- `replay`: the part of a log, by a record's number, from 1, and by any text.
abbrev pub replay_rules : List Rule
replay_rules = number_rule (codes "at") 1 18446744073709551615 [] ∷ text_rule (codes "uri")
    ∷ log_rule (codes "FILE") ∷ []

-- `compare`: the file of the saved text, and the document.
abbrev pub compare_rules : List Rule
compare_rules = file_rule (codes "SAVED") ∷ text_rule (codes "uri") ∷ log_rule (codes "FILE") ∷ []

-- `normalise`: how the log is written.
abbrev pub normalise_rules : List Rule
normalise_rules = flag_rule (codes "documents") ∷ flag_rule (codes "squash")
    ∷ flag_rule (codes "whole") ∷ flag_rule (codes "live") ∷ log_rule (codes "FILE") ∷ []

-- The program: its commands, with their options. Each has `--encoding`.
abbrev pub program_app : Choices → Choices → App
program_app encodings forms =
    let encoding = encoding_rule (codes "encoding") encodings (codes "utf-16" ∷ []) in
    record {
      top = record (new_shape (codes "lspsync")) {
        is_leaf = false;
        subcommand_required = true;
        has_version = true;
      };
      subs = command_shape (codes "serve") (encoding ∷ serve_rules forms)
          ∷ command_shape (codes "check") (encoding ∷ check_rules)
          ∷ command_shape (codes "trace") (encoding ∷ trace_rules)
          ∷ command_shape (codes "replay") (encoding ∷ replay_rules)
          ∷ command_shape (codes "compare") (encoding ∷ compare_rules)
          ∷ command_shape (codes "normalise") (encoding ∷ normalise_rules)
          ∷ command_shape (codes "convert") (encoding ∷ log_rule (codes "FILE") ∷ []) ∷ [];
    }

-- The command line is the program's.
abbrev pub IsProgram : App → Type 0
IsProgram = IsProgramOf program_app

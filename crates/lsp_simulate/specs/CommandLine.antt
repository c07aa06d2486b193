-- The command line: the options of the program, as `clap` gets them.
use Rattle.std.specs.Prelude.{◌++◌, ◌∷◌}
use Rattle.lsp_simulate.specs.Prelude.{[], true, List, codes, Rule, new_shape}
use Rattle.clap.specs.Words.{App}
use Rattle.lsp_program.specs.Arguments.{Choices, IsProgramOf, encoding_rule, flag_rule, form_rule, limit_rules, number_rule}

-- The options with names: the encoding that the server prefers, the one that it counts in whatever
-- is offered, and the form in which it asks for changes.
abbrev pub choice_rules : Choices → Choices → List Rule
choice_rules encodings forms = encoding_rule (codes "prefer") encodings (codes "utf-16" ∷ [])
    ∷ encoding_rule (codes "fixed") encodings [] ∷ form_rule (codes "sync") forms ∷ []

-- The encodings that the client offers, and whether both ends are lenient.
abbrev pub flag_rules : List Rule
flag_rules = flag_rule (codes "utf-8") ∷ flag_rule (codes "utf-32") ∷ flag_rule (codes "lenient")
    ∷ []

-- The server's limits. They have no defaults.
abbrev pub server_rules : List Rule
server_rules = number_rule (codes "server-max-body") 4096 1073741824 []
    ∷ number_rule (codes "server-max-text") 0 1073741824 []
    ∷ number_rule (codes "server-max-docs") 1 65536 []
    ∷ number_rule (codes "server-max-changes") 1 1048576 [] ∷ []

-- All options: also the client's limits.
abbrev pub program_rules : Choices → Choices → List Rule
program_rules encodings forms =
    choice_rules encodings forms ++ flag_rules ++ limit_rules ++ server_rules

-- The program with its options.
abbrev pub program_app : Choices → Choices → App
program_app encodings forms = record {
  top = record (new_shape (codes "lsp_simulate")) {
    rules = program_rules encodings forms;
    has_version = true;
  };
  subs = [];
}

-- The command line is the program's.
abbrev pub IsProgram : App → Type 0
IsProgram = IsProgramOf program_app

-- The program while it is put together.
use Rattle.std.specs.Prelude.{◌≡◌, ◌∷◌}
use Rattle.lspsync.specs.Prelude.{[], true, false, List, codes, map, Shape, app_of, with_subcommand, new_shape, rule_by}
use Rattle.clap.specs.Words.{App}
use Rattle.clap.specs.declared.builder.command.Command.{Command}
use Rattle.clap.specs.declared.builder.command.Command.TheViews.{out-Command as fields_of}
use Rattle.lsp_program.specs.declared.arguments.OptionNames.{OptionNames}
use Rattle.lspsync.specs.CommandLine.{command_shape}
use Rattle.lspsync.specs.declared.command_line.help.Page.{Page}

-- The command of a page of help.
abbrev pub shape_by : OptionNames → Page → Shape
shape_by names page = command_shape page.name.now (map (rule_by names) page.arguments.now)

-- A command of the program, before it is added.
pub record IsCommand (page : Page) (names : OptionNames) (command : Command) : Type 0 where
  pub app : app_of command ≡ record { top = shape_by names page; subs = [] }
  pub globals : (fields_of command).has_globals ≡ false

-- The program without its commands.
abbrev pub top_app : App
top_app = record {
  top = record (new_shape (codes "lspsync")) { subcommand_required = true; has_version = true };
  subs = [];
}

-- A program with these commands more.
abbrev pub with_all : App → List Shape → App
with_all app [] = app
with_all app (shape ∷ shapes) = with_all (with_subcommand app shape) shapes

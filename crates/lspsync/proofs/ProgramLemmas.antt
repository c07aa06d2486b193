-- The command line is put together.
use Rattle.lspsync.proofs.Prelude.{◌≡◌, ◌∙◌, ◌+◌, ◌++◌, ◌<◌, ◌≤◌, ℕ, ap, sym, refl, false, List, [], ◌∷◌, Result, Ok, Err, IfOk, codes, length, map, take, get_or, App, Rule, app_of, new_app, with_subcommand, IsProgram, common_rules, program_app}
use Rattle.std.proofs.lemmas.List.{map_more, take_all}
use Rattle.clap.specs.Words.{Shape}
use Rattle.clap.specs.declared.builder.command.Command.{Command}
use Rattle.clap.specs.declared.builder.command.Command.TheViews.{out-Command as fields_of}
use Rattle.lsp_program.specs.Arguments.{AddsRules, rule_by}
use Rattle.lsp_program.specs.declared.arguments.OptionNames.{OptionNames}
use Rattle.lsp_program.proofs.AddLemmas.{adds_more, longer}
use Rattle.lspsync.specs.inside.Options.{IsCommand, shape_by, top_app, with_all}
use Rattle.lspsync.specs.declared.command_line.help.Page.{Page}

-- A command by its page: a new one, and then its own options and files, and the limits.
pub is_command : {E : Type 0} (page : Page) (names : OptionNames) (new own : Command) (made : Result Command E)
    (limits : List Rule) → app_of new ≡ new_app page.name.now → (fields_of new).has_globals ≡ false
    → limits ≡ common_rules → AddsRules new (map (rule_by names) page.arguments.now) own
    → IfOk made (AddsRules own limits) → IfOk made (IsCommand page names)
is_command page names new own (Err e) limits is local same a b = tt
is_command page names new own (Ok made) limits is local same a b =
    let all = adds_more new own made _ _ a (rw (← same) b) in
    record { app = all.app ∙ ap (longer _) is; globals = all.globals ∙ local }

with_all_more : (app : App) (shapes : List Shape) (shape : Shape)
    → with_all app (shapes ++ shape ∷ []) ≡ with_subcommand (with_all app shapes) shape
with_all_more app [] shape = refl
with_all_more app (first ∷ shapes) shape = with_all_more (with_subcommand app first) shapes shape

-- A program with the command of one page more.
pub one_more : (names : OptionNames) (pages : List Page) (index : ℕ) (page : Page) (old new : App)
    → index < length pages
    → old ≡ with_all top_app (map (shape_by names) (take index pages))
    → new ≡ with_subcommand old (shape_by names (get_or pages index page))
    → new ≡ with_all top_app (map (shape_by names) (take (index + 1) pages))
one_more names pages index page old new within is added =
    let shapes = map (shape_by names) (take index pages) in
    let shape = shape_by names (get_or pages index page) in
    added ∙ (ap (λ app. with_subcommand app shape) is ∙ (sym (with_all_more top_app shapes shape)
    ∙ sym (ap (with_all top_app) (map_more (shape_by names) pages index page within))))

pub program_is : (names : OptionNames) (pages : List Page) (index : ℕ) (app : App)
    → map (λ s. s.now) names.encodings.now ≡ codes "utf-8" ∷ codes "utf-16" ∷ codes "utf-32" ∷ []
    → map (λ s. s.now) names.change_forms.now ≡ codes "full" ∷ codes "incremental" ∷ []
    → length pages ≤ index
    → ((n : OptionNames) → map (shape_by n) pages ≡ (program_app n.encodings n.change_forms).subs)
    → app ≡ with_all top_app (map (shape_by names) (take index pages)) → IsProgram app
program_is names pages index app encodings forms all are is = record {
  encodings = names.encodings;
  forms = names.change_forms;
  names = encodings;
  form_names = forms;
  same = is ∙ (ap (λ front. with_all top_app (map (shape_by names) front)) (take_all index pages all)
      ∙ ap (with_all top_app) (are names));
}

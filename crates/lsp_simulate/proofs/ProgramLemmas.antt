-- The command line is put together.
use Rattle.lsp_simulate.proofs.Prelude.{◌≡◌, ◌∙◌, ap, List, [], ◌∷◌, Result, Ok, Err, IfOk, codes, map, Rule, app_of, IsProgram, program_rules}
use Rattle.clap.specs.declared.builder.command.Command.{Command}
use Rattle.lsp_program.specs.Arguments.{AddsRules}
use Rattle.lsp_program.specs.declared.arguments.OptionNames.{OptionNames}
use Rattle.lsp_program.proofs.AddLemmas.{longer}
use Rattle.lsp_simulate.specs.inside.Options.{top_app}

-- The program: its top, and then its options.
pub program_is : {E : Type 0} (top : Command) (names : OptionNames) (rules : List Rule) (made : Result Command E)
    → map (λ s. s.now) names.encodings.now ≡ codes "utf-8" ∷ codes "utf-16" ∷ codes "utf-32" ∷ []
    → map (λ s. s.now) names.change_forms.now ≡ codes "full" ∷ codes "incremental" ∷ []
    → app_of top ≡ top_app → rules ≡ program_rules names.encodings names.change_forms
    → IfOk made (AddsRules top rules) → IfOk made (λ program. IsProgram (app_of program))
program_is top names rules (Err e) encodings forms is same added = tt
program_is top names rules (Ok made) encodings forms is same added = record {
  encodings = names.encodings;
  forms = names.change_forms;
  names = encodings;
  form_names = forms;
  same = added.app ∙ (ap (longer rules) is ∙ ap (λ all. longer all top_app) same);
}

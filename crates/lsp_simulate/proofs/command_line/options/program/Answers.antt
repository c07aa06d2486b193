use Rattle.lsp_simulate.proofs.Prelude.{◌≡◌, rules, app_of}
use Rattle.lsp_simulate.specs.inside.Options.{top_app}
use Rattle.lsp_simulate.proofs.ProgramLemmas.{program_is}
use Rattle.lsp_simulate.proofs.command_line.options.program.Goals as goal

pub returns : goal.returns
returns c =
    let top : app_of c.version-program.result ≡ top_app = search rules in
    program_is c.version-program.result
    (record { encodings = c.encodings.result; change_forms = c.change_forms.result })
    _ c.with_arguments.result c.encodings.ensures c.change_forms.ensures top
    (c.options.ensures _) c.with_arguments.ensures

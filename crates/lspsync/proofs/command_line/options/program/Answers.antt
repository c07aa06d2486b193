use Rattle.lsp_program.specs.declared.arguments.OptionNames.{OptionNames}
use Rattle.lspsync.proofs.ProgramLemmas.{one_more, program_is}
use Rattle.lspsync.proofs.command_line.options.program.Goals as goal

pub loop-page-preserved : goal.loop-page-preserved
loop-page-preserved c =
    one_more _ c.pages-pages.result.now c.loop-page.page-index _ _ _ c.loop-page-test.true c.loop-page.invariant
    c.in_ok-program.ensures

pub returns : goal.returns
returns c =
    let names : OptionNames = record { encodings = c.encodings.result; change_forms = c.change_forms.result } in
    program_is names c.pages-pages.result.now c.loop-page.page-index _ c.encodings.ensures c.change_forms.ensures
    c.loop-page-test.false c.pages-pages.ensures c.loop-page.invariant

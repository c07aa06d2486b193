use Rattle.lsp_simulate.proofs.Prelude.{app_of, IsProgram}
use Rattle.lsp_simulate.proofs.ReadLemmas.{is_free_program, is_simple_program, read_err, read_ok}
use Rattle.lsp_simulate.proofs.command_line.parse.Goals as goal

pub returns : goal.returns
returns c =
    let program : IsProgram (app_of c.in_ok-program.program) = c.in_ok-program.ensures in
    read_ok _ _ c.in_ok-matches.matches c.setting_of.result program
    (c.in_ok-matches.ensures.kinds (is_free_program _ program))
    (c.in_ok-matches.ensures.matches (is_simple_program _ program)).0 c.setting_of.ensures.some
    c.setting_of.ensures.none

pub returns-in_err-matches : goal.returns-in_err-matches
returns-in_err-matches c =
    let program : IsProgram (app_of c.in_ok-program.program) = c.in_ok-program.ensures in
    read_err _ _ c.in_err-matches.field-0.0 c.from_residual-in_err-matches.result program
    (c.in_err-matches.ensures.kinds (is_free_program _ program)) c.from_residual-in_err-matches.ensures.1

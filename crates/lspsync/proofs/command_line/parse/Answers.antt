use Rattle.lspsync.proofs.Prelude.{app_of, IsProgram}
use Rattle.lspsync.proofs.ReadLemmas.{is_free_program, is_simple_program, read_err, read_ok}
use Rattle.lspsync.proofs.command_line.parse.Goals as goal

pub returns-in-Ok : goal.returns-in-Ok
returns-in-Ok c =
    let program : IsProgram (app_of c.in_ok-program.program) = c.in_ok-program.ensures in
    read_ok _ _ c.in-Ok.matches c.in_ok-tasks_of-in-Ok.field-0 program
    (c.in-Ok.ensures.kinds (is_free_program _ program))
    (c.in-Ok.ensures.ok.2 (is_simple_program _ program)).1 c.in_ok-tasks_of-in-Ok.ensures

pub returns : goal.returns
returns c =
    let program : IsProgram (app_of c.in_ok-program.program) = c.in_ok-program.ensures in
    read_err _ _ c.in-Err.error c.in_ok-placed-in-Err.field-0 program
    (c.in-Err.ensures.kinds (is_free_program _ program)) c.in_ok-placed-in-Err.ensures

use Rattle.lspsync.proofs.Prelude.{◌≡◌, map, take, app_of}
use Rattle.lspsync.specs.inside.Options.{shape_by, top_app, with_all}
use Rattle.lspsync.proofs.command_line.options.program.Given as goal

abbrev pub invariant-loop-page : goal.invariant-loop-page
invariant-loop-page l =
    app_of l.program ≡ with_all top_app (map (shape_by l.names) (take l.page-index l.pages))

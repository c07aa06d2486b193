use Rattle.lspsync.proofs.Prelude.{◌≡◌, map, take, IsTaskNamed, file_named, file_of}
use Rattle.std.specs.List.{All}
use Rattle.lspsync.proofs.command_line.tasks_of.Given as goal

-- Each file that was passed has its task.
abbrev pub invariant-loop-file : goal.invariant-loop-file
invariant-loop-file l = record {
  calls : All (IsTaskNamed l.name l.options) l.tasks.items;
  files : map file_of l.tasks.items ≡ map file_named (map (λ file. file.now) (take l.file-index l.file-items));
}

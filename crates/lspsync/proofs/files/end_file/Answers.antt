use Rattle.lspsync.proofs.files.end_file.Goals as goal

pub returns-in-Err : goal.returns-in-Err
returns-in-Err g c =
    rw c.in-Err.is (c.end_fault.ensures c.args.wanted)

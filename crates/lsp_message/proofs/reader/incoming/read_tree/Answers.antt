use Rattle.lsp_message.proofs.reader.incoming.read_tree.Goals as goal

pub returns-in_ok-unread_body-in-Err : goal.returns-in_ok-unread_body-in-Err
returns-in_ok-unread_body-in-Err c =
    let read = c.in_ok-unread_body-in-Err.ensures.ok c.args.body.now c.in-Err.ensures.error in
    record { ok = c.nothing.ensures _ _ read.0 read.1 }

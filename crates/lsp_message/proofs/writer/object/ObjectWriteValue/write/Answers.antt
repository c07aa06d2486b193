use Rattle.lsp_message.proofs.Tokens.{put, add, ending, object_tokens}
use Rattle.lsp_message.proofs.writer.object.ObjectWriteValue.write.Goals as goal

pub returns-clause-tokens : goal.returns-clause-tokens
returns-clause-tokens g c =
    rw (object_tokens (g.M.WriteMembers.members c.args.self.now.0)) (ending c.end_object.result
    (λ e. put c.in_ok-begin_object.ensures (add c.in_ok-write_members.ensures.tokens e)) c.end_object.ensures)

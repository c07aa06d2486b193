use Rattle.lsp_message.proofs.Prelude.{append-nil, on_ok_weaker}
use Rattle.lsp_message.proofs.Tokens.{put}
use Rattle.lsp_message.proofs.writer.object.MemberWriteMembers.write_members.Goals as goal

pub returns-clause-tokens : goal.returns-clause-tokens
returns-clause-tokens g c =
    rw append-nil (on_ok_weaker c.write.result (λ e. put c.in_ok-key.ensures e) c.write.ensures.tokens)

use Rattle.log_report.proofs.Prelude.{◌≡◌, List, ℕ, ap, ◌∙◌, Sender, Version, reading, incoming_of, is_json, body_read, from_client, from_server}
use Rattle.lsp_log.specs.declared.record.Sender.TheVariants as side
use Rattle.log_report.proofs.printer.trace.Trace.push_asked.Goals as goal

-- the bytes that were read of a server's record are its body
its_bytes : (version : Version) (side : Sender) (bytes body : List ℕ) → from_server bytes ≡ body_read version side body
    → bytes ≡ body
its_bytes version side.Client bytes body is =
    absurd (let wrong : from_server bytes ≡ from_client version (incoming_of (reading body)) = is in cc)
its_bytes version side.Server bytes body is = let same : from_server bytes ≡ from_server body = is in cc

pub returns-in_ok-push_first-in-Server-clause-is_json : goal.returns-in_ok-push_first-in-Server-clause-is_json
returns-in_ok-push_first-in-Server-clause-is_json c =
    let same = its_bytes c.args.head.version c.args.head.side _ c.args.body.now (rw c.in-Server.is at c.requires) in
    c.is_json-in-Server.ensures
    ∙ ap is_json (c.in_ok-incoming-in-Server.ensures.incoming ∙ ap (λ (b : List ℕ). incoming_of (reading b)) same)

use Rattle.lsp_message.proofs.Prelude.{◌≡◌, true, Some, None, codes, sym, ap, ◌∙◌, arith, get_member, incoming_of, is_version_two, IfOk-weaker, IfSome_then}
use Rattle.lsp_message.proofs.MemberLemmas.{message_of_object, by_method}
use Rattle.lsp_message.proofs.reader.message.MessageMembers.incoming.Goals as goal

pub returns-in_ok-response-in-None : goal.returns-in_ok-response-in-None
returns-in_ok-response-in-None c = λ ms b.
    let two : c.args.self.is_version_two ≡ true = grind arith in
    let version : is_version_two (get_member (codes "jsonrpc") ms) ≡ true = sym b.0 ∙ two in
    let read = by_method (get_member (codes "jsonrpc") ms) (get_member (codes "method") ms) (get_member (codes "id") ms)
    (get_member (codes "params") ms) (get_member (codes "error") ms) (get_member (codes "result") ms) None version
    (rw c.in-None.is at b.1) in
    c.in_ok-response-in-None.ensures (get_member (codes "id") ms) (get_member (codes "error") ms)
    (get_member (codes "result") ms) b.2 b.3 b.4 ∙ ap incoming_of (sym (message_of_object ms ∙ read))

pub returns-in-Some-Some : goal.returns-in-Some-Some
returns-in-Some-Some c =
    let named : c.args.self.method ≡ Some (Some c.in-Some-Some.method) = grind arith in
    IfOk-weaker c.call.result _ _ (λ r found. IfSome_then r found (λ m asks ms b.
    let two : c.args.self.is_version_two ≡ true = grind arith in
    let version : is_version_two (get_member (codes "jsonrpc") ms) ≡ true = sym b.0 ∙ two in
    let read = by_method (get_member (codes "jsonrpc") ms) (get_member (codes "method") ms) (get_member (codes "id") ms)
    (get_member (codes "params") ms) (get_member (codes "error") ms) (get_member (codes "result") ms)
    (Some (Some c.in-Some-Some.method.now)) version (rw named at b.1) in
    asks (get_member (codes "id") ms) (get_member (codes "params") ms) b.2 b.5
    ∙ ap incoming_of (sym (message_of_object ms ∙ read)))) c.call.ensures

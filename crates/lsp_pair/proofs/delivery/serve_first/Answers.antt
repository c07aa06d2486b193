use Rattle.lsp_pair.proofs.Prelude.{◌≡◌, ◌≢◌, ◌++◌, ap, ◌∙◌, IsFrame, Ended, StoreData, frames, frames_in_answer}
use Rattle.lsp_server.specs.Seen.{answer_view}
use Rattle.lsp_pair.proofs.Steps.FramerLemmas.{first_out}
use Rattle.lsp_pair.proofs.Steps.ServeLemmas.{first_there, serve_is}
use Rattle.lsp_pair.proofs.delivery.serve_first.Goals as goal

pub unreachable-requires : goal.unreachable-requires
unreachable-requires c =
    let whole = c.in_ok-framer.ensures.3 in
    c.in_default-body.ensures c.in_ok-framer.ensures.1 whole.body whole.is_frame_of

pub returns-clause-step : goal.returns-clause-step
returns-clause-step c client =
    let whole = first_there (λ first. IsFrame c.args.server.now.config.limits.max_body first
    × (c.args.server.now.phase ≢ Ended)) c.args.sent.now.items c.in-Some.first.now c.in-Some.ensures.item.3.0
    c.in-Some.ensures.lookup c.requires in
    let limits : c.in_ok-framer.framer.limits ≡ c.args.server.now.config.limits =
    c.in_ok-framer.ensures.2 ∙ (c.limits.ensures ∙ ap (λ (d : StoreData). d.limits) c.store.ensures) in
    serve_is client c.args.server.now c.handle.new.self c.in_ok-framer.framer.limits c.args.sent.now.items
    c.pop_front.new.self.items
    (frames c.args.replies.now.items) (frames c.push_reply.new.replies.items) c.in-Some.first.now
    c.in-Some-body.body.now c.in_ok-framer.framer.buffered (answer_view c.in-Ok.answer) _
    (first_out c.args.sent.now.items c.pop_front.new.self.items c.in-Some.first.now c.in-Some.ensures.item.3.0
    c.in-Some.ensures.lookup c.pop_front.ensures.rest)
    c.in-Some-body.ensures.1 (c.in_ok-framer.ensures.0 ∙ c.deref.ensures.value) limits whole.1 c.in-Ok.ensures.answer
    c.in-Ok.ensures.state
    c.push_reply.ensures.did (c.push_reply.ensures.pushed
    ∙ ap (λ items. frames items ++ frames_in_answer (answer_view c.in-Ok.answer)) c.in_ok-reserve.ensures.items)

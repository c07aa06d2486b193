use Rattle.lsp_pair.proofs.Prelude.{◌≡◌, ◌++◌, ap, ◌∙◌, IsFrame, true, is_listening, StoreData, frames, frames_in_delivery, delivered_view}
use Rattle.lsp_pair.proofs.Steps.FramerLemmas.{first_out}
use Rattle.lsp_pair.proofs.Steps.ServeLemmas.{first_there, hear_is}
use Rattle.lsp_pair.proofs.delivery.hear_first.Goals as goal

pub unreachable-requires : goal.unreachable-requires
unreachable-requires c =
    let whole = c.in_ok-framer.ensures.3 in
    c.in_default-body.ensures c.in_ok-framer.ensures.1 whole.body whole.is_frame_of

pub returns-clause-step : goal.returns-clause-step
returns-clause-step c other =
    let whole = first_there (λ first. IsFrame c.args.client.now.limits.max_body first
    × (is_listening c.args.client.now.phase ≡ true)) c.args.replies.now.items c.in-Some.first.now
    c.in-Some.ensures.item.3.0 c.in-Some.ensures.lookup c.requires in
    let limits : c.in_ok-framer.framer.limits ≡ c.args.client.now.limits =
    c.in_ok-framer.ensures.2 ∙ (c.limits.ensures ∙ ap (λ (d : StoreData). d.limits) c.store.ensures) in
    hear_is other c.args.client.now c.deliver.new.self c.in_ok-framer.framer.limits c.args.replies.now.items
    c.pop_front.new.self.items
    (frames c.args.sent.now.items) (frames c.push_sent.new.sent.items) c.in-Some.first.now c.in-Some-body.body.now
    c.in_ok-framer.framer.buffered (delivered_view c.in-Ok.delivered) _
    (first_out c.args.replies.now.items c.pop_front.new.self.items c.in-Some.first.now c.in-Some.ensures.item.3.0
    c.in-Some.ensures.lookup c.pop_front.ensures.rest)
    c.in-Some-body.ensures.1 (c.in_ok-framer.ensures.0 ∙ c.deref.ensures.value) limits whole.1 c.in-Ok.ensures.ok
    c.push_sent.ensures.heard (c.push_sent.ensures.pushed
    ∙ ap (λ items. frames items ++ frames_in_delivery (delivered_view c.in-Ok.delivered)) c.in_ok-reserve.ensures.items)

use Rattle.lsp_pair.proofs.Prelude.{to_server, to_client, ap, both_ends, event_view, frames, refl, ◌∙◌}
use Rattle.lsp_pair.proofs.Steps.ReachLemmas.{reached_serves, reached_hears, reach_or_same, at_if, at_next, step_from, same_at_server, same_at_client, same_from}
use Rattle.lsp_pair.proofs.Histories.HistoryLemmas.{history_if}
use Rattle.lsp_pair.proofs.Steps.CalledLemmas.{is_call, call_is, call_same, no_delivery, refused_if}
use Rattle.lsp_pair.proofs.pair.Pair.step.Goals as goal

pub serve_first-requires : goal.serve_first-requires
serve_first-requires c = reached_serves _ _ c.self.invariant.1

pub hear_first-requires : goal.hear_first-requires
hear_first-requires c = reached_hears _ _ c.self.invariant.1

pub invariant_of-self : goal.invariant_of-self
invariant_of-self c =
    reach_or_same _ _ to_server c.serve_first.result tt c.self.invariant
    (c.serve_first.ensures.step c.self.inside.client) (same_at_server c.self.inside.client _ _ _ _ _ _
    c.serve_first.result c.serve_first.ensures.unchanged)

pub invariant_of-self-in-ToClient : goal.invariant_of-self-in-ToClient
invariant_of-self-in-ToClient c =
    reach_or_same _ _ to_client c.hear_first.result tt c.self.invariant
    (c.hear_first.ensures.step c.self.inside.server) (same_at_client c.self.inside.server _ _ _ _ _ _
    c.hear_first.result c.hear_first.ensures.unchanged)

pub returns-in-ToServer-clause-step : goal.returns-in-ToServer-clause-step
returns-in-ToServer-clause-step c =
    step_from _ _ _ to_server _ c.serve_first.result c.self.view_is (ap event_view c.in-ToServer.is)
    (c.serve_first.ensures.step c.self.inside.client)

pub returns-in-ToServer-clause-refused : goal.returns-in-ToServer-clause-refused
returns-in-ToServer-clause-refused c =
    rw (← c.self.view_is) (refused_if _ _ to_server c.serve_first.result
    (c.serve_first.ensures.step c.self.inside.client))

pub returns-in-ToServer-clause-at : goal.returns-in-ToServer-clause-at
returns-in-ToServer-clause-at c =
    rw (c.in-ToServer.is, ← c.self.view_is)
    (at_next _ _ to_server c.serve_first.result
    (at_if (both_ends c.self.inside.client c.self.inside.server (frames c.self.inside.to_server.items)
    (frames c.self.inside.to_client.items)) _ to_server c.serve_first.result tt
    (c.serve_first.ensures.step c.self.inside.client)))

pub returns-in-ToServer-clause-history : goal.returns-in-ToServer-clause-history
returns-in-ToServer-clause-history c =
    rw (← c.self.view_is)
    (history_if _ _ to_server c.serve_first.result
    (at_if (both_ends c.self.inside.client c.self.inside.server (frames c.self.inside.to_server.items)
    (frames c.self.inside.to_client.items)) _ to_server c.serve_first.result tt
    (c.serve_first.ensures.step c.self.inside.client)))

pub returns-in-ToClient-clause-step : goal.returns-in-ToClient-clause-step
returns-in-ToClient-clause-step c =
    step_from _ _ _ to_client _ c.hear_first.result c.self.view_is (ap event_view c.in-ToClient.is)
    (c.hear_first.ensures.step c.self.inside.server)

pub returns-in-ToClient-clause-refused : goal.returns-in-ToClient-clause-refused
returns-in-ToClient-clause-refused c =
    rw (← c.self.view_is)
    (refused_if _ _ to_client c.hear_first.result (c.hear_first.ensures.step c.self.inside.server))

pub returns-in-ToClient-clause-at : goal.returns-in-ToClient-clause-at
returns-in-ToClient-clause-at c =
    rw (c.in-ToClient.is, ← c.self.view_is)
    (at_next _ _ to_client c.hear_first.result
    (at_if (both_ends c.self.inside.client c.self.inside.server (frames c.self.inside.to_server.items)
    (frames c.self.inside.to_client.items)) _ to_client c.hear_first.result tt
    (c.hear_first.ensures.step c.self.inside.server)))

pub returns-in-ToClient-clause-history : goal.returns-in-ToClient-clause-history
returns-in-ToClient-clause-history c =
    rw (← c.self.view_is)
    (history_if _ _ to_client c.hear_first.result
    (at_if (both_ends c.self.inside.client c.self.inside.server (frames c.self.inside.to_server.items)
    (frames c.self.inside.to_client.items)) _ to_client c.hear_first.result tt
    (c.hear_first.ensures.step c.self.inside.server)))

pub invariant_of-self-in_default : goal.invariant_of-self-in_default
invariant_of-self-in_default c =
    let items = c.in_ok-reserve-in_default.ensures.items in
    let steps = call_is c.self.inside.server c.self.inside.client c.call-sent.new.client c.reserve.new.self.items
    c.push_call.new.queue.items (frames c.self.inside.to_client.items) (event_view c.args.event.now) c.call-sent.result
    c.push_call.result
    (is_call c.args.event.now c.in_default.not-ToServer c.in_default.not-ToClient) c.call-sent.ensures.ok
    c.call-sent.ensures.unchanged c.call-sent.ensures.error c.push_call.ensures.sent c.push_call.ensures.refused in
    let same = call_same c.self.inside.server c.self.inside.client c.call-sent.new.client c.reserve.new.self.items
    c.push_call.new.queue.items (frames c.self.inside.to_client.items) c.call-sent.result c.push_call.result
    c.call-sent.ensures.unchanged c.push_call.ensures.sent c.push_call.ensures.refused in
    reach_or_same (both_ends c.self.inside.client c.self.inside.server (frames c.reserve.new.self.items)
    (frames c.self.inside.to_client.items)) _ (event_view c.args.event.now) c.push_call.result
    c.call-sent.ensures.proper
    (rw items c.self.invariant) steps same

pub returns-in_ok-reserve-in_default : goal.returns-in_ok-reserve-in_default
returns-in_ok-reserve-in_default c =
    let steps = call_is c.self.inside.server c.self.inside.client c.call-sent.new.client c.reserve.new.self.items
    c.push_call.new.queue.items (frames c.self.inside.to_client.items) (event_view c.args.event.now) c.call-sent.result
    c.push_call.result
    (is_call c.args.event.now c.in_default.not-ToServer c.in_default.not-ToClient) c.call-sent.ensures.ok
    c.call-sent.ensures.unchanged c.call-sent.ensures.error c.push_call.ensures.sent c.push_call.ensures.refused in
    let same = call_same c.self.inside.server c.self.inside.client c.call-sent.new.client c.reserve.new.self.items
    c.push_call.new.queue.items (frames c.self.inside.to_client.items) c.call-sent.result c.push_call.result
    c.call-sent.ensures.unchanged c.push_call.ensures.sent c.push_call.ensures.refused in
    let was = ap (λ items. both_ends c.self.inside.client c.self.inside.server (frames items)
    (frames c.self.inside.to_client.items)) c.in_ok-reserve-in_default.ensures.items ∙ c.self.view_is in
    let here = at_if _ _ _ c.push_call.result c.call-sent.ensures.proper
    (step_from _ _ _ _ _ c.push_call.result was refl steps) in
    record {
      step = step_from _ _ _ _ _ c.push_call.result was refl steps;
      unchanged = same_from _ _ _ c.push_call.result was same;
      refused = refused_if _ _ _ c.push_call.result (step_from _ _ _ _ _ c.push_call.result was refl steps);
      memory = no_delivery _ _ _ c.push_call.result (is_call c.args.event.now c.in_default.not-ToServer
          c.in_default.not-ToClient);
      at = at_next _ _ _ c.push_call.result here;
      history = history_if _ _ _ c.push_call.result here;
    }

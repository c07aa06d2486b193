use Rattle.log_rewrite.proofs.Prelude.{rules, ◌≡◌, ◌≢◌, sym, string_bytes, change_view, IsMessageFault, IsFramed, IsOpenIn}
use Rattle.log_rewrite.proofs.Squash.JoiningLemmas.{not_same}
use Rattle.log_session.proofs.Records.TakenLemmas.{message_is, message_none}
use Rattle.log_rewrite.proofs.Squash.PlanLemmas.{plan_framed, plan_longer, plan_too_long}
use Rattle.log_rewrite.proofs.joining.join.Goals as goal

pub returns-in_default : goal.returns-in_default
returns-in_default c =
    let refused = message_none (IsMessageFault c.store-store.result.now c.args.plan.now) c.planned_message.result
    c.unless_refused.result c.unless_refused.ensures.ok c.unless_refused.ensures.refused
    (rw c.in_default.is at c.in_ok-frame.was) c.planned_message.ensures.error in
    plan_too_long c.args.server.now (change_view c.args.params.now) c.requires.planned c.store-store.ensures
    refused.fault refused.other refused.why

pub returns-in_default-series : goal.returns-in_default-series
returns-in_default-series c =
    let made = message_is c.planned_message.result c.unless_refused.result c.unless_refused.ensures.ok
    c.unless_refused.ensures.refused c.in-Some.frame (rw c.in-Some.is at c.in_ok-frame.was) in
    let framed : IsFramed c.args.server.now (change_view c.args.params.now) c.in-Some.frame.items =
    plan_framed c.args.server.now (change_view c.args.params.now) c.requires.planned c.store-store.ensures
    c.in-Some.frame.items (rw made at c.planned_message.ensures.framed) in (
      framed,
      rw c.in_default-series.is tt,
      sym c.in_default-series.is,
      c.in_ok-begun.ensures.0,
      c.in_ok-begun.ensures.1,
    )

pub returns-then-eq : goal.returns-then-eq
returns-then-eq c =
    let made = message_is c.planned_message.result c.unless_refused.result c.unless_refused.ensures.ok
    c.unless_refused.ensures.refused c.in-Some.frame (rw c.in-Some.is at c.in_ok-frame.was) in
    let framed : IsFramed c.args.server.now (change_view c.args.params.now) c.in-Some.frame.items =
    plan_framed c.args.server.now (change_view c.args.params.now) c.requires.planned c.store-store.ensures
    c.in-Some.frame.items (rw made at c.planned_message.ensures.framed) in
    let at : IsOpenIn c.args.server.now c.in-Some-series.batches = rw c.in-Some-series.is at c.requires.may_be_open in
    let same : string_bytes c.args.params.now.uri ≡ c.in-Some-series.batches.uri = search rules in
    let both = plan_longer c.args.server.now (change_view c.args.params.now) c.requires.planned c.store-store.ensures at
    same c.add_plan.new.self c.in_ok-add_plan.ensures.added in
    (framed, rw c.in-Some-series.is both.0, both.1)

pub returns : goal.returns
returns c =
    let made = message_is c.planned_message.result c.unless_refused.result c.unless_refused.ensures.ok
    c.unless_refused.ensures.refused c.in-Some.frame (rw c.in-Some.is at c.in_ok-frame.was) in
    let framed : IsFramed c.args.server.now (change_view c.args.params.now) c.in-Some.frame.items =
    plan_framed c.args.server.now (change_view c.args.params.now) c.requires.planned c.store-store.ensures
    c.in-Some.frame.items (rw made at c.planned_message.ensures.framed) in
    let differ : c.in-Some-series.batches.uri ≢ string_bytes c.args.params.now.uri = search rules in (
      framed,
      rw c.in-Some-series.is (not_same (string_bytes c.args.params.now.uri) c.in-Some-series.batches.uri differ),
      sym c.in-Some-series.is,
      c.in_ok-begun-2.ensures.0,
      c.in_ok-begun-2.ensures.1,
    )

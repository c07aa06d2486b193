use Rattle.lsp_pair.proofs.Prelude.{◌≡◌, ◌+◌, ◌++◌, ◌∷◌, [], map, take, refl, ap, sym, ◌∙◌, subst, arith, append_assoc, IsRun, IsAt, event_view, history_after, IsLater}
use Rattle.lsp_pair.proofs.Histories.HistoryLemmas.{later-last, later_documents}
use Rattle.lsp_pair.proofs.Steps.RunLemmas.{run-last, take_mapped}
use Rattle.lsp_pair.proofs.run.run_pair.Goals as goal

pub loop-event-preserved : goal.loop-event-preserved
loop-event-preserved c =
    let events = map event_view c.args.events.now in
    let i = c.loop-event.event-index in
    let more : take (i + 1) events ≡ take i events ++ event_view c.event-item.result ∷ [] =
    take_mapped event_view c.args.events.now i c.event-item.result (omega arith) c.event-item.is in
    record {
      counted = ap (λ n. n + 1) c.loop-event.invariant.counted;
      steps =
          subst (λ es. IsRun c.args.pair.now es c.step.new.self) (sym more)
          (run-last c.args.pair.now _ c.step.new.self (take i events) (event_view c.event-item.result) _
          c.loop-event.invariant.steps c.in-Ok.ensures.step);
      at = λ setting before sound at.
          subst (λ es. IsAt setting c.step.new.self es)
          (append_assoc before (take i events) (event_view c.event-item.result ∷ [])
          ∙ ap (λ es. before ++ es) (sym more))
          (c.in-Ok.ensures.at setting (before ++ take i events) sound
          (c.loop-event.invariant.at setting before sound at));
      history = λ h is.
          let was = c.loop-event.invariant.history h is in (
            history_after was.0 c.in-Ok.field-0 c.step.new.self.client.table,
            subst (λ es. IsLater h c.args.pair.now es (history_after was.0 c.in-Ok.field-0 c.step.new.self.client.table)
                c.step.new.self) (sym more)
                (later-last h was.0 c.args.pair.now _ c.step.new.self (take i events) (event_view c.event-item.result)
                c.in-Ok.field-0 was.1 c.in-Ok.ensures.step),
            (c.in-Ok.ensures.history was.0 was.2).0,
          );
    }

pub returns-in_default-clause-history : goal.returns-in_default-clause-history
returns-in_default-clause-history c h is =
    later_documents h _ _ c.step.new.self (map event_view c.args.events.now) c.loop-event.event-index
    c.loop-event.stepped c.loop-event.invariant.counted
    c.in_default.ensures.unchanged (c.loop-event.invariant.history h is)

pub returns-clause-history : goal.returns-clause-history
returns-clause-history c h is =
    later_documents h _ _ _ (map event_view c.args.events.now) c.loop-event.event-index c.loop-event.stepped
    c.loop-event.invariant.counted
    refl (c.loop-event.invariant.history h is)

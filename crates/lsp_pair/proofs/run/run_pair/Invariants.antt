use Rattle.lsp_pair.proofs.Prelude.{◌≡◌, ◌++◌, List, map, take, Setting, EventData, IsFitting, IsRun, IsAt, event_view, History, IsLater, IsHistory}
use Rattle.lsp_pair.proofs.run.run_pair.Given as goal

abbrev pub invariant-loop-event : goal.invariant-loop-event
invariant-loop-event l = record {
  counted : l.stepped ≡ l.event-index;
  steps : IsRun l.fn.pair (take l.event-index (map event_view l.events)) l.pair;
  at : (setting : Setting) (before : List EventData) → IsFitting setting → IsAt setting l.fn.pair before
      → IsAt setting l.pair (before ++ take l.event-index (map event_view l.events));
  history : (h : History) → IsHistory h l.fn.pair → (later : History)
      × IsLater h l.fn.pair (take l.event-index (map event_view l.events)) later l.pair × IsHistory later l.pair;
}

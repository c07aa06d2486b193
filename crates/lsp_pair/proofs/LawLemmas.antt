-- The last event of a list, as its type has it.
use Rattle.lsp_pair.proofs.Prelude.{List, [], ◌∷◌, ◌++◌, EventData, IsProperEvent, AreProperEvents}

pub last_proper : (events : List EventData) (event : EventData) → AreProperEvents (events ++ event ∷ [])
    → IsProperEvent event
last_proper [] event are = are.0
last_proper (first ∷ events) event are = last_proper events event are.1

-- When a pair has a history: it is at the world of some list of events, and its history is what
-- that world says.
use Rattle.std.specs.Prelude.{◌≡◌, ◌∷◌}
use Rattle.lsp_pair.specs.Prelude.{List, [], DocumentItem}
use Rattle.lsp_pair.specs.Events.{Setting, EventData}
use Rattle.lsp_pair.specs.Pair.{PairData, IsFitting}
use Rattle.lsp_pair.specs.laws.World.{ClientMessage, World, world_of}
use Rattle.lsp_pair.specs.laws.At.{table_with, IsAt}
use Rattle.lsp_pair.specs.Documents.{History}

-- The tables after each of these messages, where the client had this table before the first.
abbrev pub tables_from : List DocumentItem → List ClientMessage → List (List DocumentItem)
tables_from table [] = []
tables_from table (sent ∷ rest) =
    table_with table sent ∷ tables_from (table_with table sent) rest

-- The history of a world.
abbrev pub history_of : World → History
history_of w = record { sent = tables_from [] w.out; handled = w.out_delivered }

-- The pair is at the world of some list of events, and this is the history of that world.
pub record IsHistory (h : History) (pair : PairData) : Type 0 where
  pub setting : Setting
  pub sound : IsFitting setting
  pub events : List EventData
  pub at : IsAt setting pair events
  pub told : h ≡ history_of (world_of setting events)

-- A pair that comes from a new one by steps has one.
abbrev pub HasHistory : PairData → Type 0
HasHistory pair = (h : History) × IsHistory h pair

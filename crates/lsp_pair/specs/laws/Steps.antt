-- What happens in a step of a pair at the world of a list of events, and the pair after it.
use Rattle.std.specs.Prelude.{◌≡◌, ◌∷◌, ◌++◌}
use Rattle.lsp_pair.specs.Prelude.{List, [], Happened}
use Rattle.lsp_pair.specs.Events.{Setting, EventData}
use Rattle.lsp_pair.specs.Pair.{PairData, IsFitting, IsStep}
use Rattle.lsp_pair.specs.laws.World.{turn, world_of}
use Rattle.lsp_pair.specs.laws.At.{IsAt}
use Rattle.lsp_pair.specs.laws.Usual.{IsUsualTurn, HaveOneEncoding}

-- What happens is what happens in that world, and the pair is then at the world of the list with
-- the event added. The answer is a usual one, and both ends use one encoding.
pub record IsStepAt (setting : Setting) (events : List EventData) (event : EventData)
    (happened : Happened) (new : PairData) : Type 0 where
  pub happens : happened ≡ (turn setting (world_of setting events) event).happened
  pub at : IsAt setting new (events ++ event ∷ [])
  pub usual : IsUsualTurn (world_of setting events) event happened
  pub agree : HaveOneEncoding setting new

-- A step from a pair at a world to the pair at the world with the event added. By `Pair::step` each
-- step is one.
abbrev pub StepLaw : Type 0
StepLaw =
    (setting : Setting) (events : List EventData) (event : EventData) (happened : Happened)
    (old new : PairData) → IsFitting setting → IsAt setting old events
    → IsAt setting new (events ++ event ∷ []) → IsStep old event happened new
    → IsStepAt setting events event happened new

-- The encoding of a pair at a world.
abbrev pub AgreeLaw : Type 0
AgreeLaw =
    (setting : Setting) (events : List EventData) (pair : PairData) → IsFitting setting
    → IsAt setting pair events → HaveOneEncoding setting pair

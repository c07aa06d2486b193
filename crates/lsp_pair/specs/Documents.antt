-- The documents of both ends: the server has those that the client had at an earlier time.
use Rattle.std.specs.Prelude.{◌≡◌, ◌+◌, ◌∷◌, ◌++◌}
use Rattle.lsp_pair.specs.Prelude.{ℕ, List, [], length, slice_get, Some, DocumentItem, Happened, Server, Client}
use Rattle.lsp_pair.specs.declared.event.Happened.TheVariants.{Sent}
use Rattle.lsp_pair.specs.declared.event.Heard.TheVariants.{Send}
use Rattle.lsp_pair.specs.Events.{EventData}
use Rattle.lsp_pair.specs.Pair.{PairData, IsStep}

-- What happened so far: the client's documents after each message that it sent, and how many of
-- these messages the server has handled.
pub record History : Type 0 where
  pub sent : List (List DocumentItem)
  pub handled : ℕ

-- Nothing was sent.
abbrev pub no_history : History
no_history = record { sent = []; handled = 0 }

-- The history after a step, with the client's documents after it. The client sends a message in an
-- accepted call, and where it answers one of the server. A delivery to the server handles one; no
-- other step changes the history.
abbrev pub history_after : History → Happened → List DocumentItem → History
history_after h Sent documents = record h { sent = h.sent ++ documents ∷ [] }
history_after h (Client Send) documents = record h { sent = h.sent ++ documents ∷ [] }
history_after h (Server did) documents = record h { handled = h.handled + 1 }
history_after h happened documents = h

-- The server has the documents that the client had after the last handled message, and the client
-- those after the last sent one; before the first message these are none. The others wait.
pub record HaveDocuments (h : History) (pair : PairData) : Type 0 where
  pub server : slice_get ([] ∷ h.sent) h.handled ≡ Some pair.server.table
  pub client : slice_get ([] ∷ h.sent) (length h.sent) ≡ Some pair.client.table
  pub waiting : h.handled + length pair.to_server ≡ length h.sent

-- The history after a run of steps from a pair with a history.
abbrev pub IsLater : History → PairData → List EventData → History → PairData → Type 0
IsLater h old [] later new = (later ≡ h) × (new ≡ old)
IsLater h old (event ∷ events) later new =
    (happened : Happened) × (mid : PairData) × IsStep old event happened mid
    × IsLater (history_after h happened mid.client.table) mid events later new

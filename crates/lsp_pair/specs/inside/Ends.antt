-- Definitions for the private functions of this crate: the first frame of a queue, the call of an
-- event, and what is sent as frames.
use Rattle.std.specs.Prelude.{◌∷◌}
use Rattle.lsp_pair.specs.Prelude.{ℕ, List, [], ⊤, AnswerData, reply, changed, ignored, refused, exits, Call, DeliveredData, Did}
use Rattle.lsp_server.specs.Answer.{Sent}
use Rattle.lsp_client.specs.Step as client
use Rattle.lsp_server.specs.Step as server
use Rattle.lsp_pair.specs.declared.event.Did.TheVariants as done
use Rattle.lsp_pair.specs.Events.{EventData, calls, to_server, to_client}
use Rattle.lsp_pair.specs.Pair.{PairData}

-- The pair of two ends and two queues.
abbrev pub both_ends : client.ClientData → server.ServerData → List (List ℕ) → List (List ℕ)
    → PairData
both_ends c s there back = record { client = c; server = s; to_server = there; to_client = back }

-- ---- the call of an event

-- An event is a call.
abbrev pub IsCall : EventData → Type 0
IsCall (calls call) = ⊤
IsCall to_server = ⊥
IsCall to_client = ⊥

-- A fact about the call of an event, if it is one.
abbrev pub HoldsOnCall : EventData → (Call → Type 0) → Type 0
HoldsOnCall (calls call) P = P call
HoldsOnCall to_server P = ⊤
HoldsOnCall to_client P = ⊤

-- A fact about the first frame of a queue, if there is one.
abbrev pub HoldsOfFirst : List (List ℕ) → (List ℕ → Type 0) → Type 0
HoldsOfFirst [] P = ⊤
HoldsOfFirst (first ∷ rest) P = P first

-- An answer of the server without its frame.
abbrev pub did_of_sent : AnswerData Sent → Did
did_of_sent (reply r) = done.Reply r.code
did_of_sent changed = done.Changed
did_of_sent ignored = done.Ignored
did_of_sent (refused refusal) = done.Refused refusal
did_of_sent (exits status) = done.Exit status
did_of_sent a = done.Dropped

-- The frame of a reply.
abbrev pub frames_in_answer : AnswerData Sent → List (List ℕ)
frames_in_answer (reply r) = r.frame ∷ []
frames_in_answer a = []

-- The frame that a client sends.
abbrev pub frames_in_delivery : DeliveredData (List ℕ) → List (List ℕ)
frames_in_delivery (client.sends bytes) = bytes ∷ []
frames_in_delivery d = []

-- What holds of every step, in the protocol's terms.
use Rattle.std.specs.Prelude.{◌≡◌, ◌≢◌, ◌≤◌}
use Rattle.lsp_server.specs.Prelude.{ℕ, true, List, Option, Some, None, Offers, is_offered, IdData, OutcomeData, request, notification, message, Reading, OutgoingData, initialize_result, shutdown_result, error_reply, Encoding, Negotiated, Phase, New, Running, Down, Ended}
use Rattle.serde_json.specs.Data.{Data}
use Rattle.lsp_message.specs.Message.{response}
use Rattle.lsp_server.specs.Answer.{AnswerData, reply, changed, dropped, ignored, already_ended, refused, exits}
use Rattle.lsp_server.specs.Choice.{encoding_chosen}
use Rattle.lsp_server.specs.Step.{ServerData, step}

-- The id of a reply.
abbrev pub id_of : OutgoingData → Option IdData
id_of (initialize_result id encoding kind) = Some id
id_of (shutdown_result id) = Some id
id_of (error_reply id error) = id
id_of m = None

-- An answer is a reply with this id.
abbrev pub RepliesTo : IdData → AnswerData OutgoingData → Type 0
RepliesTo id answer = (m : OutgoingData) × (answer ≡ reply m) × (id_of m ≡ Some id)

-- Before `exit` each request has one reply, with its id (Request Message, Response Message).
abbrev pub RequestLaw : Type 0
RequestLaw =
    (s : ServerData) (id : IdData) (method : List ℕ) (params : Option Data) → s.phase ≢ Ended
    → RepliesTo id (step s (message (request id method params))).answer

-- A notification has no reply (Notification Message).
abbrev pub NotificationLaw : Type 0
NotificationLaw =
    (s : ServerData) (method : List ℕ) (params : Option Data) (m : OutgoingData)
    → (step s (message (notification method params))).answer ≢ reply m

-- A response has no reply.
abbrev pub ResponseLaw : Type 0
ResponseLaw =
    (s : ServerData) (id : Option IdData) (outcome : OutcomeData) (m : OutgoingData)
    → (step s (message (response id outcome))).answer ≢ reply m

-- The order of the phases, from `initialize` to `exit`.
abbrev pub way_of : Phase → ℕ
way_of New = 0
way_of Running = 1
way_of Down = 2
way_of Ended = 3

-- A session never returns to an earlier phase.
abbrev pub ForwardLaw : Type 0
ForwardLaw = (s : ServerData) (body : Reading) → way_of s.phase ≤ way_of (step s body).state.phase

-- The configuration of a server stays.
abbrev pub ConfigLaw : Type 0
ConfigLaw = (s : ServerData) (body : Reading) → (step s body).state.config ≡ s.config

-- Only a document notification that is answered as a change changes the open documents.
abbrev pub DocumentsLaw : Type 0
DocumentsLaw = (s : ServerData) (body : Reading) → (step s body).answer ≢ changed →
    (step s body).state.table ≡ s.table

-- An answer after which nothing has changed: an error response, dropped, ignored, refused, or no
-- answer.
abbrev pub ChangesNothing : AnswerData OutgoingData → Type 0
ChangesNothing (reply (error_reply id error)) = Unit {0}
ChangesNothing (reply m) = ⊥
ChangesNothing dropped = Unit {0}
ChangesNothing ignored = Unit {0}
ChangesNothing already_ended = Unit {0}
ChangesNothing (refused why) = Unit {0}
ChangesNothing changed = ⊥
ChangesNothing (exits status) = ⊥

-- What is refused, dropped or ignored changes nothing.
abbrev pub RefusalLaw : Type 0
RefusalLaw = (s : ServerData) (body : Reading) → ChangesNothing (step s body).answer
    → (step s body).state ≡ s

-- An encoding that is negotiated was offered (PositionEncodingKind).
abbrev pub OfferedLaw : Type 0
OfferedLaw = (prefer : Encoding) (offers : Offers) →
    is_offered offers (encoding_chosen (Negotiated prefer) offers) ≡ true

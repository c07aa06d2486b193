-- A delivery to the server, over plain values.
use Rattle.lsp_pair.proofs.Prelude.{ℕ, ◌≡◌, ◌≢◌, ◌<◌, Bool, true, false, List, [], ◌∷◌, ◌++◌, length, map, get_or, Vec, Ok, Err, refl, sym, subst, arith, if◌then◌else◌, Global, LimitsData, IsFrameOf, reading, OutgoingData, Ended, WrongPhase, Did, Heard, Server, Client, to_server, to_client, did_of, replies_in, heard_of, messages_in, message_frame, IsStep, frames, HoldsOfFirst, did_of_sent, frames_in_answer, frames_in_delivery, common_steps}
use Rattle.lsp_server.specs.Answer.{AnswerData, Sent, as_sent}
use Rattle.lsp_server.specs.Answer as answer
use Rattle.lsp_server.specs.Step as server
use Rattle.lsp_client.specs.Step as client
use Rattle.lsp_client.specs.Seen as seen

did_same : (a : AnswerData OutgoingData) → did_of_sent (as_sent a) ≡ did_of a
did_same (answer.reply m) = refl
did_same _ = refl

frames_same : (a : AnswerData OutgoingData) → frames_in_answer (as_sent a) ≡ map message_frame (replies_in a)
frames_same (answer.reply m) = refl
frames_same _ = refl

pub first_there : (P : List ℕ → Type 0) (items : List (Vec ℕ Global)) (first : Vec ℕ Global) → 0 < length items
    → first ≡ get_or items 0 first → HoldsOfFirst (frames items) P → P first.items
first_there P [] first some is holds = absurd (omega arith)
first_there P (x ∷ xs) first some is holds = subst (λ (v : Vec ℕ Global). P v.items) (sym is) holds

pub serve_is : (c : client.ClientData) (s new : server.ServerData) (limits : LimitsData)
    (items rest : List (Vec ℕ Global)) (back next : List (List ℕ)) (first : Vec ℕ Global) (body buffered : List ℕ)
    (given : AnswerData Sent) (result : Did)
    → items ≡ first ∷ rest → IsFrameOf limits.max_body buffered body → buffered ≡ first.items → limits ≡ s.config.limits
    → s.phase ≢ Ended
    → given ≡ as_sent (server.step s (reading body)).answer → new ≡ (server.step s (reading body)).state
    → result ≡ did_of_sent given → next ≡ back ++ frames_in_answer given
    → IsStep (record { client = c; server = s; to_server = frames items; to_client = back }) to_server (Server result)
    (record { client = c; server = new; to_server = frames rest; to_client = next })
serve_is c s new limits items rest back next first body buffered given result out is_frame_of is same lives answers
    state did pushed =
    grind (arith, common_steps, did_same, frames_same)

-- ---- a delivery to the client

heard_same : (d : client.DeliveredData OutgoingData) → heard_of (seen.as_frame d) ≡ heard_of d
heard_same (client.sends m) = refl
heard_same _ = refl

bytes_same : (d : client.DeliveredData OutgoingData) → frames_in_delivery (seen.as_frame d)
    ≡ map message_frame (messages_in d)
bytes_same (client.sends m) = refl
bytes_same _ = refl

listening : (b : Bool) → b ≡ true → (s : client.ClientData) (body : List ℕ) (given : client.DeliveredData (List ℕ))
    (new : client.ClientData) → seen.IsDelivered
    (if b then Ok (client.delivery_of s (reading body)) else Err (WrongPhase s.phase)) given new
    → (given ≡ seen.as_frame (client.delivery_of s (reading body)).delivered)
    × (new ≡ (client.delivery_of s (reading body)).state)
listening true e s body given new h = h
listening false e s body given new h = absurd h

pub hear_is : (s : server.ServerData) (c new : client.ClientData) (limits : LimitsData)
    (items rest : List (Vec ℕ Global)) (there next : List (List ℕ)) (first : Vec ℕ Global) (body buffered : List ℕ)
    (given : client.DeliveredData (List ℕ)) (result : Heard)
    → items ≡ first ∷ rest → IsFrameOf limits.max_body buffered body → buffered ≡ first.items → limits ≡ c.limits
    → client.is_listening c.phase ≡ true → seen.IsDelivered (client.delivery_result c (reading body)) given new
    → result ≡ heard_of given → next ≡ there ++ frames_in_delivery given
    → IsStep (record { client = c; server = s; to_server = there; to_client = frames items }) to_client (Client result)
    (record { client = new; server = s; to_server = next; to_client = frames rest })
hear_is s c new limits items rest there next first body buffered given result out is_frame_of is same is_listening hears
    did pushed =
    grind (arith, common_steps, listening, heard_same, bytes_same)

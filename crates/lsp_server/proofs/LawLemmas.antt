-- What holds of every row of the table of steps.
use Rattle.lsp_server.proofs.Prelude.{ℕ, ◌≡◌, ◌≢◌, ◌≤◌, Bool, true, false, if◌then◌else◌, List, Option, Some, None, Result, Ok, Err, refl, ap, arith, bytes_eq, OutgoingData, shutdown_result, DocumentItem, Encoding, New, Running, Down, Ended, AnswerData, reply, changed, exits, IncomingData, response, initialize, shutdown, other_request, exit, did_open, did_change, did_close, other_notification, request_of, notification_of, RepliesTo, way_of, ChangesNothing, ServerData, Step, unchanged_step, phase_step, result_step, step_in}
use Rattle.serde_json.specs.Data.{Data}
use Rattle.lsp_message.specs.declared.agreement.Offers.{Offers}
use Rattle.lsp_message.specs.Agreement.{is_offered}
use Rattle.lsp_message.specs.Message.{IdData}
use Rattle.lsp_text.specs.declared.encoding.Encoding.TheVariants.{Utf16}
use Rattle.lsp_server.specs.declared.config.EncodingChoice.TheVariants.{Negotiated}
use Rattle.lsp_server.specs.declared.phase.Phase.{Phase}
use Rattle.lsp_server.specs.Choice.{encoding_chosen}
use Rattle.lsp_store.specs.Table as table
use Rattle.std.proofs.lemmas.Grind.{common_steps}
use Rattle.std.proofs.lemmas.Bool.{cases_Bool}

-- ---- requests

-- a request with this id
abbrev pub IsRequestOf : IdData → IncomingData → Type 0
IsRequestOf id (initialize other offers) = other ≡ id
IsRequestOf id (shutdown other) = other ≡ id
IsRequestOf id (other_request other method) = other ≡ id
IsRequestOf id m = ⊥

pub request_of-is : (id : IdData) (method : List ℕ) (params : Option Data)
    → IsRequestOf id (request_of id method params)
request_of-is id method params = grind (arith, common_steps, bytes_eq, cases_Bool)

pub replied : (p : Phase) (s : ServerData) (id : IdData) (m : IncomingData) → IsRequestOf id m → p ≢ Ended
    → RepliesTo id (step_in p s m).answer
replied Ended s id m is live = absurd (live refl)
replied New s id (initialize other None) is live = (_, refl, ap Some is)
replied p s id (initialize other offers) is live = (_, refl, ap Some is)
replied p s id (shutdown other) is live = (_, refl, ap Some is)
replied p s id (other_request other method) is live = (_, refl, ap Some is)
replied p s id m is live = absurd is

-- ---- notifications

abbrev pub IsNotification : IncomingData → Type 0
IsNotification exit = Unit {0}
IsNotification (did_open params) = Unit {0}
IsNotification (did_change params) = Unit {0}
IsNotification (did_close params) = Unit {0}
IsNotification (other_notification method) = Unit {0}
IsNotification m = ⊥

pub notification_of-is : (method : List ℕ) (params : Option Data) → IsNotification (notification_of method params)
notification_of-is method params = grind (arith, common_steps, bytes_eq, cases_Bool)

obeyed_quietly : (s : ServerData) (result : Result (List DocumentItem) table.Refusal) (m : OutgoingData)
    → (result_step s result).answer ≢ reply m
obeyed_quietly s (Ok next) m = λ e. cc
obeyed_quietly s (Err refusal) m = λ e. cc

pub unreplied : (p : Phase) (s : ServerData) (n : IncomingData) (m : OutgoingData) → IsNotification n
    → (step_in p s n).answer ≢ reply m
unreplied Ended s n m is = λ e. cc
unreplied Running s (did_open (Some p)) m is = obeyed_quietly s _ m
unreplied Running s (did_change (Some p)) m is = obeyed_quietly s _ m
unreplied Running s (did_close (Some p)) m is = obeyed_quietly s _ m
unreplied p s exit m is = λ e. grind arith
unreplied New s n m is = λ e. grind arith
unreplied p s n m is = λ e. grind arith

pub unanswered : (p : Phase) (s : ServerData) (id : Option IdData) (m : OutgoingData)
    → (step_in p s (response id)).answer ≢ reply m
unanswered Ended s id m = λ e. cc
unanswered _ s id m = λ e. cc

-- ---- what stays

pub record Keeps (p : Phase) (s : ServerData) (next : Step) : Type 0 where
  pub config : next.state.config ≡ s.config
  pub forward : way_of p ≤ way_of next.state.phase
  pub documents : next.answer ≢ changed → next.state.table ≡ s.table
  pub refusal : ChangesNothing next.answer → next.state ≡ s

stays_kept : (p : Phase) (s : ServerData) (answer : AnswerData OutgoingData) → s.phase ≡ p
    → Keeps p s (unchanged_step s answer)
stays_kept p s answer e =
    record { config = refl; forward = rw e (omega arith); documents = λ _. refl; refusal = λ _. refl }

goes_kept : (p q : Phase) (s : ServerData) (answer : AnswerData OutgoingData) → way_of p ≤ way_of q
    → (ChangesNothing answer → ⊥) → Keeps p s (phase_step s q answer)
goes_kept p q s answer on apart =
    record { config = refl; forward = on; documents = λ _. refl; refusal = λ h. absurd (apart h) }

obeyed_kept : (p : Phase) (s : ServerData) (result : Result (List DocumentItem) table.Refusal) → s.phase ≡ p
    → Keeps p s (result_step s result)
obeyed_kept p s (Ok next) e =
    record {
      config = refl;
      forward = rw e (omega arith);
      documents = λ apart. absurd (apart refl);
      refusal = λ h. absurd h;
    }
obeyed_kept p s (Err refusal) e = stays_kept p s _ e

pub kept : (p : Phase) (s : ServerData) (m : IncomingData) → s.phase ≡ p → Keeps p s (step_in p s m)
kept New s exit e = goes_kept New Ended s (exits 1) (omega arith) (λ h. h)
kept New s (initialize id (Some offers)) e =
    record { config = refl; forward = omega arith; documents = λ _. refl; refusal = λ h. absurd h }
kept Running s exit e = goes_kept Running Ended s (exits 1) (omega arith) (λ h. h)
kept Running s (shutdown id) e = goes_kept Running Down s (reply (shutdown_result id)) (omega arith) (λ h. h)
kept Running s (did_open (Some p)) e = obeyed_kept Running s _ e
kept Running s (did_change (Some p)) e = obeyed_kept Running s _ e
kept Running s (did_close (Some p)) e = obeyed_kept Running s _ e
kept Down s exit e = goes_kept Down Ended s (exits 0) (omega arith) (λ h. h)
kept p s m e = stays_kept p s _ e

-- ---- the encoding

pub offered_if : (prefer : Encoding) (offers : Offers) (b : Bool) → is_offered offers prefer ≡ b
    → is_offered offers (if b then prefer else Utf16) ≡ true
offered_if prefer offers true e = e
offered_if prefer offers false e = refl

pub offered : (prefer : Encoding) (offers : Offers)
    → is_offered offers (encoding_chosen (Negotiated prefer) offers) ≡ true
offered prefer offers = offered_if prefer offers (is_offered offers prefer) refl

-- What becomes of a record whose body a session has read.
use Rattle.std.specs.Prelude.{◌≡◌, ◌||◌, if◌then◌else◌}
use Rattle.log_session.specs.Prelude.{ℕ, Bool, true, false, List, Option, Some, None, ⊤, Head, IdData, reading, IsNoted, IncomingData, initialize, other_request, shutdown, RecordBody}
use Rattle.log_session.specs.declared.session.RecordBody.TheVariants.{Client}
use Rattle.log_session.specs.Selection.{Selection, after_kept, after_left_out, is_answer_to, is_due, message_stays, record_stays, waiting_for}
use Rattle.log_session.specs.Session.{Session, same_id}
use Rattle.log_session.specs.inside.Bodies.{BodyData, body_read, body_view, from_client, from_server}

-- This was read of a record's body.
abbrev pub IsReadOf : Head → List ℕ → RecordBody → Type 0
IsReadOf head body read = body_view read ≡ body_read head.version head.side body

-- What notes go by was read with a client's body, if notes are wanted.
abbrev pub IsNotedOf : Bool → List ℕ → RecordBody → Type 0
IsNotedOf true body (Client version incoming noted) = IsNoted (reading body) incoming noted
IsNotedOf notes body read = ⊤

-- ---- which records stay

-- Does a record stay, by what was read of it?
abbrev pub stays_read : Session → Option IdData → BodyData → Bool
stays_read s waiting (from_client version m) = message_stays s.server.phase m
stays_read s waiting (from_server body)
    = is_answer_to s.expected (reading body) || is_answer_to waiting (reading body)

-- Whose answer is waited for after a record that stays, by what was read of it.
abbrev pub waiting_read : Option IdData → BodyData → Option IdData
waiting_read waiting (from_client version m) = waiting_for waiting m
waiting_read waiting (from_server body)
    = if is_answer_to waiting (reading body) then None else waiting

-- The id of a request.
abbrev pub asked_id : IncomingData → Option IdData
asked_id (initialize id offers) = Some id
asked_id (shutdown id) = Some id
asked_id (other_request id method) = Some id
asked_id m = None

-- A record is left out.
pub record IsLeftOut (s : Session) (old new : Selection) (head : Head) (body : List ℕ) :
    Type 0 where
  pub left_out : record_stays s old.waiting head.side body ≡ false
  pub selection : new ≡ after_left_out old head

-- A record stays, and is written under this head.
pub record IsKept (s : Session) (old new : Selection) (head : Head) (body : List ℕ)
    (written : Head) : Type 0 where
  pub stays : record_stays s old.waiting head.side body ≡ true
  pub selection : new ≡ after_kept old head body
  pub head_is : written ≡ record head { line_due = is_due old head }

-- A record is left out, or it stays.
abbrev pub IsSelection : Session → Selection → Selection → Head → List ℕ → Option Head → Type 0
IsSelection s old new head body None = IsLeftOut s old new head body
IsSelection s old new head body (Some written) = IsKept s old new head body written

-- ---- the answers of a server

-- Is an id the one that is waited for?
abbrev pub is_waited : Option IdData → Option IdData → Bool
is_waited (Some id) (Some other) = same_id id other
is_waited waiting answered = false

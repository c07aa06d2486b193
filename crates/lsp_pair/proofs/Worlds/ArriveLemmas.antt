-- What the server does at each message that waits for it.
use Rattle.lsp_pair.proofs.Prelude.{ℕ, ◌≡◌, ◌≤◌, List, [], ◌∷◌, ◌++◌, length, take, Option, Some, refl, ap, ◌∙◌, subst, pos, ⊤, append-nil, drop-append-le, Encoding, Offers, SyncKind, whole, reading, OutgoingData, body_of, IsProper, reading-body_of, is_read_back, DocumentItem, table_after, Phase, New, Running, Down, Ended, ServerData, Step, step_on, step_in, step, begin_step, sent_body, Server, Setting, did_of, replies_in, IsFitting, ClientMessage, commands, lifecycle, World, incoming_of_message, server_of, turn_of_step, waiting_out, table_with, IsUsual}
use Rattle.lsp_pair.proofs.Worlds.SaidLemmas.{sent_short, done_by, IsServedAs}
use Rattle.lsp_pair.proofs.Worlds.LifeLemmas.{first_result, last_result, short_usual, least}
use Rattle.lsp_pair.proofs.Worlds.ListLemmas.{next_is, length_more}
use Rattle.lsp_pair.proofs.Worlds.Shapes.{the_encoding, the_kind, AreSaid, said_within, Shape, asking, answered, down, leaving, left, working, closing, Row, row_of, row_at, IsBusy, IsBusyShape, AtShape, WorldSound, said_parts}
use Rattle.lsp_message.specs.Outgoing as outgoing
use Rattle.lsp_server.specs.Answer as answer
use Rattle.lsp_server.specs.Answer.{AnswerData}
use Rattle.lsp_server.specs.Incoming as incoming
use Rattle.lsp_server.specs.Step as server
use Rattle.lsp_pair.proofs.Worlds.SaidLemmas as lemmas

-- the body in which a message is written, where the client kept this table when it said it
abbrev pub body_on : SyncKind → List DocumentItem → ClientMessage → List ℕ
body_on kind table (commands command) = sent_body kind table command
body_on kind table (lifecycle m) = body_of m

-- What the server does at a message that waits for it: as it is written and as it was said, it does the same.
pub record Arrives (setting : Setting) (w : World) (said : ClientMessage) (rest : List ClientMessage) : Type 0 where
  pub step_is : Step
  pub given : step_on (server_of setting w) (incoming_of_message said) ≡ step_is
  pub written : step (server_of setting w) (reading (body_on (the_kind setting) (server_of setting w).table said))
      ≡ step_is
  pub short : length (body_on (the_kind setting) (server_of setting w).table said) ≤ setting.limits.max_body
  pub state : step_is.state ≡ record (server_of setting w) {
    phase = step_is.state.phase;
    encoding = step_is.state.encoding;
    table = table_with (server_of setting w).table said;
  }
  pub usual : IsUsual said (Server (did_of step_is.answer))
  pub next : WorldSound setting (turn_of_step w step_is).world

abbrev pub Arrivals : Setting → World → List ClientMessage → Type 0
Arrivals setting w [] = ⊤
Arrivals setting w (said ∷ rest) = Arrives setting w said rest

-- the world when the server did a step
abbrev served : Row → Step → List ClientMessage → Row
served r done rest = record r {
  server = done.state.phase;
  encoding = done.state.encoding;
  there = rest;
  here = r.here ++ replies_in done.answer;
}

advance : (setting : Setting) (w : World) (shape next : Shape) (said : ClientMessage) (rest : List ClientMessage)
    (done : Step) → AtShape setting w shape → waiting_out w ≡ said ∷ rest → IsBusyShape next
    → served (row_at setting shape) done rest ≡ row_at setting next → WorldSound setting (turn_of_step w done).world
advance setting w shape next said rest done at e busy moves =
    let i = next_is w.out w.out_delivered said rest e in
    let replied = drop-append-le w.back_delivered w.back (replies_in done.answer) at.returned in
    let now : row_of (turn_of_step w done).world ≡ served (row_of w) done rest =
    λ j. record (served (row_of w) done (i.after j)) { here = replied j } in
    record {
      shape = next;
      at = record {
        busy = busy;
        is = now ∙ (ap (λ (r : Row). served r done rest) at.is ∙ moves);
        arrived = i.within;
        returned = length_more w.back_delivered w.back (replies_in done.answer) at.returned;
        said = at.said;
      };
    }

-- ---- what the server does in each shape

begins_given : (s : ServerData) (offers : Offers)
    → step_in New s (incoming_of_message (lifecycle (outgoing.initialize offers))) ≡ begin_step s (whole (pos 1)) offers
begins_given s offers =
    ap (λ o. step_in New s (incoming.initialize (whole (pos 1)) o)) (is_read_back (outgoing.initialize offers) tt)

module _ (setting : Setting) (sound : IsFitting setting) (w : World) where
  abbrev did : Phase → Option Encoding → AnswerData OutgoingData → Step
  did phase encoding said =
      record { answer = said; state = record (server_of setting w) { phase = phase; encoding = encoding } }

  -- a message beside commands
  life_arrives : (shape next : Shape) (m : OutgoingData) (rest : List ClientMessage) (phase : Phase)
      (encoding : Option Encoding) (said : AnswerData OutgoingData) → AtShape setting w shape → IsBusyShape next
      → (row_at setting shape).there ≡ lifecycle m ∷ rest
      → step_in (row_at setting shape).server (server_of setting w) (incoming_of_message (lifecycle m))
      ≡ did phase encoding said → IsUsual (lifecycle m) (Server (did_of said))
      → served (row_at setting shape) (did phase encoding said) rest ≡ row_at setting next
      → Arrives setting w (lifecycle m) rest
  life_arrives shape next m rest phase encoding said at busy first does usual moves =
      let ok = short_usual m (Server (did_of said)) usual in
      let given : step_on (server_of setting w) (incoming_of_message (lifecycle m)) ≡ did phase encoding said =
      ap (λ (r : Row). step_in r.server (server_of setting w) (incoming_of_message (lifecycle m))) at.is ∙ does in
      record {
        step_is = did phase encoding said;
        given = given;
        written = ap (step (server_of setting w)) (reading-body_of m ok.0) ∙ given;
        short = least setting _ sound ok.1;
        state = refl;
        usual = usual;
        next =
            advance setting w shape next (lifecycle m) rest (did phase encoding said) at
            (ap (λ (r : Row). r.there) at.is ∙ first) busy moves;
      }

  -- a step without a reply, which leaves the phase and the encoding
  stays : (shape : Shape) (rest : List ClientMessage) → AtShape setting w shape
      → served (row_at setting shape) (did w.server_phase w.encoding answer.ignored) rest
      ≡ record (row_at setting shape) { there = rest }
  stays shape rest at = λ j. record (row_at setting shape) {
    server = (at.is j).server;
    encoding = (at.is j).encoding;
    there = rest;
    here = append-nil (row_at setting shape).here j;
  }

  -- what waits while documents are sent
  busy_arrives : (shape next : Shape) (said : ClientMessage) (rest : List ClientMessage) → AtShape setting w shape
      → IsBusy said → IsBusyShape next → (row_at setting shape).server ≡ Running
      → (row_at setting shape).encoding ≡ Some (the_encoding setting) → (row_at setting shape).there ≡ said ∷ rest
      → record (row_at setting shape) { there = rest } ≡ row_at setting next → Arrives setting w said rest
  busy_arrives shape next (commands command) rest at is busy running counts first moves =
      let s : ServerData = server_of setting w in
      let e : waiting_out w ≡ commands command ∷ rest = ap (λ (r : Row). r.there) at.is ∙ first in
      let parts = said_parts setting [] w.out_delivered w.out at.said in
      let all : AreSaid setting s.table (commands command ∷ rest) = subst (AreSaid setting s.table) e parts.1 in
      let done : IsServedAs s (the_kind setting) command =
      lemmas.command_served setting.limits setting.config.limits (the_encoding setting) (the_kind setting) s
      sound.ranges sound.within refl (ap (λ (r : Row). r.server) at.is ∙ running)
      (ap (λ (r : Row). r.encoding) at.is ∙ counts)
      (said_within setting (take w.out_delivered w.out) parts.0) command all.0 in
      record {
        step_is = done_by s (table_after s.table command);
        given = done.given;
        written = done.written;
        short = sent_short setting.limits (the_kind setting) s.table command all.0.may;
        state = refl;
        usual = refl;
        next =
            advance setting w shape next (commands command) rest (done_by s (table_after s.table command)) at e busy
            (stays shape rest at ∙ moves);
      }
  busy_arrives shape next (lifecycle outgoing.initialized) rest at is busy running counts first moves =
      life_arrives shape next outgoing.initialized rest w.server_phase w.encoding answer.ignored at busy first
      (ap (λ (p : Phase). step_in p (server_of setting w)
      (incoming_of_message (lifecycle outgoing.initialized))) running) refl (stays shape rest at ∙ moves)
  busy_arrives shape next (lifecycle m) rest at is busy running counts first moves = absurd is

  pub arrivals : (shape : Shape) → AtShape setting w shape → Arrivals setting w (row_at setting shape).there
  arrivals asking at =
      life_arrives asking answered (outgoing.initialize setting.offers) [] Running (Some (the_encoding setting))
      (answer.reply (first_result (the_encoding setting) (the_kind setting))) at tt refl
      (begins_given (server_of setting w) setting.offers) refl refl
  arrivals (working (said ∷ rest)) at =
      busy_arrives (working (said ∷ rest)) (working rest) said rest at at.busy.0 at.busy.1 refl refl refl refl
  arrivals (closing []) at =
      life_arrives (closing []) down outgoing.shutdown [] Down w.encoding (answer.reply last_result) at tt refl
      refl refl (λ j. record (row_at setting down) { encoding = (at.is j).encoding })
  arrivals (closing (said ∷ rest)) at =
      busy_arrives (closing (said ∷ rest)) (closing rest) said (rest ++ lifecycle outgoing.shutdown ∷ []) at at.busy.0
      at.busy.1 refl refl refl refl
  arrivals leaving at =
      life_arrives leaving left outgoing.exit [] Ended w.encoding (answer.exits 0) at tt refl refl refl
      (λ j. record (row_at setting left) { encoding = (at.is j).encoding })
  arrivals _ at = tt

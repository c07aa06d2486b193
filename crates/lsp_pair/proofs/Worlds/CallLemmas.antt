-- What a client's calls say.
use Rattle.lsp_pair.proofs.Prelude.{◌≡◌, List, [], ◌∷◌, ◌++◌, Option, Some, None, Result, Ok, Err, refl, sym, ap, ◌∙◌, subst, ⊤, unwrap_or, drop-append-le, Encoding, Utf16, Incremental, OutgoingData, Command, table_after, table_of, ClientFault, Agreed, Asked, Closing, Done, order_refusal, order_result, Setting, calls, message_frame, ClientMessage, commands, lifecycle, World, commands_in, client_of, turn_of_call, message_of_call, IsProperOrder, IsProperEvent, frame_of, table_with, agreed_of}
use Rattle.lsp_client.specs.declared.phase.Phase.{Phase}
use Rattle.lsp_client.specs.Step.{Sending, Order, Call, edits, starts, shuts_down, exits, orders, call_result, call_result_in, command_result, command_of, sent_message, sending_unless, agreement}
use Rattle.lsp_pair.proofs.Worlds.SaidLemmas.{IsProperCommand}
use Rattle.lsp_pair.proofs.Worlds.ListLemmas.{length_more}
use Rattle.lsp_pair.proofs.Worlds.Shapes.{the_encoding, the_kind, IsSaidOn, said-append, Shape, fresh, asking, closed, leaving, working, closing, Row, row_of, row_at, busy_last, IsBusyShape, AtShape, WorldSound}
use Rattle.lsp_message.specs.Outgoing as outgoing
use Rattle.lsp_store.specs.Table as documents
use Rattle.lsp_client.specs.Step as client

-- What an accepted call leaves of the client, what it sends, and that the world stays sound.
pub record IsSending (setting : Setting) (w : World) (said : ClientMessage) (sending : Sending) : Type 0 where
  pub state : sending.state ≡ record (client_of setting w) {
    phase = sending.state.phase;
    agreed = sending.state.agreed;
    table = table_with (client_of setting w).table said;
  }
  pub frame : message_frame sending.message ≡ frame_of (the_kind setting) (client_of setting w).table said
  pub next : WorldSound setting (turn_of_call w said (Ok sending)).world

abbrev pub CallResult : Setting → World → (OutgoingData → ClientMessage) → Result Sending ClientFault → Type 0
CallResult setting w said (Ok sending) = IsSending setting w (said sending.message) sending
CallResult setting w said (Err refusal) = ⊤

-- the world when the client said one message more
abbrev said_more : Row → ClientMessage → Sending → Row
said_more r said sending =
    record r { client = sending.state.phase; agreed = sending.state.agreed; there = r.there ++ said ∷ [] }

push : (setting : Setting) (w : World) (shape next : Shape) (said : ClientMessage) (sending : Sending)
    → AtShape setting w shape → IsBusyShape next
    → said_more (row_at setting shape) said sending ≡ row_at setting next
    → IsSaidOn setting (table_of (commands_in w.out)) said → WorldSound setting (turn_of_call w said (Ok sending)).world
push setting w shape next said sending at busy moves is =
    let waits = drop-append-le w.out_delivered w.out (said ∷ []) at.arrived in
    let now : row_of (turn_of_call w said (Ok sending)).world ≡ said_more (row_of w) said sending =
    λ j. record (said_more (row_of w) said sending) { there = waits j } in
    record {
      shape = next;
      at = record {
        busy = busy;
        is = now ∙ (ap (λ (r : Row). said_more r said sending) at.is ∙ moves);
        arrived = length_more w.out_delivered w.out (said ∷ []) at.arrived;
        returned = at.returned;
        said = said-append setting [] w.out (said ∷ []) at.said (is, tt);
      };
    }

proper_command : (encoding : Encoding) (order : Order) → IsProperOrder order
    → IsProperCommand encoding (command_of encoding order)
proper_command encoding (edits uri version batch) p = (p, refl)
proper_command encoding _ p = p

module _ (setting : Setting) (w : World) where
  commanded_sound : (busy : List ClientMessage) → AtShape setting w (working busy) → (command : Command)
      → IsProperCommand (the_encoding setting) command
      → CallResult setting w (λ m. commands command) (command_result (client_of setting w) (the_kind setting) command)
  commanded_sound busy at command proper =
      by (order_refusal setting.limits (the_kind setting) (client_of setting w).table command) refl
    where
      by : (refusal : Option documents.Refusal) → order_refusal setting.limits (the_kind setting)
          (client_of setting w).table command ≡ refusal → CallResult setting w (λ m. commands command)
          (sending_unless refusal (record {
            message = sent_message (the_kind setting) (client_of setting w).table command;
            state = record (client_of setting w) { table = table_after (client_of setting w).table command };
          }))
      by (Some refusal) is = tt
      by None is =
          record {
            state = refl;
            frame = refl;
            next =
                push setting w (working busy) (working (busy ++ commands command ∷ [])) (commands command)
                (record {
                  message = sent_message (the_kind setting) (client_of setting w).table command;
                  state = record (client_of setting w) { table = table_after (client_of setting w).table command };
                })
                at (busy_last busy (commands command) at.busy tt)
                (λ j. record (row_at setting (working (busy ++ commands command ∷ []))) {
                  client = (at.is j).client;
                  agreed = (at.is j).agreed;
                }) (record { proper = proper; may = is });
          }

  orders_sound : (busy : List ClientMessage) → AtShape setting w (working busy) → (order : Order) → IsProperOrder order
      → CallResult setting w (message_of_call (client_of setting w) (orders order))
      (order_result (client_of setting w) order)
  orders_sound busy at order proper =
      let agreed : agreed_of setting ≡ agreement (client_of setting w) =
      sym (ap (λ (r : Row). unwrap_or r.agreed (record { encoding = Utf16; kind = Incremental })) at.is) in
      subst (λ (a : Agreed). CallResult setting w (λ m. commands (command_of a.encoding order))
      (command_result (client_of setting w) a.kind (command_of a.encoding order))) agreed
      (commanded_sound busy at (command_of (the_encoding setting) order)
      (proper_command (the_encoding setting) order proper))

  -- a message beside commands
  life_sound : (shape next : Shape) (phase : Phase) (m : OutgoingData) → AtShape setting w shape
      → IsBusyShape next
      → record (row_at setting shape) { client = phase; there = (row_at setting shape).there ++ lifecycle m ∷ [] }
      ≡ row_at setting next → CallResult setting w lifecycle (client.lifecycle_result (client_of setting w) phase m)
  life_sound shape next phase m at busy moves =
      let sending : Sending = record { message = m; state = record (client_of setting w) { phase = phase } } in
      let row = row_at setting shape in
      let agrees : said_more row (lifecycle m) sending
      ≡ record row { client = phase; there = row.there ++ lifecycle m ∷ [] } =
      λ j. record (said_more row (lifecycle m) sending) { agreed = (at.is j).agreed } in
      record {
        state = refl;
        frame = refl;
        next = push setting w shape next (lifecycle m) sending at busy (agrees ∙ moves) tt;
      }

  called_at : (shape : Shape) → AtShape setting w shape → (call : Call) → IsProperEvent (calls call)
      → CallResult setting w (message_of_call (client_of setting w) call)
      (call_result_in (row_at setting shape).client (client_of setting w) call)
  called_at fresh at starts proper = life_sound fresh asking Asked (outgoing.initialize setting.offers) at tt refl
  called_at shape at starts proper = tt
  called_at (working busy) at shuts_down proper =
      life_sound (working busy) (closing busy) Closing outgoing.shutdown at at.busy refl
  called_at (working busy) at (orders order) proper = orders_sound busy at order proper
  called_at closed at exits proper = life_sound closed leaving Done outgoing.exit at tt refl
  called_at shape at call proper = tt

  pub called_sound : (shape : Shape) → AtShape setting w shape → (call : Call) → IsProperEvent (calls call)
      → CallResult setting w (message_of_call (client_of setting w) call) (call_result (client_of setting w) call)
  called_sound shape at call proper =
      subst (λ (r : Row). CallResult setting w (message_of_call (client_of setting w) call)
      (call_result_in r.client (client_of setting w) call)) (sym at.is) (called_at shape at call proper)

-- What the client makes of each message that waits for it.
use Rattle.lsp_pair.proofs.Prelude.{◌≡◌, ◌≤◌, true, false, List, [], ◌∷◌, ◌++◌, length, map, Option, Some, refl, ap, ◌∙◌, arith, ⊤, drop-append-le, Encoding, Agreed, agreed_of, Utf16, Offers, reading, message, OutgoingData, body_of, sent, reading-body_of, is_read_back, encoding_chosen, announced_kind, Closed, ClientData, Delivery, delivery_of, delivery_in, is_awaited, begin_if_agreed, begin_as_announced, begin_in, is_listening, Client, Setting, heard_of, messages_in, IsFitting, can_choose_utf16, ClientMessage, lifecycle, World, client_of, turn_of_delivery, waiting_back, IsUsualBack, common_steps, IsProper}
use Rattle.lsp_message.specs.Agreement.{is_offered, announced_of}
use Rattle.lsp_message.specs.Written.{initialize_value}
use Rattle.lsp_server.specs.declared.config.EncodingChoice.{EncodingChoice}
use Rattle.lsp_server.specs.declared.config.EncodingChoice.TheVariants.{Fixed, Negotiated}
use Rattle.lsp_server.specs.declared.config.ChangeForm.{ChangeForm}
use Rattle.lsp_server.specs.declared.config.ChangeForm.TheVariants.{Incremental, Full}
use Rattle.lsp_server.proofs.LawLemmas.{offered_if}
use Rattle.lsp_client.specs.declared.phase.Phase.{Phase}
use Rattle.lsp_client.specs.declared.phase.Phase.TheVariants.{Ready}
use Rattle.lsp_pair.proofs.Worlds.LifeLemmas.{first_result, last_result, short_first, short_last, least}
use Rattle.lsp_pair.proofs.Worlds.ListLemmas.{table_after_all, next_is, length_more}
use Rattle.lsp_pair.proofs.Worlds.Shapes.{the_encoding, the_kind, said-append, said_quiet, Shape, answered, down, closed, working, Row, row_of, row_at, IsBusyShape, AtShape, WorldSound}
use Rattle.lsp_message.specs.Outgoing as outgoing
use Rattle.lsp_client.specs.Step as client

-- What the client makes of a message that waits for it: as it is written and as it was said, it does the same.
pub record Returns (setting : Setting) (w : World) (m : OutgoingData) (rest : List OutgoingData) : Type 0 where
  pub delivery_is : Delivery
  pub listening : is_listening w.client_phase ≡ true
  pub given : delivery_of (client_of setting w) (message (sent m)) ≡ delivery_is
  pub written : delivery_of (client_of setting w) (reading (body_of m)) ≡ delivery_is
  pub short : length (body_of m) ≤ setting.limits.max_body
  pub state : delivery_is.state ≡ record (client_of setting w) {
    phase = delivery_is.state.phase;
    agreed = delivery_is.state.agreed;
  }
  pub usual : IsUsualBack m (Client (heard_of delivery_is.delivered))
  pub next : WorldSound setting (turn_of_delivery w delivery_is).world

abbrev pub Returning : Setting → World → List OutgoingData → Type 0
Returning setting w [] = ⊤
Returning setting w (m ∷ rest) = Returns setting w m rest

-- ---- what is announced

pub offered_is : (choice : EncodingChoice) (offers : Offers) → can_choose_utf16 choice ≡ true
    → is_offered offers (encoding_chosen choice offers) ≡ true
offered_is (Fixed Utf16) offers e = refl
offered_is (Negotiated prefer) offers e = offered_if prefer offers (is_offered offers prefer) refl
offered_is _ offers e = absurd (let bad : false ≡ true = e in cc)

agrees_on : (s : ClientData) (encoding : Encoding) (sync : ChangeForm) → is_offered s.offers encoding ≡ true
    → begin_if_agreed s true (announced_kind sync) (Some encoding) ≡ begin_in s encoding (announced_kind sync)
agrees_on s encoding Incremental e = rw e refl
agrees_on s encoding Full e = rw e refl

begins_given : (s : ClientData) (encoding : Encoding) (sync : ChangeForm) → is_offered s.offers encoding ≡ true
    → begin_as_announced s (announced_of (initialize_value encoding (announced_kind sync)))
    ≡ begin_in s encoding (announced_kind sync)
begins_given s encoding sync e = grind (arith, common_steps, is_read_back, first_result, agrees_on)

-- what both ends have when the client heard a message
abbrev row_after : Row → Phase → Option Agreed → client.DeliveredData OutgoingData → List OutgoingData → Row
row_after r phase agreed does rest =
    record r { client = phase; agreed = agreed; there = r.there ++ map lifecycle (messages_in does); here = rest }

module _ (setting : Setting) (sound : IsFitting setting) (w : World) where
  abbrev heard : Phase → Option Agreed → client.DeliveredData OutgoingData → Delivery
  heard phase agreed does =
      record { delivered = does; state = record (client_of setting w) { phase = phase; agreed = agreed } }

  -- a message that waits alone, and what the client makes of it in this shape
  alone : (shape next : Shape) (m : OutgoingData) (phase : Phase) (agreed : Option Agreed)
      (does : client.DeliveredData OutgoingData) → AtShape setting w shape → IsBusyShape next
      → (row_at setting shape).here ≡ m ∷ [] → IsProper m → length (body_of m) ≤ 4096
      → is_listening (row_at setting shape).client ≡ true
      → delivery_in (row_at setting shape).client (is_awaited (row_at setting shape).client (message (sent m)))
      (client_of setting w) (message (sent m)) ≡ heard phase agreed does → IsUsualBack m (Client (heard_of does))
      → row_after (row_at setting shape) phase agreed does [] ≡ row_at setting next → Returns setting w m []
  alone shape next m phase agreed does at busy first proper few listens is usual moves =
      let s : ClientData = client_of setting w in
      let given : delivery_of s (message (sent m)) ≡ heard phase agreed does =
      ap (λ (r : Row). delivery_in r.client (is_awaited r.client (message (sent m))) s (message (sent m))) at.is ∙ is in
      let i = next_is w.back w.back_delivered m [] (ap (λ (r : Row). r.here) at.is ∙ first) in
      let more = map lifecycle (messages_in does) in
      let sent_more = drop-append-le w.out_delivered w.out more at.arrived in
      let now : row_of (turn_of_delivery w (heard phase agreed does)).world
      ≡ row_after (row_of w) phase agreed does [] =
      λ j. record (row_after (row_of w) phase agreed does (i.after j)) { there = sent_more j } in
      record {
        delivery_is = heard phase agreed does;
        listening = ap (λ (r : Row). is_listening r.client) at.is ∙ listens;
        given = given;
        written = ap (delivery_of s) (reading-body_of m proper) ∙ given;
        short = least setting _ sound few;
        state = refl;
        usual = usual;
        next = record {
          shape = next;
          at = record {
            busy = busy;
            is = now ∙ (ap (λ (r : Row). row_after r phase agreed does []) at.is ∙ moves);
            arrived = length_more w.out_delivered w.out more at.arrived;
            returned = i.within;
            said = said-append setting [] w.out more at.said
                (said_quiet setting (table_after_all [] w.out) (messages_in does));
          };
        };
      }

  pub returning : (shape : Shape) → AtShape setting w shape → Returning setting w (row_at setting shape).here
  returning answered at =
      alone answered (working (lifecycle outgoing.initialized ∷ [])) (first_result (the_encoding setting)
      (the_kind setting)) Ready (Some (agreed_of setting)) (client.sends outgoing.initialized) at (tt, tt) refl
      (record { sfits = omega arith }) (short_first (the_encoding setting) (the_kind setting)) refl
      (begins_given (client_of setting w) (the_encoding setting) setting.config.sync
      (offered_is setting.config.choice setting.offers sound.choice)) refl refl
  returning down at =
      alone down closed last_result Closed w.agreed client.noted at tt refl (record { sfits = omega arith }) short_last
      refl refl refl (λ j. record (row_at setting closed) { agreed = (at.is j).agreed })
  returning _ at = tt

-- The documents of both ends of a pair at a world.
use Rattle.lsp_pair.proofs.Prelude.{ℕ, ◌≡◌, ◌≤◌, nat_le, true, false, List, [], ◌∷◌, ◌++◌, length, take, refl, sym, ap, ◌∙◌, arith, ⊎_elim, cases_Bool, leb-true, leb-false, append_assoc, append-nil, length-append, take-append-le, take_all, take-append-drop, SyncKind, sent, DocumentItem, table_of, Setting, EventData, to_server, PairData, IsFitting, ClientMessage, World, commands_in, turn, world_from, world_of, beginning, IsAt, frames_from, waiting_out}
use Rattle.lsp_pair.specs.laws.Commanded.{sent_messages, delivered_messages, HaveCommanded}
use Rattle.lsp_pair.proofs.Worlds.WorldLemmas.{world_sound}
use Rattle.lsp_pair.proofs.Histories.HistoryLemmas.{turn_grows}

-- ---- what waits

no_frames : (kind : SyncKind) (table : List DocumentItem) (waiting : List ClientMessage)
    → frames_from kind table waiting ≡ [] → waiting ≡ []
no_frames kind table [] e = refl
no_frames kind table (first ∷ rest) e = absurd (cc)

-- what was sent before is sent still
record Extends (old new : List ClientMessage) : Type 0 where
  pub more : List ClientMessage
  pub is : new ≡ old ++ more

world_extends : (setting : Setting) (w : World) (events : List EventData)
    → Extends w.out (world_from setting w events).out
world_extends setting w [] = record { more = []; is = sym (append-nil w.out) }
world_extends setting w (event ∷ events) =
    let one = turn_grows setting w event in
    let rest = world_extends setting (turn setting w event).world events in
    record {
      more = one.more ++ rest.more;
      is = rest.is ∙ (ap (λ (out : List ClientMessage). out ++ rest.more) one.is ∙ append_assoc w.out one.more
          rest.more);
    }

-- ---- an earlier world

record Earlier (setting : Setting) (w : World) (events : List EventData) (n : ℕ) : Type 0 where
  pub before : List EventData
  pub later : List EventData
  pub parts : before ++ later ≡ events
  pub sent : (world_from setting w before).out ≡ take n (world_from setting w events).out

here : (setting : Setting) (w : World) (events : List EventData) (n : ℕ) → n ≡ length w.out → Earlier setting w events n
here setting w events n e =
    let whole = world_extends setting w events in
    record {
      before = [];
      later = events;
      parts = refl;
      sent =
          sym (take_all n w.out (omega (arith, e)))
          ∙ (sym (take-append-le n w.out whole.more (omega (arith, e))) ∙ ap (take n) (sym whole.is));
    }

earlier : (setting : Setting) (w : World) (events : List EventData) (n : ℕ) → length w.out ≤ n
    → n ≤ length (world_from setting w events).out → Earlier setting w events n
earlier setting w [] n low high = here setting w [] n (omega (arith, low, high))
earlier setting w (event ∷ events) n low high =
    ⊎_elim
    (λ (is : nat_le n (length w.out) ≡ true). here setting w (event ∷ events) n
    (omega (arith, low, leb-true n (length w.out) is)))
    (λ (above : nat_le n (length w.out) ≡ false).
    let one = turn_grows setting w event in
    let many : length (turn setting w event).world.out ≤ n =
    omega (arith, ap length one.is, length-append w.out one.more, one.few, leb-false n (length w.out) above) in
    let rest = earlier setting (turn setting w event).world events n many high in
    record {
      before = event ∷ rest.before;
      later = rest.later;
      parts = ap (λ (es : List EventData). event ∷ es) rest.parts;
      sent = rest.sent;
    })
    (cases_Bool (nat_le n (length w.out)))

-- ---- the documents

pub documents_at : (setting : Setting) (pair : PairData) (events : List EventData) → IsFitting setting
    → IsAt setting pair events → HaveCommanded setting events pair
documents_at setting pair events sound at =
    let w : World = world_of setting events in
    let ok = world_sound setting sound events at.proper in
    let past = earlier setting beginning events w.out_delivered (omega arith) ok.at.arrived in
    let server_is : pair.server.table ≡ table_of (commands_in (delivered_messages setting events)) =
    ap (λ (p : PairData). p.server.table) at.is in
    let client_is : pair.client.table ≡ table_of (commands_in (sent_messages setting events)) =
    ap (λ (p : PairData). p.client.table) at.is in
    record {
      client = client_is;
      server = server_is;
      equal = λ none.
          let waits : waiting_out w ≡ [] =
          no_frames _ _ (waiting_out w) (sym (ap (λ (p : PairData). p.to_server) at.is) ∙ none) in
          let all : take w.out_delivered w.out ≡ w.out =
          sym (append-nil (take w.out_delivered w.out))
          ∙ (ap (λ (ms : List ClientMessage). take w.out_delivered w.out ++ ms) (sym waits)
          ∙ take-append-drop w.out_delivered w.out) in
          server_is ∙ (ap (λ (ms : List ClientMessage). table_of (commands_in ms)) all ∙ sym client_is);
      earlier = record {
        before = past.before;
        later = past.later;
        parts = past.parts;
        sent = past.sent;
        same = server_is ∙ ap (λ (ms : List ClientMessage). table_of (commands_in ms)) (sym past.sent);
      };
    }

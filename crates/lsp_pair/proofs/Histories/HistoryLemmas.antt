-- The history of a pair: each step makes the next, and both ends have the documents that it says.
use Rattle.lsp_pair.proofs.Prelude.{ℕ, zero, suc, ◌≡◌, ◌≤◌, ◌+◌, List, [], ◌∷◌, ◌++◌, length, take, slice_get, Option, Some, None, Result, Ok, Err, IfOk, refl, sym, ap, ◌∙◌, subst, arith, append-nil, length-drop, take_all, SyncKind, OutgoingData, message, sent, DocumentItem, ClientFault, Happened, Setting, EventData, calls, to_server, to_client, PairData, IsFitting, IsStep, new_pair, ClientMessage, commands, lifecycle, World, Turn, turn_of_call, turn_of_delivery, to_server_event, to_client_event, turn_of_result, turn, world_of, client_of, server_of, table_with, frames_from, waiting_out, IsAt, IsStepAt, History, no_history, history_after, HaveDocuments, IsLater, tables_from, history_of, IsHistory, common_steps}
use Rattle.lsp_pair.proofs.Worlds.ListLemmas.{table_after_all}
use Rattle.lsp_pair.proofs.Worlds.Shapes.{the_kind}
use Rattle.lsp_pair.proofs.Worlds.WorldLemmas.{world_sound, world-last}
use Rattle.lsp_pair.proofs.Steps.StepLemmas.{new_at}
use Rattle.lsp_client.specs.Step as client

-- ---- tables

tables-last : (table : List DocumentItem) (xs : List ClientMessage) (said : ClientMessage)
    → tables_from table (xs ++ said ∷ []) ≡ tables_from table xs ++ table_after_all table (xs ++ said ∷ []) ∷ []
tables-last table [] (commands command) = refl
tables-last table [] (lifecycle m) = refl
tables-last table (commands command ∷ xs) said =
    ap (λ ts. table_with table (commands command) ∷ ts) (tables-last (table_with table (commands command)) xs said)
tables-last table (lifecycle m ∷ xs) said = ap (λ ts. table ∷ ts) (tables-last table xs said)

length_tables : (table : List DocumentItem) (xs : List ClientMessage) → length (tables_from table xs) ≡ length xs
length_tables table [] = refl
length_tables table (said ∷ xs) = ap suc (length_tables (table_with table said) xs)

-- the table after the first messages
table_there : (table : List DocumentItem) (xs : List ClientMessage) (n : ℕ) → n ≤ length xs
    → slice_get (table ∷ tables_from table xs) n ≡ Some (table_after_all table (take n xs))
table_there table xs zero within = refl
table_there table [] (suc n) within = absurd (omega arith)
table_there table (commands command ∷ xs) (suc n) within =
    table_there (table_with table (commands command)) xs n (omega arith)
table_there table (lifecycle m ∷ xs) (suc n) within = table_there table xs n (omega arith)

length_frames : (kind : SyncKind) (table : List DocumentItem) (xs : List ClientMessage)
    → length (frames_from kind table xs) ≡ length xs
length_frames kind table [] = refl
length_frames kind table (said ∷ xs) = ap suc (length_frames kind (table_with table said) xs)

-- ---- both ends have the documents of their history

world_documents : (setting : Setting) (pair : PairData) (events : List EventData) → IsFitting setting
    → IsAt setting pair events → HaveDocuments (history_of (world_of setting events)) pair
world_documents setting pair events sound at =
    let w : World = world_of setting events in
    let ok = world_sound setting sound events at.proper in
    let many = length_tables [] w.out in
    let whole : slice_get ([] ∷ tables_from [] w.out) (length (tables_from [] w.out))
    ≡ Some (table_after_all [] w.out) =
    table_there [] w.out (length (tables_from [] w.out)) (omega (arith, many))
    ∙ ap (λ ms. Some (table_after_all [] ms)) (take_all (length (tables_from [] w.out)) w.out (omega (arith, many))) in
    record {
      server = table_there [] w.out w.out_delivered ok.at.arrived ∙ ap (λ p. Some p.server.table) (sym at.is);
      client = whole ∙ ap (λ p. Some p.client.table) (sym at.is);
      waiting =
          ap (λ p. w.out_delivered + length p.to_server) at.is
          ∙ omega (
            arith,
            length_frames (the_kind setting) (server_of setting w).table (waiting_out w),
            length-drop w.out_delivered w.out,
            ok.at.arrived,
            many,
          );
    }

pub history_documents : (h : History) (pair : PairData) → IsHistory h pair → HaveDocuments h pair
history_documents h pair is =
    subst (λ k. HaveDocuments k pair) (sym is.told) (world_documents is.setting pair is.events is.sound is.at)

-- ---- a new pair

pub new_history : (setting : Setting) → IsFitting setting → IsHistory no_history (new_pair setting)
new_history setting sound = record { setting = setting; sound = sound; events = []; at = new_at setting; told = refl }

-- ---- a step

-- what a turn adds to `out`, one message at most, and to the history
pub record Grows (setting : Setting) (w : World) (t : Turn) : Type 0 where
  pub more : List ClientMessage
  pub is : t.world.out ≡ w.out ++ more
  pub few : length more ≤ 1
  pub told : history_after (history_of w) t.happened (client_of setting t.world).table ≡ history_of t.world

one_more : (w : World) (said : ClientMessage)
    → record (history_of w) { sent = tables_from [] w.out ++ table_after_all [] (w.out ++ said ∷ []) ∷ [] }
    ≡ record (history_of w) { sent = tables_from [] (w.out ++ said ∷ []) }
one_more w said = λ i. record (history_of w) { sent = sym (tables-last [] w.out said) i }

none_more : (w : World) → history_of w ≡ record (history_of w) { sent = tables_from [] (w.out ++ []) }
none_more w = λ i. record (history_of w) { sent = tables_from [] (sym (append-nil w.out) i) }

same_out : (setting : Setting) (w : World) (t : Turn) → t.world.out ≡ w.out
    → history_after (history_of w) t.happened (client_of setting t.world).table ≡ history_of t.world → Grows setting w t
same_out setting w t is told = record { more = []; is = is ∙ sym (append-nil w.out); few = omega arith; told = told }

call_grows : (setting : Setting) (w : World) (said : ClientMessage) (result : Result client.Sending ClientFault)
    → Grows setting w (turn_of_call w said result)
call_grows setting w said (Ok sending) =
    record { more = said ∷ []; is = refl; few = omega arith; told = one_more w said }
call_grows setting w said (Err refusal) = same_out setting w _ refl refl

delivery_grows : (setting : Setting) (w : World) (d : client.DeliveredData OutgoingData) (s : client.ClientData)
    → Grows setting w (turn_of_delivery w (record { delivered = d; state = s }))
delivery_grows setting w (client.sends m) s =
    record { more = lifecycle m ∷ []; is = refl; few = omega arith; told = one_more w (lifecycle m) }
delivery_grows setting w _ s = record { more = []; is = refl; few = omega arith; told = none_more w }

result_grows : (setting : Setting) (w : World) (result : Result client.Delivery ClientFault)
    → Grows setting w (turn_of_result w result)
result_grows setting w (Ok delivery) = delivery_grows setting w delivery.delivered delivery.state
result_grows setting w (Err refusal) = same_out setting w _ refl refl

server_grows : (setting : Setting) (w : World) (next : Option ClientMessage)
    → Grows setting w (to_server_event setting w next)
server_grows setting w None = same_out setting w _ refl refl
server_grows setting w (Some said) = same_out setting w _ refl refl

client_grows : (setting : Setting) (w : World) (next : Option OutgoingData)
    → Grows setting w (to_client_event setting w next)
client_grows setting w None = same_out setting w _ refl refl
client_grows setting w (Some m) =
    result_grows setting w (client.delivery_result (client_of setting w) (message (sent m)))

pub turn_grows : (setting : Setting) (w : World) (event : EventData) → Grows setting w (turn setting w event)
turn_grows setting w (calls call) = call_grows setting w _ (client.call_result (client_of setting w) call)
turn_grows setting w to_server = server_grows setting w (slice_get w.out w.out_delivered)
turn_grows setting w to_client = client_grows setting w (slice_get w.back w.back_delivered)

-- a pair at a world has its history, and after a step that of the next world
pub next_history : (setting : Setting) (events : List EventData) (event : EventData) (h : History) (happened : Happened)
    (new : PairData)
    → IsFitting setting → h ≡ history_of (world_of setting events) → IsStepAt setting events event happened new
    → IsHistory (history_after h happened new.client.table) new
next_history setting events event h happened new sound told steps =
    grind (arith, common_steps, world-last, (turn_grows setting (world_of setting events) event).told)

-- after a step that leads to the world of the list with its event added
pub history_if : {E : Type 0} (old new : PairData) (event : EventData) (result : Result Happened E)
    → IfOk result (λ happened. (setting : Setting) (events : List EventData) → IsFitting setting
    → IsAt setting old events → IsStepAt setting events event happened new)
    → IfOk result (λ happened. (h : History) → IsHistory h old
    → IsHistory (history_after h happened new.client.table) new
    × HaveDocuments (history_after h happened new.client.table) new)
history_if old new event (Ok happened) steps = λ h is.
    let next = next_history is.setting is.events event h happened new is.sound is.told
    (steps is.setting is.events is.sound is.at) in (
      next,
      history_documents (history_after h happened new.client.table) new next,
    )
history_if old new event (Err e) steps = tt

-- ---- a run

pub later-last : (h mid_history : History) (old mid new : PairData) (events : List EventData) (event : EventData)
    (happened : Happened) → IsLater h old events mid_history mid → IsStep mid event happened new
    → IsLater h old (events ++ event ∷ []) (history_after mid_history happened new.client.table) new
later-last h mid_history old mid new [] event happened run steps = grind (arith, common_steps)
later-last h mid_history old mid new (first ∷ events) event happened run steps = (
  run.0,
  run.1,
  run.2,
  later-last (history_after h run.0 run.1.client.table) mid_history run.1 mid new events event happened run.3 steps,
)

-- after a run, whose number of steps is known by another name
pub later_documents : (h : History) (old pair now : PairData) (all : List EventData) (i n : ℕ) → n ≡ i → now ≡ pair
    → ((later : History) × IsLater h old (take i all) later pair × IsHistory later pair)
    → (later : History) × IsLater h old (take n all) later now × IsHistory later now × HaveDocuments later now
later_documents h old pair now all i n counted same told = (
  told.0,
  subst (λ p. IsLater h old (take n all) told.0 p) (sym same) (subst (λ k. IsLater h old (take k all) told.0 pair)
      (sym counted) told.1),
  subst (IsHistory told.0) (sym same) told.2,
  history_documents told.0 now (subst (IsHistory told.0) (sym same) told.2),
)

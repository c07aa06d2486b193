-- What a server makes of the messages of commands.
use Rattle.lsp_pair.proofs.Prelude.{ℕ, ℤ, ◌≡◌, ◌≤◌, List, [], ◌∷◌, length, map, FitsSigned, IsUtf8, encode_utf8_all, Option, Some, None, Ok, refl, sym, ap, ◌∙◌, subst, arith, nat_lt, w32, cases_Bool, ltb-false, encodes-chars, scalars-chars, LimitsData, AreInRange, Encoding, SyncKind, Off, Full, reading, did_open, did_change, did_close, body_of, DocumentItem, ChangeData, CloseData, IsProper, IsProperDocument, IsProperChange, reading-body_of, is_read_back, body_of-unique, Refusal, Command, opens, changes, closes, change_refusal, after_change, changed, command_refusal, table_after, unless_refused, AllWithin, IsWithin, IsReplacedBy, AreWithin, Accepts, accepted_parts, batch_at, proper, within_at, within_changed, Phase, Running, ServerData, Step, result_step, command_step, step_on, step, step_in, session_encoding, order_refusal, commands, incoming_of_message, IsProperEdits, common_steps}
use Rattle.std.specs.Str.{chars}
use Rattle.lsp_text.specs.Units.{units_in}
use Rattle.lsp_edit.specs.Items.{Item}
use Rattle.lsp_edit.specs.Batch.{ContentChange, meaning}
use Rattle.lsp_edit.specs.Canonical.{canonical}
use Rattle.lsp_edit.specs.laws.Batches.{IsCanonical}
use Rattle.lsp_edit.proofs.Batches.LawLemmas.{canonical_law, units_some}
use Rattle.lsp_store.specs.Message.{AreTexts, written_content_change, canonical_batch, whole_batch, whole_text, change_message, body_refusal}
use Rattle.lsp_store.proofs.Tables.FirstLemmas.{first_none, later_none}
use Rattle.lsp_store.proofs.Messages.ScalarLemmas.{canonical_texts}
use Rattle.lsp_store.proofs.LawLemmas.{found_changed, whole_text_law}
use Rattle.lsp_store.proofs.GreaterLemmas.{MayChange, change_parts, greater_limits_law, canonical_batch_law}
use Rattle.lsp_server.proofs.EditLemmas.{edits_back}
use Rattle.lsp_client.specs.Step.{sent_batch, sent_body}
use Rattle.lsp_server.specs.Answer as answer
use Rattle.lsp_server.specs.Incoming as incoming
use Rattle.lsp_server.specs.Incoming.{IncomingData}

-- ---- commands as the types hold them

abbrev pub IsProperCommand : Encoding → Command → Type 0
IsProperCommand encoding (opens entry) = IsProperDocument entry
IsProperCommand encoding (changes uri version other batch) = IsProperEdits uri version batch × (other ≡ encoding)
IsProperCommand encoding (closes uri) = IsUtf8 uri

-- A command that a client says, whose table was this: its texts are texts, it counts in this encoding, and it was
-- accepted.
pub record IsSaid (limits : LimitsData) (encoding : Encoding) (kind : SyncKind) (table : List DocumentItem)
    (command : Command) : Type 0 where
  pub proper : IsProperCommand encoding command
  pub may : order_refusal limits kind table command ≡ None

pub may_command : (limits : LimitsData) (kind : SyncKind) (table : List DocumentItem) (command : Command)
    → order_refusal limits kind table command ≡ None → command_refusal limits table command ≡ None
may_command limits kind table command e =
    first_none (command_refusal limits table command) (body_refusal limits (sent_body kind table command)) e

body_short : (limits : LimitsData) (body : List ℕ) → body_refusal limits body ≡ None → length body ≤ limits.max_body
body_short limits body e = grind (arith, common_steps, nat_lt, ltb-false, cases_Bool)

pub sent_short : (limits : LimitsData) (kind : SyncKind) (table : List DocumentItem) (command : Command)
    → order_refusal limits kind table command ≡ None → length (sent_body kind table command) ≤ limits.max_body
sent_short limits kind table command e = grind (arith, common_steps, body_short, later_none)

-- ---- the batch that is sent

-- what is true of the batch that is sent in place of one that was accepted
pub record IsSentBatch (great : LimitsData) (encoding : Encoding) (table : List DocumentItem) (uri : List ℕ)
    (version : ℤ) (batch other_batch : List ContentChange) : Type 0 where
  pub done : IsReplacedBy great (units_in encoding) table uri version batch other_batch
  pub texts : AreTexts other_batch
  pub proper_message : IsProper (change_message uri version other_batch)

whole_proper : (uri : List ℕ) (version : ℤ) (bytes : List ℕ) → IsUtf8 uri → FitsSigned w32 version → IsUtf8 bytes
    → IsProper (change_message uri version (record { range = None; text = chars bytes } ∷ []))
whole_proper uri version bytes u v b = grind (arith, common_steps, encode_utf8_all, encodes-chars)

module _ (small great : LimitsData) (encoding : Encoding) (table : List DocumentItem) (uri : List ℕ) (version : ℤ)
    (batch : List ContentChange) (ranges : AreInRange small) (within : AreWithin small great)
    (kept : AllWithin small table) (edits : IsProperEdits uri version batch)
    (may : change_refusal small (units_in encoding) table uri version batch ≡ None) where
  abbrev units : ℕ → ℕ
  units = units_in encoding

  parts : MayChange small units table uri version batch
  parts = change_parts small units table uri version batch may

  abbrev text : List ℕ
  text = chars parts.entry.text

  entry_within : IsWithin small parts.entry
  entry_within = within_at small table uri parts.entry kept parts.is_open

  laws : (some : List ContentChange) (items : List Item) → meaning units text some ≡ Ok items
      → IsCanonical units text some items
  laws = canonical_law units (units_some encoding) text

  parts_accepts : Accepts small units parts.entry version batch
  parts_accepts = accepted_parts small units parts.entry version batch parts.may

  canonical_is : canonical_batch units table uri batch ≡ canonical units text parts_accepts.items
  canonical_is = batch_at small encoding table uri version parts.entry parts.is_open laws batch parts_accepts.items
      parts_accepts.means

  canonical_sent : IsSentBatch great encoding table uri version batch (canonical_batch units table uri batch)
  canonical_sent = record {
    done = canonical_batch_law small great encoding table uri version batch ranges within may;
    texts =
        subst AreTexts (sym canonical_is)
        (canonical_texts units text batch parts_accepts.items (laws batch parts_accepts.items parts_accepts.means)
        (scalars-chars parts.entry.text entry_within.utf8) edits.texts parts_accepts.means);
    proper_message =
        subst (λ (b : List ContentChange). IsProper (change_message uri version b)) (sym canonical_is)
        (proper small encoding table uri version parts.entry parts.is_open laws edits.name edits.fits entry_within.utf8
        (omega (arith, entry_within.short, ranges.greatest_text)) body_of-unique batch parts_accepts.items edits.texts
        parts_accepts.means);
  }

  left : IsWithin small (changed units parts.entry version batch)
  left = within_changed small units parts.entry version batch edits.texts entry_within parts.may

  whole_is : whole_batch units table uri version batch
      ≡ record { range = None; text = chars (changed units parts.entry version batch).text } ∷ []
  whole_is = ap whole_text (found_changed units table uri version batch parts.entry parts.is_open)

  whole_sent : IsSentBatch great encoding table uri version batch (whole_batch units table uri version batch)
  whole_sent = record {
    done = whole_text_law small great encoding table uri version batch ranges within kept edits.texts may;
    texts = subst AreTexts (sym whole_is) (scalars-chars (changed units parts.entry version batch).text left.utf8, tt);
    proper_message =
        subst (λ (b : List ContentChange). IsProper (change_message uri version b)) (sym whole_is)
        (whole_proper uri version (changed units parts.entry version batch).text edits.name edits.fits left.utf8);
  }

  pub batch_sent : (kind : SyncKind) → IsSentBatch great encoding table uri version batch
      (sent_batch kind units table uri version batch)
  batch_sent Off = canonical_sent
  batch_sent Full = whole_sent
  batch_sent _ = canonical_sent

-- ---- what a server does at a command

-- it did the command
abbrev pub done_by : ServerData → List DocumentItem → Step
done_by s next = record { answer = answer.changed; state = record s { table = next } }

obeys_done : (s : ServerData) (command : Command) → command_refusal s.config.limits s.table command ≡ None
    → command_step s command ≡ done_by s (table_after s.table command)
obeys_done s command may =
    ap (λ (r : Option Refusal). result_step s (unless_refused r (table_after s.table command))) may

run_in : (s : ServerData) (m : IncomingData) → s.phase ≡ Running → step_on s m ≡ step_in Running s m
run_in s m running = ap (λ (phase : Phase). step_in phase s m) running

-- ---- what is read

read_open : (p : DocumentItem) → IsProperDocument p → incoming.incoming_of (reading (body_of (did_open p)))
    ≡ incoming.did_open (Some p)
read_open p is = ap incoming.incoming_of (reading-body_of (did_open p) is)
    ∙ ap incoming.did_open (is_read_back (did_open p) is)

read_change : (p : ChangeData) → IsProperChange p → incoming.incoming_of (reading (body_of (did_change p)))
    ≡ incoming.did_change (Some p)
read_change p is = ap incoming.incoming_of (reading-body_of (did_change p) is)
    ∙ ap incoming.did_change (is_read_back (did_change p) is)

read_close : (p : CloseData) → IsUtf8 p.uri → incoming.incoming_of (reading (body_of (did_close p)))
    ≡ incoming.did_close (Some p)
read_close p is = ap incoming.incoming_of (reading-body_of (did_close p) is)
    ∙ ap incoming.did_close (is_read_back (did_close p) is)

-- ---- a command that was said is done

-- the message as it is written, and as the caller gave it, leave the same
pub record IsServedAs (s : ServerData) (kind : SyncKind) (command : Command) : Type 0 where
  pub written : step s (reading (sent_body kind s.table command)) ≡ done_by s (table_after s.table command)
  pub given : step_on s (incoming_of_message (commands command)) ≡ done_by s (table_after s.table command)

module _ (small great : LimitsData) (encoding : Encoding) (kind : SyncKind) (s : ServerData) (ranges : AreInRange small)
    (within : AreWithin small great)
    (limits_are : s.config.limits ≡ great) (running : s.phase ≡ Running) (counts : s.encoding ≡ Some encoding)
    (kept : AllWithin small s.table) where
  accepted_here : (command : Command) → command_refusal great s.table command ≡ None
      → command_refusal s.config.limits s.table command ≡ None
  accepted_here command e = ap (λ (limits : LimitsData). command_refusal limits s.table command) limits_are ∙ e

  encoding_is : session_encoding s ≡ encoding
  encoding_is = rw counts refl

  open_served : (entry : DocumentItem) → IsProperDocument entry → order_refusal small kind s.table (opens entry) ≡ None
      → IsServedAs s kind (opens entry)
  unfolding sent_body
  open_served entry is may =
      grind (arith, common_steps, run_in, obeys_done, accepted_here, greater_limits_law, may_command, read_open)

  close_served : (uri : List ℕ) → IsUtf8 uri → order_refusal small kind s.table (closes uri) ≡ None
      → IsServedAs s kind (closes uri)
  unfolding sent_body
  close_served uri is may =
      let p : CloseData = record { uri = uri } in
      let done : step_on s (incoming.did_close (Some p)) ≡ done_by s (table_after s.table (closes uri))
      = run_in s (incoming.did_close (Some p)) running ∙ obeys_done s (closes uri)
      (accepted_here (closes uri) (greater_limits_law small great s.table (closes uri) within
      (may_command small kind s.table (closes uri) may))) in
      record { written = ap (step_on s) (read_close p is) ∙ done; given = done }

  -- a batch that does the same as the one that was given
  change_done : (uri : List ℕ) (version : ℤ) (batch other : List ContentChange) → AreTexts other
      → IsReplacedBy great (units_in encoding) s.table uri version batch other → step_on s (incoming.did_change
      (Some (record { uri = uri; version = version; changes = map written_content_change other })))
      ≡ done_by s (after_change (units_in encoding) s.table uri version batch)
  change_done uri version batch other texts is =
      grind (arith, common_steps, run_in, edits_back, encoding_is, obeys_done, accepted_here)

  change_served : (uri : List ℕ) (version : ℤ) (batch : List ContentChange) → IsProperEdits uri version batch
      → order_refusal small kind s.table (changes uri version encoding batch) ≡ None
      → IsServedAs s kind (changes uri version encoding batch)
  unfolding sent_body
  change_served uri version batch is may =
      let accepted : change_refusal small (units_in encoding) s.table uri version batch ≡ None =
      may_command small kind s.table (changes uri version encoding batch) may in
      let t = batch_sent small great encoding s.table uri version batch ranges within kept is accepted kind in
      let other_batch : List ContentChange = sent_batch kind (units_in encoding) s.table uri version batch in
      record {
        written = ap (step_on s) (read_change (record {
          uri = uri;
          version = version;
          changes = map written_content_change other_batch;
        }) t.proper_message) ∙ change_done uri version batch other_batch t.texts t.done;
        given =
            change_done uri version batch batch is.texts
            (record {
              accepted = greater_limits_law small great s.table (changes uri version encoding batch) within accepted;
              leaves = refl;
            });
      }

  pub command_served : (command : Command) → IsSaid small encoding kind s.table command → IsServedAs s kind command
  command_served (opens entry) is = open_served entry is.proper is.may
  command_served (closes uri) is = close_served uri is.proper is.may
  command_served (changes uri version other batch) is =
      let same : encoding ≡ other = sym is.proper.1 in
      subst (λ (e : Encoding). IsServedAs s kind (changes uri version e batch)) same
      (change_served uri version batch is.proper.0
      (subst (λ (e : Encoding). order_refusal small kind s.table (changes uri version e batch) ≡ None) (sym same)
      is.may))

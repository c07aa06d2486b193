-- What is written for a change that is accepted, its canonical batch or the text that it leaves, asks for a change that
-- does the same.
use Rattle.log_session.proofs.Prelude.{List, None, Some, ap, arith, le-ltb, length, map, refl, sym, ◌∙◌, ◌≡◌, ◌≤◌, common_steps, Ok, chars, canonical_law, units_some, meaning, bytes_left, Item, IsCanonical, AreInRange, reading, ChangeData, DocumentItem, canonical_change_body, refusal_of, server_after, did_change, incoming_of, ServerData, content_change_from_data, session_encoding, step_in, step_on, Phase, Running, MayChange, change_parts, Accepts, accepted_parts, within_at, after_change, change_refusal, entry_at, meant_text, units_in, subst, ℕ, ℤ, ◌∷◌, [], IsUtf8, FitsSigned, w32, scalars-chars, LimitsData, ContentChange, AreTexts, written_content_change, edits_back, is_read_back, reading-body_of, IsWithin}
use Rattle.std.specs.Prelude.{encode_utf8_all}
use Rattle.std.proofs.lemmas.Str.{encodes-chars}
use Rattle.lsp_message.specs.laws.Sent.{IsProper}
use Rattle.lsp_store.specs.Limits.{AreWithin}
use Rattle.lsp_store.specs.Message.{change_message, whole_batch, whole_body, whole_text, change_body}
use Rattle.lsp_store.specs.Table.{changed}
use Rattle.lsp_store.specs.laws.Tables.{IsReplacedBy}
use Rattle.lsp_store.proofs.LawLemmas.{found_changed, whole_text_law}
use Rattle.lsp_store.proofs.WithinLemmas.{within_changed}
use Rattle.log_session.specs.Canonical.{whole_change_body}
use Rattle.log_session.proofs.Changes.CanonicalChangeLemmas.{IsCanonicalChange, canonical_at, canonical_change, is_canonical_change}
use Rattle.log_session.proofs.Records.AskedLemmas.{IsProperAsked}
use Rattle.log_session.proofs.Records.PutLemmas.{put, change_puts}
use Rattle.log_session.proofs.Records.StateLemmas.{IsHeldState}

-- What an accepted change means on its document, and what its canonical message is and does.
pub record IsSettled (server : ServerData) (p : ChangeData) : Type 0 where
  pub entry : DocumentItem
  pub found : entry_at server.table p.uri ≡ Some entry
  pub items : List Item
  pub means : meaning (units_in (session_encoding server)) (chars entry.text) (map content_change_from_data p.changes)
      ≡ Ok items
  pub message : IsCanonicalChange server p.uri p.version entry items
  pub body : canonical_change_body server p ≡ change_body p.uri p.version (canonical_at server entry items)
  pub leaves : server_after server p ≡ record server {
    table = put server.table p.uri p.version (bytes_left entry.text items);
  }

-- ---- the change that a canonical message asks for

-- What is written in place of a change is read as another change, which does the same, and for which the same is
-- written by `other`.
pub record IsRewrittenChange (body other : ServerData → ChangeData → List ℕ) (server : ServerData)
    (p : ChangeData) : Type 0 where
  pub again : ChangeData
  pub asks : incoming_of (reading (body server p)) ≡ did_change (Some again)
  pub same_step : step_on server (did_change (Some again)) ≡ step_on server (did_change (Some p))
  pub same_body : other server again ≡ other server p

-- So it is of each accepted change.
abbrev pub IsRewriting : (ServerData → ChangeData → List ℕ) → (ServerData → ChangeData → List ℕ) → Type 0
IsRewriting body other = (server : ServerData) (p : ChangeData) → AreInRange server.config.limits
    → IsHeldState server.config.limits server → IsProperAsked p → refusal_of server p ≡ None
    → length (body server p) ≤ server.config.limits.max_body → IsRewrittenChange body other server p

same_change : (server : ServerData) (p again : ChangeData) (phase : Phase)
    → change_refusal server.config.limits (units_in (session_encoding server)) server.table p.uri p.version
    (map content_change_from_data p.changes) ≡ None
    → change_refusal server.config.limits (units_in (session_encoding server)) server.table again.uri again.version
    (map content_change_from_data again.changes) ≡ None
    → after_change (units_in (session_encoding server)) server.table again.uri again.version
    (map content_change_from_data again.changes)
    ≡ after_change (units_in (session_encoding server)) server.table p.uri p.version
    (map content_change_from_data p.changes)
    → step_in phase server (did_change (Some again)) ≡ step_in phase server (did_change (Some p))
same_change server p again Running may also same = grind (arith, common_steps)
same_change server p again _ may also same = refl

whole_proper : (uri : List ℕ) (version : ℤ) (bytes : List ℕ) → IsUtf8 uri → FitsSigned w32 version → IsUtf8 bytes
    → IsProper (change_message uri version (record { range = None; text = chars bytes } ∷ []))
whole_proper uri version bytes u v b = grind (arith, common_steps, encode_utf8_all, encodes-chars)

module _ (server : ServerData) (p : ChangeData) (ranges : AreInRange server.config.limits)
    (received : IsHeldState server.config.limits server) (proper : IsProperAsked p)
    (may : refusal_of server p ≡ None) where
  pub settled : IsSettled server p
  settled =
      let limits = server.config.limits in
      let units = units_in (session_encoding server) in
      let batch = map content_change_from_data p.changes in
      let parts : MayChange limits units server.table p.uri p.version batch =
      change_parts limits units server.table p.uri p.version batch may in
      let entry : DocumentItem = parts.entry in
      let accepts : Accepts limits units entry p.version batch =
      accepted_parts limits units entry p.version batch parts.may in
      let law : IsCanonical units (chars entry.text) batch accepts.items =
      canonical_law units (units_some (session_encoding server)) (chars entry.text) batch accepts.items accepts.means in
      record {
        entry = entry;
        found = parts.is_open;
        items = accepts.items;
        means = accepts.means;
        message = is_canonical_change server p.uri p.version entry batch accepts.items ranges (record {
          found = parts.is_open;
          received = within_at limits server.table p.uri entry received.table parts.is_open;
          uri_utf8 = proper.uri;
          version_fits = proper.version;
          means = accepts.means;
          texts = proper.texts;
          newer = accepts.newer;
          short = accepts.short;
        }) (le-ltb limits.max_changes (length (canonical_at server entry accepts.items))
            (omega (arith, law.few, accepts.few)));
        body = rw (parts.is_open, accepts.means) refl;
        leaves =
            ap (λ (table : List DocumentItem). record server { table = table })
            (change_puts units server.table p.uri p.version batch entry parts.is_open
            ∙ ap (λ m. put server.table p.uri p.version (meant_text entry.text m)) accepts.means);
      }

  -- the change that the canonical message asks for leaves the same documents
  same_table : let again = canonical_change server p.uri p.version settled.entry settled.items in
      after_change (units_in (session_encoding server)) server.table again.uri again.version
      (map content_change_from_data again.changes)
      ≡ after_change (units_in (session_encoding server)) server.table p.uri p.version
      (map content_change_from_data p.changes)
  same_table = ap (λ (s : ServerData). s.table) (settled.message.leaves ∙ sym settled.leaves)

  -- and what is written by `other` is the same
  settled_as : (other : ServerData → ChangeData → List ℕ)
      → other server (canonical_change server p.uri p.version settled.entry settled.items) ≡ other server p
      → IsRewrittenChange canonical_change_body other server p
  settled_as other same =
      let again = canonical_change server p.uri p.version settled.entry settled.items in
      record {
        again = again;
        asks = ap (λ b. incoming_of (reading b)) settled.body ∙ settled.message.asks;
        same_step = same_change server p again server.phase may settled.message.may same_table;
        same_body = same;
      }

  canonical_again : IsRewrittenChange canonical_change_body canonical_change_body server p
  canonical_again = settled_as canonical_change_body (settled.message.own ∙ sym settled.body)

  -- its whole text is that of the change
  whole_after : IsRewrittenChange canonical_change_body whole_change_body server p
  whole_after = settled_as whole_change_body (ap (λ (table : List DocumentItem).
      change_body p.uri p.version (whole_text (entry_at table p.uri))) same_table)

  -- ---- the whole text

  abbrev limits : LimitsData
  limits = server.config.limits

  abbrev units : ℕ → ℕ
  units = units_in (session_encoding server)

  abbrev batch : List ContentChange
  batch = map content_change_from_data p.changes

  abbrev whole : List ContentChange
  whole = whole_batch units server.table p.uri p.version batch

  abbrev again_whole : ChangeData
  again_whole = record { uri = p.uri; version = p.version; changes = map written_content_change whole }

  open_parts : MayChange limits units server.table p.uri p.version batch
  open_parts = change_parts limits units server.table p.uri p.version batch may

  abbrev left : DocumentItem
  left = changed units open_parts.entry p.version batch

  left_within : IsWithin limits left
  left_within = within_changed limits units open_parts.entry p.version batch proper.texts
      (within_at limits server.table p.uri open_parts.entry received.table open_parts.is_open) open_parts.may

  whole_is : whole ≡ record { range = None; text = chars left.text } ∷ []
  whole_is = ap whole_text (found_changed units server.table p.uri p.version batch open_parts.entry open_parts.is_open)

  texts : AreTexts whole
  texts = subst AreTexts (sym whole_is) (scalars-chars left.text left_within.utf8, tt)

  same_limits : AreWithin limits limits
  same_limits = record {
    body = omega arith;
    text = omega arith;
    docs = omega arith;
    changes = omega arith;
    lenient = λ is. is;
  }

  done : IsReplacedBy limits units server.table p.uri p.version batch whole
  done = whole_text_law limits limits (session_encoding server) server.table p.uri p.version batch ranges same_limits
      received.table proper.texts may

  back : map content_change_from_data again_whole.changes ≡ whole
  back = edits_back whole texts

  one_proper : IsProper (change_message p.uri p.version (record { range = None; text = chars left.text } ∷ []))
  one_proper = whole_proper p.uri p.version left.text proper.uri proper.version left_within.utf8

  is_proper : IsProper (change_message p.uri p.version whole)
  is_proper = subst (λ (b : List ContentChange). IsProper (change_message p.uri p.version b)) (sym whole_is) one_proper

  asks_whole : incoming_of (reading (change_body p.uri p.version whole)) ≡ did_change (Some again_whole)
  unfolding change_body
  asks_whole = ap incoming_of (reading-body_of (change_message p.uri p.version whole) is_proper)
      ∙ ap did_change (is_read_back (change_message p.uri p.version whole) is_proper)

  whole_change : IsRewrittenChange whole_change_body whole_change_body server p
  whole_change = record {
    again = again_whole;
    asks = asks_whole;
    same_step =
        same_change server p again_whole server.phase may
        (ap (change_refusal limits units server.table p.uri p.version) back ∙ done.accepted)
        (ap (after_change units server.table p.uri p.version) back ∙ done.leaves);
    same_body =
        ap (λ (b : List ContentChange). whole_body units server.table p.uri p.version b) back
        ∙ ap (λ (table : List DocumentItem). change_body p.uri p.version (whole_text (entry_at table p.uri)))
        done.leaves;
  }

-- ---- so it is of each

pub settled_change : IsRewriting canonical_change_body canonical_change_body
settled_change server p ranges received proper may fits = canonical_again server p ranges received proper may

pub whole_of_canonical : IsRewriting canonical_change_body whole_change_body
whole_of_canonical server p ranges received proper may fits = whole_after server p ranges received proper may

pub whole_again : IsRewriting whole_change_body whole_change_body
whole_again server p ranges received proper may fits = whole_change server p ranges received proper may

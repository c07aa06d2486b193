-- Batches of changes on one document, as one: what the fields that are kept are.
use Rattle.lsp_store.proofs.Prelude.{ℕ, ℤ, ◌≡◌, ◌<◌, ◌≤◌, false, inr, lt-ltb, ltb-false, TooManyChanges, nat_lt, List, length, IsUtf8, encode_utf8_all, None, Ok, refl, sym, ap, ap₂, ◌∙◌, arith, le-ltb, encodes-chars, chars, LimitsData, units_in, Encoding, Item, text_within, bytes_left, ContentChange, meaning, canonical, bytes_after, meant_by, canonical_law, units_some, IsRefusal, body_refusal, change_body, Plan, StoreData, IsPlanOf, IsPlanOn, HasReached, IsSquashAfter, SquashData, add_refusal, reached_entry, squash_after, squash_refusal, squash_under, DocumentItem, IsLeftToMeaning, changed, entry_refusal, is_stale, common_steps}
use Rattle.lsp_edit.specs.Compose.{then_items}
use Rattle.lsp_edit.specs.Joined.{IsJoined, IsReached, JoinedData}
use Rattle.lsp_edit.proofs.Batches.ComposeLemmas.{then_means}
use Rattle.lsp_store.proofs.Messages.MessageLemmas.{canonical_accepted}
use Rattle.lsp_store.proofs.Tables.PlanLemmas.{on_utf8}
use Rattle.lsp_store.proofs.Tables.RefusalLemmas.{meaning_accepted}

-- what callers see of the fields
abbrev pub seen : List ℕ → LimitsData → Encoding → JoinedData → ℤ → SquashData
seen uri limits encoding joined version = record {
  uri = uri;
  limits = limits;
  encoding = encoding;
  text = joined.before;
  items = joined.items;
  version = version;
}

-- ---- the message

module _ (uri : List ℕ) (limits : LimitsData) (encoding : Encoding) (joined : JoinedData) (version : ℤ)
    (made : List ContentChange) (is : made ≡ canonical (units_in encoding) (chars joined.before) joined.items) where
  pub many_refused : limits.max_changes < length made
      → IsRefusal (squash_refusal (seen uri limits encoding joined version)) TooManyChanges
  many_refused many = inr (rw (← is, lt-ltb limits.max_changes (length made) many) refl)

  pub few_refusal : length made ≤ limits.max_changes → body_refusal limits (change_body uri version made)
      ≡ squash_refusal (seen uri limits encoding joined version)
  few_refusal few = rw (← is, le-ltb limits.max_changes (length made) few) refl

-- ---- the message of all batches is accepted on the document as it was, and leaves the one that was reached

pub squash_accepted : (limits : LimitsData) (encoding : Encoding) (entry : DocumentItem) (version : ℤ)
    (batch : List ContentChange) (items : List Item) → meaning (units_in encoding) (chars entry.text) batch ≡ Ok items
    → is_stale limits version entry.version ≡ false → length (bytes_left entry.text items) ≤ limits.max_text
    → limits.max_text ≤ 1073741824
    → nat_lt limits.max_changes (length (canonical (units_in encoding) (chars entry.text) items)) ≡ false
    → entry_refusal limits (units_in encoding) entry version (canonical (units_in encoding) (chars entry.text) items)
    ≡ None
squash_accepted limits encoding entry version batch items means newer short within few =
    canonical_accepted limits (units_in encoding) entry version batch items
    (canonical_law (units_in encoding) (units_some encoding) (chars entry.text) batch items means) newer
    (ltb-false limits.max_changes (length (canonical (units_in encoding) (chars entry.text) items)) few) short
    (omega (arith, short, within))

-- What a batch makes of a squash is one thing.
pub after_is : (old : SquashData) (version : ℤ) (batch : List ContentChange) (new : SquashData)
    → IsSquashAfter old version batch new → new ≡ squash_after old version batch
after_is old version batch new adds = grind (arith, common_steps)

-- ---- batches on a document that is kept elsewhere

module _ (kept : SquashData) (entry : DocumentItem) (version : ℤ) (more : List ContentChange) (utf8 : IsUtf8 entry.text)
    (at : HasReached kept entry) where
  same_text : entry.text ≡ bytes_left kept.text kept.items
  same_text = sym (encodes-chars entry.text utf8) ∙ ap encode_utf8_all at.text

  pub refusal_is : add_refusal kept version more ≡ entry_refusal kept.limits (units_in kept.encoding) entry version more
  refusal_is = rw (← same_text, ← at.version) refl

  pub left_to_meaning : IsLeftToMeaning kept.limits entry version more
      → IsLeftToMeaning kept.limits (reached_entry kept) version more
  left_to_meaning left = λ units. rw (← same_text, ← at.version) (left units)

-- A batch more, by what is kept of the batches before it.
pub joins_after : (uri : List ℕ) (limits : LimitsData) (encoding : Encoding) (joined next : JoinedData)
    (before version next_version : ℤ) (more : List ContentChange)
    → add_refusal (seen uri limits encoding joined before) version more ≡ None
    → IsJoined (units_in encoding) joined more next → next_version ≡ version
    → IsSquashAfter (seen uri limits encoding joined before) version more (seen uri limits encoding next next_version)
joins_after uri limits encoding joined next before version next_version more accepted is version_is = record {
  accepted = accepted;
  others = is.others;
  means = is.means;
  is = next_is;
  together = λ b p.
      then_means (units_in encoding) (chars joined.before) b more joined.items is.others p is.means
      ∙ ap Ok (sym (ap (λ (k : SquashData). k.items) next_is));
}
  where
    next_is : seen uri limits encoding next next_version ≡ record (seen uri limits encoding joined before) {
      items = then_items joined.items is.others;
      version = version;
    }
    next_is = grind (arith, common_steps, ap₂)

-- ---- a batch that was planned

-- What a squash has reached depends on neither limits nor encoding.
pub reached_under : (limits : LimitsData) (encoding : Encoding) {squash : SquashData} {entry : DocumentItem}
    → HasReached squash entry → HasReached (squash_under limits encoding squash) entry
reached_under limits encoding at = record { text = at.text; version = at.version }

module _ (uri : List ℕ) (encoding : Encoding) (joined next : JoinedData) (before next_version : ℤ)
    (store : StoreData) (plan : Plan) (given : next_version ≡ plan.version) (text : List ℕ)
    (same : (on : IsPlanOn store plan) → text ≡ on.entry.text)
    (at : (on : IsPlanOn store plan) → HasReached (seen uri store.limits encoding joined before) on.entry)
    (joins : (units : ℕ → ℕ) (batch : List ContentChange) → meaning units (chars text) batch ≡ meant_by text plan.delta
    → IsJoined units joined batch next)
    (reaches : (max_len : ℕ) (left : List ℕ) → text_within max_len text (meant_by text plan.delta) ≡ Ok left
    → IsReached next left)
    (document : List ℕ) (version : ℤ) (batch : List ContentChange)
    (q : IsPlanOf store document version encoding batch plan) where
  entry_accepts : entry_refusal store.limits (units_in encoding) q.on.entry version batch ≡ None
  entry_accepts = rw q.is_open at q.accepted

  added_accepted : add_refusal (seen uri store.limits encoding joined before) version batch ≡ None
  added_accepted = refusal_is (seen uri store.limits encoding joined before) q.on.entry version batch
      (on_utf8 q.on.entry.text plan.delta q.on.on) (at q.on) ∙ entry_accepts

  batch_means : meaning (units_in encoding) (chars text) batch ≡ meant_by text plan.delta
  batch_means = rw (same q.on) q.delta.means

  plan_within : text_within store.limits.max_text text (meant_by text plan.delta)
      ≡ Ok (bytes_after q.on.entry.text plan.delta)
  plan_within = rw (same q.on) (rw q.delta.means at q.delta.is)

  -- The batch is added, and leads to the document after the plan.
  pub plan_added : IsSquashAfter (seen uri store.limits encoding joined before) version batch
      (seen uri store.limits encoding next next_version)
      × HasReached (seen uri store.limits encoding next next_version)
      (changed (units_in encoding) q.on.entry version batch)
  plan_added = (
    joins_after uri store.limits encoding joined next before version next_version batch added_accepted
        (joins (units_in encoding) batch batch_means) (given ∙ q.version_is),
    record {
      text = ap chars (meaning_accepted store.limits q.on.entry.text _ _ q.delta.is).1
          ∙ (reaches store.limits.max_text (bytes_after q.on.entry.text plan.delta) plan_within).text_is;
      version = sym (given ∙ q.version_is);
    },
  )

-- The document that a plan is of is the one that was reached.
pub plan_at : (uri : List ℕ) (limits : LimitsData) (encoding : Encoding) (joined : JoinedData) (before : ℤ)
    (store : StoreData) (plan : Plan) (on : IsPlanOn store plan) (text : List ℕ) → text ≡ on.entry.text
    → HasReached (seen uri limits encoding joined before) on.entry → IsReached joined text
plan_at uri limits encoding joined before store plan on text same at = record {
  utf8 = rw same (on_utf8 on.entry.text plan.delta on.on);
  text_is = ap chars same ∙ at.text;
}

-- A run that is open: what its batches make together of the document before it is the document that is open now.
use Rattle.log_rewrite.proofs.Prelude.{Bool, IsUtf8, List, None, Some, [], ap, arith, bytes_eq, encode_utf8_all, false, int_le, length, map, nat_lt, not, refl, subst, sym, true, ℕ, ℤ, ◌&&◌, ◌++◌, ◌∙◌, ◌∷◌, ◌≡◌, ◌≤◌, leb-false, lt-leb, common_steps, bytes_eq-Decides, chars-encodes, scalars-chars, Ok, chars, plain_text, ContentChange, meaning, canonical, then_items, bytes_left, AreInRange, ChangeData, DocumentItem, refusal_of, server_after, joined_by, ServerData, content_change_from_data, session_encoding, Accepts, accepted_parts, scalar-meaning, scalar-text, AreTexts, SquashData, squash_batch, squash_of, entry_at, meant_text, IsWithin, units_in}
use Rattle.std.proofs.Math.IntN.{pos, negsuc}
use Rattle.lsp_edit.specs.Items.{Item, plain, text_of}
use Rattle.lsp_edit.proofs.Batches.ComposeLemmas.{text_of-then, then_means}
use Rattle.log_session.proofs.Records.AskedLemmas.{IsProperAsked}
use Rattle.log_rewrite.proofs.Squash.JoiningLemmas.{uri_at}
use Rattle.log_session.proofs.Records.PutLemmas.{put, change_puts, put_at, put_twice}
use Rattle.log_session.proofs.Changes.CanonicalChangeLemmas.{IsCanonicalChange, IsProperAt, canonical_change, is_canonical_change, joins_as}

-- the squash with other items and another version
abbrev pub with_items : SquashData → List Item → ℤ → SquashData
with_items squash items version = record squash { items = items; version = version }

-- Batches on a document of a server led to the server as it is now.
pub record IsOpenFrom (t : ServerData) (squash : SquashData) (now : ServerData) : Type 0 where
  pub entry : DocumentItem
  pub is : squash ≡ with_items (squash_of t.config.limits (session_encoding t) entry) squash.items squash.version
  pub batch : List ContentChange
  pub at : IsProperAt t squash.uri squash.version entry batch squash.items
  pub now_is : now ≡ record t { table = put t.table squash.uri squash.version (bytes_left entry.text squash.items) }

-- ---- items

plain_then : (units : ℕ → ℕ) (old : List ℕ) (batch : List ContentChange) (items : List Item)
    → meaning units old batch ≡ Ok items → then_items (plain old) items ≡ items
plain_then units old batch items means =
    let on : meaning units (text_of old (plain old)) batch ≡ Ok items = ap (λ t. meaning units t batch) (plain_text old)
    ∙ means in
    let both : Ok (then_items (plain old) items) ≡ Ok items =
    sym (then_means units old [] batch (plain old) items refl on) ∙ means in
    cc

texts_more : (batch more : List ContentChange) → AreTexts batch → AreTexts more → AreTexts (batch ++ more)
texts_more [] more texts also = also
texts_more (change ∷ batch) more texts also = (texts.0, texts_more batch more texts.1 also)

-- the characters of a text that a batch leaves
left_chars : (units : ℕ → ℕ) (text : List ℕ) (batch : List ContentChange) (items : List Item) → IsUtf8 text
    → AreTexts batch → meaning units (chars text) batch ≡ Ok items
    → chars (bytes_left text items) ≡ text_of (chars text) items
left_chars units text batch items utf8 texts means =
    chars-encodes (text_of (chars text) items) (scalar-text (chars text) items (scalars-chars text utf8)
    (scalar-meaning units (chars text) batch items texts means))

-- ---- a change begins a run

module _ (t : ServerData) (p : ChangeData) (entry : DocumentItem) (found : entry_at t.table p.uri ≡ Some entry)
    (received : IsWithin t.config.limits entry) (proper : IsProperAsked p) (may : refusal_of t p ≡ None) where
  begun_accepts : Accepts t.config.limits (units_in (session_encoding t)) entry p.version
      (map content_change_from_data p.changes)
  begun_accepts = accepted_parts t.config.limits (units_in (session_encoding t)) entry p.version
      (map content_change_from_data p.changes) (rw found at may)

  abbrev begun_squash : SquashData
  begun_squash = joined_by p (squash_of t.config.limits (session_encoding t) entry)

  begun_items : begun_squash.items ≡ begun_accepts.items
  begun_items =
      ap (λ (k : SquashData). k.items) (joins_as p (squash_of t.config.limits (session_encoding t) entry)
      (session_encoding t) (chars entry.text) begun_accepts.items refl (plain_text (chars entry.text))
      begun_accepts.means)
      ∙ plain_then (units_in (session_encoding t)) (chars entry.text) (map content_change_from_data p.changes)
      begun_accepts.items begun_accepts.means

  same_uri : entry.uri ≡ p.uri
  same_uri = uri_at t.table p.uri entry found

  pub begins_from : IsOpenFrom t begun_squash (server_after t p)
  begins_from = record {
    entry = entry;
    is = refl;
    batch = map content_change_from_data p.changes;
    at = record {
      found = ap (entry_at t.table) same_uri ∙ found;
      received = received;
      uri_utf8 = subst IsUtf8 (sym same_uri) proper.uri;
      version_fits = proper.version;
      means = begun_accepts.means ∙ ap Ok (sym begun_items);
      texts = proper.texts;
      newer = begun_accepts.newer;
      short = subst (λ (items : List Item). length (bytes_left entry.text items) ≤ t.config.limits.max_text)
          (sym begun_items) begun_accepts.short;
    };
    now_is =
        ap (λ (table : List DocumentItem). record t { table = table })
        (change_puts (units_in (session_encoding t)) t.table p.uri p.version
        (map content_change_from_data p.changes) entry found
        ∙ ap (λ m. put t.table p.uri p.version (meant_text entry.text m)) begun_accepts.means
        ∙ ap (λ items. put t.table p.uri p.version (bytes_left entry.text items)) (sym begun_items)
        ∙ ap (λ u. put t.table u p.version (bytes_left entry.text begun_squash.items)) (sym same_uri));
  }

-- ---- a change goes on with it

-- what is newer than a newer version is newer
newer_yet : (a b c : ℤ) → int_le a b ≡ false → int_le b c ≡ false → int_le a c ≡ false
newer_yet (pos a) (pos b) (pos c) over more = lt-leb a c (omega (arith, leb-false a b over, leb-false b c more))
newer_yet (pos a) b (negsuc c) over more = refl
newer_yet (negsuc a) (pos b) c over more = absurd (let wrong : true ≡ false = over in cc)
newer_yet (negsuc a) (negsuc b) (negsuc c) over more =
    lt-leb c a (omega (arith, leb-false b a over, leb-false c b more))
newer_yet _ (negsuc b) (pos c) over more = absurd (let wrong : true ≡ false = more in cc)

newer_still : (lenient : Bool) (a b c : ℤ) → (not lenient && int_le a b) ≡ false → (not lenient && int_le b c) ≡ false
    → (not lenient && int_le a c) ≡ false
newer_still true a b c over more = refl
newer_still false a b c over more = newer_yet a b c over more

module _ (t : ServerData) (squash : SquashData) (now : ServerData) (from : IsOpenFrom t squash now) (p : ChangeData)
    (same : bytes_eq p.uri squash.uri ≡ true) (proper : IsProperAsked p) (may : refusal_of now p ≡ None) where
  abbrev reached_text : List ℕ
  reached_text = bytes_left from.entry.text squash.items

  abbrev reached_now : DocumentItem
  reached_now = record from.entry { version = squash.version; text = reached_text }

  abbrev next : ServerData
  next = record t { table = put t.table squash.uri squash.version reached_text }

  uri_is : p.uri ≡ squash.uri
  uri_is = (bytes_eq-Decides p.uri squash.uri).0 same

  found_now : entry_at next.table p.uri ≡ Some reached_now
  found_now = ap (entry_at next.table) uri_is ∙ put_at t.table squash.uri squash.version reached_text from.entry
      from.at.found

  may_now : refusal_of next p ≡ None
  may_now = subst (λ (s : ServerData). refusal_of s p ≡ None) from.now_is may

  accepts_now : Accepts t.config.limits (units_in (session_encoding t)) reached_now p.version
      (map content_change_from_data p.changes)
  accepts_now = accepted_parts t.config.limits (units_in (session_encoding t)) reached_now p.version
      (map content_change_from_data p.changes) (rw found_now at may_now)

  chars_now : chars reached_text ≡ text_of (chars from.entry.text) squash.items
  chars_now = left_chars (units_in (session_encoding t)) from.entry.text from.batch squash.items
      from.at.received.utf8 from.at.texts from.at.means

  means_now : meaning (units_in (session_encoding t)) (text_of (chars from.entry.text) squash.items)
      (map content_change_from_data p.changes) ≡ Ok accepts_now.items
  means_now = grind (arith, common_steps, chars_now)

  abbrev longer_squash : SquashData
  longer_squash = joined_by p squash

  longer_items : longer_squash.items ≡ then_items squash.items accepts_now.items
  longer_items =
      ap (λ (k : SquashData). k.items) (joins_as p squash (session_encoding t)
      (text_of (chars from.entry.text) squash.items) accepts_now.items (ap (λ (k : SquashData). k.encoding) from.is)
      (ap (λ (k : SquashData). text_of (chars k.text) squash.items) from.is) means_now)

  left_now : bytes_left reached_text accepts_now.items ≡ bytes_left from.entry.text longer_squash.items
  left_now =
      ap encode_utf8_all
      (ap (λ x. text_of x accepts_now.items) chars_now
      ∙ sym (text_of-then (chars from.entry.text) squash.items accepts_now.items) ∙ ap (text_of (chars from.entry.text))
      (sym longer_items))

  pub goes_on_from : IsOpenFrom t longer_squash (server_after now p)
  goes_on_from = record {
    entry = from.entry;
    is = ap (λ (k : SquashData). with_items k longer_squash.items longer_squash.version) from.is;
    batch = from.batch ++ map content_change_from_data p.changes;
    at = record {
      found = from.at.found;
      received = from.at.received;
      uri_utf8 = from.at.uri_utf8;
      version_fits = proper.version;
      means = grind (arith, common_steps, then_means, means_now, longer_items, from.at.means);
      texts = texts_more from.batch (map content_change_from_data p.changes) from.at.texts proper.texts;
      newer = newer_still t.config.limits.lenient p.version squash.version from.entry.version accepts_now.newer
          from.at.newer;
      short = subst (λ (text : List ℕ). length text ≤ t.config.limits.max_text) left_now accepts_now.short;
    };
    now_is =
        ap (λ (s : ServerData). server_after s p) from.now_is
        ∙ ap (λ (table : List DocumentItem). record t { table = table })
        (change_puts (units_in (session_encoding t)) next.table p.uri p.version (map content_change_from_data p.changes)
        reached_now found_now
        ∙ ap (λ m. put next.table p.uri p.version (meant_text reached_text m)) accepts_now.means
        ∙ ap (λ u. put next.table u p.version (bytes_left reached_text accepts_now.items)) uri_is
        ∙ put_twice t.table squash.uri squash.version p.version reached_text (bytes_left reached_text accepts_now.items)
        ∙ ap (put t.table squash.uri p.version) left_now);
  }

-- ---- the document that is open now

module _ (t : ServerData) (squash : SquashData) (now : ServerData) (from : IsOpenFrom t squash now) where
  pub same_encoding : squash.encoding ≡ session_encoding now
  same_encoding = ap (λ (k : SquashData). k.encoding) from.is ∙ sym (ap session_encoding from.now_is)

  pub same_text : (uri : List ℕ) (entry : DocumentItem) → uri ≡ squash.uri → entry_at now.table uri ≡ Some entry
      → text_of (chars squash.text) squash.items ≡ chars entry.text
  same_text uri entry same found =
      grind (
        arith,
        common_steps,
        put_at,
        left_chars,
        from.at.found,
        from.at.received.utf8,
        from.at.texts,
        from.at.means,
      )

-- ---- all batches of a run as one message

module _ (t : ServerData) (squash : SquashData) (now : ServerData) (from : IsOpenFrom t squash now)
    (ranges : AreInRange t.config.limits) (few : nat_lt t.config.limits.max_changes (length (squash_batch squash))
    ≡ false) where
  pub one_batch : squash_batch squash ≡ canonical (units_in (session_encoding t)) (chars from.entry.text) squash.items
  one_batch = ap squash_batch from.is

  pub one_message : IsCanonicalChange t squash.uri squash.version from.entry squash.items
  one_message =
      is_canonical_change t squash.uri squash.version from.entry from.batch squash.items ranges from.at
      (subst (λ (b : List ContentChange). nat_lt t.config.limits.max_changes (length b) ≡ false) one_batch few)

  -- Read again, it begins a run that means the same.
  pub one_joins : joined_by (canonical_change t squash.uri squash.version from.entry squash.items)
      (squash_of t.config.limits (session_encoding t) from.entry) ≡ squash
  one_joins =
      one_message.joins (squash_of t.config.limits (session_encoding t) from.entry) refl
      (plain_text (chars from.entry.text))
      ∙ ap (λ items. with_items (squash_of t.config.limits (session_encoding t) from.entry) items squash.version)
      (plain_then (units_in (session_encoding t)) (chars from.entry.text) from.batch squash.items from.at.means)
      ∙ sym from.is

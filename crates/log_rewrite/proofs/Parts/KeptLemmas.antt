-- The last text of a document, over one more record.
use Rattle.log_rewrite.proofs.Prelude.{Bool, List, None, Option, Some, [], ap, arith, bytes_eq, false, inl, inr, map, refl, sym, true, ℕ, ℤ, ◌++◌, ◌∙◌, ◌∷◌, ◌≡◌, ◌⊎◌, cases_Bool, common_steps, bytes_eq-Decides, option_map, ContentChange, Version, reading, CloseData, DocumentItem, last_text, last_text_in, Session, counted, encoding_for, judge_client, judge_server, judged, BodyData, from_client, from_server, judge_read, closed_by, kept_after, text_at, text_closed, IncomingData, did_change, did_close, did_open, initialize, not_json, ServerData, content_change_from_data, result_step, session_encoding, step_in, Phase, Down, New, Running, units_in}
use Rattle.lsp_store.specs.Table.{Refusal, entry_at, after_open, after_change, after_close, close_refusal, change_refusal, open_refusal, unless_refused}
use Rattle.log_session.proofs.Records.JudgeLemmas.{of_incoming}
use Rattle.log_session.proofs.Records.StateLemmas.{heard_table}

-- ---- a document that isn't open afterwards was not open before

abbrev Stays : List DocumentItem → List DocumentItem → List ℕ → Type 0
Stays table next uri = entry_at next uri ≡ None → entry_at table uri ≡ None

stays_last : (table : List DocumentItem) (entry : DocumentItem) (uri : List ℕ) → Stays table (table ++ entry ∷ []) uri
stays_last [] entry uri e = refl
stays_last (x ∷ table) entry uri e =
    grind (arith, common_steps, cases_Bool, (stays_last table entry uri))

last_found : (table : List DocumentItem) (entry : DocumentItem) (uri : List ℕ) → bytes_eq uri entry.uri ≡ true
    → entry_at (table ++ entry ∷ []) uri ≡ None → ⊥
last_found [] entry uri is e = let wrong : Some entry ≡ None = rw is at e in cc
last_found (x ∷ table) entry uri is e = grind (arith, common_steps, cases_Bool, (last_found table entry uri is))

stays_changed : (units : ℕ → ℕ) (table : List DocumentItem) (other : List ℕ) (version : ℤ) (batch : List ContentChange)
    (uri : List ℕ) → Stays table (after_change units table other version batch) uri
stays_changed units [] other version batch uri e = refl
stays_changed units (x ∷ table) other version batch uri e =
    grind (arith, common_steps, bytes_eq, cases_Bool, (stays_changed units table other version batch uri))

stays_closed : (table : List DocumentItem) (other uri : List ℕ) → bytes_eq other uri ≡ false
    → Stays table (after_close table other) uri
stays_closed [] other uri differ e = refl
stays_closed (x ∷ table) other uri differ e =
    grind (arith, common_steps, cases_Bool, bytes_eq-Decides, (stays_closed table other uri differ))

stays_open : (table : List DocumentItem) (entry : DocumentItem) (uri : List ℕ) → Stays table (after_open table entry)
    uri
stays_open table entry uri e =
    grind (arith, common_steps, cases_Bool, bytes_eq-Decides, last_found, stays_closed, stays_last)

obeyed_stays : (s : ServerData) (refusal : Option Refusal) (next : List DocumentItem) (uri : List ℕ)
    → Stays s.table next uri → Stays s.table (result_step s (unless_refused refusal next)).state.table uri
obeyed_stays s None next uri stays e = stays e
obeyed_stays s (Some refusal) next uri stays e = e

-- ---- a message closes the document, or the document stays

abbrev Keeps : List DocumentItem → List ℕ → IncomingData → List DocumentItem → Type 0
Keeps table uri m next = (text_closed table uri m ≡ text_at table uri)
    ⊎ ((text_closed table uri m ≡ None) × Stays table next uri)

close_same : (table : List DocumentItem) (uri : List ℕ) (p : CloseData) (b : Bool) → bytes_eq p.uri uri ≡ b
    → Keeps table uri (did_close (Some p)) table
close_same table uri p true is = inl (rw is refl)
close_same table uri p false is = inr (rw is refl, λ e. e)

same_table : (table : List DocumentItem) (uri : List ℕ) (m : IncomingData) → Keeps table uri m table
same_table table uri (did_close (Some p)) = close_same table uri p (bytes_eq p.uri uri) refl
same_table table uri _ = inr (refl, λ e. e)

close_kept : (s : ServerData) (uri : List ℕ) (p : CloseData) (b : Bool) → bytes_eq p.uri uri ≡ b
    → Keeps s.table uri (did_close (Some p)) (step_in Running s (did_close (Some p))).state.table
close_kept s uri p true is = inl (rw is refl)
close_kept s uri p false is = inr (
  rw is refl,
  obeyed_stays s (close_refusal s.table p.uri) _ uri (stays_closed s.table p.uri uri is),
)

step_kept : (phase : Phase) (s : ServerData) (uri : List ℕ) (m : IncomingData)
    → Keeps s.table uri m (step_in phase s m).state.table
step_kept New s uri (initialize id None) = same_table s.table uri (initialize id None)
step_kept Running s uri (did_open (Some p)) =
    inr (refl, obeyed_stays s (open_refusal s.config.limits s.table p) _ uri (stays_open s.table p uri))
step_kept Running s uri (did_change (Some p)) =
    inr (
      refl,
      obeyed_stays s (change_refusal s.config.limits (units_in (session_encoding s)) s.table p.uri p.version
          (map content_change_from_data p.changes)) _ uri
          (stays_changed (units_in (session_encoding s)) s.table p.uri p.version
          (map content_change_from_data p.changes) uri),
    )
step_kept Running s uri (did_close (Some p)) = close_kept s uri p (bytes_eq p.uri uri) refl
step_kept Down s uri not_json = same_table s.table uri not_json
step_kept _ s uri m = same_table s.table uri m

client_kept : (s : Session) (version : Version) (uri : List ℕ) (m : IncomingData)
    → Keeps s.server.table uri m (judge_client s version m).session.server.table
client_kept s version uri m =
    of_incoming (λ j. Keeps s.server.table uri m j.session.server.table) s version m (same_table s.server.table uri m)
    (step_kept s.server.phase s.server uri m)

-- ---- the last text over a record

kept_text : (found : Option DocumentItem) (old : Option (List ℕ))
    → kept_after (option_map (λ (entry : DocumentItem). entry.text) found) old ≡ last_text old found
kept_text None old = refl
kept_text (Some entry) old = refl

text_over : (uri : List ℕ) (table next : List DocumentItem) (closed old new : Option (List ℕ))
    → new ≡ kept_after closed old → (closed ≡ text_at table uri) ⊎ ((closed ≡ None) × Stays table next uri)
    → last_text new (entry_at next uri) ≡ last_text (last_text old (entry_at table uri)) (entry_at next uri)
text_over uri table next closed old new is way = grind (arith, common_steps)

over_read : (s : Session) (read : BodyData) (uri : Option (List ℕ)) (old new : Option (List ℕ))
    → new ≡ kept_after (closed_by s.server.table uri read) old
    → last_text_in uri new (judge_read s read).session.server.table
    ≡ last_text_in uri (last_text_in uri old s.server.table) (judge_read s read).session.server.table
over_read s read None old new is = refl
over_read s (from_client version m) (Some uri) old new is =
    text_over uri s.server.table (judge_client s version m).session.server.table (text_closed s.server.table uri m)
    old new is (client_kept s version uri m)
over_read s (from_server body) (Some uri) old new is =
    let announced = encoding_for s.expected (reading body) in
    text_over uri s.server.table (judge_server s announced).session.server.table None old new is
    (inr (refl, λ e. ap (λ (t : List DocumentItem). entry_at t uri) (sym (heard_table s announced)) ∙ e))

-- the same of a session that is the same after it read the record, and of what it kept
pub kept_over : (s t u : Session) (read : BodyData) (uri : Option (List ℕ)) (closed old new : Option (List ℕ)) → t ≡ s
    → closed ≡ closed_by t.server.table uri read → u ≡ (counted (judge_read t read)).session
    → new ≡ kept_after closed old
    → last_text_in uri new u.server.table ≡ last_text_in uri (last_text_in uri old s.server.table) u.server.table
kept_over s t u read uri closed old new same is judged kept =
    rw judged
    (over_read t read uri old new (kept ∙ ap (λ (c : Option (List ℕ)). kept_after c old) is)
    ∙ ap (λ (v : Session). last_text_in uri (last_text_in uri old v.server.table)
    (judge_read t read).session.server.table) same)

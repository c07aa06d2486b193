-- What `replay` of a part gives for a record, and over all records.
use Rattle.log_rewrite.proofs.Prelude.{Bool, List, Option, [], ap, arith, false, refl, sym, true, ℕ, ◌∙◌, ◌∷◌, ◌≡◌, ◌≢◌, cases_Bool, common_steps, Ok, Record, DocumentItem, RecordOutput, followed_by, output_in, opened_if, opened_in, Found, PartData, found_after, found_if, is_last, last_text_in, part_bytes, part_outcome, part_step, refreshed, replaying_part, text_found, RunOutput, stopped, written_first, Judged, Session, Verdict, bad, counted, judge, session_outcome, Outcome, BodyData, body_read, closed_by, kept_after, None, on_client, uri_opened, Client}
use Rattle.log_session.proofs.Records.BodyLemmas.{judged_at}
use Rattle.log_session.proofs.Records.OutputLemmas.{output_after, unless_not}
use Rattle.log_rewrite.proofs.Parts.KeptLemmas.{kept_over}
use Rattle.log_session.proofs.Records.OpeningLemmas.{opened_at}

-- ---- a record's output

module _ (part : PartData) (old : Found) (s : Session) (r : Record) (t : Session) (verdict : Verdict)
    (new : Found) (is_judged : verdict ≡ (judge s r).verdict) (not_bad : verdict ≢ bad)
    (session : t ≡ (judge s r).session) (next_is : new ≡ found_after part old r (judge s r)) where
  abbrev step_with : RecordOutput → Found → Session → List Record → RunOutput
  step_with given found u more = followed_by given.out given.end (output_in (replaying_part part) found u more)

  goes : (more : List Record) → output_in (replaying_part part) old s (r ∷ more)
      ≡ step_with (part_step part new t) new t more
  goes =
      output_after (replaying_part part) old s r (part_step part new t)
      (unless_not r (judge s r).verdict (part_step part (found_after part old r (judge s r)) (judge s r).session)
      (λ e. not_bad (is_judged ∙ e))
      ∙ ap (λ (u : Session). part_step part (found_after part old r (judge s r)) u) (sym session)
      ∙ ap (λ (f : Found). part_step part f t) (sym next_is))
      new next_is t session

  pub part_continues : (bytes : List ℕ) → bytes ≡ [] → is_last part.at t.records ≡ false → (more : List Record)
      → output_in (replaying_part part) old s (r ∷ more)
      ≡ written_first bytes (output_in (replaying_part part) new t more)
  part_continues bytes empty other more = goes more ∙ rw (other, empty) refl

  pub part_ends : (bytes : List ℕ) (outcome : Outcome) → is_last part.at t.records ≡ true
      → bytes ≡ part_bytes part.uri (text_found new) t.server.table
      → outcome ≡ part_outcome part.uri (text_found new) (session_outcome t)
      → (more : List Record) → output_in (replaying_part part) old s (r ∷ more) ≡ stopped bytes (Ok outcome)
  part_ends bytes outcome here bytes_are outcome_is more = goes more ∙ rw (here, bytes_are, outcome_is) refl

-- ---- the document that is found, by the text that was kept

abbrev with_text : Option (List ℕ) → Bool → Option (List ℕ) → Found
with_text uri several text = record { uri = uri; several = several; text = text }

module _ (table : List DocumentItem) (several : Bool) (a b : Option (List ℕ)) where
  pub found_alike : (asked opened found : Option (List ℕ)) → last_text_in found a table ≡ last_text_in found b table
      → refreshed table (found_if asked opened (with_text found several a))
      ≡ refreshed table (found_if asked opened (with_text found several b))
  found_alike asked opened found same = grind (arith, common_steps, cases_Bool)

-- ---- the document that is found after a record

module _ (part : PartData) (s t : Session) (r : Record) (verdict : Verdict) (is_judged : verdict ≡ (judge s r).verdict)
    (session : t ≡ (judge s r).session) (read : BodyData)
    (is_read : read ≡ body_read r.head.version r.head.side r.body) where
  pub found_next : (old kept new : Found) (closed uri opened : Option (List ℕ))
      → closed ≡ closed_by s.server.table old.uri read → uri ≡ on_client None (uri_opened Client) read
      → opened ≡ opened_if verdict uri
      → kept ≡ record old { text = kept_after closed old.text } → new ≡ found_if part.uri opened kept
      → refreshed t.server.table new ≡ found_after part (refreshed s.server.table old) r (judge s r)
  found_next old kept new closed uri opened closed_is uri_is opened_is kept_is new_is =
      let before = last_text_in old.uri old.text s.server.table in
      let same = kept_over s s t read old.uri closed old.text (kept_after closed old.text) refl closed_is
      (session ∙ ap (λ (j : Judged). (counted j).session) (sym (judged_at s r.head r.body s read refl is_read))) refl in
      let opens = opened_at s r verdict is_judged uri opened (uri_is
      ∙ ap (on_client None (uri_opened Client)) is_read) opened_is in
      ap (refreshed t.server.table) (new_is ∙ ap (found_if part.uri opened) kept_is)
      ∙ found_alike t.server.table old.several (kept_after closed old.text) before part.uri opened old.uri same
      ∙ ap (λ (o : Option (List ℕ)). refreshed t.server.table (found_if part.uri o (refreshed s.server.table old)))
      opens
      ∙ ap (λ (u : Session). refreshed u.server.table (found_if part.uri (opened_in r (judge s r))
      (refreshed s.server.table old))) session

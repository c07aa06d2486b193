-- A line of `trace`, as it is written.
use Rattle.log_report.proofs.Prelude.{Bool, List, Option, [], ap, arith, le-ltb, lt-ltb, refl, subst, sym, ℕ, ◌++◌, ◌∙◌, ◌≡◌, common_steps, Record, Sender, Client, Server, Version, reading, canonical_of_record, Known, Session, encoding_for, judge, judge_from, first_members, is_json, trace_line, within, Details, Facts, Appended, Canonical, AreFacts, canonical_json, IsAppended, IncomingData, incoming_of, one_more, ap₂, FactsData, facts_of, document_after, facts_members, facts_view, body_read, received_of}
use Rattle.log_session.proofs.Records.JudgeLemmas.{of_incoming, of_server}
use Rattle.log_report.proofs.Reports.ReasonLemmas.{by_received}

-- ---- one record more was judged

of_body : (s : Session) (version : Version) (side : Sender) (body : List ℕ)
    → (judge_from s version side body).session.records ≡ s.records
of_body s version Client body =
    of_incoming (λ j. j.session.records ≡ s.records) s version (incoming_of (reading body)) refl refl
of_body s version Server body =
    of_server (λ j. j.session.records ≡ s.records) s refl refl (λ encoding. refl)
    (encoding_for s.expected (reading body))

pub one_more_record : (s : Session) (r : Record) → (judge s r).session.records ≡ one_more s.records
one_more_record s r = ap one_more (of_body s r.head.version r.head.side r.body)

-- ---- a line

pub canonical_is : (max_body : ℕ) (body : Option (List ℕ)) (a : Option Appended) (new : List ℕ)
    → IsAppended max_body body a [] new → canonical_json a new ≡ within max_body body
canonical_is max_body body a new is = grind (arith, common_steps, le-ltb, lt-ltb)

-- A line by its two halves, as they are written one after the other.
module _ (details : Details) (known : Known) (s : Session) (r : Record) (t : Session)
    (session : t ≡ (judge s r).session) (facts : Facts) (are : AreFacts known s r facts)
    (canonical : Canonical) (before : List ℕ) (cleared : before ≡ [])
    (appended : IsAppended s.server.config.limits.max_body (canonical_of_record s r.body (judge s r).verdict)
    canonical.appended before canonical.bytes.items) where
  abbrev m : IncomingData
  m = incoming_of (reading r.body)

  abbrev max_body : ℕ
  max_body = s.server.config.limits.max_body

  shown : canonical_json canonical.appended canonical.bytes.items
      ≡ within max_body (canonical_of_record s r.body (judge s r).verdict)
  shown = canonical_is max_body (canonical_of_record s r.body (judge s r).verdict) canonical.appended
      canonical.bytes.items
      (subst (λ (b : List ℕ). IsAppended max_body (canonical_of_record s r.body (judge s r).verdict)
      canonical.appended b canonical.bytes.items) cleared appended)

  abbrev its : FactsData
  its = facts_of known s r (judge s r) m

  -- by some facts, the session after the record, whether its body is JSON, and its canonical message
  abbrev members : FactsData → Session → Bool → Option (List ℕ) → List ℕ
  members f u json canonical = facts_members details u.server.config.limits f (document_after u.server.table f.uri)
      canonical json r.body

  abbrev first_of : List ℕ
  first_of = first_members (judge s r).session.records r.head m

  pub line_is : (json : Bool) → json ≡ is_json m → (old first bytes : List ℕ) → old ≡ []
      → first ≡ old ++ first_members (one_more s.records) r.head m
      → bytes ≡ first ++ members (facts_view facts) t json (canonical_json canonical.appended canonical.bytes.items)
      → bytes ≡ trace_line details known s r (judge s r) m
  line_is json json_is old first bytes empty first_is bytes_is =
      let written = canonical_json canonical.appended canonical.bytes.items in
      bytes_is
      ∙ ap (λ (bs : List ℕ). bs ++ members (facts_view facts) t json written)
      (first_is ∙ ap (λ (bs : List ℕ). bs ++ first_members (one_more s.records) r.head m) empty
      ∙ ap (λ (n : ℕ). first_members n r.head m) (sym (one_more_record s r)))
      ∙ ap (λ (u : Session). first_of ++ members (facts_view facts) u json written) session
      ∙ ap (λ (f : FactsData). first_of ++ members f (judge s r).session json written) are.are
      ∙ ap₂ (λ (b : Bool) (c : Option (List ℕ)). first_of ++ members (record its {
        change = received_of s (body_read r.head.version r.head.side r.body);
      }) (judge s r).session b c) json_is shown
      ∙ by_received (λ change verdict. first_of ++ members (record its { change = change; verdict = verdict })
      (judge s r).session (is_json m) (within max_body (canonical_of_record s r.body (judge s r).verdict))) (λ c. refl)
      (λ c. refl) (λ c. refl) s r.head r.body

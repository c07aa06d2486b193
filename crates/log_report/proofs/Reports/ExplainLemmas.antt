-- A line of `check --explain`, as it is written.
use Rattle.log_report.proofs.Prelude.{◌≡◌, ℕ, List, [], ◌++◌, Option, option_map, string_bytes, if◌then◌else◌, refl, ap, ap₂, ◌∙◌, LimitsData, reading, incoming_of, Record, Listing, Facts, Note, explained_line, listed_line, named_in, noted_uri, FactsData, Known, facts_of, habits_at, noted_in, notes_of, rare_notes, Session, judge, AreFacts, facts_view, body_read, received_of, notification_params}
use Rattle.log_report.proofs.Reports.ReasonLemmas.{by_received}

module _ (listing : Listing) (known : Known) (s : Session) (r : Record) where
  abbrev its : FactsData
  its = facts_of known s r (judge s r) (incoming_of (reading r.body))

  abbrev limits_after : LimitsData
  limits_after = (judge s r).session.server.config.limits

  -- by some facts, the document that params name, and the notes that aren't hidden
  abbrev line_by : LimitsData → FactsData → Option (List ℕ) → List Note → List ℕ
  line_by limits f named rare =
      listed_line listing limits f (noted_uri f.uri named) (if listing.all then f.notes else rare)

  pub line_is : (limits : LimitsData) → limits ≡ limits_after → (facts : Facts) → AreFacts known s r facts
      → (old bytes : List ℕ) → old ≡ []
      → bytes ≡ old ++ line_by limits (facts_view facts) (option_map string_bytes facts.named) facts.rare.items
      → bytes ≡ explained_line listing known s r (judge s r) (incoming_of (reading r.body))
  line_is limits limits_are facts are old bytes empty bytes_is =
      let named = option_map string_bytes facts.named in
      bytes_is ∙ ap (λ (bs : List ℕ). bs ++ line_by limits (facts_view facts) named facts.rare.items) empty
      ∙ ap (λ (l : LimitsData). line_by l (facts_view facts) named facts.rare.items) limits_are
      ∙ ap (λ (f : FactsData). line_by limits_after f named facts.rare.items) are.are
      ∙ ap₂ (λ (named : Option (List ℕ)) (rare : List Note). line_by limits_after (record its {
        change = received_of s (body_read r.head.version r.head.side r.body);
      }) named rare) are.named are.rare
      ∙ by_received (λ change verdict. line_by limits_after (record its { change = change; verdict = verdict })
      (named_in r.head.side (incoming_of (reading r.body)) (notification_params (reading r.body)))
      (rare_notes (habits_at (noted_in r.head.side (incoming_of (reading r.body))
      (notification_params (reading r.body))) known.documents)
      (notes_of s known.documents known.ranged r.body (judge s r).verdict))) (λ c. refl) (λ c. refl) (λ c. refl)
      s r.head r.body

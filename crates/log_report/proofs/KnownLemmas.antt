-- The facts of a record, what is known after it, and the output of `trace` and `check --explain` from the record on.
use Rattle.log_report.proofs.Prelude.{arith, common_steps, ◌≡◌, ◌≢◌, ℕ, Bool, List, ◌∷◌, ◌++◌, Note, option_map, string_bytes, refl, sym, ap, ap₂, ◌∙◌, reading, change_view, ChangeData, IncomingData, incoming_of, ServerData, Head, Sender, Client, Server, Version, Record, Facts, Taken, written_first, change_in, writes, rare_notes, Known, LineView, habits_at, hint_in, hint_with, is_strict_in, known_after, last_in, lines, named_in, noted_in, noted_of, noted_uri, uri_of, is_mention, notes_if, notes_of, ranged_after, Session, bad, encoding_for, judge, judge_from, BodyData, body_read, AreFacts, IsAbout, IsLearned, known_by, judge_at, IsTaken, ranged_read, ranged_with, verdict_view, output_in, notification_params, None, Option, Some, [], lengths_of, learned, notes_on, odd_in, is_some, on_client}
use Rattle.log_report.specs.Habits.{Habits, grown_in, version_rejected}
use Rattle.log_report.specs.Lacks.{lack_in}
use Rattle.log_report.specs.declared.facts.About.{About}
use Rattle.log_session.proofs.Records.ChangeLemmas.{heard_as}
use Rattle.log_session.proofs.Records.OutputLemmas.{output_after, unless_not}
use Rattle.log_session.proofs.Records.OpeningLemmas.{on_side}
use Rattle.log_report.proofs.Reports.ReasonLemmas.{hint_at, mention_at, rejected_at, strict_at}

-- ---- what was read of a record's body, and the body itself

module _ (s : Session) (body : List ℕ) where
  abbrev asked : IncomingData
  asked = incoming_of (reading body)

  ranged_at : (ranged : Bool) (version : Version) (side : Sender)
      → ranged_read ranged s (body_read version side body) ≡ ranged_after ranged s side body
  ranged_at ranged version Client = refl
  ranged_at ranged version Server = refl

  abbrev noted_on : List Habits → Bool → IncomingData → List Note
  noted_on documents ranged m =
      notes_on s.server ranged (lengths_of (reading body)) (notification_params (reading body)) m
      ++ odd_in s.server documents m

  notes_at : (documents : List Habits) (ranged : Bool) (version : Version) (side : Sender)
      → notes_if (on_client [] (noted_on documents ranged) (body_read version side body))
      (judge_from s version side body).verdict
      ≡ notes_of s documents ranged body (judge_from s version side body).verdict
  notes_at documents ranged version Client = refl
  notes_at documents ranged version Server =
      grind (arith, common_steps, (heard_as s (encoding_for s.expected (reading body))))

-- ---- a record, by what was read of it, what it is about, and what became of it

some_map : {A B : Type 0} (f : A → B) (o : Option A) → is_some o ≡ is_some (option_map f o)
some_map f None = refl
some_map f (Some a) = refl

module _ (known : Known) (s : Session) (head : Head) (body : List ℕ) (read : BodyData)
    (is_read : read ≡ body_read head.version head.side body)
    (about : About) (is_about : IsAbout s.server known.documents known.ranged (reading body) read about)
    (t : Session) (taken : Taken)
    {Same : Type 0} {HasSeen : ServerData → ChangeData → Type 0} (is_taken : IsTaken Same HasSeen s t head body taken)
  where
    uri_is : option_map string_bytes about.uri ≡ uri_of head.side (incoming_of (reading body))
    uri_is = is_about.uri ∙ ap (on_client None (uri_of Client)) is_read
        ∙ on_side None uri_of (λ m. refl) head.version head.side body

    named_is : option_map string_bytes about.named
        ≡ named_in head.side (incoming_of (reading body)) (notification_params (reading body))
    named_is = is_about.named
        ∙ ap (on_client None (λ m. named_in Client m (notification_params (reading body)))) is_read
        ∙ on_side None (λ side m. named_in side m (notification_params (reading body))) (λ m. refl) head.version
        head.side body

    lack_is : about.lack ≡ lack_in head.side (incoming_of (reading body)) (notification_params (reading body))
    lack_is = is_about.lack
        ∙ ap (on_client None (λ m. lack_in Client m (notification_params (reading body)))) is_read
        ∙ on_side None (λ side m. lack_in side m (notification_params (reading body))) (λ m. refl) head.version
        head.side body

    noted_is : noted_of about
        ≡ noted_in head.side (incoming_of (reading body)) (notification_params (reading body))
    noted_is = ap₂ noted_uri uri_is named_is

    grown_is : about.grown ≡ grown_in s.server known.documents head.side (incoming_of (reading body))
    grown_is = is_about.grown ∙ ap (on_client None (grown_in s.server known.documents Client)) is_read
        ∙ on_side None (grown_in s.server known.documents) (λ m. refl) head.version head.side body

    rejected_is : version_rejected (option_map change_view taken.change) (verdict_view taken.verdict)
        ≡ version_rejected (change_in (incoming_of (reading body))) (judge_at s head body).verdict
    rejected_is = ap₂ version_rejected is_taken.change is_taken.judged ∙ rejected_at s head body

    mention_is : is_mention (is_some taken.change) (verdict_view taken.verdict)
        ≡ is_mention (is_some (change_in (incoming_of (reading body)))) (judge_at s head body).verdict
    mention_is = ap₂ is_mention (some_map change_view taken.change
        ∙ ap (λ (change : Option ChangeData). is_some change) is_taken.change) is_taken.judged ∙ mention_at s head body

    notes_are : notes_if about.notes.items (verdict_view taken.verdict) ≡ notes_of s known.documents known.ranged body
        (judge_at s head body).verdict
    notes_are =
        ap₂ notes_if (is_about.notes ∙ ap (on_client [] (noted_on s body known.documents known.ranged)) is_read)
        is_taken.judged ∙ notes_at s body known.documents known.ranged head.version head.side

    abbrev its_uri : Option (List ℕ)
    its_uri = uri_of head.side (incoming_of (reading body))

    hint_is : hint_in known (option_map string_bytes about.uri) (option_map change_view taken.change)
        (verdict_view taken.verdict)
        ≡ hint_in known its_uri (change_in (incoming_of (reading body))) (judge_at s head body).verdict
    hint_is = ap (λ (uri : Option (List ℕ)). hint_in known uri (option_map change_view taken.change)
        (verdict_view taken.verdict)) uri_is
        ∙ ap₂ (hint_in known its_uri) is_taken.change is_taken.judged ∙ hint_at known its_uri s head body

    strict_is : is_strict_in known (option_map string_bytes about.uri) (option_map change_view taken.change)
        (verdict_view taken.verdict)
        ≡ is_strict_in known its_uri (change_in (incoming_of (reading body))) (judge_at s head body).verdict
    strict_is = ap (λ (uri : Option (List ℕ)). is_strict_in known uri (option_map change_view taken.change)
        (verdict_view taken.verdict)) uri_is
        ∙ ap₂ (is_strict_in known its_uri) is_taken.change is_taken.judged ∙ strict_at known its_uri s head body

    ranged_is : ranged_with known.ranged taken.ranged ≡ ranged_after known.ranged s head.side body
    ranged_is = is_taken.heard known.ranged ∙ ranged_at s body known.ranged head.version head.side

    module _ (number : ℕ) (number_is : number ≡ t.records) where
      counted : number ≡ (judge_at s head body).session.records
      counted = number_is ∙ ap (λ (u : Session). u.records) is_taken.session

      pub facts_are : (raw : List ℕ) (facts : Facts) → IsLearned known number about taken facts
          → AreFacts known s (record { head = head; raw = raw; body = body }) facts
      facts_are raw facts learned = record {
        are = λ i. record {
          number = (learned.number ∙ counted) i;
          verdict = (ap verdict_view learned.verdict ∙ is_taken.judged) i;
          uri = (ap (option_map string_bytes) learned.uri ∙ uri_is) i;
          change = (ap (option_map change_view) learned.change ∙ is_taken.change) i;
          hint = (learned.hint ∙ ap₂ hint_with lack_is hint_is) i;
          last = (learned.last ∙ ap₂ (last_in known) uri_is is_taken.judged) i;
          notes = (learned.notes ∙ notes_are) i;
        };
        named = ap (option_map string_bytes) learned.named ∙ named_is;
        rare = learned.rare
            ∙ ap₂ (λ (noted : Option (List ℕ)) (notes : List Note). rare_notes (habits_at noted known.documents) notes)
            noted_is notes_are;
      }

      pub known_is : (next : Known) → next ≡ known_by known number about taken
          → next ≡ known_after known s head body (judge_at s head body)
      known_is next is = is
          ∙ rw (
            mention_is,
            notes_are,
            strict_is,
            rejected_is,
            noted_is,
            uri_is,
            grown_is,
            is_taken.judged,
            ranged_is,
            counted,
          ) refl

-- ---- a line, and the output after it

module _ (view : LineView) (known : Known) (s : Session) (r : Record) where
  abbrev line : List ℕ
  line = view.line known s r (judge s r)

  abbrev next : Known
  next = known_after known s r.head r.body (judge s r)

  pub line_first : (judge s r).verdict ≢ bad → (bytes : List ℕ) → bytes ≡ line → (t : Session) → t ≡ (judge s r).session
      → (kept : Known) → kept ≡ next → (more : List Record)
      → output_in (lines view) known s (r ∷ more) ≡ written_first bytes (output_in (lines view) kept t more)
  line_first not_bad bytes is t session kept kept_is =
      output_after (lines view) known s r (writes bytes)
      (unless_not r (judge s r).verdict (writes line) not_bad ∙ ap writes (sym is)) kept kept_is t session

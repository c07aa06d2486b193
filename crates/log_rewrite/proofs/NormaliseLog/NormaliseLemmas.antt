-- What `normalise` writes of a log, with canonical messages or with whole texts: a log of which the same is told, and
-- of which the same is written.
use Rattle.log_rewrite.proofs.Prelude.{Bool, List, None, Option, Some, [], ap, append-nil, append_assoc, ap₂, arith, false, length, nat_lt, refl, subst, sym, ℕ, ◌++◌, ◌+◌, ◌∙◌, ◌∷◌, ◌≡◌, ◌≢◌, ◌≤◌, ltb-false, common_steps, written_is_frame, place_after, IsFrameOf, frame, AreInRange, LimitsData, due_after, AreRecords, IsRecord, Record, is_line_due, line_of, mark_of, record_bytes, together, Version, RecordOutput, front_of, line_if, log_config, replaying, report, unless_bad, writes, written, all_of, RunOutput, written_first, Session, Verdict, ServerData, Settings, Log, IsReadAs, as_log, incoming_of, reading, output_in, answered, changed, bad, judge, opened, run_output_in, CanonicalLogLaw}
use Rattle.lsp_log.proofs.LogLemmas.{due_now}
use Rattle.lsp_message.specs.Params.{ChangeData}
use Rattle.log_session.specs.Canonical.{body_if, body_of_record, canonical_change_body, change_in, whole_change_body}
use Rattle.log_rewrite.specs.Normalise.{rewriting, rewritten_output}
use Rattle.log_rewrite.specs.laws.Written.{WholeLogLaw, WholeOfCanonicalLaw}
use Rattle.log_session.proofs.Changes.SettledLemmas.{IsRewriting, settled_change, whole_again, whole_of_canonical}
use Rattle.log_session.proofs.CourseLemmas.{command_output, ended_as, line_first, none_due, passed, reads_back, report_on, went_on}
use Rattle.log_session.proofs.Records.StateLemmas.{IsHeldState}
use Rattle.log_session.proofs.Records.JudgeLemmas.{judged_held, written_again}
use Rattle.log_session.proofs.Records.OutputLemmas.{unless_not}

-- ---- one record

-- the record that is written of a record, with another body, if it has one
abbrev canonical_record : ℕ → Record → Option (List ℕ) → Record
canonical_record at r None = record r { head = record r.head { place = place_after 0 at } }
canonical_record at r (Some body) =
    record { head = record r.head { place = place_after 0 at }; raw = frame body; body = body }

-- A record is written with its frame, or with that of another body; where only these differ the same is written.
written_same : (max_body : ℕ) (r q : Record) (front : List ℕ) (body : Option (List ℕ)) → (body ≡ None → q.raw ≡ r.raw)
    → (written max_body r front body).end ≡ None
    → (written max_body r front body ≡ writes (written max_body r front body).out)
    × (written max_body q front body ≡ writes (written max_body r front body).out)
written_same max_body r q front None raw e = (refl, ap (λ (bytes : List ℕ). writes (front ++ bytes)) (raw refl))
written_same max_body r q front (Some body) raw e =
    let short : nat_lt max_body (length body) ≡ false = grind (arith, common_steps, nat_lt) in rw short (refl, refl)

none_too : (body other : ServerData → ChangeData → List ℕ) (server : ServerData) (change : Option ChangeData)
    (verdict : Verdict) → body_if body server change verdict ≡ None → body_if other server change verdict ≡ None
none_too body other server (Some p) (answered changed) e = cc
none_too body other server _ _ e = refl

-- ---- records that are written with another body, and what `other` writes of them

module _ (body other : ServerData → ChangeData → List ℕ) (rewrites : IsRewriting body other) where
  -- the records that are written of some, the first at a place
  abbrev rewritten_from : ℕ → Version → Session → List Record → List Record
  rewritten_from at version s [] = []
  rewritten_from at version s (r ∷ rs) =
      canonical_record at r (body_of_record body s r.body (judge s r).verdict)
      ∷ rewritten_from
      (at + length (record_bytes version
      (canonical_record at r (body_of_record body s r.body (judge s r).verdict))))
      version (judge s r).session rs

  -- It is judged as the record, and the same is written of both.
  record IsWrittenAs (limits : LimitsData) (at : ℕ) (s : Session) (r q : Record) : Type 0 where
    is_frame_of : IsFrameOf limits.max_body q.raw q.body
    head : q.head ≡ record r.head { place = place_after 0 at }
    same : judge s q ≡ judge s r
    first : rewritten_output body s r (judge s r) ≡ writes (front_of r.head ++ q.raw)
    again : (rewritten_output other s r (judge s r)).end ≡ None
        → (rewritten_output other s r (judge s r) ≡ writes (rewritten_output other s r (judge s r)).out)
        × (rewritten_output other s q (judge s r) ≡ writes (rewritten_output other s r (judge s r)).out)

  module _ (limits : LimitsData) (ranges : AreInRange limits) where
    module _ (at : ℕ) (s : Session) (r : Record) (received : IsHeldState limits s.server)
        (is_frame_of : IsFrameOf limits.max_body r.raw r.body) where
      abbrev max_body : ℕ
      max_body = s.server.config.limits.max_body

      fits : (bytes : List ℕ) → (written max_body r (front_of r.head) (Some bytes)).end ≡ None
          → nat_lt max_body (length bytes) ≡ false
      fits bytes e = grind (arith, common_steps, nat_lt)

      -- What `other` writes of the record that is written.
      other_same : (q : Record) → q.head ≡ record r.head { place = place_after 0 at }
          → body_of_record other s q.body (judge s r).verdict ≡ body_of_record other s r.body (judge s r).verdict
          → (body_of_record other s r.body (judge s r).verdict ≡ None → q.raw ≡ r.raw)
          → (rewritten_output other s r (judge s r)).end ≡ None
          → (rewritten_output other s r (judge s r) ≡ writes (rewritten_output other s r (judge s r)).out)
          × (rewritten_output other s q (judge s r) ≡ writes (rewritten_output other s r (judge s r)).out)
      other_same q head same raw e =
          let both = written_same max_body r q (front_of r.head)
          (body_of_record other s r.body (judge s r).verdict) raw e in (
            both.0,
            ap₂ (λ (front : List ℕ) (o : Option (List ℕ)). written max_body q front o) (ap front_of head) same ∙ both.1,
          )

      written_as : (rewritten : Option (List ℕ))
          → body_of_record body s r.body (judge s r).verdict ≡ rewritten
          → (rewritten_output body s r (judge s r)).end ≡ None
          → IsWrittenAs limits at s r (canonical_record at r rewritten)
      written_as None none e = record {
        is_frame_of = is_frame_of;
        head = refl;
        same = refl;
        first = ap (written max_body r (front_of r.head)) none;
        again = other_same (canonical_record at r None) refl refl (λ _. refl);
      }
      written_as (Some bytes) some e =
          let short : nat_lt max_body (length bytes) ≡ false =
          fits bytes (ap (λ n. (written max_body r (front_of r.head) n).end) (sym some) ∙ e) in
          let small : length bytes ≤ limits.max_body = subst (λ (l : LimitsData). length bytes ≤ l.max_body)
          received.limit (ltb-false max_body (length bytes) short) in
          let twice = written_again body other rewrites limits ranges s r.head r.body bytes received some small in
          record {
            is_frame_of = written_is_frame limits.max_body bytes small (omega (arith, small, ranges.greatest_body));
            head = refl;
            same = twice.0;
            first = ap (written max_body r (front_of r.head)) some ∙ rw short refl;
            again =
                other_same (canonical_record at r (Some bytes)) refl twice.1
                (λ none. absurd (let wrong : Some bytes ≡ None = sym some
                ∙ none_too other body s.server (change_in (incoming_of (reading r.body))) (judge s r).verdict none in
                cc));
          }

    -- ---- all records

    -- The records that are written of some, the first at a place: they are a log's, the same is told of them, and
    -- `other` writes the same of them.
    record AreWritten (at : ℕ) (version : Version) (due : Bool) (s : Session) (rs qs : List Record) : Type 0 where
      are : AreRecords limits.max_body version at due qs
      all : (run_output_in (rewriting body) s rs).out ++ (run_output_in (rewriting body) s rs).last (due_after due rs)
          ≡ line_if due ++ together version qs []
      same_due : due_after due qs ≡ due_after due rs
      again : (run_output_in (rewriting other) s rs).stop ≡ None
          → run_output_in (rewriting other) s qs ≡ run_output_in (rewriting other) s rs
      same : run_output_in replaying s qs ≡ run_output_in replaying s rs

    module _ (at before : ℕ) (version : Version) (due : Bool) (s : Session) (r q : Record) (rs qs : List Record)
        (is : IsRecord limits.max_body version before due r) (not_bad : (judge s r).verdict ≢ bad)
        (one : IsWrittenAs limits at s r q) (more : AreWritten (at + length (record_bytes version q)) version false
        (judge s r).session rs qs) where
      abbrev rest : RunOutput
      rest = run_output_in (rewriting body) (judge s r).session rs

      first : run_output_in (rewriting body) s (r ∷ rs) ≡ written_first (front_of r.head ++ q.raw) rest
      first = command_output (rewriting body) s r rs (judge s r) (front_of r.head ++ q.raw) refl
          (unless_not r (judge s r).verdict (rewritten_output body s r (judge s r)) not_bad ∙ one.first)

      front_is : front_of r.head ≡ line_if due ++ mark_of version r.head.side
      front_is = ap₂ (λ (b : Bool) (v : Version). line_if b ++ mark_of v r.head.side) is.due is.of_version

      -- what `other` writes of the first record and of the others
      other_again : (run_output_in (rewriting other) s (r ∷ rs)).stop ≡ None
          → run_output_in (rewriting other) s (q ∷ qs) ≡ run_output_in (rewriting other) s (r ∷ rs)
      other_again goes =
          let g = rewritten_output other s r (judge s r) in
          let not_ended = unless_not r (judge s r).verdict g not_bad in
          let on = went_on (unless_bad r (judge s r).verdict g).out (unless_bad r (judge s r).verdict g).end
          (run_output_in (rewriting other) (judge s r).session rs) goes in
          let both = one.again (ap (λ (h : RecordOutput). h.end) (sym not_ended) ∙ on.0) in
          command_output (rewriting other) s q qs (judge s r) g.out one.same
          (unless_not q (judge s r).verdict (rewritten_output other s q (judge s r)) not_bad ∙ both.1)
          ∙ ap (written_first g.out) (more.again on.1)
          ∙ sym (command_output (rewriting other) s r rs (judge s r) g.out refl (not_ended ∙ both.0))

      one_more : AreWritten at version due s (r ∷ rs) (q ∷ qs)
      one_more = record {
        are = grind (arith, common_steps);
        all = grind (arith, common_steps, none_due, append_assoc, first, front_is);
        same_due = refl;
        again = other_again;
        same =
            command_output replaying s q qs (judge s r) [] one.same
            (unless_not q (judge s r).verdict (writes []) not_bad)
            ∙ more.same ∙ sym (report_on s r rs not_bad);
      }

    written_log : (at before : ℕ) (version : Version) (due : Bool) (s : Session) (rs : List Record)
        → IsHeldState limits s.server
        → AreRecords limits.max_body version before due rs → (run_output_in (rewriting body) s rs).stop ≡ None
        → AreWritten at version due s rs (rewritten_from at version s rs)
    written_log at before version due s [] received each goes =
        record { are = tt; all = sym (append-nil (line_if due)); same_due = refl; again = λ _. refl; same = refl }
    written_log at before version due s (r ∷ rs) received each goes =
        let g = rewritten_output body s r (judge s r) in
        let on = went_on (unless_bad r (judge s r).verdict g).out (unless_bad r (judge s r).verdict g).end
        (run_output_in (rewriting body) (judge s r).session rs) goes in
        let not_bad = passed r (judge s r).verdict g on.0 in
        let inner : g.end ≡ None = ap (λ (h : RecordOutput). h.end) (sym (unless_not r (judge s r).verdict g not_bad))
        ∙ on.0 in
        let one = written_as at s r received each.0.is_frame_of (body_of_record body s r.body (judge s r).verdict) refl
        inner in
        let q = canonical_record at r (body_of_record body s r.body (judge s r).verdict) in
        one_more at before version due s r q rs (rewritten_from (at + length (record_bytes version q)) version
        (judge s r).session rs) each.0 not_bad one
        (written_log (at + length (record_bytes version q)) (before + length (record_bytes version r)) version false
        (judge s r).session rs (judged_held limits s r received) each.1 on.1)

  -- ---- the bytes

  abbrev output_of : Settings → List Record → RunOutput
  output_of settings = output_in (rewriting body) tt (opened (log_config settings))

  abbrev other_of : Settings → List Record → RunOutput
  other_of settings = output_in (rewriting other) tt (opened (log_config settings))

  -- What is written of a log is a log, of which the same is told, and `other` writes the same of both.
  pub record IsRewritten (settings : Settings) (log : Log) : Type 0 where
    pub outcome : (output_of settings log.records).outcome ≡ (report settings log.records).outcome
    pub qs : List Record
    pub reads : IsReadAs (as_log settings) (all_of (output_of settings) log)
        (record { version = log.version; records = qs; rest = [] })
    pub alike : report settings qs ≡ report settings log.records
    pub to_end : (report settings qs).stop ≡ None
    pub again : (other_of settings log.records).stop ≡ None
        → other_of settings qs ≡ other_of settings log.records
    pub all_again : (other_of settings log.records).stop ≡ None
        → all_of (other_of settings) (record { version = log.version; records = qs; rest = [] })
        ≡ all_of (other_of settings) log

  pub rewritten_law : (settings : Settings) → AreInRange settings.limits → (input : List ℕ) (log : Log)
      → IsReadAs (as_log settings) input log → (output_of settings log.records).stop ≡ None
      → IsRewritten settings log
  rewritten_law settings ranges input log reads goes = record {
    outcome = ends.0;
    qs = qs;
    reads = reads_back settings log.version qs (all_of (output_of settings) log) w.are is;
    alike = w.same;
    to_end = ap (λ (c : RunOutput). c.stop) w.same ∙ ends.1;
    again = w.again;
    all_again = λ e.
        ap (λ (c : RunOutput). c.out ++ c.last (is_line_due log.version qs)) (w.again e)
        ∙ ap (λ due. (other_of settings log.records).out ++ (other_of settings log.records).last due)
        (sym (due_now log.version qs) ∙ w.same_due ∙ due_now log.version log.records);
  }
    where
      s : Session
      s = opened (log_config settings)

      ends : ((output_of settings log.records).outcome ≡ (report settings log.records).outcome)
          × ((report settings log.records).stop ≡ None)
      ends = ended_as (rewriting body)
          (λ _ u r e. passed r (judge u r).verdict (rewritten_output body u r (judge u r)) e) (λ _ u. refl) tt s
          log.records goes

      qs : List Record
      qs = rewritten_from (length (line_of log.version)) log.version s log.records

      w : AreWritten settings.limits ranges (length (line_of log.version)) log.version (is_line_due log.version []) s
          log.records qs
      w = written_log settings.limits ranges (length (line_of log.version)) (length (line_of log.version)) log.version
          (is_line_due log.version []) s log.records (record { limit = refl; table = tt }) reads.each goes

      is : all_of (output_of settings) log ≡ line_of log.version ++ together log.version qs []
      is =
          ap (λ due. (output_of settings log.records).out ++ (output_of settings log.records).last due)
          (sym (due_now log.version log.records))
          ∙ w.all ∙ ap (λ z. z ++ together log.version qs []) (line_first log.version)

-- ---- the laws

-- What `normalise` writes of a log is a log, of which the same is told and the same is written.
pub canonical_log_law : CanonicalLogLaw
canonical_log_law settings ranges input log reads whole goes =
    let is = rewritten_law canonical_change_body canonical_change_body settled_change settings ranges input log reads
    goes in
    record {
      outcome = is.outcome;
      reports = record {
        log = record { version = log.version; records = is.qs; rest = [] };
        reads = is.reads;
        whole = refl;
        to_end = is.to_end;
        alike = is.alike;
      };
      continues = ap (λ (c : RunOutput). c.stop) (is.again goes) ∙ goes;
      again = is.all_again goes;
    }

-- So is what `--whole` writes.
pub whole_log_law : WholeLogLaw
whole_log_law settings ranges input log reads whole goes =
    let is = rewritten_law whole_change_body whole_change_body whole_again settings ranges input log reads goes in
    record {
      outcome = is.outcome;
      reports = record {
        log = record { version = log.version; records = is.qs; rest = [] };
        reads = is.reads;
        whole = refl;
        to_end = is.to_end;
        alike = is.alike;
      };
      continues = ap (λ (c : RunOutput). c.stop) (is.again goes) ∙ goes;
      again = is.all_again goes;
    }

-- `--whole` of what `normalise` wrote is `--whole` of the log.
pub whole_of_canonical_law : WholeOfCanonicalLaw
whole_of_canonical_law settings ranges input log reads whole goes goes_whole =
    let is = rewritten_law canonical_change_body whole_change_body whole_of_canonical settings ranges input log reads
    goes in
    record {
      normal = record { version = log.version; records = is.qs; rest = [] };
      reads = is.reads;
      whole = refl;
      same = is.all_again goes_whole;
    }

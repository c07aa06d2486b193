-- What an engine wrote where it came to the end of a log.
use Rattle.log_rewrite.proofs.Prelude.{if◌then◌else◌, Bool, List, None, Option, Some, [], ap, append-nil, codes, false, inl, inr, length, nat_lt, refl, subst, sym, true, ℕ, ◌++◌, ◌∙◌, ◌∷◌, ◌≡◌, ◌≢◌, cond_both, Appends, Consumes, Err, IfOk, Ok, Result, ⊤, frame, AreInRange, IsReadAs, Log, LogRules, Record, AllRecords, IsCause, IsObserved, RanOver, RecordOutput, View, as_converted, as_log, canonical_log, converted, converting, ends, followed_by, front_of, line_before, log_config, normalising, reply_record, report, unless_bad, writes, written, PortState, all_of, last_of, RunOutput, Session, Verdict, bad, judge, opened, normalised, normalised_if, squashed, Settings, Outcome, run_output_in, squashed_steps, IsCanonicalLog, IsConverted, IsSquashed, Wrote, EngineFault, BadLog, BodyTooLong, IsReported, ReportLaw}
use Rattle.lsp_message.specs.Params.{ChangeData}
use Rattle.lsp_server.specs.Step.{ServerData}
use Rattle.log_session.specs.Canonical.{body_of_record, canonical_change_body, whole_change_body}
use Rattle.log_rewrite.specs.Normalise.{rewriting, rewritten_output, whole_log}
use Rattle.log_rewrite.specs.laws.Written.{IsWholeLog}
use Rattle.log_session.specs.Selection.{nothing_selected}
use Rattle.log_session.specs.inside.Piped.{piped}
use Rattle.log_rewrite.specs.Rewritten.{rewritten, rewritten_log}
use Rattle.log_rewrite.specs.declared.commands.normalise.Rewriting.{Rewriting}
use Rattle.lsp_frame.proofs.DecisionLemmas.{decision_law}
use Rattle.lsp_log.proofs.AllRecordsLemmas.{all_records_law}
use Rattle.log_session.proofs.Runs.AnswerLemmas.{due_last}
use Rattle.log_rewrite.proofs.Squash.SeriesLemmas.{squashed_is}
use Rattle.log_rewrite.proofs.Squash.StopLemmas.{stops_alike}
use Rattle.log_rewrite.proofs.Squash.SquashLogLemmas.{squashed_law}
use Rattle.log_rewrite.proofs.NormaliseLog.NormaliseLemmas.{canonical_log_law, whole_log_law}
use Rattle.log_rewrite.proofs.ConvertLog.ConvertLogLemmas.{converted_law}
use Rattle.log_session.proofs.Runs.QuietLemmas.{quiet}

-- ---- no record ends the run of `normalise` or `convert` well

abbrev pub IsNotOk : Option (Result Outcome EngineFault) → Type 0
IsNotOk (Some (Ok outcome)) = ⊥
IsNotOk _ = ⊤

not_ok_on : (out : List ℕ) (end : Option (Result Outcome EngineFault)) (c : RunOutput) → IsNotOk end
    → IsNotOk c.stop → IsNotOk (followed_by out end c).stop
not_ok_on out None c here later = later
not_ok_on out (Some answer) c here later = here

unless_not_ok : (r : Record) (verdict : Verdict) (g : RecordOutput) → IsNotOk g.end
    → IsNotOk (unless_bad r verdict g).end
unless_not_ok r bad g not_ok = tt
unless_not_ok r _ g not_ok = not_ok

written_not_ok : (max_body : ℕ) (r : Record) (front : List ℕ) (canonical : Option (List ℕ))
    → IsNotOk (written max_body r front canonical).end
written_not_ok max_body r front None = tt
written_not_ok max_body r front (Some body) =
    cond_both (nat_lt max_body (length body)) (ends [] (Err (BodyTooLong r.head.place))) (writes (front ++ frame body))
    (λ (given : RecordOutput). IsNotOk given.end) (λ _. tt) (λ _. tt)

module _ (view : View (Unit {0}))
    (never : (s : Session) (r : Record) → IsNotOk (view.record_output tt s r (judge s r)).end) where
  never_ok : (s : Session) (rs : List Record) → IsNotOk (run_output_in view s rs).stop
  never_ok s [] = tt
  never_ok s (r ∷ rs) =
      let given = view.record_output tt s r (judge s r) in
      not_ok_on given.out given.end (run_output_in view (judge s r).session rs) (never s r)
      (never_ok (judge s r).session rs)

rewritten_not_ok : (body : ServerData → ChangeData → List ℕ) (s : Session) (rs : List Record)
    → IsNotOk (run_output_in (rewriting body) s rs).stop
rewritten_not_ok body = never_ok (rewriting body) (λ s r.
    unless_not_ok r (judge s r).verdict (rewritten_output body s r (judge s r))
    (written_not_ok s.server.config.limits.max_body r (front_of r.head)
    (body_of_record body s r.body (judge s r).verdict)))

pub normal_not_ok : (s : Session) (rs : List Record) → IsNotOk (run_output_in normalising s rs).stop
normal_not_ok = rewritten_not_ok canonical_change_body

converted_not_ok : (s : Session) (rs : List Record) → IsNotOk (run_output_in converting s rs).stop
converted_not_ok = never_ok converting (λ s r. unless_not_ok r (judge s r).verdict
    (writes (line_before s ++ codes ">" ++ r.raw ++ reply_record (judge s r).verdict)) tt)

stops_not_ok : (stop : Option (Result Outcome EngineFault)) (outcome : Outcome) → IsNotOk stop
    → stop ≢ Some (Ok outcome)
stops_not_ok (Some (Ok other)) outcome not_ok e = not_ok
stops_not_ok _ outcome not_ok e = absurd (cc)

-- ---- where no record ends the run well, an outcome is that of the end

-- A run came to the end of a log: what it read, and that it wrote all of its output.
pub record AtEnd (log_rules : LogRules) (g : List Record → RunOutput)
    (left_old left_new received_old received_new : Option (List ℕ)) (outcome : Outcome) : Type 0 where
  pub input : List ℕ
  pub read : Consumes left_old left_new input
  pub log : Log
  pub reads : IsReadAs log_rules input log
  pub whole : log.rest ≡ []
  pub continues : (g log.records).stop ≡ None
  pub reports : outcome ≡ (g log.records).outcome
  pub wrote : Appends received_old received_new (all_of g log)

module _ (log_rules : LogRules) (g : List Record → RunOutput) (never : (rs : List Record) → IsNotOk (g rs).stop)
    {state : PortState} {left_old left_new received_old received_new : Option (List ℕ)} where
  ended : (outcome : Outcome)
      (ran : RanOver log_rules g state left_old left_new received_old received_new (Ok outcome))
      (all : AllRecords log_rules ran.input)
      (seen : IsObserved log_rules state ran.input received_old received_new all.log (g all.log.records) (Ok outcome))
      → IsCause log_rules state ran.input all.log (g all.log.records) seen.written seen.left (Ok outcome)
      → AtEnd log_rules g left_old left_new received_old received_new outcome
  ended outcome ran all seen (inl stops) =
      absurd (stops_not_ok (g all.log.records).stop outcome (never all.log.records) stops)
  ended outcome ran all seen (inr at) = record {
    input = ran.input;
    read = ran.read;
    log = all.log;
    reads = all.reads;
    whole = at.1;
    continues = at.2;
    reports = at.3;
    wrote = subst (λ (z : List ℕ). Appends received_old received_new z)
        (sym (sym (ap (λ z. (g all.log.records).out ++ z) (due_last (last_of g all.log) state.ended all.log.rest
        (g all.log.records).stop at.0 at.1 at.2)) ∙ seen.is ∙ ap (λ z. seen.written ++ z) (seen.whole refl)
        ∙ append-nil seen.written)) seen.wrote;
  }

  pub at_the_end : (Q : Outcome → Type 0)
      → ((outcome : Outcome) → AtEnd log_rules g left_old left_new received_old received_new outcome → Q outcome)
      → (result : Result Outcome EngineFault)
      → RanOver log_rules g state left_old left_new received_old received_new result → IfOk result Q
  at_the_end Q finish (Err fault) ran = tt
  at_the_end Q finish (Ok outcome) ran =
      let all : AllRecords log_rules ran.input =
      all_records_law decision_law log_rules ran.input
      (λ refuses versions more e. let wrong : ◌≡◌ {A = Result Outcome EngineFault} (Ok outcome) (Err (BadLog 0)) =
      (ran.refused refuses (versions, (more, e))).0 in cc) in
      let seen = ran.reported all.log all.reads all.none in
      finish outcome (ended outcome ran all seen seen.cause)

-- ---- what the engines write

squashed_not_ok : (settings : Settings) (rs : List Record) → IsNotOk (squashed settings rs).stop
squashed_not_ok settings rs = subst IsNotOk (sym (stops_alike settings rs).0)
    (normal_not_ok (opened (log_config settings)) rs)

module _ (settings : Settings) (ranges : AreInRange settings.limits)
    {left_old left_new received_old received_new : Option (List ℕ)} where
  -- what an engine wrote, by a law of its output
  wrote_by : (log_rules : LogRules) (g : List Record → RunOutput) (Holds : List Record → List ℕ → Type 0)
      → ((rs : List Record) → IsNotOk (g rs).stop)
      → ((input : List ℕ) (log : Log) → IsReadAs log_rules input log → log.rest ≡ [] → (g log.records).stop ≡ None
      → IsReadAs (as_log settings) input log × ((g log.records).outcome ≡ (report settings log.records).outcome)
      × Holds log.records (all_of g log))
      → {state : PortState} (result : Result Outcome EngineFault)
      → RanOver log_rules g state left_old left_new received_old received_new result
      → IfOk result (Wrote settings (IsReported settings Holds) left_old left_new received_old
      received_new)
  wrote_by log_rules g Holds never law {state} =
      at_the_end log_rules g never (Wrote settings (IsReported settings Holds) left_old left_new received_old
      received_new)
      (λ outcome end.
      let is = law end.input end.log end.reads end.whole end.continues in
      record {
        input = end.input;
        read = end.read;
        log = end.log;
        reads = is.0;
        whole = end.whole;
        bytes = all_of g end.log;
        wrote = end.wrote;
        holds = (end.reports ∙ is.1, is.2);
      })

  pub wrote_normal : {state : PortState} (result : Result Outcome EngineFault)
      → RanOver (as_log settings) (canonical_log settings) state left_old left_new received_old received_new result
      → IfOk result (Wrote settings (IsReported settings (IsCanonicalLog settings)) left_old left_new received_old
      received_new)
  wrote_normal {state} =
      wrote_by (as_log settings) (canonical_log settings) (IsCanonicalLog settings)
      (normal_not_ok (opened (log_config settings)))
      (λ input log reads whole goes.
      let holds = canonical_log_law settings ranges input log reads whole goes in (reads, holds.outcome, holds))

  pub wrote_whole : {state : PortState} (result : Result Outcome EngineFault)
      → RanOver (as_log settings) (whole_log settings) state left_old left_new received_old received_new result
      → IfOk result (Wrote settings (IsReported settings (IsWholeLog settings)) left_old left_new received_old
      received_new)
  wrote_whole {state} =
      wrote_by (as_log settings) (whole_log settings) (IsWholeLog settings)
      (rewritten_not_ok whole_change_body (opened (log_config settings)))
      (λ input log reads whole goes.
      let holds = whole_log_law settings ranges input log reads whole goes in (reads, holds.outcome, holds))

  pub wrote_squashed : {state : PortState} (result : Result Outcome EngineFault)
      → RanOver (as_log settings) (squashed settings) state left_old left_new received_old received_new result
      → IfOk result (Wrote settings (IsReported settings (IsSquashed settings)) left_old left_new received_old
      received_new)
  wrote_squashed {state} =
      wrote_by (as_log settings) (squashed settings) (IsSquashed settings) (squashed_not_ok settings)
      (λ input log reads whole goes.
      let holds = squashed_law settings ranges input log reads whole goes in (reads, holds.outcome, holds))

  pub wrote_converted : {state : PortState} (result : Result Outcome EngineFault)
      → RanOver (as_converted settings) (converted settings) state left_old left_new received_old received_new result
      → IfOk result (Wrote settings (IsReported settings (IsConverted settings)) left_old left_new received_old
      received_new)
  wrote_converted {state} =
      wrote_by (as_converted settings) (converted settings) (IsConverted settings)
      (converted_not_ok (opened (log_config settings)))
      (λ input log reads whole goes.
      let holds = converted_law settings ranges input log reads whole goes in (
        record {
          version = reads.version;
          accepted = λ e. absurd (let wrong : false ≡ true = e in cc);
          is = reads.is;
          each = reads.each;
        },
        holds.outcome,
        holds,
      ))

-- ---- `normalise` with its settings, by what the code makes

module _ (settings : Settings) (P : (List Record → RunOutput) → Type 0) where
  pub as_each : settings.squash ≡ false → P (canonical_log settings) → P (normalised settings)
  as_each each p = subst (λ (b : Bool). P (normalised_if b settings)) (sym each) p

  pub as_steps : settings.squash ≡ true → P (squashed_steps settings) → P (normalised settings)
  as_steps squash p =
      subst (λ (b : Bool). P (normalised_if b settings)) (sym squash)
      (subst (λ (f : Settings → List Record → RunOutput). P (f settings)) squashed_is p)

  pub by_setting : (b : Bool) → settings.squash ≡ b → P (normalised settings) → P (normalised_if b settings)
  by_setting b is p = subst (λ (c : Bool). P (normalised_if c settings)) is p

-- `normalise` with its options, of all records or of those that stay
rewritten_with : (settings : Settings) (whole documents live : Bool)
    → piped (if documents then Some nothing_selected else None) (rewritten_log whole settings)
    (opened (log_config settings))
    ≡ rewritten (record { whole = whole; documents = documents; live = live }) settings
rewritten_with settings whole true live = refl
rewritten_with settings whole false live = refl

pub rewritten_kept : (settings : Settings) (by : Rewriting) (whole : Bool) → by.whole ≡ whole
    → piped (if by.documents then Some nothing_selected else None) (rewritten_log whole settings)
    (opened (log_config settings)) ≡ rewritten by settings
rewritten_kept settings by whole is =
    ap (λ (b : Bool). piped (if by.documents then Some nothing_selected else None) (rewritten_log b settings)
    (opened (log_config settings))) (sym is)
    ∙ rewritten_with settings by.whole by.documents by.live

pub report_law : ReportLaw
report_law settings records = quiet (opened (log_config settings)) records

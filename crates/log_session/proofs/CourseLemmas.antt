-- What a command writes over the records of a log, whatever the command is. Records that are written one after another
-- are read again as a log.
use Rattle.log_session.proofs.Prelude.{Bool, List, None, Option, Some, [], ap, arith, false, length, refl, subst, sym, true, ℕ, ◌++◌, ◌∙◌, ◌∷◌, ◌≡◌, ◌≢◌, common_steps, Err, Result, due_after, AreRecords, IsReadAs, IsVersion, Record, is_line_due, line_of, together, Version, One, Two, RecordOutput, View, as_log, followed_by, line_if, output_in, replaying, unless_bad, writes, RunOutput, written_first, Judged, Session, Verdict, bad, judge, session_outcome, Settings, Outcome, run_output_in, EngineFault, BadLog}
use Rattle.log_session.proofs.Runs.LineLemmas.{is_version_one}
use Rattle.log_session.proofs.Records.NumberedLemmas.{IsAlike}

-- ---- a record at a time

-- what is known of a record's judgement and of what it gives tells the course
pub command_output : (view : View (Unit {0})) (s : Session) (r : Record) (rs : List Record) (j : Judged)
    (out : List ℕ) → judge s r ≡ j → view.record_output tt s r j ≡ writes out
    → run_output_in view s (r ∷ rs) ≡ written_first out (run_output_in view j.session rs)
command_output view s r rs j out is gives_it = grind (arith, common_steps)

pub went_on : (out : List ℕ) (end : Option (Result Outcome EngineFault)) (c : RunOutput)
    → (followed_by out end c).stop ≡ None → (end ≡ None) × (c.stop ≡ None)
went_on out None c e = (refl, e)
went_on out (Some answer) c e = absurd (let bad_one : Some answer ≡ None = e in cc)

-- a record that doesn't end the run isn't bad
pub passed : (r : Record) (verdict : Verdict) (given : RecordOutput) → (unless_bad r verdict given).end ≡ None
    → verdict ≢ bad
passed r bad given e = absurd (let bad_one : Some (Err (BadLog r.head.place)) ≡ None = e in cc)
passed r verdict given e = λ (wrong : verdict ≡ bad). cc

-- `replay` reports nothing for a record that isn't bad.
pub report_on : (s : Session) (r : Record) (rs : List Record) → (judge s r).verdict ≢ bad
    → run_output_in replaying s (r ∷ rs) ≡ run_output_in replaying (judge s r).session rs
report_on s r rs not_bad = grind (arith, common_steps)

-- ---- all records

-- A command that ends at each bad record, and whose outcome is the session's, has the outcome of `replay`.
module _ {State : Type 0} (view : View State)
    (never_bad : (state : State) (s : Session) (r : Record) → (view.record_output state s r (judge s r)).end ≡ None
    → (judge s r).verdict ≢ bad)
    (outcome : (state : State) (s : Session) → view.outcome state s ≡ session_outcome s) where
  pub ended_as : (state : State) (s : Session) (rs : List Record) → (output_in view state s rs).stop ≡ None
      → ((output_in view state s rs).outcome ≡ (run_output_in replaying s rs).outcome)
      × ((run_output_in replaying s rs).stop ≡ None)
  ended_as state s [] goes = (outcome state s, refl)
  ended_as state s (r ∷ rs) goes =
      let given = view.record_output state s r (judge s r) in
      let next = view.next state s r (judge s r) in
      let rest = output_in view next (judge s r).session rs in
      let on = went_on given.out given.end rest goes in
      let more = ended_as next (judge s r).session rs on.1 in
      let report = report_on s r rs (never_bad state s r on.0) in (
        ap (λ (o : Option (Result Outcome EngineFault)). (followed_by given.out o rest).outcome) on.0 ∙ more.0
            ∙ sym (ap (λ (c : RunOutput). c.outcome) report),
        ap (λ (c : RunOutput). c.stop) report ∙ more.1,
      )

-- `replay` reports the same documents, with the same status and as many refusals.
pub record IsReportedAs (c d : RunOutput) : Type 0 where
  pub documents : (line_due : Bool) → c.last line_due ≡ d.last line_due
  pub status : c.outcome.status ≡ d.outcome.status
  pub refused : c.outcome.refused ≡ d.outcome.refused

pub reported_by : (a b c d : RunOutput) → a ≡ c → b ≡ d → IsReportedAs c d → IsReportedAs a b
reported_by a b c d e f is = subst (λ (x : RunOutput). IsReportedAs x b) (sym e) (subst (IsReportedAs c) (sym f) is)

pub reported_end : (s t : Session) → IsAlike s t
    → IsReportedAs (run_output_in replaying t []) (run_output_in replaying s [])
reported_end s t like = record {
  documents = λ line_due. ap (λ (u : Session). (run_output_in replaying u []).last line_due) like.2;
  status = ap (λ (u : Session). (run_output_in replaying u []).outcome.status) like.2;
  refused = ap (λ (u : Session). (run_output_in replaying u []).outcome.refused) like.2;
}

-- ---- records that are written one after another

pub none_due : (rs : List Record) → due_after false rs ≡ false
none_due [] = refl
none_due (r ∷ rs) = refl

pub line_first : (version : Version) → line_if (is_line_due version []) ≡ line_of version
line_first One = refl
line_first Two = refl

-- Behind the line of their version they are a log.
pub reads_back : (settings : Settings) (version : Version) (rs : List Record) (bytes : List ℕ)
    → AreRecords settings.limits.max_body version (length (line_of version)) (is_line_due version []) rs
    → bytes ≡ line_of version ++ together version rs []
    → IsReadAs (as_log settings) bytes (record { version = version; records = rs; rest = [] })
reads_back settings version rs bytes are is = record {
  version = by version are is;
  accepted = λ e. absurd (let wrong : false ≡ true = e in cc);
  is = is;
  each = are;
}
  where
    by : (v : Version) → AreRecords settings.limits.max_body v (length (line_of v)) (is_line_due v []) rs
        → bytes ≡ line_of v ++ together v rs [] → IsVersion true v bytes
    by One are is = λ wanted more e. is_version_one settings.limits.max_body 0 false rs are wanted more (sym is ∙ e)
    by Two are is = (refl, (together Two rs [], is))

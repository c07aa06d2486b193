-- What `convert` writes of a log: a log of which the same is told.
use Rattle.log_rewrite.proofs.Prelude.{Bool, List, None, Option, [], ap, append-nil, append_assoc, arith, codes, false, length, refl, subst, sym, true, ℕ, ◌++◌, ◌+◌, ◌<◌, ◌==◌, ◌∙◌, ◌∷◌, ◌≡◌, ◌≢◌, ◌≤◌, ne_eqb, common_steps, if◌then◌else◌, written_is_frame, place_after, frame, AreInRange, LimitsData, AreRecords, IsRecord, Record, is_line_due, line_of, record_bytes, together, version_line, Client, Server, Version, One, Two, IdData, reading, OutgoingData, body_of, converted, converting, line_before, line_if, log_config, replaying, reply_record, report, unless_bad, writes, all_of, RunOutput, written_first, Judged, Session, Verdict, answered, bad, counted, judge, judge_client, judge_from, judged, opened, recorded, run_output_in, AreRepliesWithin, ConvertedLaw, IsReplyWithin, AnswerData, Sent, as_sent, reply, sent_reply, incoming_of, ServerData, step_on, one_more}
use Rattle.log_session.proofs.CourseLemmas.{command_output, ended_as, passed, reads_back, went_on}
use Rattle.log_session.proofs.Records.AskedLemmas.{asked_proper}
use Rattle.log_rewrite.proofs.ConvertLog.ConvertLemmas.{twin, IsGood, Follows, next_of, rest_after, waits, follows_step, judged_one, judged_two}

-- The line is due before the first record.
abbrev Counts : Bool → ℕ → Type 0
Counts true n = n ≡ 0
Counts false n = 0 < n

line_is : (due : Bool) (n : ℕ) → Counts due n → (if n == 0 then version_line else []) ≡ line_if due
line_is true n zero_records = ap (λ k. if k == 0 then version_line else []) zero_records
line_is false n some = ap (λ b. if b then version_line else []) (ne_eqb n 0 (λ e. omega arith))

some_records : (n : ℕ) → 0 < one_more n
some_records n = omega arith

-- ---- the records of the log of version 2

client_at : ℕ → Bool → Record → Record
client_at at due r = record {
  head = record { side = Client; version = Two; place = place_after 0 at; line_due = due };
  raw = r.raw;
  body = r.body;
}

server_at : ℕ → OutgoingData → Record
server_at at m = record {
  head = record { side = Server; version = Two; place = place_after 0 at; line_due = false };
  raw = frame (body_of m);
  body = body_of m;
}

five : (a b c d e : List ℕ) → (((a ++ b) ++ c) ++ d) ++ e ≡ a ++ ((b ++ c) ++ (d ++ e))
five a b c d e = simp append_assoc

good_by : (verdict : Verdict) → verdict ≢ bad → IsGood verdict
good_by bad not_bad = absurd (not_bad refl)
good_by _ not_bad = tt

judged_client : (s : Session) (r : Record) → r.head.version ≡ One → r.head.side ≡ Client → judge s r
    ≡ counted (judge_client s One (incoming_of (reading r.body)))
judged_client s r one side = ap (λ v. counted (judge_from s v r.head.side r.body)) one
    ∙ ap (λ k. counted (judge_from s One k r.body)) side

module _ (limits : LimitsData) (ranges : AreInRange limits) where
  -- The record of the reply, if there is one, and what is told of it in the other session.
  record IsReplied (at : ℕ) (u next : Session) (answer : AnswerData Sent) : Type 0 where
    ps : List Record
    later : ℕ
    are : (qs : List Record) → AreRecords limits.max_body Two later false qs
        → AreRecords limits.max_body Two at false (ps ++ qs)
    is : (qs : List Record) → reply_record (answered answer) ++ together Two qs [] ≡ together Two (ps ++ qs) []
    records : ℕ
    told : (qs : List Record) → run_output_in replaying u (ps ++ qs) ≡ run_output_in replaying (twin next records) qs

  replied : (at n : ℕ) (s : Session) (server : ServerData) (answer : AnswerData OutgoingData) (e : Option IdData)
      → IsReplyWithin limits.max_body (answered (as_sent answer))
      → Follows (rest_after s n server (as_sent answer) e) answer
      → IsReplied at (rest_after s n server (as_sent answer) e) (next_of s server (as_sent answer)) (as_sent answer)
  unfolding server_at
  replied at n s server (reply o) e short follows =
      let p = server_at at o in
      let fits : length (body_of o) ≤ limits.max_body = short (body_of o) refl in
      record {
        ps = p ∷ [];
        later = at + length (record_bytes Two p);
        are = λ qs each. (
          record {
            is_frame_of = written_is_frame limits.max_body (body_of o) fits (omega (arith, fits, ranges.greatest_body));
            side = λ (wrong : Two ≡ One). absurd (cc);
            of_version = refl;
            placed = refl;
            due = refl;
          },
          each,
        );
        is = λ qs. refl;
        records = one_more (one_more n);
        told = λ qs. command_output replaying (rest_after s n server (reply (sent_reply o)) e) p qs
            (judged recorded (twin (next_of s server (reply (sent_reply o))) (one_more (one_more n)))) []
            (ap counted follows) refl;
      }
  replied at n s server answer e short follows = record {
    ps = [];
    later = at;
    are = λ qs each. each;
    is = λ qs. refl;
    records = one_more n;
    told = λ qs. ap (λ x. run_output_in replaying (rest_after s n server (as_sent answer) x) qs) follows;
  }

  -- The records that are written of some, the first at a place, and what is told of them in the other session.
  record AreConverted (at : ℕ) (due : Bool) (s t : Session) (rs : List Record) : Type 0 where
    qs : List Record
    are : AreRecords limits.max_body Two at due qs
    all : (b : Bool) → (run_output_in converting s rs).out ++ (run_output_in converting s rs).last b
        ≡ line_if due ++ together Two qs []
    same : run_output_in replaying t qs ≡ run_output_in replaying s rs

  module _ (at before : ℕ) (due : Bool) (s t u next : Session) (answer : AnswerData Sent) (r : Record)
      (rs : List Record) (is : IsRecord limits.max_body One before false r) (counts : Counts due s.records)
      (one : judge s r ≡ judged (answered answer) next)
      (two : judge t (client_at at due r) ≡ judged (answered answer) u)
      (after : IsReplied (at + length (record_bytes Two (client_at at due r))) u next answer)
      (more : AreConverted after.later false next (twin next after.records) rs) where
    abbrev rest : RunOutput
    rest = run_output_in converting next rs

    wrote : run_output_in converting s (r ∷ rs)
        ≡ written_first (line_before s ++ codes ">" ++ r.raw ++ reply_record (answered answer)) rest
    wrote = command_output converting s r rs (judged (answered answer) next)
        (line_before s ++ codes ">" ++ r.raw ++ reply_record (answered answer)) one refl

    extend : AreConverted at due s t (r ∷ rs)
    unfolding client_at
    extend = record {
      qs = client_at at due r ∷ (after.ps ++ more.qs);
      are = (
        record { is_frame_of = is.is_frame_of; side = λ e. refl; of_version = refl; placed = refl; due = refl },
        after.are more.qs more.are,
      );
      all = λ b. grind (arith, common_steps, append_assoc, wrote, line_is, after.is, more.all);
      same =
          command_output replaying t (client_at at due r) (after.ps ++ more.qs) (judged (answered answer) u) [] two refl
          ∙ after.told more.qs ∙ more.same
          ∙ sym (command_output replaying s r rs (judged (answered answer) next) [] one refl);
    }

  converted_log : (at before : ℕ) (due : Bool) (s : Session) (n : ℕ) (rs : List Record) → s.expected ≡ None
      → Counts due s.records → AreRecords limits.max_body One before false rs
      → (run_output_in converting s rs).stop ≡ None → AreRepliesWithin limits.max_body s rs
      → AreConverted at due s (twin s n) rs
  unfolding client_at
  converted_log at before due s n [] none counts each goes short = record {
    qs = [];
    are = tt;
    all = λ b. line_is due s.records counts ∙ sym (append-nil (line_if due));
    same = refl;
  }
  converted_log at before due s n (r ∷ rs) none counts each goes short =
      let m = incoming_of (reading r.body) in
      let step = step_on s.server m in
      let g = writes (line_before s ++ codes ">" ++ r.raw ++ reply_record (judge s r).verdict) in
      let on = went_on (unless_bad r (judge s r).verdict g).out (unless_bad r (judge s r).verdict g).end
      (run_output_in converting (judge s r).session rs) goes in
      let client = judged_client s r each.0.of_version (each.0.side refl) in
      let good : IsGood (judge_client s One m).verdict =
      subst IsGood (ap (λ (j : Judged). j.verdict) client)
      (good_by (judge s r).verdict (passed r (judge s r).verdict g on.0)) in
      let here : judge s r ≡ judged (answered (as_sent step.answer)) (next_of s step.state (as_sent step.answer)) =
      client ∙ ap counted (judged_one s n m none good) in
      let there : judge (twin s n) (client_at at due r) ≡ judged (answered (as_sent step.answer))
      (rest_after s n step.state (as_sent step.answer) (waits s.server.phase m)) =
      ap counted (judged_two s n m none good) in
      let next : (judge s r).session ≡ next_of s step.state (as_sent step.answer) =
      ap (λ (j : Judged). j.session) here in
      let after = replied (at + length (record_bytes Two (client_at at due r))) n s step.state step.answer
      (waits s.server.phase m)
      (subst (IsReplyWithin limits.max_body) (ap (λ (j : Judged). j.verdict) here) short.0)
      (follows_step s n s.server.phase s.server m (asked_proper r.body)) in
      extend at before due s (twin s n) (rest_after s n step.state (as_sent step.answer) (waits s.server.phase m))
      (next_of s step.state (as_sent step.answer)) (as_sent step.answer) r rs each.0 counts here there after
      (converted_log after.later (before + length (record_bytes One r)) false
      (next_of s step.state (as_sent step.answer)) after.records rs refl (some_records s.records) each.1
      (subst (λ (u : Session). (run_output_in converting u rs).stop ≡ None) next on.1)
      (subst (λ (u : Session). AreRepliesWithin limits.max_body u rs) next short.1))

-- What `convert` writes of a log is a log of which the same is told.
pub converted_law : ConvertedLaw
converted_law settings ranges input log reads whole goes = record {
  outcome = ends.0;
  reports = λ short.
      let w = buffer short in
      record {
        log = record { version = Two; records = w.qs; rest = [] };
        reads = reads_back settings Two w.qs (all_of (converted settings) log) w.are
            (w.all (is_line_due log.version log.records));
        whole = refl;
        to_end = ap (λ (c : RunOutput). c.stop) w.same ∙ ends.1;
        alike = w.same;
      };
}
  where
    s : Session
    s = opened (log_config settings)

    ends : ((converted settings log.records).outcome ≡ (report settings log.records).outcome)
        × ((report settings log.records).stop ≡ None)
    ends = ended_as converting (λ _ u r e. passed r (judge u r).verdict (writes
        (line_before u ++ codes ">" ++ r.raw ++ reply_record (judge u r).verdict)) e) (λ _ u. refl) tt s log.records
        goes

    each : AreRecords settings.limits.max_body One 0 false log.records
    each = subst (λ (v : Version). AreRecords settings.limits.max_body v (length (line_of v)) (is_line_due v [])
        log.records) (reads.accepted refl) reads.each

    buffer : AreRepliesWithin settings.limits.max_body s log.records → AreConverted settings.limits ranges
        (length version_line) true s s log.records
    buffer short = converted_log settings.limits ranges (length version_line) 0 true s 0 log.records refl refl each goes
        short

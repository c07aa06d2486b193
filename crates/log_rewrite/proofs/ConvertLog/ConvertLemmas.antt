-- What `convert` writes of a log: a log of which the same is told.
use Rattle.log_rewrite.proofs.Prelude.{Bool, None, Option, Some, ap, false, refl, true, ℕ, ◌∙◌, ◌≡◌, Decides-int_eq, bytes_eq-Decides, if◌then◌else◌, option_and_then, option_map, ⊤, Version, One, Two, is_read_back, reading-body_of, IdData, Reading, reading, text, whole, OutgoingData, body_of, initialize_result, initialize_value, IsProperId, Judged, Session, Verdict, answered, bad, count_if, encoding_for, encoding_in, expected_of, handled, is_early, is_ended, is_new, is_refused, judge_client, judge_server, judged, recorded, same_id, AnswerData, Sent, as_sent, reply, IncomingData, initialize, ServerData, begin_step, step_in, step_on, with_encoding, Phase, New, one_more, Encoding, Data}
use Rattle.lsp_message.specs.declared.agreement.Announced.{Announced}
use Rattle.lsp_message.specs.declared.agreement.Offers.{Offers}
use Rattle.lsp_message.specs.declared.agreement.SyncKind.{SyncKind}
use Rattle.lsp_server.specs.Choice.{encoding_chosen, announced_kind}
use Rattle.log_session.proofs.Records.AskedLemmas.{IsProperIncoming}

-- ---- a log of version 1 and one of version 2, side by side

-- the session of the log of version 2, which was given so many records
abbrev pub twin : Session → ℕ → Session
twin s n = record s { records = n }

abbrev pub IsGood : Verdict → Type 0
IsGood bad = ⊥
IsGood _ = ⊤

good_tests : (a b : Bool) (s : Session) (j : Judged)
    → IsGood (if a then judged bad s else if b then judged bad s else j).verdict → (a ≡ false) × (b ≡ false)
good_tests false false s j good = (refl, refl)
good_tests _ _ s j good = absurd good

-- no result is waited for in a log of version 1
none_expected : (b : Bool) (m : IncomingData) (expected : Option IdData) → expected ≡ None
    → (if b then expected_of One m expected else expected) ≡ None
none_expected true m expected none = none
none_expected false m expected none = none

-- ---- the result of `initialize`

same_id_is : (id : IdData) → same_id id id ≡ true
same_id_is (whole n) = (Decides-int_eq n n).1 refl
same_id_is (text s) = (bytes_eq-Decides s s).1 refl

hears_result : (u : Session) (id : IdData) (encoding : Encoding) (kind : SyncKind) → IsProperId id
    → judge_server u (encoding_for (Some id) (reading (body_of (initialize_result id encoding kind))))
    ≡ judged recorded (record u { server = with_encoding u.server encoding; expected = None })
hears_result u id encoding kind proper =
    ap (λ (r : Reading). judge_server u (encoding_for (Some id) r))
    (reading-body_of (initialize_result id encoding kind) proper)
    ∙ ap (λ (r : Option Data). judge_server u (option_map encoding_in r))
    (ap (λ b. if b then Some (initialize_value encoding kind) else None) (same_id_is id))
    ∙ ap (λ (a : Option Announced). judge_server u (Some (option_and_then (λ (b : Announced). b.encoding) a)))
    (is_read_back (initialize_result id encoding kind) proper)

-- ---- what is waited for behind a client's record

-- what is told behind an answer: the server's record of a reply settles what is waited for, and else nothing is
abbrev pub Follows : Session → AnswerData OutgoingData → Type 0
Follows u (reply m) = judge_server u (encoding_for u.expected (reading (body_of m)))
    ≡ judged recorded (record u { expected = None })
Follows u _ = u.expected ≡ None

follows_none : (u : Session) (answer : AnswerData OutgoingData) → u.expected ≡ None → Follows u answer
follows_none u (reply m) none = ap (λ (e : Option IdData). judge_server u (encoding_for e (reading (body_of m)))) none
    ∙ (λ i. judged recorded (record u { expected = none i }))
follows_none u _ none = none

abbrev pub waits : Phase → IncomingData → Option IdData
waits phase m = if is_new phase then expected_of Two m None else None

-- the session behind a client's record, in the log of version 1 and in that of version 2
abbrev pub next_of : Session → ServerData → AnswerData Sent → Session
next_of s server answer = record s {
  server = server;
  expected = None;
  records = one_more s.records;
  messages = one_more s.messages;
  refusals = count_if (is_refused answer) s.refusals;
}

abbrev pub rest_after : Session → ℕ → ServerData → AnswerData Sent → Option IdData → Session
rest_after s n server answer expected = record {
  server = server;
  expected = expected;
  records = one_more n;
  messages = one_more s.messages;
  refusals = count_if (is_refused answer) s.refusals;
}

abbrev pub FollowsStep : Session → ℕ → Phase → ServerData → IncomingData → Type 0
FollowsStep s n phase server m =
    Follows (rest_after s n (step_in phase server m).state (as_sent (step_in phase server m).answer) (waits phase m))
    (step_in phase server m).answer

begun : (s : Session) (n : ℕ) (server : ServerData) (id : IdData) (offers : Offers) → IsProperId id
    → FollowsStep s n New server (initialize id (Some offers))
begun s n server id offers proper =
    hears_result
    (rest_after s n (begin_step server id offers).state (as_sent (begin_step server id offers).answer) (Some id))
    id (encoding_chosen server.config.choice offers) (announced_kind server.config.sync) proper

pub follows_step : (s : Session) (n : ℕ) (phase : Phase) (server : ServerData) (m : IncomingData) → IsProperIncoming m
    → FollowsStep s n phase server m
follows_step s n New server (initialize id (Some offers)) proper = begun s n server id offers proper
follows_step s n phase server m proper =
    follows_none (rest_after s n (step_in phase server m).state (as_sent (step_in phase server m).answer) None)
    (step_in phase server m).answer refl

-- ---- a client's record is judged alike in both logs

module _ (s : Session) (n : ℕ) (m : IncomingData) (none : s.expected ≡ None)
    (good : IsGood (judge_client s One m).verdict) where
  tests : (is_ended s.server.phase ≡ false) × (is_early s m ≡ false)
  tests = good_tests (is_ended s.server.phase) (is_early s m) s
      (handled s One m (step_on s.server m).state (as_sent (step_on s.server m).answer)) good

  abbrev answer : AnswerData Sent
  answer = as_sent (step_on s.server m).answer

  -- the session after it, but for what is waited for and how many records there were
  abbrev stepped : Option IdData → ℕ → Session
  stepped expected records = record s {
    server = (step_on s.server m).state;
    expected = expected;
    records = records;
    messages = one_more s.messages;
    refusals = count_if (is_refused answer) s.refusals;
  }

  judged_as : (version : Version) (records : ℕ) → judge_client (twin s records) version m
      ≡ judged (answered answer) (stepped (if is_new s.server.phase then expected_of version m s.expected
      else s.expected) records)
  judged_as version records = rw (tests.0, tests.1) refl

  pub judged_one : judge_client s One m ≡ judged (answered answer) (stepped None s.records)
  judged_one = judged_as One s.records ∙ ap (λ (e : Option IdData). judged (answered answer) (stepped e s.records))
      (none_expected (is_new s.server.phase) m s.expected none)

  pub judged_two : judge_client (twin s n) Two m ≡ judged (answered answer) (stepped (waits s.server.phase m) n)
  judged_two = judged_as Two n ∙ ap (λ (e : Option IdData). judged (answered answer)
      (stepped (if is_new s.server.phase then expected_of Two m e else e) n)) none

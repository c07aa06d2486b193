-- What a record gives with squash, by what is known of how it is written.
use Rattle.log_rewrite.proofs.Prelude.{List, None, Option, Some, [], ap, append_assoc, arith, le-ltb, length, lt-ltb, refl, sym, ℕ, ◌++◌, ◌<◌, ◌∙◌, ◌∷◌, ◌≡◌, ◌≢◌, common_steps, Err, frame, Record, reading, ChangeData, canonical_change_body, canonical_if, change_in, followed_by, front_of, writes, stopped, Session, Verdict, answered, bad, judge, recorded, IsBegun, IsChange, IsLonger, IsOther, after, IsSquashStep, OpenSeries, Squashing, Step, begun, change_output, end_bytes, faulty, longer, other_step, series_of, squash_step, squash_view, squashed_in, step_at, step_if, changed, incoming_of, ServerData, SquashData, EngineFault, BadLog, BodyTooLong}
use Rattle.log_session.proofs.Records.OutputLemmas.{output_after}

-- any record but an accepted change
pub step_other : (server : ServerData) (r : Record) (front : List ℕ) (series : Option OpenSeries) (change : Option
    ChangeData) (verdict : Verdict) → verdict ≢ bad → canonical_if server change verdict ≡ None
    → step_if server r front series change verdict ≡ other_step r front series
step_other server r front series change bad not_bad none = absurd (not_bad refl)
step_other server r front series None recorded not_bad none = refl
step_other server r front series (Some p) (answered changed) not_bad none =
    absurd (let wrong : Some (canonical_change_body server p) ≡ None = none in cc)
step_other server r front series _ _ not_bad none = refl

-- an accepted change
pub step_changed : (server : ServerData) (r : Record) (front canonical : List ℕ) (series : Option OpenSeries)
    (change : Option ChangeData) (verdict : Verdict) → (is : IsChange server change verdict canonical)
    → step_if server r front series change verdict ≡ change_output server is.params front (front ++ canonical) series
step_changed server r front canonical series change verdict is = grind (arith, common_steps, le-ltb)

-- ---- the step of a record, by how it is written

module _ (s : Session) (front singles : List ℕ) (series : Option SquashData) (r : Record) (verdict : Verdict)
    (error : verdict ≡ (judge s r).verdict) where
  abbrev here : Option OpenSeries
  here = series_of front singles series

  abbrev its_front : List ℕ
  its_front = front_of r.head

  changes : (canonical : List ℕ) → (is : IsChange s.server (change_in (incoming_of (reading r.body))) verdict canonical)
      → squash_step s here r (judge s r) ≡ change_output s.server is.params its_front (its_front ++ canonical) here
  changes canonical is =
      ap (λ v. step_if s.server r its_front here (change_in (incoming_of (reading r.body))) v) (sym error)
      ∙ step_changed s.server r its_front canonical here (change_in (incoming_of (reading r.body))) verdict is

  pub told_bad : verdict ≡ bad → squash_step s here r (judge s r) ≡ faulty (BadLog r.head.place)
  told_bad is =
      ap (λ v. step_if s.server r its_front here (change_in (incoming_of (reading r.body))) v) (sym error ∙ is)

  pub told_too_long : (p : ChangeData) → change_in (incoming_of (reading r.body)) ≡ Some p → verdict ≡ answered changed
      → s.server.config.limits.max_body < length (canonical_change_body s.server p)
      → squash_step s here r (judge s r) ≡ faulty (BodyTooLong r.head.place)
  told_too_long p is accepted over = grind (arith, common_steps, lt-ltb)

  -- ---- the same, by what the texts and the output are after the calls that write them

  module _ (begun_with : Option SquashData) (taken : begun_with ≡ series) (buffer : List ℕ) (nothing : buffer ≡ [])
    where
      pub told_as_it_is : (ended : Option SquashData) → ended ≡ begun_with → verdict ≢ bad
          → canonical_if s.server (change_in (incoming_of (reading r.body))) verdict ≡ None
          → (series_out front_out out : List ℕ) → series_out ≡ buffer ++ end_bytes (series_of front singles ended) →
          front_out ≡ series_out ++ its_front → out ≡ front_out ++ r.raw
          → (batches : Option SquashData) → batches ≡ None → (last_front last_singles : List ℕ)
          → squash_step s here r (judge s r) ≡ record {
            out = out;
            end = None;
            series = series_of last_front last_singles batches;
          }
      told_as_it_is ended same not_bad none series_out front_out out series_is front_is is batches closed last_front
          last_singles =
          grind (arith, common_steps, append_assoc, step_other)

      pub told_more : (canonical : List ℕ) (batches : SquashData)
          (is : IsChange s.server (change_in (incoming_of (reading r.body))) verdict canonical)
          → IsLonger begun_with is.params batches
          → (frame new_front new_singles : List ℕ) → frame ≡ canonical → new_front ≡ front → new_singles
          ≡ singles ++ (its_front ++ frame) → squash_step s here r (judge s r) ≡ record {
            out = buffer;
            end = None;
            series = series_of new_front new_singles (Some batches);
          }
      told_more canonical batches is longer frame new_front new_singles same same_front more_singles =
          grind (arith, common_steps, changes)

      pub told_next : (canonical : List ℕ) (ended : Option SquashData) (batches : SquashData)
          (is : IsChange s.server (change_in (incoming_of (reading r.body))) verdict canonical)
          → IsOther begun_with is.params → ended ≡ begun_with → IsBegun s.server is.params batches
          → (out frame new_front new_singles : List ℕ) → out ≡ buffer ++ end_bytes (series_of front singles ended)
          → frame ≡ canonical → new_front ≡ its_front → new_singles ≡ its_front ++ frame
          → squash_step s here r (judge s r) ≡ record {
            out = out;
            end = None;
            series = series_of new_front new_singles (Some batches);
          }
      told_next canonical ended batches is other ended_is begun out frame new_front new_singles out_is same same_front
          more_singles =
          grind (arith, common_steps, changes)

-- ---- the output from a record on

pub step_writes : (q next : Squashing) (r : Record) (out : List ℕ) → IsSquashStep q r out next → (more : List Record)
    → squashed_in q.session q.series (r ∷ more) ≡ after out None (squashed_in next.session next.series more)
step_writes q next r out is =
    output_after squash_view q.series q.session r (writes out)
    (ap (λ (step : Step). record { out = step.out; end = step.end }) is.step) next.series
    (sym (ap (λ (step : Step). step.series) is.step)) next.session is.session

pub step_ends : (q : Squashing) (r : Record) (fault : EngineFault) → step_at q r ≡ faulty fault → (more : List Record)
    → squashed_in q.session q.series (r ∷ more) ≡ stopped [] (Err fault)
step_ends q r fault is more =
    ap (λ (step : Step). followed_by step.out step.end (squashed_in (judge q.session r).session step.series more)) is

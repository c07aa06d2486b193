-- What `normalise` writes with squash: a series by its changes, and by the bytes that the code keeps of it.
use Rattle.log_rewrite.proofs.Prelude.{if◌then◌else◌, Bool, List, None, Option, Some, [], ap, append-nil, arith, bytes_eq, false, length, map, nat_lt, refl, subst, sym, true, ℕ, ◌++◌, ◌∙◌, ◌∷◌, ◌≡◌, common_steps, flat_map-append, Err, flat_map, option_map, frame, Record, reading, ChangeData, DocumentItem, RecordOutput, canonical_change_body, canonical_if, change_in, ends, followed_by, front_of, line_if, log_config, output_in, unless_bad, writes, written, RunOutput, Session, Verdict, answered, bad, judge, opened, session_outcome, SeriesChange, change_if, change_on, joined, series_after, series_written, squash_output, squashed, squashing, Settings, OpenSeries, Step, begun, begun_on, change_output, end_bytes, faulty, joined_by, longer, open_bytes, other_step, squash_step, squashed_in, squashed_steps, step_if, changed, reply, incoming_of, content_change_from_data, session_encoding, change_parts, SquashData, entry_at, BadLog, BodyTooLong, units_in}
use Rattle.log_rewrite.proofs.Squash.KindLemmas.{was_accepted}

-- ---- a series

abbrev single_of : SeriesChange → List ℕ
single_of c = c.single

-- the bytes that are kept of a series
abbrev kept_series : SeriesChange → List SeriesChange → OpenSeries
kept_series first series = record {
  front = first.front;
  singles = flat_map single_of (first ∷ series);
  squash = joined first.document (first ∷ series);
}

abbrev kept_of : List SeriesChange → Option OpenSeries
kept_of [] = None
kept_of (first ∷ series) = Some (kept_series first series)

series_is : (series : List SeriesChange) → series_written series ≡ end_bytes (kept_of series)
series_is [] = refl
series_is (first ∷ series) = refl

joined_more : (squash : SquashData) (series : List SeriesChange) (c : SeriesChange) → joined squash (series ++ c ∷ [])
    ≡ joined_by c.change (joined squash series)
joined_more squash [] c = refl
joined_more squash (d ∷ series) c = joined_more (joined_by d.change squash) series c

joined_uri : (squash : SquashData) (series : List SeriesChange) → (joined squash series).uri ≡ squash.uri
joined_uri squash [] = refl
joined_uri squash (c ∷ series) = joined_uri (joined_by c.change squash) series

kept_more : (first : SeriesChange) (series : List SeriesChange) (c : SeriesChange) → kept_of ((first ∷ series) ++ c ∷
    []) ≡ Some (longer (kept_series first series) c.change c.single)
kept_more first series c = λ i. Some (record {
  front = first.front;
  singles = (flat_map-append single_of (first ∷ series) (c ∷ [])
      ∙ ap (λ z. flat_map single_of (first ∷ series) ++ z) (append-nil c.single)) i;
  squash = joined_more first.document (first ∷ series) c i;
})

-- what is kept of a series that a change begins
abbrev begun_by : SeriesChange → OpenSeries
begun_by c = record { front = c.front; singles = c.single; squash = joined_by c.change c.document }

kept_one : (c : SeriesChange) → kept_of (c ∷ []) ≡ Some (begun_by c)
kept_one c = λ i. Some (record {
  front = c.front;
  singles = append-nil c.single i;
  squash = joined_by c.change c.document;
})

-- ---- a record

-- A change is accepted on a document that is open.
abbrev IsOpen : Session → ChangeData → Type 0
IsOpen s p = (entry : DocumentItem) × (entry_at s.server.table p.uri ≡ Some entry)

open_at : (s : Session) (r : Record) (p : ChangeData) → change_in (incoming_of (reading r.body)) ≡ Some p
    → (judge s r).verdict ≡ answered changed → IsOpen s p
open_at s r p is accepts =
    let a = was_accepted s r p is accepts in
    let may = change_parts s.server.config.limits (units_in (session_encoding s.server)) s.server.table p.uri p.version
    (map content_change_from_data p.changes) a.may in
    (may.entry, may.is_open)

-- By the changes of a series and by the bytes that are kept of it the same is written at a record, and the same series
-- is open after it.
abbrev IsSame : List SeriesChange → Option SeriesChange → RecordOutput → Step → Type 0
IsSame series change given step =
    (squash_output series change given.out given.end ≡ record { out = step.out; end = step.end })
    × (step.end ≡ None → kept_of (series_after series change) ≡ step.series)

module _ (s : Session) (r : Record) where
  abbrev front : List ℕ
  front = front_of r.head

  -- what is written of it without squash
  abbrev each : Option ChangeData → Verdict → RecordOutput
  each change verdict =
      unless_bad r verdict (written s.server.config.limits.max_body r front (canonical_if s.server change verdict))

  abbrev IsSameAt : List SeriesChange → Option ChangeData → Verdict → Type 0
  IsSameAt series change verdict = IsSame series (change_if s r (each change verdict).out change verdict)
      (each change verdict) (step_if s.server r front (kept_of series) change verdict)

  -- any record but an accepted change
  other : (series : List SeriesChange)
      → IsSame series None (writes (front ++ r.raw)) (other_step r front (kept_of series))
  other series = (ap (λ b. writes (b ++ (front ++ r.raw))) (series_is series), λ e. refl)

  module _ (p : ChangeData) (entry : DocumentItem) (is_open : entry_at s.server.table p.uri ≡ Some entry) where
    abbrev single : List ℕ
    single = front ++ frame (canonical_change_body s.server p)

    abbrev c : SeriesChange
    c = change_on s r single p entry

    begins : kept_of (c ∷ []) ≡ begun s.server p front single
    begins = kept_one c ∙ sym (ap (begun_on s.server p front single) is_open)

    module _ (first : SeriesChange) (more : List SeriesChange) where
      abbrev step_by : Bool → Step
      step_by joins = if joins then record {
        out = [];
        end = None;
        series = Some (longer (kept_series first more) p single);
      } else record {
        out = open_bytes (kept_series first more);
        end = None;
        series = begun s.server p front single;
      }

      joined_by_test : (joins : Bool)
          → (writes (if joins then [] else series_written (first ∷ more))
          ≡ record { out = (step_by joins).out; end = (step_by joins).end })
          × ((step_by joins).end ≡ None
          → kept_of (if joins then (first ∷ more) ++ c ∷ [] else c ∷ []) ≡ (step_by joins).series)
      joined_by_test true = (refl, λ e. kept_more first more c)
      joined_by_test false = (ap writes (series_is (first ∷ more)), λ e. begins)

    goes_on : (series : List SeriesChange)
        → IsSame series (Some c) (writes single) (change_output s.server p front single (kept_of series))
    goes_on [] = (refl, λ e. begins)
    goes_on (first ∷ more) =
        subst (λ uri. IsSame (first ∷ more) (Some c) (writes single) (step_by first more (bytes_eq p.uri uri)))
        (sym (joined_uri first.document (first ∷ more)))
        (joined_by_test first more (bytes_eq p.uri first.document.uri))

    -- its message is too long, or it isn't
    module _ (series : List SeriesChange) where
      abbrev given_if : Bool → RecordOutput
      given_if over = if over then ends [] (Err (BodyTooLong r.head.place)) else writes single

      abbrev IsSameIf : Bool → Option DocumentItem → Type 0
      IsSameIf over found = IsSame series (option_map (change_on s r (given_if over).out p) found) (given_if over)
          (if over then faulty (BodyTooLong r.head.place)
          else change_output s.server p front single (kept_of series))

      by_length : (over : Bool) → IsSameIf over (Some entry)
      by_length true = (refl, λ e. absurd (let wrong : Some (Err (BodyTooLong r.head.place)) ≡ None = e in cc))
      by_length false = goes_on series

      accepted : IsSameAt series (Some p) (answered changed)
      accepted =
          let over = nat_lt s.server.config.limits.max_body (length (canonical_change_body s.server p)) in
          subst (IsSameIf over) (sym is_open) (by_length over)

  same : (series : List SeriesChange) (change : Option ChangeData) (verdict : Verdict)
      → ((p : ChangeData) → change ≡ Some p → verdict ≡ answered changed → IsOpen s p)
      → IsSameAt series change verdict
  same series None bad opens =
      (refl, λ e. absurd (let wrong : Some (Err (BadLog r.head.place)) ≡ None = e in cc))
  same series (Some p) bad opens =
      (refl, λ e. absurd (let wrong : Some (Err (BadLog r.head.place)) ≡ None = e in cc))
  same series None (answered (reply m)) opens = other series
  same series (Some p) (answered changed) opens =
      let found = opens p refl refl in
      accepted p found.0 found.1 series
  same series _ _ opens = other series

-- ---- all records

same_on : (a b : RecordOutput) (c d : RunOutput) → a ≡ b → (b.end ≡ None → c ≡ d)
    → followed_by a.out a.end c ≡ followed_by b.out b.end d
same_on a b c d is later = grind (arith, common_steps)

abbrev ended : Session → List ℕ → RunOutput
ended s bytes
    = record { out = []; stop = None; last = λ line_due. bytes ++ line_if line_due; outcome = session_outcome s }

series_are : (s : Session) (series : List SeriesChange) (rs : List Record) → output_in squashing series s rs
    ≡ squashed_in s (kept_of series) rs
series_are s series [] = ap (ended s) (series_is series)
series_are s series (r ∷ rs) =
    let j = judge s r in
    let next = squashing.next series s r j in
    let step = squash_step s (kept_of series) r j in
    let here = same s r series (change_in (incoming_of (reading r.body))) j.verdict (open_at s r) in
    same_on (squashing.record_output series s r j) (record { out = step.out; end = step.end })
    (output_in squashing next j.session rs) (squashed_in j.session step.series rs) here.0
    (λ e. series_are j.session next rs ∙ ap (λ (k : Option OpenSeries). squashed_in j.session k rs) (here.1 e))

-- What is written by the changes of each series is what the code makes.
pub squashed_at : (settings : Settings) (records : List Record)
    → squashed settings records ≡ squashed_steps settings records
squashed_at settings records = series_are (opened (log_config settings)) [] records

pub squashed_is : squashed_steps ≡ squashed
squashed_is = λ i. λ settings records. sym (squashed_at settings records) i

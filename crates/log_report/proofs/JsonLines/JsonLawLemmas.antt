-- All lines of `trace`.
use Rattle.log_report.proofs.Prelude.{ℕ, suc, ◌^◌, ◌<◌, List, [], ◌∷◌, refl, arith, All, Json, LimitsData, AreInRange, reading, incoming_of, Record, Details, followed_by, unless_bad, writes, RunOutput, Known, known_after, Session, Verdict, bad, judge, trace_line, tracing, AreJsonLines, IsJsonLine, TraceJsonLaw, trace_value, unless_bad_value, values_from, common_steps, output_in, lines}
use Rattle.log_report.proofs.JsonLines.FitLemmas.{IsFit, judged_fits}
use Rattle.log_report.proofs.JsonLines.LineLemmas.{trace_json}

by_verdict : (verdict : Verdict) (r : Record) (line : List ℕ) (value : Json) (c : RunOutput) (values : List Json)
    → IsJsonLine line value → AreJsonLines c.out values
    → AreJsonLines (followed_by (unless_bad r verdict (writes line)).out (unless_bad r verdict (writes line)).end c).out
    (unless_bad_value verdict value values)
by_verdict bad r line value c values is more = refl
by_verdict _ r line value c values is more = (line, c.out, refl, is, more)

module _ (limits : LimitsData) (ranges : AreInRange limits) (details : Details) where
  lines_json : (known : Known) (s : Session) (rs : List Record) → All (λ (r : Record). r.head.place < 2 ^ 64) rs
      → IsFit limits known s → AreJsonLines (output_in (lines (tracing details)) known s rs).out
      (values_from details known s rs)
  lines_json known s [] places fits = refl
  lines_json known s (r ∷ rs) places fits =
      let next = known_after known s r.head r.body (judge s r) in
      by_verdict (judge s r).verdict r (trace_line details known s r (judge s r) (incoming_of (reading r.body)))
      (trace_value details known s r (judge s r) (incoming_of (reading r.body)))
      (output_in (lines (tracing details)) next (judge s r).session rs)
      (values_from details next (judge s r).session rs)
      (trace_json limits ranges details known s r fits (places 0 r (omega arith)))
      (lines_json next (judge s r).session rs (λ k d l. places (suc k) d (omega arith))
      (judged_fits limits known s r fits))

pub trace_json_law : TraceJsonLaw
trace_json_law settings details records ranges places = grind (arith, common_steps, lines_json)

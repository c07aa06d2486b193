-- How the versions of a document grow, and which version breaks its habit.
use Rattle.std.specs.Prelude.{◌==◌, ◌&&◌, ◌||◌, ◌-◌, ◌-ℤ◌, ◌/◌, if◌then◌else◌, ◌∷◌}
use Rattle.log_report.specs.Prelude.{ℕ, ℤ, Bool, not, nat_le, int_le, List, [], Option, Some, None, unsigned_abs, one_more, Note}
use Rattle.log_session.specs.Session.{count_if}
use Rattle.log_report.specs.declared.growths.Grown.{Grown}
use Rattle.log_report.specs.declared.growths.Pace.{Pace}
use Rattle.log_report.specs.declared.notes.Note.TheVariants.{OddVersion}

-- A version and the one that was sent before, if that is lower, and how many changes came with it.
abbrev pub grown_by : ℤ → ℤ → ℕ → Option Grown
grown_by sent before changes = if int_le sent before then None else Some (record {
  sent = sent;
  before = before;
  by = unsigned_abs (sent -ℤ before);
  changes = changes;
})

-- ---- how they grew

-- Before the first change.
abbrev pub no_pace : Pace
no_pace = record { changes = 0; step = 0; lead = 0; batches = 0 }

-- After a change. `step` is what most versions grew by, if most grew by the same: each that did votes
-- for it, and each other one against it (Boyer and Moore's vote). It leads by `lead` votes.
abbrev pub step_after : Pace → ℕ → ℕ
step_after pace by = if pace.lead == 0 then by else pace.step

abbrev pub lead_after : Pace → ℕ → ℕ
lead_after pace by =
    if pace.lead == 0 || by == pace.step then one_more pace.lead else pace.lead - 1

-- `batches` counts those that grew by the number of their changes.
abbrev pub pace_after : Pace → Grown → Pace
pace_after pace grown = record {
  changes = one_more pace.changes;
  step = step_after pace grown.by;
  lead = lead_after pace grown.by;
  batches = count_if (grown.by == grown.changes) pace.batches;
}

-- ---- habits

-- Is it a habit that so many of some changes did the same? Not of the first four.
abbrev pub is_usual : ℕ → ℕ → Bool
is_usual changes count = nat_le 4 count && nat_le (changes - changes / 8) count

-- Do versions grow by the same, or by the number of changes?
abbrev pub has_step : Pace → Bool
has_step pace = is_usual pace.changes pace.lead

abbrev pub has_batches : Pace → Bool
has_batches pace = is_usual pace.changes pace.batches

-- What they grow by, if it is the same; else it is the number of changes.
abbrev pub usual_step : Pace → Option ℕ
usual_step pace = if has_step pace then Some pace.step else None

-- Is there a habit, and does a version break each that there is?
abbrev pub is_odd : Pace → Grown → Bool
is_odd pace grown = (has_step pace || has_batches pace)
    && not (has_step pace && grown.by == pace.step)
    && not (has_batches pace && grown.by == grown.changes)

-- The note of such a version.
abbrev pub odd_notes : Pace → Option Grown → List Note
odd_notes pace None = []
odd_notes pace (Some grown) = if is_odd pace grown
    then OddVersion grown.sent grown.before grown.changes (usual_step pace) ∷ [] else []

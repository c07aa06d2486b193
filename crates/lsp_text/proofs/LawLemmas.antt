-- The laws over places, names, units and lines.
use Rattle.lsp_text.proofs.Prelude.{◌≡◌, ◌+◌, ◌<◌, ◌≤◌, length, refl, ap, ◌∙◌, arith, ⊎_elim, if◌then◌else◌, chars, encodes-chars, StartsLaw, common_steps}
use Rattle.lsp_text.specs.laws.Places.{RisingLaw, EndsLaw, BoundaryLaw}
use Rattle.lsp_text.proofs.Positions.PlaceLemmas.{place_rises, place_one, place_end, index_at}
use Rattle.lsp_text.proofs.TextLines.LineLemmas.{line_has_start, in_content_line}
use Rattle.lsp_text.proofs.Positions.ExactLemmas.{start_before, start_place}
use Rattle.std.proofs.lemmas.Grind.{common_steps}

pub rising_law : RisingLaw
rising_law text j k before within = omega (arith, place_rises text j k (omega arith) within)

pub ends_law : EndsLaw
ends_law bytes utf8 = (refl, place_end (chars bytes) ∙ ap length (encodes-chars bytes utf8))

pub boundary_law : BoundaryLaw
boundary_law bytes place utf8 boundary =
    let found = index_at bytes place utf8 boundary in
    (found.index, grind (arith, common_steps, place_one))

-- A line starts at its first index, and the kept start is that index's place.
pub starts_law : StartsLaw
starts_law text line there = grind (arith, common_steps, line_has_start, in_content_line, start_before, start_place)

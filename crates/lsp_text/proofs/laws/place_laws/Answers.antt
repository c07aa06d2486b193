use Rattle.lsp_text.proofs.Positions.PlaceLemmas.{place_boundary, take_place, drop_place, part_place, place_add}
use Rattle.lsp_text.proofs.LawLemmas.{rising_law, ends_law, boundary_law}
use Rattle.lsp_text.proofs.laws.place_laws.Goals as goal

pub returns : goal.returns
returns c = record {
  rising = rising_law;
  ends = ends_law;
  boundary = boundary_law;
  index = place_boundary;
  before = take_place;
  between = part_place;
  after = drop_place;
  further = place_add;
}

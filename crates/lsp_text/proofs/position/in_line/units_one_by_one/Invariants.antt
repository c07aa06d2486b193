use Rattle.lsp_text.proofs.Prelude.{◌≡◌, ◌*◌, ◌≤◌, take, sum_by}
use Rattle.lsp_text.proofs.position.in_line.units_one_by_one.Given as goal

abbrev pub invariant-loop-byte : goal.invariant-loop-byte
invariant-loop-byte g l = record {
  counted : l.units ≡ sum_by g.L.LeadUnits.lead_units (take l.byte-index l.bytes);
  few : l.units ≤ 4 * l.byte-index;
}

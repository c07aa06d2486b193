use Rattle.lsp_text.proofs.Prelude.{◌≡◌, ◌*◌, ◌≤◌, take, drop, sum_by}
use Rattle.lsp_text.proofs.position.in_line.units_of_block.Given as goal

abbrev pub invariant-loop-index : goal.invariant-loop-index
invariant-loop-index g l = record {
  counted : l.units ≡ sum_by g.L.LeadUnits.lead_units (take l.index (drop l.place l.bytes));
  few : l.units ≤ 4 * l.index;
}

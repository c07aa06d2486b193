use Rattle.lsp_text.proofs.Prelude.{◌≡◌, ◌*◌, ◌≤◌, take, sum_by}
use Rattle.lsp_text.proofs.position.in_line.units_of_bytes.Given as goal

abbrev pub invariant-loop-block : goal.invariant-loop-block
invariant-loop-block g l = record {
  counted : l.units ≡ sum_by g.L.LeadUnits.lead_units (take (32 * l.block) l.bytes);
  few : l.units ≤ 255 * l.block;
}

use Rattle.lsp_text.proofs.Prelude.{◌≡◌, ◌+◌, ◌-◌, ◌≤◌, length, drop, option_map, byte_place}
use Rattle.lsp_text.proofs.position.in_line.pass_blocks.Given as goal

abbrev pub invariant-loop-place : goal.invariant-loop-place
invariant-loop-place g l = record {
  within : l.place ≤ length l.bytes;
  rest : option_map (λ n. l.place + n) (byte_place g.L.LeadUnits.lead_units (drop l.place l.bytes) l.left)
      ≡ byte_place g.L.LeadUnits.lead_units l.bytes l.fn.character;
}

abbrev pub decreases-loop-place : goal.decreases-loop-place
decreases-loop-place g l = length l.bytes - l.place

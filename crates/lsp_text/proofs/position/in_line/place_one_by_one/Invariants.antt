use Rattle.lsp_text.proofs.Prelude.{◌≡◌, ◌+◌, drop, option_map, byte_place}
use Rattle.lsp_text.proofs.position.in_line.place_one_by_one.Given as goal

abbrev pub invariant-loop-place : goal.invariant-loop-place
invariant-loop-place g l =
    option_map (λ n. l.place + n) (byte_place g.L.LeadUnits.lead_units (drop l.place l.bytes) l.left)
    ≡ byte_place g.L.LeadUnits.lead_units l.bytes l.character

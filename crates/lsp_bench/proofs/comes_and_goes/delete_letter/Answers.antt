use Rattle.std.proofs.Common.{arith, rules, ◌+◌, ◌≤◌, length, []}
use Rattle.lsp_buffer.proofs.Changes.ChangeLemmas.{replaced_length}
use Rattle.lsp_bench.proofs.comes_and_goes.delete_letter.Goals as goal

pub replace_range-requires-clause-room : goal.replace_range-requires-clause-room
replace_range-requires-clause-room c =
    let within : c.args.at + 1 ≤ length c.args.text.now = search rules in
    omega (arith, replaced_length c.args.text.now [] c.args.at (c.args.at + 1) (omega arith) within, c.len.ensures.size)

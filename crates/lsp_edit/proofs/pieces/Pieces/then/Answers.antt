use Rattle.lsp_edit.proofs.Prelude.{ap, arith, length, parts_of, same_edited, ◌<◌, ◌∙◌}
use Rattle.lsp_edit.proofs.Batches.ComposeLemmas.{then_associative}
use Rattle.lsp_edit.proofs.Composing.ThenLemmas.{both, then_holds, then_told}
use Rattle.lsp_edit.proofs.pieces.Pieces.then.Goals as goal

pub spans_through-requires : goal.spans_through-requires
spans_through-requires c =
    let is = both c.first.invariant.0 c.second.invariant.0 (same_edited c.first.view_is) (same_edited c.second.view_is)
    c.requires in
    rw (c.as_slice.ensures, c.as_slice-2.ensures) (record { through = is.through; order = is.order })

pub invariant_of-result : goal.invariant_of-result
invariant_of-result c =
    let made = ap parts_of c.new.ensures ∙ (rw (c.as_slice.ensures, c.as_slice-2.ensures) at c.in_ok-spans.ensures) in
    let small : length c.new.result < 18446744073709551616 =
    omega (arith, ap length c.new.ensures, c.in_ok-spans.spans.ok, c.in_ok-spans.spans.small) in
    rw c.get.ensures (
      then_holds c.first.invariant.0 c.second.invariant.0 (same_edited c.first.view_is)
          (same_edited c.second.view_is) c.requires c.new.result made small _ c.saturating_add.ensures,
      tt,
    )

pub returns-clause-composed : goal.returns-clause-composed
returns-clause-composed c =
    let made = ap parts_of c.new.ensures ∙ (rw (c.as_slice.ensures, c.as_slice-2.ensures) at c.in_ok-spans.ensures) in
    let small : length c.new.result < 18446744073709551616 =
    omega (arith, ap length c.new.ensures, c.in_ok-spans.spans.ok, c.in_ok-spans.spans.small) in
    rw c.get.ensures (then_told c.first.invariant.0 c.second.invariant.0 (same_edited c.first.view_is)
    (same_edited c.second.view_is) c.requires c.new.result made small _ c.saturating_add.ensures)

pub returns-clause-associative : goal.returns-clause-associative
returns-clause-associative c third =
    then_associative c.args.first.now.edited.items c.args.second.now.edited.items third

pub returns-in_err-spans-clause-associative : goal.returns-in_err-spans-clause-associative
returns-in_err-spans-clause-associative c third =
    then_associative c.args.first.now.edited.items c.args.second.now.edited.items third

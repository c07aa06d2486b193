use Rattle.lsp_edit.proofs.Prelude.{arith, subst, replaced_length, IsOn}
use Rattle.lsp_edit.proofs.Deltas.DeltaLemmas.{put_in}
use Rattle.lsp_edit.proofs.indexed.IndexedText.apply.Goals as goal

pub replace_range-requires : goal.replace_range-requires
replace_range-requires c =
    let on = subst (IsOn c.args.self.now) c.in-Put.is c.requires.on in
    let r = put_in _ _ _ _ _ on in
    rw c.self.view_is (record {
      order = r.order;
      at_start = r.at_start;
      at_end = r.at_stop;
      room = omega (
        arith,
        replaced_length c.args.self.now c.in-Put.put.new.now _ _ r.order r.at_stop.0,
        on.size,
        on.short,
      );
    })

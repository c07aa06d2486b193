use Rattle.lsp_edit.proofs.Prelude.{length, ap, arith, IsUtf8-string_bytes, err_from_is_err_and, units_in, common_steps, replaced_length, string_bytes}
use Rattle.lsp_edit.proofs.Composing.AppliedLemmas.{places_seen}
use Rattle.lsp_edit.proofs.Batches.DraftLemmas.{change_in_place, is_ranged, is_whole, range_faulted}
use Rattle.lsp_edit.proofs.indexed.IndexedText.after.Goals as goal

pub returns-in-None-clause-ok : goal.returns-in-None-clause-ok
returns-in-None-clause-ok c =
    is_whole (units_in c.args.encoding) c.args.self c.args.change.now _ _ (IsUtf8-string_bytes c.args.change.now.text)
    c.in-None.is (grind (arith, common_steps))

pub returns-in_err-start-clause-error : goal.returns-in_err-start-clause-error
returns-in_err-start-clause-error c =
    let p = err_from_is_err_and c.from_residual-in_err-start.result c.from_residual-in_err-start.ensures.1 in
    rw (p.1, p.2)
    (range_faulted (units_in c.args.encoding) c.args.number c.args.self c.in-Some.range c.args.change.now _ c.in-Some.is
    (places_seen (units_in c.args.encoding) c.args.number c.in-Some.range _ _ _ c.text.ensures c.in_err-start.ensures))

pub replace_range-requires : goal.replace_range-requires
replace_range-requires c =
    let r = change_in_place (units_in c.args.encoding) c.args.number c.args.self c.in-Some.range c.args.change.now _ _
    c.len.ensures.utf8 (places_seen (units_in c.args.encoding) c.args.number c.in-Some.range _ _ _ c.text.ensures
    c.in_ok-start.ensures) in
    let long = replaced_length c.args.self (string_bytes c.args.change.now.text) _ _ r.order r.at_stop.0 in
    rw (c.self.view_is, c.as_str-new.ensures.value) (record {
      order = r.order;
      at_start = r.at_start;
      at_end = r.at_stop;
      room = omega (arith, c.requires, c.args.change.now.text.bytes.ok.0);
    })

pub returns-clause-ok : goal.returns-clause-ok
returns-clause-ok c =
    is_ranged (units_in c.args.encoding) c.args.number c.args.self _ c.in-Some.range c.args.change.now _ _
    c.len.ensures.utf8 c.in-Some.is
    (places_seen (units_in c.args.encoding) c.args.number c.in-Some.range _ _ _ c.text.ensures c.in_ok-start.ensures)
    (rw (c.self.view_is, c.as_str-new.ensures.value) at c.in_ok-replace_range.ensures.changed)

pub returns-clause-longer : goal.returns-clause-longer
returns-clause-longer c =
    let r = change_in_place (units_in c.args.encoding) c.args.number c.args.self c.in-Some.range c.args.change.now _ _
    c.len.ensures.utf8 (places_seen (units_in c.args.encoding) c.args.number c.in-Some.range _ _ _ c.text.ensures
    c.in_ok-start.ensures) in
    let long = replaced_length c.args.self (string_bytes c.args.change.now.text) _ _ r.order r.at_stop.0 in
    let made = rw (c.self.view_is, c.as_str-new.ensures.value) at c.in_ok-replace_range.ensures.changed in
    omega (arith, ap length made, c.args.change.now.text.bytes.ok.0)

use Rattle.lsp_buffer.proofs.Prelude.{◌≡◌, ◌+◌, ◌≤◌, ℕ, List, length, string_bytes, string_len, string_capacity, sym, ap, ◌∙◌, subst, arith, IsUtf8-string_bytes, replace_range, IsCharBoundary}
use Rattle.lsp_buffer.proofs.Changes.InPlaceLemmas.{start_again, undone, put_back, replaced_len, removed_len, at_err}
use Rattle.lsp_buffer.proofs.block.SharedText.replace_range.Goals as goal

boundary : {old now : List ℕ} (place : ℕ) → old ≡ now → IsCharBoundary now place → IsCharBoundary old place
boundary place same at = subst (λ bytes. IsCharBoundary bytes place) (sym same) at

pub replace_range-requires-clause-start_boundary : goal.replace_range-requires-clause-start_boundary
replace_range-requires-clause-start_boundary c =
    rw (c.in_ok-replace_bytes.ensures.bytes, c.in_ok-reserve.ensures.bytes)
    (start_again (string_bytes c.self.inside.text) (IsUtf8-string_bytes c.self.inside.text) c.args.start c.args.end
    c.args.new.now c.utf8.new c.requires.order (boundary c.args.start c.self.view_is c.requires.at_start)
    (boundary c.args.end c.self.view_is c.requires.at_end))

pub returns-then-is_err-clause-unchanged : goal.returns-then-is_err-clause-unchanged
returns-then-is_err-clause-unchanged c =
    let old : List ℕ = string_bytes c.self.inside.text in
    let at_start = boundary c.args.start c.self.view_is c.requires.at_start in
    let at_end = boundary c.args.end c.self.view_is c.requires.at_end in
    let now : string_bytes c.replace_bytes.new.text ≡ replace_range old c.args.start c.args.end c.args.new.now =
    rw c.in_ok-reserve.ensures.bytes at c.in_ok-replace_bytes.ensures.bytes in
    let gone = c.deref-then-is_err.ensures ∙ (c.in_ok-removed.ensures.ok ∙ (rw c.deref.ensures at c.range.ensures.value)) in
    let room : string_len c.replace_bytes.new.text + length c.deref-then-is_err.result.now ≤ string_capacity
    c.replace_bytes.new.text =
    omega (
      arith,
      ap length now,
      ap length gone,
      removed_len old c.args.start c.args.end,
      replaced_len old (IsUtf8-string_bytes c.self.inside.text) c.args.start c.args.end c.args.new.now c.utf8.new
          c.requires.order at_start at_end,
      c.replace_bytes.new.text.bytes.ok.0,
      c.self.inside.text.bytes.ok.0,
      c.requires.order,
      at_end.0,
      c.in_ok-reserve.ensures.ok,
      c.in_ok-reserve.ensures.len,
      c.in_ok-replace_bytes.ensures.capacity,
    ) in
    put_back c.replace_range.result _ _ _ _ c.replace_range.ensures.bytes c.replace_range.ensures.full room
    ∙ rw (
      now,
      gone,
    ) (undone old (IsUtf8-string_bytes c.self.inside.text) c.args.start c.args.end c.args.new.now c.utf8.new
    c.requires.order at_start at_end)
    ∙ c.self.view_is

pub invariant_of-self-then-is_err : goal.invariant_of-self-then-is_err
invariant_of-self-then-is_err c =
    rw (
      returns-then-is_err-clause-unchanged c ∙ sym c.self.view_is,
      at_err _ c.splice.result (sym c.is_err.ensures.value ∙ c.if-is_err.true) c.splice.ensures.unchanged,
    ) c.self.invariant

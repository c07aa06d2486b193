use Rattle.lsp_buffer.proofs.Prelude.{◌≡◌, ◌≤◌, ◌+◌, ◌-◌, ℕ, List, length, set, ap, refl, sym, ◌∙◌, subst, arith, common_steps, with_items_is, concat, replace_range, IsCharBoundary, BlockRange, AreGroups, IsChange, IsRangeOf, StaysInside, text_after}
use Rattle.lsp_buffer.proofs.Changes.ChangeLemmas.{put_are, put_back, put_size, put_text, replaced_length}
use Rattle.lsp_buffer.proofs.text_buffer.TextBuffer.replace_range.Goals.{then-stays_inside+in_ok-replace_range, else-stays_inside+in_ok-replace_across}
use Rattle.lsp_buffer.proofs.text_buffer.TextBuffer.replace_range.Goals as goal
use Rattle.std.proofs.lemmas.Grind.{common_steps}

-- The range that was found is one of the blocks.
is_change : (blocks read : List (List ℕ)) (text : List ℕ) (start stop : ℕ) (range : BlockRange) (new : List ℕ)
    → read ≡ blocks → concat blocks ≡ text → IsRangeOf read start stop range
    → length (replace_range text start stop new) ≤ 2147483648 → IsChange blocks range new
is_change blocks read text start stop range new same view is room =
    subst (λ bs. IsChange bs range new) same
    (grind (arith, common_steps, replace_range, is.change))

-- What is left is the changed text.
is_text : (blocks read : List (List ℕ)) (text : List ℕ) (start stop : ℕ) (range : BlockRange) (new : List ℕ)
    → read ≡ blocks → concat blocks ≡ text → IsRangeOf read start stop range
    → text_after blocks range new ≡ replace_range text start stop new
is_text blocks read text start stop range new same view is =
    ap (λ bs. text_after bs range new) (sym same) ∙ is.text new
    ∙ ap (λ t. replace_range t start stop new) (ap concat same ∙ view)

-- So long it is.
is_long : (text after new : List ℕ) (start stop len : ℕ) → after ≡ replace_range text start stop new → start ≤ stop
    → IsCharBoundary text stop → len ≡ length text → len - (stop - start) + length new ≡ length after
is_long text after new start stop len is order at_end same =
    omega (arith, ap length is, replaced_length text new start stop order at_end.0)

pub recount-requires : goal.recount-requires
recount-requires c =
    let blocks = c.self.inside.blocks.items in
    let range = c.range_of-range.result in
    let new = c.args.new.now in
    let change = is_change blocks c.deref.result.now c.args.self.now c.args.start c.args.end range new c.deref.ensures.value
    c.self.view_is c.range_of-range.ensures c.requires.room in
    let inside : StaysInside blocks range new =
    subst (λ bs. StaysInside bs range new) c.deref-3.ensures.value (c.stays_inside.ensures.0 c.if-stays_inside.true) in
    record {
      are = put_are blocks range new change inside c.index_mut.result.now c.index_mut.ensures.value
          c.replace_range.new.self c.deref-then-stays_inside.result.now c.in_ok-replace_range.ensures.changed
          c.deref-then-stays_inside.ensures.value c.utf8.new;
      size = put_size blocks range new change inside c.index_mut.result.now c.index_mut.ensures.value
          c.replace_range.new.self c.deref-then-stays_inside.result.now c.in_ok-replace_range.ensures.changed
          c.deref-then-stays_inside.ensures.value;
      other = (
        c.index_mut.result.now,
        subst (λ (bs : List (List ℕ)). AreGroups bs c.deref_mut.result.now)
            (sym (put_back blocks range new change inside c.index_mut.result.now c.index_mut.ensures.value
            c.replace_range.new.self c.deref-then-stays_inside.result.now c.in_ok-replace_range.ensures.changed
            c.deref-then-stays_inside.ensures.value))
            (grind (arith, common_steps, c.deref_mut.ensures.value, c.self.invariant.0.groups_are)),
      );
    }

-- The bytes are the changed text, whichever way.
text_is : (c : goal.After-self-2-1) → concat c.if-stays_inside.self-inside.blocks.items
    ≡ replace_range c.args.self.now c.args.start c.args.end c.args.new.now
text_is c =
    let blocks = c.self.inside.blocks.items in
    let range = c.range_of-range.result in
    let new = c.args.new.now in
    let change = is_change blocks c.deref.result.now c.args.self.now c.args.start c.args.end range new c.deref.ensures.value
    c.self.view_is c.range_of-range.ensures c.requires.room in
    let text = is_text blocks c.deref.result.now c.args.self.now c.args.start c.args.end range new c.deref.ensures.value
    c.self.view_is c.range_of-range.ensures in
    elim c.if-stays_inside.branch [
      | then-stays_inside+in_ok-replace_range w ↦
          let inside : StaysInside blocks range new =
          subst (λ bs. StaysInside bs range new) c.deref-3.ensures.value
          (c.stays_inside.ensures.0 w.if-stays_inside.true) in
          rw w.self-inside-is
          (put_text blocks range new change inside w.index_mut.result.now w.index_mut.ensures.value
          w.replace_range.new.self (set blocks range.first w.replace_range.new.self)
          w.in_ok-replace_range.ensures.changed refl ∙ text)
      | else-stays_inside+in_ok-replace_across w ↦
          rw w.self-inside-is (w.in_ok-replace_across.ensures.changed ∙ text)
    ]

pub invariant_of-self-2 : goal.invariant_of-self-2
invariant_of-self-2 c =
    let blocks = c.self.inside.blocks.items in
    let range = c.range_of-range.result in
    let new = c.args.new.now in
    let change = is_change blocks c.deref.result.now c.args.self.now c.args.start c.args.end range new c.deref.ensures.value
    c.self.view_is c.range_of-range.ensures c.requires.room in (
      elim c.if-stays_inside.branch [
        | then-stays_inside+in_ok-replace_range w ↦
            let inside : StaysInside blocks range new =
            grind (arith, common_steps, c.deref-3.ensures.value, c.stays_inside.ensures.0, w.if-stays_inside.true) in
            rw w.self-inside-is (record {
              are = put_are blocks range new change inside w.index_mut.result.now w.index_mut.ensures.value
                  w.replace_range.new.self (set blocks range.first w.replace_range.new.self)
                  w.in_ok-replace_range.ensures.changed refl c.utf8.new;
              size = grind (arith, common_steps, put_size, w.index_mut.ensures.value, w.in_ok-replace_range.ensures.changed);
              groups_are = grind (arith, common_steps, with_items_is);
            })
        | else-stays_inside+in_ok-replace_across w ↦ rw w.self-inside-is w.replace_across.ensures.are
      ],
      is_long c.args.self.now _ new c.args.start c.args.end c.self.inside.len (text_is c) c.requires.order
          c.requires.at_end (c.self.invariant.1 ∙ ap length c.self.view_is),
    )

pub returns-clause-changed : goal.returns-clause-changed
returns-clause-changed c = text_is c

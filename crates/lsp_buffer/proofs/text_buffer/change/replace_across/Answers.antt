use Rattle.lsp_buffer.proofs.Prelude.{◌∙◌, ℕ, List, ap, subst, concat, string_bytes, IsFull, IsTaken, AreFull}
use Rattle.lsp_buffer.proofs.Changes.ChangeLemmas.{cut_is, cut_text}
use Rattle.lsp_buffer.proofs.text_buffer.change.replace_across.Goals as goal

pub fill-requires : goal.fill-requires
fill-requires c =
    let taken : IsTaken c.args.blocks.now.items c.args.range c.args.new.now (string_bytes c.in_ok-taken.taken.text)
    c.in_ok-taken.taken.past =
    subst (λ (bs : List (List ℕ)). IsTaken bs c.args.range c.args.new.now (string_bytes c.in_ok-taken.taken.text)
    c.in_ok-taken.taken.past) c.deref.ensures.value c.in_ok-taken.ensures in
    let full : IsFull (string_bytes c.in_ok-taken.taken.text) → AreFull c.in_ok-fresh.fresh.items =
    subst (λ (t : List ℕ). IsFull t → AreFull c.in_ok-fresh.fresh.items) c.deref-2.ensures c.in_ok-fresh.ensures.full in
    cut_is c.args.blocks.now.items c.args.range c.args.new.now c.requires.change (string_bytes c.in_ok-taken.taken.text)
    c.in_ok-taken.taken.past c.in_ok-fresh.fresh.items taken (c.in_ok-fresh.ensures.text ∙ c.deref-2.ensures)
    c.in_ok-fresh.ensures.blocks full c.deref-3.result.now c.args.groups.now.items c.truncate.new.self.items
    (c.deref-3.ensures.value ∙ c.in_ok-replace_blocks.ensures.ok) c.requires.groups c.truncate.ensures.items

pub returns-clause-changed : goal.returns-clause-changed
returns-clause-changed c =
    let taken : IsTaken c.args.blocks.now.items c.args.range c.args.new.now (string_bytes c.in_ok-taken.taken.text)
    c.in_ok-taken.taken.past =
    subst (λ (bs : List (List ℕ)). IsTaken bs c.args.range c.args.new.now (string_bytes c.in_ok-taken.taken.text)
    c.in_ok-taken.taken.past) c.deref.ensures.value c.in_ok-taken.ensures in
    let full : IsFull (string_bytes c.in_ok-taken.taken.text) → AreFull c.in_ok-fresh.fresh.items =
    subst (λ (t : List ℕ). IsFull t → AreFull c.in_ok-fresh.fresh.items) c.deref-2.ensures c.in_ok-fresh.ensures.full in
    ap concat c.in_ok-replace_blocks.ensures.ok ∙ cut_text c.args.blocks.now.items c.args.range c.args.new.now
    c.requires.change (string_bytes c.in_ok-taken.taken.text) c.in_ok-taken.taken.past c.in_ok-fresh.fresh.items taken
    (c.in_ok-fresh.ensures.text ∙ c.deref-2.ensures) c.in_ok-fresh.ensures.blocks full

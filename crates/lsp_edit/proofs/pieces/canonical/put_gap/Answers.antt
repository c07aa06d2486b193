use Rattle.lsp_edit.proofs.Prelude.{ℕ, ◌≡◌, ◌<◌, ◌≤◌, ◌⊎◌, ◌∙◌, length, inl, inr, string_bytes, refl, chars, place_of, exact_position, units_in}
use Rattle.lsp_edit.proofs.Canonical.WalkLemmas.{gap_put, gap_skipped, text_some, text_none}
use Rattle.lsp_edit.proofs.pieces.canonical.put_gap.Goals.{then-high-low, else-high-low, then-low-high-via-then-low-high, then-low-high-via-else-low-high+then-not-is_empty}
use Rattle.lsp_edit.proofs.pieces.canonical.put_gap.Goals as goal

pub position-stop-requires : goal.position-stop-requires
position-stop-requires c =
    let changed : (c.args.low < c.args.high) ⊎ (0 < length (string_bytes c.args.text))
    = elim c.then-low-high.branch [
      | then-low-high-via-then-low-high w ↦ inl w.if-low-high.true
      | then-low-high-via-else-low-high+then-not-is_empty w ↦ inr (text_some c.args.text w.if-not-is_empty.ensures)
    ] in
    (c.requires.ends changed).1

pub returns-in_ok-push : goal.returns-in_ok-push
returns-in_ok-push c =
    let changed : (c.args.low < c.args.high) ⊎ (0 < length (string_bytes c.args.text))
    = elim c.then-low-high.branch [
      | then-low-high-via-then-low-high w ↦ inl w.if-low-high.true
      | then-low-high-via-else-low-high+then-not-is_empty w ↦ inr (text_some c.args.text w.if-not-is_empty.ensures)
    ] in
    let exact : (k : ℕ) → k ≤ length (chars c.args.before.now) → place_of (chars c.args.before.now) k ≡ c.args.high
    → c.if-high-low.stop ≡ exact_position (units_in c.args.encoding) (chars c.args.before.now) k
    = elim c.if-high-low.branch [
      | then-high-low w ↦ λ k within at.
          w.stop-is ∙ c.position-start.ensures.exact k within (at ∙ w.if-high-low.true)
      | else-high-low w ↦ λ k within at. w.stop-is ∙ w.position-stop.ensures.exact k within at
    ] in
    rw c.in_ok-push.ensures.items
    (gap_put c.args.before.now c.position-start.ensures.utf8 (units_in c.args.encoding) c.args.low c.args.high _ _
    c.position-start.result c.if-high-low.stop c.requires.low c.requires.high changed refl
    c.position-start.ensures.exact exact)

pub returns-else-not-is_empty : goal.returns-else-not-is_empty
returns-else-not-is_empty c = gap_skipped c.args.before.now (units_in c.args.encoding) _ _ _ _ c.if-low-high.false
    (text_none c.args.text c.if-not-is_empty.ensures)

-- A place in a row of spans, from which a walk over them goes on.
use Rattle.lsp_edit.proofs.Prelude.{rest_is, ℕ, zero, suc, ◌≡◌, ◌+◌, ◌<◌, ◌≤◌, List, length, take, drop, slice_index_or as get_or, sum_by, refl, sym, ap, ◌∙◌, subst, arith, take_more, sum_by_push, Span, part_of, parts_of, AreOrdered, IsMark, IsOrdered, span_len, common_steps}
use Rattle.lsp_edit.specs.declared.pieces.span.Span.TheVariants.{Old as OldSpan}
use Rattle.lsp_edit.proofs.Parts.PassingLemmas.{Passing, drop_ordered, first_ordered, passing_begins, span_passing}

before_more : (spans : List Span) (index : ℕ) (default : Span) → index < length spans
    → sum_by span_len (take (index + 1) spans) ≡ sum_by span_len (take index spans)
    + span_len (get_or spans index default)
before_more spans index default within = ap (sum_by span_len) (take_more spans index default within)
    ∙ sum_by_push span_len (take index spans) (get_or spans index default)

passing_at : (spans : List Span) (low index : ℕ) → index ≤ length spans → sum_by span_len (take index spans) ≤ low
    → AreOrdered (parts_of spans) → Passing (parts_of spans) (parts_of (take index spans)) (parts_of (drop index spans))
    (sum_by span_len (take index spans)) low
passing_at spans low zero within fits ordered = passing_begins (parts_of spans) low ordered
passing_at spans low (suc index) within fits ordered =
    let n : index + 1 ≡ suc index = omega arith in
    let less : index < length spans = omega (arith, within) in
    let more = before_more spans index (OldSpan 0 0) less in
    let all : sum_by span_len (take (index + 1) spans) ≤ low =
    subst (λ (k : ℕ). sum_by span_len (take k spans) ≤ low) (sym n) fits in
    let ih = passing_at spans low index (omega (arith, less)) (omega (arith, more, all)) ordered in
    subst (λ (k : ℕ). Passing (parts_of spans) (parts_of (take k spans)) (parts_of (drop k spans))
    (sum_by span_len (take k spans)) low) n
    (subst (λ (p : ℕ). Passing (parts_of spans) (parts_of (take (index + 1) spans)) (parts_of (drop (index + 1) spans))
    p low) (sym more)
    (span_passing spans index (OldSpan 0 0) (sum_by span_len (take index spans)) low
    (span_len (get_or spans index (OldSpan 0 0))) less refl (omega (arith, more, all)) ih))

-- A walk may begin at any place before the one that it goes to.
pub mark_passing : (spans : List Span) (index passed low : ℕ) → IsMark spans index passed → passed ≤ low
    → AreOrdered (parts_of spans) → Passing (parts_of spans) (parts_of (take index spans)) (parts_of (drop index spans))
    passed low
mark_passing spans index passed low mark order ordered = grind (arith, common_steps, passing_at)

-- each span's ends are in order
pub span_ordered : (spans : List Span) (index : ℕ) (default : Span) → index < length spans → AreOrdered (parts_of spans)
    → IsOrdered (part_of (get_or spans index default))
span_ordered spans index default within ordered =
    first_ordered (parts_of (drop index spans)) (part_of (get_or spans index default))
    (parts_of (drop (index + 1) spans)) (rest_is part_of spans index default (part_of (get_or spans index default))
    within refl) (drop_ordered spans index ordered)

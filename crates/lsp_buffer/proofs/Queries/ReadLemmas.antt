-- What is read of a text in blocks: places, chunks and slices.
use Rattle.lsp_buffer.proofs.Prelude.{ℕ, suc, ◌≡◌, ◌≢◌, ◌+◌, ◌-◌, ◌<◌, ◌≤◌, ◌↔◌, Bool, IsTrue, List, ◌++◌, length, take, drop, get_or, sym, ap, ◌∙◌, arith, subst, concat, chars, IsUtf8, IsCharBoundary, drop-cons, length-drop, take-append-drop, append_assoc, append_cancel_left, concat-append, IsPlace, common_steps}
use Rattle.lsp_text.proofs.Positions.BoundaryLemmas.{boundary_from}
use Rattle.lsp_buffer.proofs.Blocks.CutLemmas.{concat_more}
use Rattle.lsp_buffer.proofs.Queries.FoundLemmas.{IsPlaceFound, place_inner}
use Rattle.lsp_buffer.proofs.Blocks.PartLemmas.{boundary_in, place_outer, place_last}
use Rattle.std.proofs.lemmas.Grind.{common_steps}

module _ (bytes front block rest : List ℕ) (place from : ℕ)
    (found : IsPlaceFound bytes front block rest place from) where
  -- A test of a place in the block is one in the text.
  pub place_tested : (test : Bool) → (IsTrue test ↔ IsPlace (chars block) (place - from)) → IsTrue test
      ↔ IsPlace (chars bytes) place
  place_tested test is =
      let back : length front + (place - from) ≡ place = omega (arith, found.low, found.from_is) in (
        λ h. grind (arith, common_steps, (place_outer bytes front block rest found.parts (place - from) (is.0 h)), is.0),
        λ at. is.1 (place_inner bytes front block rest place from found at),
      )

  -- After the text from a place to the end of its block is a boundary.
  pub chunk_next : (text chunk : List ℕ) → IsUtf8 bytes → text ≡ block → chunk ≡ drop (place - from) text
      → IsCharBoundary bytes place → IsCharBoundary bytes (place + length chunk)
  chunk_next text chunk utf8 same is at =
      let inside : place - length front ≤ length block =
      (boundary_in bytes front block rest found.parts place found.low found.inside at).0 in
      let size : length chunk ≡ length text - (place - from) = ap length is ∙ length-drop (place - from) text in
      let end : length front + length block ≡ place + length chunk =
      omega (arith, size, ap length same, inside, found.low, found.from_is) in
      subst (IsCharBoundary bytes) end (boundary_from bytes (length front + length block) utf8
      (place_outer bytes front block rest found.parts (length block) (place_last bytes front block rest found.parts))).0

pub place_is_boundary : (bytes : List ℕ) (place : ℕ) (test : Bool) → IsUtf8 bytes
    → (IsTrue test ↔ IsPlace (chars bytes) place) → IsTrue test → IsCharBoundary bytes place
place_is_boundary bytes place test utf8 is h = (boundary_from bytes place utf8 (is.0 h)).0

-- Bytes that are compared with blocks, one after another.
pub text_more : (blocks : List (List ℕ)) (index : ℕ) (block rest back bytes : List ℕ) → index < length blocks
    → block ≡ get_or blocks index block → concat (take index blocks) ++ rest ≡ bytes → rest ≡ block ++ back →
    concat (take (index + 1) blocks) ++ back ≡ bytes
text_more blocks index block rest back bytes within at so_far rest_is =
    ap (λ x. x ++ back) (concat_more blocks index block within at) ∙
    (grind (arith, common_steps, append_assoc))

pub text_none : (blocks : List (List ℕ)) (index : ℕ) (block rest bytes : List ℕ) → index < length blocks
    → block ≡ get_or blocks index block → concat (take index blocks) ++ rest ≡ bytes →
    ((back : List ℕ) → rest ≢ block ++ back) → concat blocks ≢ bytes
text_none blocks index block rest bytes within at so_far none whole =
    let later : concat (drop index blocks) ≡ block ++ concat (drop (suc index) blocks) =
    ap concat (drop-cons blocks index block within) ∙ ap (λ b. b ++ concat (drop (suc index) blocks)) (sym at) in
    let parts : concat blocks ≡ concat (take index blocks) ++ (block ++ concat (drop (suc index) blocks)) =
    ap concat (sym (take-append-drop index blocks)) ∙ (grind (arith, common_steps, concat-append)) in
    none (concat (drop (suc index) blocks)) (grind (arith, common_steps, append_cancel_left))

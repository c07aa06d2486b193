use Rattle.lsp_buffer.proofs.Prelude.{ℕ, ◌≡◌, ◌+◌, ◌-◌, ◌≤◌, ◌++◌, ◌∙◌, List, take, drop, string_bytes, append_assoc, arith, ap, sym, slice_range, drop-drop, take-add}
use Rattle.lsp_buffer.proofs.text_buffer.TextBuffer.push_range.Goals as goal
use Rattle.std.proofs.lemmas.Grind.{common_steps}

-- A range that is followed by some bytes is a longer range.
range_more : (bytes : List ℕ) (start offset n : ℕ) → start ≤ offset → slice_range bytes start offset
    ++ take n (drop offset bytes) ≡ slice_range bytes start (offset + n)
range_more bytes start offset n order =
    let at : start + (offset - start) ≡ offset = omega arith in
    let rest : drop (offset - start) (drop start bytes) ≡ drop offset bytes = grind (arith, common_steps, drop-drop) in
    let count : offset + n - start ≡ (offset - start) + n = omega arith in
    sym (grind (arith, common_steps, take-add))

pub loop-offset-preserved : goal.loop-offset-preserved
loop-offset-preserved c =
    let bytes = c.args.self.now in
    let chunk = c.chunk_to-chunk.result.now in
    record {
      low = omega (arith, c.loop-offset.invariant.low);
      high = omega (arith, c.chunk_to-chunk.ensures.within);
      at = c.chunk_to-chunk.ensures.next;
      text =
          c.in_ok-push_str.ensures.bytes
          ∙ (ap (λ (bs : List ℕ). bs ++ chunk) c.loop-offset.invariant.text
          ∙ (append_assoc (string_bytes c.args.out.now) (slice_range bytes c.args.start c.loop-offset.offset) chunk
          ∙ ap (λ (bs : List ℕ). string_bytes c.args.out.now ++ bs)
          (grind (arith, common_steps, slice_range, range_more, c.chunk_to-chunk.ensures.part, c.loop-offset.invariant.low))));
    }

use Rattle.lsp_text.proofs.Prelude.{◌≡◌, ℕ, ◌+◌, ◌-◌, ◌≤◌, ◌<◌, ◌^◌, length, slice_index}
use Rattle.lsp_text.proofs.TextLines.SearchLemmas.{LooksLeft}
use Rattle.lsp_text.proofs.lines.starts.line_of.Given as goal

abbrev pub invariant-loop-high : goal.invariant-loop-high
invariant-loop-high g l =
    let starts = g.S.Starts.starts l.fn.starts in
    record {
      same : g.S.Starts.starts l.starts ≡ starts;
      order : l.low < l.high;
      within : l.high ≤ length starts;
      at_most : slice_index starts l.low ≤ l.place;
      above : (k : ℕ) → l.high ≤ k → k < length starts → l.place < slice_index starts k;
      looks : (digits : ℕ) → length starts < 2 ^ digits → LooksLeft (l.high - l.low) (g.S.Starts.looks l.starts)
          (g.S.Starts.looks l.fn.starts + digits);
    }

abbrev pub decreases-loop-high : goal.decreases-loop-high
decreases-loop-high g l = l.high - l.low

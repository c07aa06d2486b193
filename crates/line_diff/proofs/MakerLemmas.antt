-- Rows of numbers, as a loop makes them.
use Rattle.line_diff.proofs.Prelude.{◌≡◌, ℕ, ◌+◌, ◌<◌, List, [], ◌∷◌, Bor, length, map, drop, get_or, refl, drop_more, get_or-map, length-map, row_numbers, rows_of}
use Rattle.std.specs.Prelude.{◌*◌}
use Rattle.line_diff.specs.declared.repeats.Row.{Row}

pub row_first : (lines : List (Bor (List ℕ))) (d : Bor (List ℕ)) (i : ℕ) (row rest : Row) → i < length lines
    → row_numbers rest ≡ drop (2 * length (get_or lines i d).now) (row_numbers row)
    → rows_of (row_numbers row) (drop i (map (λ line. line.now) lines))
    ≡ row_numbers row ∷ rows_of (row_numbers rest) (drop (i + 1) (map (λ line. line.now) lines))
row_first lines d i row rest within rest_is =
    let shown = map (λ (line : Bor (List ℕ)). line.now) lines in
    let dropped = drop_more shown i [] (rw (length-map lines (λ line. line.now)) within) in
    let line = get_or-map (λ (line : Bor (List ℕ)). line.now) lines i d [] within in
    rw (dropped, line, ← rest_is) refl

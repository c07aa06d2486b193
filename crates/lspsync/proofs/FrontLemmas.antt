-- The first bytes of a file.
use Rattle.lspsync.proofs.Prelude.{◌≡◌, ◌∙◌, ap, false, ℕ, List, Option, Some, None, length, take}
use Rattle.std.proofs.lemmas.List.{take_at}
use Rattle.std.specs.Io.KnownBytes.{Consumes}
use Rattle.std.specs.Str.{bytes_eq}
use Rattle.lsp_log.specs.Log.{version_line}
use Rattle.lspsync.specs.Reasons.{HasOneSide}

-- 18 bytes that were read, and aren't the line.
pub one_side : (left rest : Option (List ℕ)) (line : List ℕ) → length line ≡ 18 → Consumes left rest line
    → bytes_eq line version_line ≡ false → HasOneSide left
one_side None rest line is read differs = tt
one_side (Some bytes) None line is read differs = absurd read
one_side (Some bytes) (Some more) line is read differs =
    ap (λ z. bytes_eq z version_line) (ap (take 18) read ∙ take_at line more 18 is) ∙ differs

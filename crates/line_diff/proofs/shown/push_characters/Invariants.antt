use Rattle.line_diff.proofs.Prelude.{◌≡◌, ◌++◌, flat_map, shown_char, take}
use Rattle.line_diff.proofs.shown.push_characters.Given as goal

abbrev pub invariant-loop-character : goal.invariant-loop-character
invariant-loop-character l =
    l.buffer.items ≡ l.fn.buffer.items ++ flat_map shown_char (take l.character-index l.characters)

use Rattle.lsp_message.proofs.Prelude.{codes, refl, object, no_members, put, lex, content}
use Rattle.lsp_message.proofs.Lexemes.{opened, later, closed}
use Rattle.lsp_message.proofs.reader.cursor.Cursor.range.Goals as goal

pub returns-then-by_name : goal.returns-then-by_name
unfolding lex content
returns-then-by_name c =
    let first = rw c.if-by_name.true at c.pieces.ensures.first in
    let second = rw c.if-by_name.true at c.pieces.ensures.second in
    let one = c.in_ok-start.ensures in
    let other = c.in_ok-stop.ensures in (
      object (put (codes "start") other.0 (put (codes "end") one.0 no_members)),
      opened (codes "end") c.in_ok-take.ensures (rw first at c.in_ok-take-2.ensures) (λ rest. refl) one.1
          (later (codes "start") c.in_ok-take-3.ensures (rw second at c.in_ok-take-4.ensures) (λ rest. refl) other.1
          (closed c.in_ok-take-5.ensures)),
      rw (other.2, one.2) refl,
    )

pub returns-else-by_name : goal.returns-else-by_name
unfolding lex content
returns-else-by_name c =
    let first = rw c.if-by_name.false at c.pieces.ensures.first in
    let second = rw c.if-by_name.false at c.pieces.ensures.second in
    let one = c.in_ok-start.ensures in
    let other = c.in_ok-stop.ensures in (
      object (put (codes "end") other.0 (put (codes "start") one.0 no_members)),
      opened (codes "start") c.in_ok-take.ensures (rw first at c.in_ok-take-2.ensures) (λ rest. refl) one.1
          (later (codes "end") c.in_ok-take-3.ensures (rw second at c.in_ok-take-4.ensures) (λ rest. refl) other.1
          (closed c.in_ok-take-5.ensures)),
      rw (one.2, other.2) refl,
    )

use Rattle.lspsync.proofs.Prelude.{List, ℕ, ◌++◌, codes, refl, subst, IsPrinted}
use Rattle.lspsync.proofs.EndLemmas.{blame_pieces, hint_pieces}
use Rattle.lspsync.proofs.files.print_blame.Goals as goal

pub returns-in-Some : goal.returns-in-Some
returns-in-Some g c =
    let name = c.args.name.now in
    let text = c.args.text.now in
    let place = c.args.place.now in
    let more = codes "lspsync: " ++ (name ++ (codes ": " ++ (c.in-Some.hint.now ++ codes "\n"))) in
    rw c.in-Some.is
    (subst (λ (z : List ℕ).
    IsPrinted z (g.E.Sink.seen c.args.errors.now) (g.E.Sink.seen c.print.new.output) c.print.result)
    (hint_pieces (codes "lspsync: ") name (codes ": ") text place c.args.cause.now
    (codes " (docs/PROTOCOL.md#codes)") (codes "\n") (text ++ place) more refl)
    c.print.ensures)

pub returns-in-None : goal.returns-in-None
returns-in-None g c =
    let text = c.args.text.now in
    let place = c.args.place.now in
    rw c.in-None.is
    (subst (λ (z : List ℕ).
    IsPrinted z (g.E.Sink.seen c.args.errors.now) (g.E.Sink.seen c.print-in-None.new.output) c.print-in-None.result)
    (blame_pieces (codes "lspsync: ") c.args.name.now (codes ": ") text place c.args.cause.now
    (codes " (docs/PROTOCOL.md#codes)") (codes "\n") (text ++ place) refl)
    c.print-in-None.ensures)

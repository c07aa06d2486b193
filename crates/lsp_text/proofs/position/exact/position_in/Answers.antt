use Rattle.lsp_text.proofs.Prelude.{slice_index, arith, chars, common_steps}
use Rattle.lsp_text.proofs.Positions.ExactLemmas.{indexes_are, indexes_few, front_found, front_within, front_utf8, front_few, part_short, exact_is, exact_resolves}
use Rattle.lsp_text.proofs.position.exact.position_in.Goals as goal
use Rattle.std.proofs.lemmas.Grind.{common_steps}

pub new-looks-requires : goal.new-looks-requires
new-looks-requires g c = indexes_are c.args.bytes.now c.args.starts.now c.requires.utf8 c.requires.indexed

pub overflow_cast-result : goal.overflow_cast-result
overflow_cast-result g c =
    grind (arith, common_steps, indexes_few)

pub slice_bounds-units_in-end : goal.slice_bounds-units_in-end
slice_bounds-units_in-end g c =
    front_within c.args.bytes.now _ c.args.place c.requires.place.0 c.requires.utf8
    (front_found c.args.bytes.now c.args.starts.now c.new-looks.result.starts.now c.args.place c.line_of-line.result
    c.requires.place.0 c.requires.indexed c.new-looks.ensures.starts c.line_of-line.ensures.line c.requires.place.1
    c.requires.place.3)

pub units_in-requires-clause-utf8 : goal.units_in-requires-clause-utf8
units_in-requires-clause-utf8 g c =
    front_utf8 c.args.bytes.now _ c.args.place c.requires.place.0 c.requires.utf8
    (front_found c.args.bytes.now c.args.starts.now c.new-looks.result.starts.now c.args.place c.line_of-line.result
    c.requires.place.0 c.requires.indexed c.new-looks.ensures.starts c.line_of-line.ensures.line c.requires.place.1
    c.requires.place.3)

pub overflow_cast-result-2 : goal.overflow_cast-result-2
overflow_cast-result-2 g c =
    let front = front_found c.args.bytes.now c.args.starts.now c.new-looks.result.starts.now c.args.place
    c.line_of-line.result c.requires.place.0 c.requires.indexed c.new-looks.ensures.starts c.line_of-line.ensures.line
    c.requires.place.1 c.requires.place.3 in
    let utf8 = front_utf8 c.args.bytes.now (slice_index c.args.starts.now c.line_of-line.result) c.args.place
    c.requires.place.0 c.requires.utf8 front in
    let within = front_within c.args.bytes.now (slice_index c.args.starts.now c.line_of-line.result) c.args.place
    c.requires.place.0 c.requires.utf8 front in
    omega (
      arith,
      c.units_in.ensures,
      c.requires.indexed.size,
      front_few g.U.Units.units_of (λ x. (g.met.U.Units.bounds x).1) _ utf8,
      part_short c.args.bytes.now (slice_index c.args.starts.now c.line_of-line.result) c.args.place within,
    )

pub returns-clause-exact : goal.returns-clause-exact
returns-clause-exact g c = λ k within at.
    exact_is g.U.Units.units_of c.args.bytes.now c.args.starts.now c.new-looks.result.starts.now c.args.place
    c.line_of-line.result c.units_in.result k c.requires.utf8 c.requires.indexed c.new-looks.ensures.starts
    c.line_of-line.ensures.line c.units_in.ensures within at

pub returns-clause-resolves : goal.returns-clause-resolves
returns-clause-resolves g c =
    exact_resolves g.U.Units.units_of (λ x. (g.met.U.Units.bounds x).0) (chars c.args.bytes.now) c.args.place _
    c.requires.place (returns-clause-exact g c)

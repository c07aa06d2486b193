use Rattle.lspsync.proofs.Prelude.{arith, inl, rules}
use Rattle.std.proofs.KnownBytes.{Keeps-refl}
use Rattle.lspsync.proofs.reasons.reason_for.Goals as goal

pub returns-then-place-eq0 : goal.returns-then-place-eq0
returns-then-place-eq0 g c = (
  c.args.settings.now,
  g.F.Folder.bytes c.args.folder.now c.args.name.now,
  Keeps-refl _,
  omega (arith, c.if-place-eq0.true),
)

pub returns-then-has_one_side : goal.returns-then-has_one_side
returns-then-has_one_side g c =
    let one = c.has_one_side.ensures c.if-has_one_side.true in (c.args.settings.now, _, search rules, inl one)

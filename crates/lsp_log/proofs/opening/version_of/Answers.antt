use Rattle.lsp_log.proofs.Prelude.{drop, version_line}
use Rattle.lsp_log.proofs.OpeningLemmas.{starts_front}
use Rattle.lsp_log.proofs.opening.version_of.Goals as goal

pub returns-then-starts_with : goal.returns-then-starts_with
returns-then-starts_with c = (
  c.if-versions.true,
  (
    drop 18 c.args.bytes.now,
    starts_front c.args.bytes.now version_line c.starts_with.result c.starts_with.ensures.value c.if-starts_with.true,
  ),
)

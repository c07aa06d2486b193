use Rattle.std.proofs.lemmas.Result.{err_from_is_err_and}
use Rattle.lsp_stream.proofs.PortLemmas.{short_of}
use Rattle.lsp_stream.proofs.turns.write_given.Goals as goal

pub returns-in_err-write_out-clause-short : goal.returns-in_err-write_out-clause-short
returns-in_err-write_out-clause-short g c =
    let p = err_from_is_err_and c.from_residual.result c.from_residual.ensures.1 in
    rw (p.1, p.2) (λ is. short_of _ _ _ c.args.bytes.now (c.in_err-write_out.ensures.short is))

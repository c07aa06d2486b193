use Rattle.lsp_simulate.proofs.Prelude.{List, ℕ, ◌++◌, codes, ap, sym, ◌∙◌, subst, IsPrinted, run_fault_text}
use Rattle.lsp_program.proofs.PieceLemmas.{fault_pieces}
use Rattle.lsp_simulate.proofs.run.report.Goals as goal

pub returns : goal.returns
returns g c =
    let text = c.text_of-line.result.0.now in (
      c.status_of.ensures,
      (
        c.print.result,
        subst (λ (z : List ℕ).
            IsPrinted z (g.E.Sink.seen c.args.errors.now) (g.E.Sink.seen c.print.new.output) c.print.result)
            (fault_pieces (codes "lsp_simulate: ") text c.digits.result.now (codes "\n")
            (run_fault_text c.args.fault)
            (c.text_of-line.ensures ∙ ap (λ z. text ++ z) (sym c.digits.ensures)))
            c.print.ensures,
      ),
    )

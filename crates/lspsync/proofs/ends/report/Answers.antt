use Rattle.lspsync.proofs.Prelude.{List, ℕ, ◌++◌, codes, ap, sym, ◌∙◌, subst, IsPrinted, fault_text}
use Rattle.lsp_program.proofs.PieceLemmas.{fault_pieces}
use Rattle.lspsync.proofs.ends.report.Goals as goal

pub returns : goal.returns
returns g c =
    let text = c.text_of-place.result.0.now in
    let place = c.digits-place.result.now in
    record {
      status_is = c.status_of.ensures;
      lines_are =
          subst (λ (z : List ℕ).
          IsPrinted z (g.E.Sink.seen c.args.errors.now) (g.E.Sink.seen c.print-printed.new.output)
          c.print-printed.result)
          (fault_pieces (codes "lspsync: ") text place (codes "\n") (fault_text c.args.fault)
          (c.text_of-place.ensures ∙ ap (λ z. text ++ z) (sym c.digits-place.ensures)))
          c.print-printed.ensures;
      output = c.is_write_fault.ensures;
    }

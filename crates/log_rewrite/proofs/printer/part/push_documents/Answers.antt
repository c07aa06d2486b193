use Rattle.log_rewrite.proofs.Prelude.{◌++◌, ◌+◌, ap, ◌∙◌, sym, append_assoc, rules, document_line, report_from}
use Rattle.log_session.proofs.Runs.ReplayLemmas.{report_goes_on}
use Rattle.log_rewrite.proofs.printer.part.push_documents.Goals as goal

pub documents-preserved : goal.documents-preserved
documents-preserved c =
    let table = c.args.documents.now.table in
    let buffer = c.documents.buffer.items in
    let goes = report_goes_on c.documents.next table c.in-Some.document (search rules) in
    let line = document_line c.in-Some.document in
    record {
      written = rw c.in_ok-push_document_line.ensures
          (c.documents.invariant.written ∙ ap (λ z. buffer ++ z) goes
          ∙ sym (append_assoc buffer line (report_from (c.documents.next + 1) table)));
    }

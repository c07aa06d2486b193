use Rattle.lsp_simulate.proofs.Prelude.{◌≡◌, ◌++◌, document_lines}
use Rattle.lsp_simulate.proofs.session.push_documents.Given as goal

abbrev pub invariant-loop-document : goal.invariant-loop-document
invariant-loop-document l =
    l.text.items ++ document_lines l.end l.document-iterator ≡ l.fn.text.items ++ document_lines l.end l.store.table

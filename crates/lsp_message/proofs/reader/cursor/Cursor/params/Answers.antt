use Rattle.lsp_message.proofs.Prelude.{◌∷◌, [], codes, refl, ap, array, object, item, no_items, no_members, put, document_data, lex, content}
use Rattle.lsp_message.proofs.Lexemes.{opened, later, closed}
use Rattle.lsp_message.proofs.reader.cursor.Cursor.params.Goals as goal

pub returns-then-is_next : goal.returns-then-is_next
unfolding lex content
returns-then-is_next c =
    let change = c.in_ok-change.ensures in
    let document = c.in_ok-document.ensures in
    let edits = array (item change.0 no_items) in
    let named = document_data c.in_ok-document.document.uri.now document.0 in (
      object (put (codes "textDocument") named (put (codes "contentChanges") edits no_members)),
      opened (codes "contentChanges") c.in_ok-take.ensures c.in_ok-take-2.ensures (λ rest. refl) change.1
          (later (codes "textDocument") c.in_ok-take-3.ensures c.in_ok-take-4.ensures (λ rest. refl)
          document.1 (closed c.in_ok-take-5.ensures)),
      rw (document.2, change.2) refl,
      ap (λ n. n ∷ []) change.3,
    )

pub returns : goal.returns
unfolding lex content
returns c =
    let change = c.in_ok-change-2.ensures in
    let document = c.in_ok-document-2.ensures in
    let edits = array (item change.0 no_items) in
    let named = document_data c.in_ok-document-2.document.uri.now document.0 in (
      object (put (codes "contentChanges") edits (put (codes "textDocument") named no_members)),
      opened (codes "textDocument") c.in_ok-take.ensures c.in_ok-take-6.ensures (λ rest. refl) document.1
          (later (codes "contentChanges") c.in_ok-take-7.ensures c.in_ok-take-8.ensures (λ rest. refl)
          change.1 (closed c.in_ok-take-9.ensures)),
      rw (document.2, change.2) refl,
      ap (λ n. n ∷ []) change.3,
    )

use Rattle.lsp_message.proofs.Prelude.{◌≡◌, Some, codes, refl, sym, ap, ◌∙◌, rules, w32, to_z, of_z, to_z-of_z, lex, content}
use Rattle.lsp_message.proofs.Lexemes.{opened, later, closed}
use Rattle.lsp_message.proofs.reader.cursor.Cursor.document.Goals as goal

pub returns : goal.returns
unfolding lex content
returns c =
    let version = c.in_ok-version.ensures in
    let kept : to_z w32 (of_z w32 c.in_ok-version.version) ≡ c.in_ok-version.version =
    to_z-of_z w32 c.in_ok-version.version (search rules) in (
      version.0,
      opened (codes "uri") c.in_ok-take.ensures c.in_ok-take-2.ensures (λ rest. refl) c.in_ok-uri.ensures
          (later (codes "version") c.in_ok-take-3.ensures c.in_ok-take-4.ensures (λ rest. refl) version.1
          (closed c.in_ok-take-5.ensures)),
      version.2 ∙ ap Some (sym kept),
    )

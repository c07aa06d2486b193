use Rattle.log_session.proofs.Prelude.{◌≡◌, ◌++◌, sym, ap, ◌∙◌, append_assoc, rules, w32, to_z, of_z, codes, document_text}
use Rattle.std.proofs.lemmas.Int.{to_z-of_z}
use Rattle.log_session.specs.Replay.{document_line}
use Rattle.log_session.proofs.printer.replay.push_line_of.Goals as goal

pub returns : goal.returns
unfolding document_line
returns c =
    let number = c.version.result in
    let version : to_z w32 (of_z w32 number) ≡ number = to_z-of_z w32 number (search rules) in
    let line = document_text c.args.document.now in
    let buffer = c.args.buffer.now.items in
    let pushed = rw version at c.in_ok-push_document.ensures.ok in
    let written : c.push_document.new.bytes.items ≡ buffer ++ line =
    rw (sym c.version.ensures, sym c.language.ensures, sym c.requires, sym c.uri.ensures) pushed in
    c.in_ok-extend_from_slice.ensures.items ∙ ap (λ bytes. bytes ++ codes "\n") written
    ∙ append_assoc buffer line (codes "\n")

use Rattle.lsp_simulate.proofs.Prelude.{rules, List, ℕ, ℤ, ◌≡◌, ◌++◌, ◌∙◌, ap, codes, OnOk, subst, w32, to_z, of_z, signed_decimal}
use Rattle.lsp_message.specs.Outgoing.{code_of}
use Rattle.std.proofs.lemmas.Int.{to_z-of_z}
use Rattle.lsp_simulate.proofs.word.push_reply.Goals as goal

pub returns-in-Some : goal.returns-in-Some
returns-in-Some c =
    let number : to_z w32 (of_z w32 c.number.result) ≡ c.number.result = to_z-of_z w32 c.number.result (search rules) in
    let digits : c.format.result.now ≡ signed_decimal (code_of c.in-Some.code) =
    c.format.ensures.text ∙ ap signed_decimal (number ∙ c.number.ensures) in
    rw c.in-Some.is
    (subst (λ (z : List ℕ). OnOk c.push_words.result (c.push_words.new.line.items
    ≡ c.args.line.now.items ++ (codes "server error " ++ z))) digits c.push_words.ensures)

use Rattle.lspsync.proofs.Prelude.{Bor, List, ℕ, ◌≡◌, ◌++◌, ◌∙◌, ap, option_map, sym, fault_text, blame_lines}
use Rattle.lspsync.proofs.EndLemmas.{ends}
use Rattle.lspsync.proofs.files.blame.Goals as goal

pub returns : goal.returns
returns g c =
    let text = c.text_of-place.result.0.now in
    let place = c.digits-place.result.now in
    let hint = option_map (λ (hint : Bor (List ℕ)). hint.now) c.args.hint in
    let whole : text ++ place ≡ fault_text c.args.fault =
    ap (λ z. text ++ z) c.digits-place.ensures ∙ sym c.text_of-place.ensures in (
      hint,
      ends _ _ _ c.print_blame-printed.result _ _ c.new.result (rw c.status_of.ensures at c.new.ensures)
          (ap (λ z. blame_lines c.args.name.now z c.args.cause.now hint) whole) c.print_blame-printed.ensures,
    )

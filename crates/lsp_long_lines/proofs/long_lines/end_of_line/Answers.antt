use Rattle.std.proofs.Common.{◌≡◌, ◌∙◌, ℕ, List, Result, Ok, Err, IfOk, Some, option_map, sym, ap, subst}
use Rattle.std.specs.Result.{result_ok}
use Rattle.std.specs.Str.{chars}
use Rattle.lsp_text.specs.Text.{place_of}
use Rattle.lsp_text.specs.TextLines.{line_stop}
use Rattle.lsp_text.specs.LineStarts.{IsPlace}
use Rattle.lsp_text.proofs.TextLines.ContentLemmas.{stop_within}
use Rattle.lsp_buffer.proofs.Queries.ContentsLemmas.{value_of}
use Rattle.lsp_long_lines.proofs.LineEndLemmas.{denoted-past_end}
use Rattle.lsp_long_lines.proofs.long_lines.end_of_line.Goals as goal

place_found : {E : Type 0} (text : List ℕ) (r : Result ℕ E) (x : ℕ) → result_ok r ≡ Some x → IfOk r (IsPlace text)
    → IsPlace text x
place_found text (Ok y) x e is = let same : y ≡ x = cc in subst (IsPlace text) same is
place_found text (Err y) x e is = absurd (cc)

pub position-requires : goal.position-requires
position-requires c =
    let text = chars c.args.text.now in
    let found : result_ok c.resolve.result ≡ Some (place_of text (line_stop text c.args.line)) =
    c.resolve.ensures.value ∙ ap (option_map (place_of text)) (denoted-past_end c.args.encoding c.args.text.now
    c.args.line c.len-len.ensures.utf8 c.len-len.ensures.size c.requires) in
    let end : c.unwrap_or-end.result ≡ place_of text (line_stop text c.args.line) =
    c.unwrap_or-end.ensures ∙ value_of c.resolve.result _ _ found in
    subst (IsPlace text) (sym end) (place_found text c.resolve.result _ found c.resolve.ensures.place)

pub returns : goal.returns
returns c =
    let text = chars c.args.text.now in
    let found : result_ok c.resolve.result ≡ Some (place_of text (line_stop text c.args.line)) =
    c.resolve.ensures.value ∙ ap (option_map (place_of text)) (denoted-past_end c.args.encoding c.args.text.now
    c.args.line c.len-len.ensures.utf8 c.len-len.ensures.size c.requires) in
    let end : c.unwrap_or-end.result ≡ place_of text (line_stop text c.args.line) =
    c.unwrap_or-end.ensures ∙ value_of c.resolve.result _ _ found in
    c.position.ensures.exact (line_stop text c.args.line) (stop_within text c.args.line c.requires) (sym end)

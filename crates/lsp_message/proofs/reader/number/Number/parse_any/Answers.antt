use Rattle.lsp_message.proofs.Prelude.{◌≡◌, ◌∷◌, ◌==◌, true, false, ℕ, List, option_map, slice_index, refl, ap, ◌∙◌, scan, kept_number}
use Rattle.serde_json.specs.Read.{number_of, number_from}
use Rattle.lsp_message.proofs.reader.number.Number.parse_any.Goals as goal

with_minus : (s digits : List ℕ) → s ≡ 45 ∷ digits → number_from true (scan digits) ≡ number_of s
unfolding number_of
with_minus s digits is = rw is refl

without_minus : (s : List ℕ) → (slice_index s 0 == 45) ≡ false → number_from false (scan s) ≡ number_of s
unfolding number_of
without_minus s is = rw is refl

pub returns-in-Some : goal.returns-in-Some
returns-in-Some c =
    let read = with_minus c.as_bytes-bytes.result.now c.in-Some.digits.now c.in-Some.ensures in
    c.below_zero.ensures ∙ ap (λ p. option_map kept_number (number_from true p)) c.scan.ensures.parts
    ∙ ap (option_map kept_number) (read ∙ ap number_of c.as_bytes-bytes.ensures.value)

pub returns-in-None : goal.returns-in-None
returns-in-None c =
    let read = without_minus c.as_bytes-bytes.result.now c.in-None.ensures in
    c.from_zero.ensures ∙ ap (λ p. option_map kept_number (number_from false p)) c.scan-in-None.ensures.parts
    ∙ ap (option_map kept_number) (read ∙ ap number_of c.as_bytes-bytes.ensures.value)

use Rattle.lsp_frame.proofs.Prelude.{◌≡◌, ◌+◌, ◌++◌, ◌<◌, ◌≤◌, true, length, refl, sym, ◌∙◌, arith, codes, rules, Option, Some, None, IfNone, list_all, eqb-false, eqb-true, length-take, is_digit, common_steps}
use Rattle.std.proofs.lemmas.Bool.Decides.{Decides-eqb}
use Rattle.std.proofs.lemmas.Slice.Eq.{starts_is, strip_prefix_is}
use Rattle.lsp_frame.proofs.WrittenHeaderLemmas.{digits_front, begins_written, found_parts, within_told}
use Rattle.lsp_frame.proofs.written.written_header.Goals.{then-is_empty-via-then-is_empty, then-is_empty-via-else-is_empty+then-not-starts_with}
use Rattle.lsp_frame.proofs.written.written_header.Goals as goal

pub number_within-requires-clause-digits : goal.number_within-requires-clause-digits
number_within-requires-clause-digits c =
    digits_front c.in_ok-rest.rest.now c.first.result.now c.split_at.result.0.now 10 c.digits_len.result c.first.ensures
    c.digits_len.ensures.within c.split_at.ensures.front c.digits_len.ensures.digits

pub returns-clause-some : goal.returns-clause-some
returns-clause-some c =
    let stripped = strip_prefix_is Decides-eqb c.args.bytes.now (codes "Content-Length: ") c.strip_prefix.result
    c.strip_prefix.ensures.cases in
    let named : c.args.bytes.now ≡ codes "Content-Length: " ++ c.in_ok-rest.rest.now =
    rw c.in_ok-rest.was at stripped in
    let starts = starts_is Decides-eqb c.split_at.result.1.now (codes "\r\n\r\n") c.starts_with.result
    c.starts_with.ensures.value in
    let ended : c.starts_with.result ≡ true = search (rules, c.if-not-starts_with.false) in
    let few : length c.split_at.result.0.now ≤ 10 =
    grind (
      arith,
      common_steps,
      length-take,
      c.split_at.ensures.front_len,
      c.digits_len.ensures.within,
      c.first.ensures,
    ) in
    let each : list_all is_digit c.split_at.result.0.now ≡ true =
    digits_front c.in_ok-rest.rest.now c.first.result.now c.split_at.result.0.now 10 c.digits_len.result c.first.ensures
    c.digits_len.ensures.within c.split_at.ensures.front c.digits_len.ensures.digits in
    let some : 0 < length c.split_at.result.0.now =
    omega (arith, eqb-false (length c.split_at.result.0.now) 0 (sym c.is_empty.ensures ∙ c.if-is_empty.false)) in
    begins_written c.args.max_body c.args.bytes.now c.in_ok-rest.rest.now c.split_at.result.0.now
    c.split_at.result.1.now (16 + length c.split_at.result.0.now + 4) c.in_ok-body.body
    named c.split_at.ensures.by_index.0 (starts.0 ended) some few each refl c.in_ok-body.ensures

pub returns-then-is_empty-clause-none : goal.returns-then-is_empty-clause-none
returns-then-is_empty-clause-none c = λ header written.
    let stripped = strip_prefix_is Decides-eqb c.args.bytes.now (codes "Content-Length: ") c.strip_prefix.result
    c.strip_prefix.ensures.cases in
    let named : c.args.bytes.now ≡ codes "Content-Length: " ++ c.in_ok-rest.rest.now =
    rw c.in_ok-rest.was at stripped in
    let parts = found_parts c.args.max_body c.args.bytes.now c.in_ok-rest.rest.now c.first.result.now
    c.split_at.result.0.now c.split_at.result.1.now c.digits_len.result header written
    named c.first.ensures c.digits_len.ensures.within c.digits_len.ensures.digits c.digits_len.ensures.last
    c.split_at.ensures.front c.split_at.ensures.back in
    elim c.then-is_empty.branch [
      | then-is_empty-via-then-is_empty w ↦ grind (
        arith,
        common_steps,
        eqb-true,
        c.is_empty.ensures,
        w.if-is_empty.true,
      )
      | then-is_empty-via-else-is_empty+then-not-starts_with w ↦
          grind (arith, common_steps, starts_is, codes, w.starts_with.ensures.value, w.if-not-starts_with.true)
    ]

if_none : {A : Type 0} (P : Type 0) (o : Option A) → P → IfNone o P
if_none P None p = p
if_none P (Some x) p = tt

pub returns-in_err-body-clause-none : goal.returns-in_err-body-clause-none
returns-in_err-body-clause-none c = if_none _ c.from_residual-in_err-body.result (λ header written.
    let stripped = strip_prefix_is Decides-eqb c.args.bytes.now (codes "Content-Length: ") c.strip_prefix.result
    c.strip_prefix.ensures.cases in
    let named : c.args.bytes.now ≡ codes "Content-Length: " ++ c.in_ok-rest.rest.now =
    rw c.in_ok-rest.was at stripped in
    let parts = found_parts c.args.max_body c.args.bytes.now c.in_ok-rest.rest.now c.first.result.now
    c.split_at.result.0.now c.split_at.result.1.now c.digits_len.result header written
    named c.first.ensures c.digits_len.ensures.within c.digits_len.ensures.digits c.digits_len.ensures.last
    c.split_at.ensures.front c.split_at.ensures.back in
    within_told c.args.max_body c.args.bytes.now c.split_at.result.0.now header written parts.0 (sym c.in_err-body.was
    ∙ c.number_within.ensures))

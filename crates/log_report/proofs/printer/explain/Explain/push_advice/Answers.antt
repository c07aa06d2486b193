use Rattle.log_report.proofs.Prelude.{rules, ℕ, List, Bool, subst, ◌≡◌, ◌++◌}
use Rattle.log_report.specs.Explain.{first_advice, hidden_advice, lenient_advice}
use Rattle.log_report.specs.Tallies.{has_tallies}
use Rattle.log_report.proofs.Reports.MemberLemmas.{three_words}
use Rattle.log_report.proofs.printer.explain.Explain.push_advice.Goals as goal

advised : (one two : List ℕ) {a b : Bool} → two ≡ one ++ lenient_advice a → a ≡ b → two ≡ one ++ lenient_advice b
advised one two is same = subst (λ (b : Bool). two ≡ one ++ lenient_advice b) same is

pub returns : goal.returns
returns c =
    let known = c.args.self.now.known in
    let s = c.args.self.now.session in
    let advice = first_advice s.server.phase s.refusals (has_tallies known.counts.noted) in
    let first : c.push_words.new.buffer.items ≡ c.args.buffer.now.items ++ advice = search rules in
    three_words c.push_hidden.result _ c.args.buffer.now.items _ _ advice (lenient_advice known.strict_refusal)
    (hidden_advice c.args.self.now.listing.all known.counts.hidden) first
    (advised c.push_words.new.buffer.items c.push_if.new.buffer.items c.in_ok-push_if.ensures (search rules))
    (search rules)

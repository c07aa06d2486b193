use Rattle.lspsync.proofs.Prelude.{Bor, List, ℕ, Option, ◌∙◌, ap, option_map, subst, sym, IsBlamed}
use Rattle.lspsync.proofs.EndLemmas.{file_ending}
use Rattle.lspsync.proofs.files.end_fault.Goals as goal

pub returns-in-Some : goal.returns-in-Some
returns-in-Some g c = λ wanted.
    let name = c.args.name.now in
    let fault = c.args.fault in
    let known = g.F.Folder.bytes c.args.folder.now name in
    let before = g.E.Sink.seen c.args.errors.now in
    let after = g.E.Sink.seen c.blame-ending.new.errors in
    let is = sym (ap (option_map (λ (it : Bor (List ℕ)). it.now)) c.in-Some.is) ∙ c.cause_of.ensures in
    file_ending name wanted known fault before after c.blame-ending.result
    (subst (λ (cause : Option (List ℕ)). IsBlamed name known fault cause before after c.blame-ending.result) is (
      c.cause_in-cause.result.now,
      c.cause_in-cause.ensures (sym is),
      c.blame-ending.ensures.0,
      c.blame-ending.ensures.1,
    ))

pub returns-in-None : goal.returns-in-None
returns-in-None g c = λ wanted.
    let name = c.args.name.now in
    let fault = c.args.fault in
    let known = g.F.Folder.bytes c.args.folder.now name in
    let before = g.E.Sink.seen c.args.errors.now in
    let after = g.E.Sink.seen c.report.new.errors in
    rw c.whole-in-None.ensures
    (file_ending name wanted known fault before after c.report.result
    (subst (λ (cause : Option (List ℕ)). IsBlamed name known fault cause before after c.report.result)
    (sym (ap (option_map (λ (it : Bor (List ℕ)). it.now)) c.in-None.is) ∙ c.cause_of.ensures) c.report.ensures))

use Rattle.lsp_frame.proofs.Prelude.{◌≡◌, ◌++◌, ℕ, false, take, ap, sym, ◌∙◌, subst, false≢true, Failed, FramerData, IsPart, HoldsOne, has_failed}
use Rattle.lsp_frame.proofs.FaultLemmas.{stage_part, part_one, not_failed, same_framing, feed_stop}
use Rattle.lsp_frame.proofs.framer.Framer.feed.Goals as goal

pub returns-clause-buffered : goal.returns-clause-buffered
returns-clause-buffered c =
    let before : has_failed c.self.inside.stage ≡ false = not_failed c.self.inside.stage c.in_default.not-Failed in
    same_framing c.self.inside.place c.take_piece.new.buffered.items (c.self.inside.buffered.items ++ take c.in-Ok.taken
    c.args.piece.now) (has_failed c.take_piece.new.stage) (has_failed c.self.inside.stage) c.self.inside.limits
    c.in-Ok.ensures.buffered (c.in-Ok.ensures.sound ∙ sym before)
    ∙ ap (λ (f : FramerData). record f { buffered = f.buffered ++ take c.in-Ok.taken c.args.piece.now }) c.self.view_is

pub returns-clause-part : goal.returns-clause-part
returns-clause-part c =
    subst (λ (n : ℕ). IsPart n c.take_piece.new.buffered.items) c.max_body-max_body.ensures.value
    (stage_part c.max_body-max_body.result c.take_piece.new.buffered.items c.take_piece.new.stage c.in-Ok.ensures.stage
    c.in-Ok.ensures.sound)

pub returns-clause-one : goal.returns-clause-one
returns-clause-one c =
    subst (λ (n : ℕ). HoldsOne n c.take_piece.new.buffered.items) c.max_body-max_body.ensures.value
    (part_one c.max_body-max_body.result c.take_piece.new.buffered.items
    (stage_part c.max_body-max_body.result c.take_piece.new.buffered.items c.take_piece.new.stage c.in-Ok.ensures.stage
    c.in-Ok.ensures.sound))

pub returns-in-Err-clause-error : goal.returns-in-Err-clause-error
returns-in-Err-clause-error c =
    (feed_stop c.args.self.now c.self.inside.place c.max_body-max_body.result c.self.inside.buffered.items
    c.take_piece.new.buffered.items c.args.piece.now c.self.inside.stage c.take_piece.new.stage c.self.inside.limits
    c.in-Err.stop c.in_stream.result
    c.self.view_is (not_failed c.self.inside.stage c.in_default.not-Failed) c.max_body-max_body.ensures.value
    c.in-Err.ensures.error c.in_stream.ensures c.in-Err.ensures.unchanged c.in-Err.ensures.after).0

pub returns-in-Err-clause-failed : goal.returns-in-Err-clause-failed
returns-in-Err-clause-failed c =
    let stopped = feed_stop c.args.self.now c.self.inside.place c.max_body-max_body.result c.self.inside.buffered.items
    c.take_piece.new.buffered.items c.args.piece.now c.self.inside.stage c.take_piece.new.stage c.self.inside.limits
    c.in-Err.stop c.in_stream.result
    c.self.view_is (not_failed c.self.inside.stage c.in_default.not-Failed) c.max_body-max_body.ensures.value
    c.in-Err.ensures.error c.in_stream.ensures c.in-Err.ensures.unchanged c.in-Err.ensures.after in
    let sound : c.args.self.now.failed ≡ false = sym (ap (λ (f : FramerData). f.failed) c.self.view_is)
    ∙ not_failed c.self.inside.stage c.in_default.not-Failed in
    (λ e. absurd (stopped.1 (let f : c.in_stream.result ≡ Failed = cc in f)), λ h. absurd (false≢true (sym sound ∙ h)))

-- A message that isn't obeyed changes nothing.
use Rattle.lsp_server.proofs.Prelude.{subst, ◌∙◌, OutgoingData, IncomingData, Answer, Reply, Changed, Dropped, Ignored, Refused, AnswerData, Sent, reply, changed, dropped, ignored, already_ended, refused, exits, as_sent, IsQuietStepOf, ChangesNothing, ServerData, step_on}
use Rattle.std.specs.Prelude.{◌≡◌, refl, None, IsSome, Ok, ⊤}
use Rattle.lsp_message.specs.declared.outgoing.ErrorCode.{ErrorCode}
use Rattle.lsp_server.specs.Seen.{answer_view, IsRefusing}
use Rattle.lsp_server.proofs.LawLemmas.{kept}
use Rattle.lsp_message.specs.Outgoing as outgoing
use Rattle.lsp_server.specs.declared.answer.Answer.TheVariants as variants

-- the same of an answer as it is sent
abbrev IsRefusingSent : AnswerData Sent → Type 0
IsRefusingSent (reply r) = IsSome r.code
IsRefusingSent changed = ⊥
IsRefusingSent (exits status) = ⊥
IsRefusingSent a = ⊤

as_viewed : (a : Answer) → IsRefusing a → IsRefusingSent (answer_view a)
as_viewed (Reply frame code) h = h
as_viewed _ h = h

no_code : IsSome {T = ErrorCode} None → ⊥
no_code h = cc

as_answered : (a : AnswerData OutgoingData) → IsRefusingSent (as_sent a) → ChangesNothing a
as_answered (reply (outgoing.error_reply id error)) h = tt
as_answered changed h = h
as_answered dropped h = tt
as_answered ignored h = tt
as_answered already_ended h = tt
as_answered (refused why) h = tt
as_answered (exits status) h = h
as_answered _ h = no_code h

-- After a call that took a step and was refused the server is as before.
pub refused_stays : {E : Type 0} (s new : ServerData) (m : IncomingData) (a : Answer)
    → IsQuietStepOf {E = E} (step_on s m) (Ok a) s new → IsRefusing a → new ≡ s
refused_stays s new m a row refusing =
    row.taken.state ∙ (kept s.phase s m refl).refusal
    (as_answered (step_on s m).answer (subst IsRefusingSent row.taken.answer (as_viewed a refusing)))

use Rattle.lsp_store.proofs.Prelude.{IfOk-weaker, ap, length, arith, w32, to_z-of_z}
use Rattle.lsp_store.proofs.Messages.MessageLemmas.{first_told, texts_held}
use Rattle.lsp_store.proofs.Messages.PlannedLemmas.{plan_alike, plan_read, plan_settled}
use Rattle.lsp_store.proofs.store.Store.canonical_message.Goals as goal

pub returns-in-Err-clause-error : goal.returns-in-Err-clause-error
returns-in-Err-clause-error c =
    first_told _ _ _ (rw (to_z-of_z w32 _ c.ranges.version) at c.in-Err.ensures.error)

pub returns-in-Err-clause-one : goal.returns-in-Err-clause-one
returns-in-Err-clause-one c = λ e.
    rw (to_z-of_z w32 _ c.ranges.version) at (c.in-Err.ensures.one (cc))

pub returns-in-Ok-clause-exactly : goal.returns-in-Ok-clause-exactly
returns-in-Ok-clause-exactly c =
    let q = rw (to_z-of_z w32 _ c.ranges.version) at c.in-Ok.ensures.planned in
    IfOk-weaker c.planned_message.result _ _
    (λ bytes is other texts also.
    let framed = (is _ _ _ _ q).0 in
    plan_alike _ _ _ _ _ _ q c.utf8.uri c.ranges.version (texts_held c.args.changes.now)
    (omega (arith, ap length framed, bytes.ok, bytes.small)) other texts also)
    c.planned_message.ensures.framed

pub returns-in-Ok-clause-again : goal.returns-in-Ok-clause-again
returns-in-Ok-clause-again c =
    let q = rw (to_z-of_z w32 _ c.ranges.version) at c.in-Ok.ensures.planned in
    IfOk-weaker c.planned_message.result _ _ (λ bytes is. plan_settled _ _ _ _ _ _ q (is _ _ _ _ q).1)
    c.planned_message.ensures.framed

pub returns-in-Ok-clause-read : goal.returns-in-Ok-clause-read
returns-in-Ok-clause-read c =
    let q = rw (to_z-of_z w32 _ c.ranges.version) at c.in-Ok.ensures.planned in
    IfOk-weaker c.planned_message.result _ _
    (λ bytes is. plan_read _ _ _ _ _ _ q c.utf8.uri c.ranges.version (texts_held c.args.changes.now))
    c.planned_message.ensures.framed

-- What a server holds: texts in UTF-8, and within its limit.
use Rattle.log_session.proofs.Prelude.{◌≡◌, ◌≤◌, List, map, length, Option, Some, None, Ok, refl, ltb-false, LimitsData, Encoding, units_in, OutgoingData, DocumentItem, ChangeData, CloseData, Store, Refusal, refusal_fault, after_close, after_open, close_refusal, open_refusal, table_after, unless_refused, AllWithin, within_end, within_change, within_close, Phase, New, Running, Down, AnswerData, refused, IncomingData, not_json, initialize, did_open, did_change, did_close, ServerData, change_command, step_in, step_on, result_step, content_change_from_data, session_encoding, refusal_of, common_steps, arith, Session, judge_server}
use Rattle.lsp_server.specs.Step.{Step}
use Rattle.log_session.proofs.Records.AskedLemmas.{IsProperIncoming}

-- ---- a step

-- What holds of a step that leaves the documents, and of one that obeys, holds of any.
module _ (s : ServerData) (P : IncomingData → Step → Type 0)
    (same : (m : IncomingData) (answer : AnswerData OutgoingData) (phase : Phase) (encoding : Option Encoding)
    → P m (record { answer = answer; state = record s { phase = phase; encoding = encoding } }))
    (opens : (p : DocumentItem) → open_refusal s.config.limits s.table p ≡ None
    → P (did_open (Some p)) (result_step s (Ok (after_open s.table p))))
    (changes : (p : ChangeData) → refusal_of s p ≡ None
    → P (did_change (Some p)) (result_step s (Ok (table_after s.table (change_command s p)))))
    (closes : (p : CloseData) → close_refusal s.table p.uri ≡ None
    → P (did_close (Some p)) (result_step s (Ok (after_close s.table p.uri)))) where
  obeyed : (m : IncomingData) (refusal : Option Refusal) (next : List DocumentItem)
      → (refusal ≡ None → P m (result_step s (Ok next))) → P m (result_step s (unless_refused refusal next))
  obeyed m None next goes = goes refl
  obeyed m (Some refusal) next goes = same m (refused (Store (refusal_fault refusal))) s.phase s.encoding

  pub step_by : (phase : Phase) (m : IncomingData) → P m (step_in phase s m)
  step_by New (initialize id None) = same _ _ _ _
  step_by Running (did_open (Some p)) =
      obeyed (did_open (Some p)) (open_refusal s.config.limits s.table p) (after_open s.table p) (opens p)
  step_by Running (did_change (Some p)) =
      obeyed (did_change (Some p)) (refusal_of s p) (table_after s.table (change_command s p)) (changes p)
  step_by Running (did_close (Some p)) =
      obeyed (did_close (Some p)) (close_refusal s.table p.uri) (after_close s.table p.uri) (closes p)
  step_by Down not_json = same _ _ _ _
  step_by _ _ = same _ _ _ _

-- ---- a server

-- the limits that a server keeps, and what it holds within them
pub record IsHeldState (limits : LimitsData) (s : ServerData) : Type 0 where
  pub limit : s.config.limits ≡ limits
  pub table : AllWithin limits s.table

opened_short : (limits : LimitsData) (table : List DocumentItem) (entry : DocumentItem)
    → open_refusal limits table entry ≡ None → length entry.text ≤ limits.max_text
opened_short limits table entry e = grind (arith, common_steps, ltb-false)

-- A step keeps it.
pub step_on_held : (limits : LimitsData) (s : ServerData) (m : IncomingData) → IsProperIncoming m → IsHeldState limits s
    → IsHeldState limits (step_on s m).state
step_on_held limits s m proper received =
    step_by s (λ m step. IsProperIncoming m → IsHeldState limits step.state)
    (λ m answer phase encoding is. record { limit = received.limit; table = received.table })
    (λ p may is. record {
      limit = received.limit;
      table = within_end limits s.table p received.table
          (record { utf8 = is.text; short = opened_short limits s.table p (rw received.limit at may) });
    })
    (λ p may is. record {
      limit = received.limit;
      table = within_change limits (units_in (session_encoding s)) s.table p.uri p.version
          (map content_change_from_data p.changes) is.texts received.table (rw received.limit at may);
    })
    (λ p may is. record { limit = received.limit; table = within_close limits s.table p.uri received.table })
    s.phase m proper

-- ---- a server's record leaves the documents alone

pub heard_table : (s : Session) (announced : Option (Option Encoding)) → (judge_server s announced).session.server.table
    ≡ s.server.table
heard_table s (Some None) = refl
heard_table s _ = refl

-- What `normalise` writes of a record that was taken, and the output from that record on.
use Rattle.log_rewrite.proofs.Prelude.{◌≡◌, ◌≢◌, ◌≤◌, ◌⊎◌, inl, inr, ℕ, List, [], ◌∷◌, length, Option, Some, None, refl, ◌∙◌, Err, Head, Record, EngineFault, BodyTooLong, NoMemory, Taken, Body, Canonical, RecordOutput, ends, followed_by, front_of, writes, written, stopped, written_first, Session, bad, judge, run_output_in, IsRecordFault, judge_at, IsTaken, IsAppended, verdict_view}
use Rattle.lsp_message.specs.Params.{ChangeData}
use Rattle.lsp_server.specs.Step.{ServerData}
use Rattle.log_session.specs.Canonical.{body_of_record}
use Rattle.log_rewrite.specs.Normalise.{rewriting, rewritten_output}
use Rattle.log_session.proofs.Records.TakenLemmas.{room_kept, seen_written}
use Rattle.log_session.proofs.Records.OutputLemmas.{output_after, unless_not}

-- a record that was taken, with room before the body that is written of it if it is an accepted change
module _ (written_body : ServerData → ChangeData → List ℕ) {Same : Type 0} {s t : Session} {head : Head}
    {body : List ℕ} {taken : Taken} {before after : Canonical} {room : ℕ} (unseen : Same → after ≡ before)
    (nothing : before.appended ≡ None) (len : length before.bytes.items ≡ room)
    (is : IsTaken Same (λ server p. IsAppended server.config.limits.max_body
    (Some (written_body server p)) after.appended before.bytes.items after.bytes.items) s t head body taken)
  where
    abbrev max_body : ℕ
    max_body = s.server.config.limits.max_body

    abbrev rewritten : Option (List ℕ)
    rewritten = body_of_record written_body s body (judge_at s head body).verdict

    seen : IsAppended max_body rewritten after.appended before.bytes.items after.bytes.items
    seen = seen_written written_body s t head body before after unseen nothing is.shown

    pub room_left : after.appended ≡ Some Body → room ≤ length after.bytes.items
    room_left = room_kept max_body rewritten after.appended before.bytes.items after.bytes.items room len seen

    module _ (raw : List ℕ) (in_log : verdict_view taken.verdict ≢ bad) where
      abbrev r : Record
      r = record { head = head; raw = raw; body = body }

      -- what is written of it
      abbrev IsWritten : RecordOutput → Type 0
      IsWritten given =
          (max : ℕ) (c : Option (List ℕ)) (b old : List ℕ) → length old ≡ room
          → IsAppended max c after.appended old after.bytes.items
          → written max (record { head = head; raw = raw; body = b }) (front_of head) c ≡ given

      goes : (given : RecordOutput) → IsWritten given → (more : List Record)
          → run_output_in (rewriting written_body) s (r ∷ more)
          ≡ followed_by given.out given.end (run_output_in (rewriting written_body) t more)
      goes given written =
          output_after (rewriting written_body) tt s r given
          (unless_not r (judge s r).verdict (rewritten_output written_body s r (judge s r))
          (λ e. in_log (is.judged ∙ e))
          ∙ written max_body rewritten body before.bytes.items len seen) tt refl t is.session

      pub printed : (out : List ℕ) → IsWritten (writes out) → (more : List Record)
          → run_output_in (rewriting written_body) s (r ∷ more)
          ≡ written_first out (run_output_in (rewriting written_body) t more)
      printed out = goes (writes out)

      -- a body that is too long ends the run
      pub not_printed : (fault : EngineFault) → (fault ≡ NoMemory) ⊎ ((fault ≡ BodyTooLong head.place)
          × IsWritten (ends [] (Err (BodyTooLong head.place))))
          → (fault ≡ NoMemory) ⊎ (IsRecordFault fault × ((more : List Record)
          → run_output_in (rewriting written_body) s (r ∷ more) ≡ stopped [] (Err fault)))
      not_printed fault (inl memory) = inl memory
      not_printed fault (inr long) =
          rw long.0 (inr (tt, λ more. goes (ends [] (Err (BodyTooLong head.place))) long.1 more))

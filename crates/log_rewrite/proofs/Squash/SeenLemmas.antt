-- How a change that is accepted is joined.
use Rattle.log_rewrite.proofs.Prelude.{arith, ◌≡◌, ℕ, List, Option, Some, None, refl, sym, ap, ◌∙◌, subst, Head, reading, ChangeData, SquashData, changed, incoming_of, ServerData, Taken, change_in, Session, Verdict, answered, IsChangeWriting, IsJoined, IsOpenAfter, IsWriting, server_after, judge_at, IsShown, IsTaken, accepted_of, common_steps}
use Rattle.std.proofs.lemmas.Option.{none-some}
use Rattle.log_rewrite.specs.declared.joining.Joiner.{Joiner}
use Rattle.log_rewrite.specs.declared.joining.Writing.{Writing}
use Rattle.log_rewrite.specs.declared.joining.Writing.TheVariants.{TooLong, Continues, Begins}
use Rattle.log_session.proofs.Records.BodyLemmas.{accepted_is, body_of, canonical_is}
use Rattle.log_rewrite.proofs.NormaliseLog.AppendLemmas.{over}

module _ {s new : Session} {series : Option SquashData} {head : Head} {body : List ℕ} {before after : Joiner}
    {taken : Taken} (begins : before ≡ record { batches = series; writing = None })
    (is : IsTaken (after ≡ before) (λ server p. IsJoined server before.batches p after.writing) s new head body taken)
  where
    abbrev HasJoined : ServerData → ChangeData → Type 0
    HasJoined server p = IsJoined server before.batches p after.writing

    abbrev change : Option ChangeData
    change = change_in (incoming_of (reading body))

    abbrev verdict : Verdict
    verdict = (judge_at s head body).verdict

    -- what the witness has seen, the batches of the open series where nothing was joined, and those that are open then
    record IsSeen : Type 0 where
      written : IsWriting s.server series change verdict after.writing
      stays : after.writing ≡ None → after.batches ≡ series
      leads : (w : Writing) → after.writing ≡ Some w → IsOpenAfter new.server w

    joined_writing : (p : ChangeData) → change ≡ Some p → verdict ≡ answered changed → (w : Option Writing)
        → IsJoined s.server series p w → IsWriting s.server series change verdict w
    joined_writing p is accepted None never = absurd never
    joined_writing p is accepted (Some TooLong) over = (p, is, accepted, over)
    joined_writing p is accepted (Some (Continues canonical batches)) joined =
        (record { params = p; is = is; accepted = accepted; framed = joined.0 }, joined.1)
    joined_writing p is accepted (Some (Begins canonical ended batches)) joined = (
      record { params = p; is = is; accepted = accepted; framed = joined.0 },
      joined.1,
      joined.2,
      joined.3,
    )

    -- the batches that are open then lead to the document that is open then
    open_by : (server : ServerData) (p : ChangeData) → server ≡ server_after s.server p → (w : Writing)
        → IsChangeWriting s.server series p w → IsOpenAfter server w
    open_by server p leaves TooLong over = tt
    open_by server p leaves (Continues canonical batches) joined = rw leaves joined.2
    open_by server p leaves (Begins canonical ended batches) joined = rw leaves joined.4

    seen_by : (a : Option ChangeData) → accepted_of s head body ≡ a → IsShown (after ≡ before) HasJoined s new a
        → IsSeen
    seen_by None none same =
        let fresh : after ≡ record { batches = series; writing = None } = same ∙ begins in
        record {
          written = grind (arith, common_steps, canonical_is, body_of);
          stays = λ w. ap (λ (j : Joiner). j.batches) fresh;
          leads = λ w is. absurd (none-some w (sym (ap (λ (j : Joiner). j.writing) fresh) ∙ is));
        }
    seen_by (Some p) is seen =
        let both = accepted_is change verdict p is in
        let joined : IsJoined s.server series p after.writing =
        subst (λ (j : Joiner). IsJoined s.server j.batches p after.writing) begins seen.0 in
        record {
          written = joined_writing p both.0 both.1 after.writing joined;
          stays = λ none. absurd (subst (IsJoined s.server series p) none joined);
          leads = λ w is. open_by new.server p seen.1 w (subst (IsJoined s.server series p) is joined);
        }

    pub seen_joined : IsWriting s.server series change verdict after.writing
    seen_joined = let seen = seen_by (accepted_of s head body) refl is.shown in seen.written

    pub unjoined : after.writing ≡ None → after.batches ≡ series
    unjoined = let seen = seen_by (accepted_of s head body) refl is.shown in seen.stays

    pub seen_open : (w : Writing) → after.writing ≡ Some w → IsOpenAfter new.server w
    seen_open = let seen = seen_by (accepted_of s head body) refl is.shown in seen.leads

-- The single message of an accepted change, where it begins a run and where it goes on with one.
use Rattle.log_rewrite.proofs.Prelude.{Bool, Some, ap, arith, length, refl, subst, sym, ℕ, ◌∙◌, ◌≡◌, ◌≤◌, common_steps, chars, text_of, written_is_frame, place_after, frame, AreInRange, LimitsData, IsRecord, Record, Version, reading, ChangeData, DocumentItem, canonical_change_body, Session, judge, server_after, joined_by, incoming_of, session_encoding, SquashData, entry_at}
use Rattle.log_session.proofs.Changes.CanonicalChangeLemmas.{canonical_change, joins_as}
use Rattle.log_session.proofs.Changes.SettledLemmas.{IsSettled, settled}
use Rattle.log_rewrite.proofs.Squash.KindLemmas.{IsAccepted, IsDone, is_done, proper_change}
use Rattle.log_session.proofs.Records.ChangeLemmas.{session_after}
use Rattle.log_session.proofs.Records.NumberedLemmas.{IsAlike, alike_both, numbered}
use Rattle.log_session.proofs.Records.StateLemmas.{IsHeldState}

-- the record of an accepted change, as it is written singly at a place
abbrev pub single_record : ℕ → Session → Record → ChangeData → Record
single_record at s r p = record {
  head = record r.head { place = place_after 0 at };
  raw = frame (canonical_change_body s.server p);
  body = canonical_change_body s.server p;
}

-- The canonical message of an accepted change of a session, behind other counts: it is accepted, and does and joins
-- what the change does.
pub record IsSingle (max_body at : ℕ) (version : Version) (due : Bool) (s : Session) (n m : ℕ) (r : Record)
    (p : ChangeData) : Type 0 where
  pub again : ChangeData
  pub is : IsRecord max_body version at due (single_record at s r p)
  pub accepted : IsAccepted (numbered n m s) (single_record at s r p) again
  pub same_uri : again.uri ≡ p.uri
  pub leaves : server_after s.server again ≡ server_after s.server p
  pub own : canonical_change_body s.server again ≡ canonical_change_body s.server p
  pub within : length (canonical_change_body s.server again) ≤ s.server.config.limits.max_body
  pub joins : (squash : SquashData) → squash.encoding ≡ session_encoding s.server
      → ((entry : DocumentItem) → entry_at s.server.table p.uri ≡ Some entry → text_of (chars squash.text) squash.items
      ≡ chars entry.text) → joined_by again squash ≡ joined_by p squash
  pub done : IsDone (numbered n m s) (single_record at s r p) again
  pub like : IsAlike (judge s r).session (judge (numbered n m s) (single_record at s r p)).session

module _ (limits : LimitsData) (ranges : AreInRange limits) (at : ℕ) (version : Version) (due : Bool) (s : Session)
    (n m : ℕ) (r : Record) (p : ChangeData) (received : IsHeldState limits s.server) (a : IsAccepted s r p)
    (fits : length (canonical_change_body s.server p) ≤ s.server.config.limits.max_body)
    (of_version : r.head.version ≡ version) (same_due : r.head.line_due ≡ due) where
  set : IsSettled s.server p
  set = settled s.server p (subst AreInRange (sym received.limit) ranges)
      (subst (λ (l : LimitsData). IsHeldState l s.server) (sym received.limit) received) (proper_change r p a.asks)
      a.may

  abbrev again : ChangeData
  again = canonical_change s.server p.uri p.version set.entry set.items

  abbrev q : Record
  q = single_record at s r p

  own : canonical_change_body s.server again ≡ canonical_change_body s.server p
  own = set.message.own ∙ sym set.body

  leaves : server_after s.server again ≡ server_after s.server p
  leaves = set.message.leaves ∙ sym set.leaves

  accepted : IsAccepted (numbered n m s) q again
  accepted = record {
    side = a.side;
    asks = ap (λ b. incoming_of (reading b)) set.body ∙ set.message.asks;
    running = a.running;
    waits = a.waits;
    may = set.message.may;
  }

  done : IsDone (numbered n m s) q again
  done = is_done (numbered n m s) q again accepted

  pub is_single : IsSingle limits.max_body at version due s n m r p
  is_single = record {
    again = again;
    is = grind (arith, common_steps, written_is_frame);
    accepted = accepted;
    same_uri = refl;
    leaves = leaves;
    own = own;
    within = subst (λ b. length b ≤ s.server.config.limits.max_body) (sym own) fits;
    joins = λ squash encoding text.
        let here = text set.entry set.found in
        set.message.joins squash encoding here
        ∙ sym (joins_as p squash (session_encoding s.server) (chars set.entry.text) set.items encoding here set.means);
    done = done;
    like = alike_both (session_after s p) (judge s r).session (judge (numbered n m s) q).session
        (is_done s r p a).leaves (
          done.leaves.0,
          done.leaves.1,
          done.leaves.2
              ∙ ap (λ server. numbered done.leaves.0 done.leaves.1 (record s { server = server })) leaves,
        );
  }

-- What a command writes from a record on, by what it writes of the record and what it knows after it.
use Rattle.log_session.proofs.Prelude.{◌≡◌, ◌≢◌, List, ◌∷◌, refl, Record, RecordOutput, View, followed_by, output_in, unless_bad, Session, Verdict, bad, judge}

-- a record that is in the log
pub unless_not : (r : Record) (verdict : Verdict) (given : RecordOutput) → verdict ≢ bad → unless_bad r verdict given
    ≡ given
unless_not r bad given not_bad = absurd (not_bad refl)
unless_not r _ given not_bad = refl

module _ {State : Type 0} (view : View State) (state : State) (s : Session) (r : Record) where
  pub output_after : (given : RecordOutput) → view.record_output state s r (judge s r) ≡ given → (next : State)
      → next ≡ view.next state s r (judge s r) → (t : Session) → t ≡ (judge s r).session → (more : List Record)
      → output_in view state s (r ∷ more) ≡ followed_by given.out given.end (output_in view next t more)
  output_after given is next next_is t session more =
      rw (← is, next_is, session) refl

-- The document that a record opens, by what was read of it, and the list of all.
use Rattle.log_session.proofs.Prelude.{◌≡◌, ℕ, List, Option, None, refl, sym, ap, ◌∙◌, reading, IncomingData, incoming_of, Sender, Client, Server, Version, Record, Session, Verdict, judge, opened_if, opened_in, uri_opened, body_read, on_client}

-- what is said of a client's record alone is said by its side
pub on_side : {A : Type 0} (none : A) (says : Sender → IncomingData → A) → ((m : IncomingData) → says Server m ≡ none)
    → (version : Version) (side : Sender) (body : List ℕ)
    → on_client none (says Client) (body_read version side body) ≡ says side (incoming_of (reading body))
on_side none says nothing version Client body = refl
on_side none says nothing version Server body = sym (nothing (incoming_of (reading body)))

pub opened_at : (s : Session) (r : Record) (verdict : Verdict) → verdict ≡ (judge s r).verdict
    → (uri opened : Option (List ℕ)) → uri ≡ on_client None (uri_opened Client) (body_read r.head.version r.head.side
    r.body)
    → opened ≡ opened_if verdict uri → opened ≡ opened_in r (judge s r)
opened_at s r verdict judged uri opened is opened_is =
    opened_is ∙ ap (λ (v : Verdict). opened_if v uri) judged
    ∙ ap (opened_if (judge s r).verdict) (is ∙ on_side None uri_opened (λ m. refl) r.head.version r.head.side r.body)

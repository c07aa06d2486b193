use Rattle.lsp_message.proofs.Prelude.{◌≡◌, ℕ, Bool, true, false, List, Option, refl, ap, ◌∙◌, if◌then◌else◌, Offers}
use Rattle.lsp_message.specs.Incoming.{initialize, shutdown, other_request}
use Rattle.lsp_message.specs.inside.Seen.{is_noted}
use Rattle.lsp_message.specs.Message.{IdData}
use Rattle.lsp_message.proofs.reader.incoming.noted_of.Goals as goal

-- notes go by no more of a request
unnoted : (first last : Bool) (id : IdData) (offers : Option Offers) (method : List ℕ) → is_noted
    (if first then initialize id offers else if last then shutdown id else other_request id method) ≡ false
unnoted false true id offers method = refl
unnoted _ _ id offers method = refl

pub returns-in-Request : goal.returns-in-Request
returns-in-Request c = rw c.in-Request.is (c.nothing.ensures _ _ c.request-incoming.ensures
    (ap is_noted c.request-incoming.ensures ∙ unnoted _ _ _ _ _))

pub returns-in-Notification : goal.returns-in-Notification
returns-in-Notification c = rw c.in-Notification.is c.notification.ensures

pub returns : goal.returns
returns c = rw c.in-Response.is (c.nothing-in-Response.ensures _ _ refl refl)

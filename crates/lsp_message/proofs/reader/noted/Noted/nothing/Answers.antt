use Rattle.lsp_message.proofs.Prelude.{◌≡◌, false, [], None, refl, ◌∙◌, Reading, incoming_view}
use Rattle.lsp_message.specs.Incoming.{IncomingData, did_change, other_notification}
use Rattle.lsp_message.specs.Lengths.{lengths_noted, params_noted}
use Rattle.lsp_message.specs.inside.Seen.{is_noted}
use Rattle.lsp_message.proofs.reader.noted.Noted.nothing.Goals as goal

unnoted : (m : IncomingData) (body : Reading) → is_noted m ≡ false
    → ([] ≡ lengths_noted m body) × (None ≡ params_noted m body)
unnoted (did_change params) body none = absurd (cc)
unnoted (other_notification method) body none = (refl, rw none refl)
unnoted _ body none = (refl, refl)

pub returns : goal.returns
returns c = λ body m is none.
    let noted = unnoted (incoming_view m) body none in
    record { asks = is; lengths = c.new.ensures.items ∙ noted.0; params = noted.1 }

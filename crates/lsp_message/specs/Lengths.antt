-- What notes of a body go by: the `rangeLength` of its changes (LSP 3.17,
-- TextDocumentContentChangeEvent), or the params of a `didSave`.
use Rattle.std.specs.Prelude.{◌∷◌, if◌then◌else◌}
use Rattle.lsp_message.specs.Prelude.{ℕ, Bool, List, [], Option, Some, None, bytes_eq, codes, Data, Items, no_items, item}
use Rattle.lsp_message.specs.Incoming.{IncomingData, did_change, other_notification}
use Rattle.lsp_message.specs.Message.{Reading, message, notification}
use Rattle.lsp_message.specs.Values.{array_in, member_at, natural_in}

-- Is this the method of a document that was saved (LSP 3.17, DidSaveTextDocument Notification)?
abbrev pub is_save : List ℕ → Bool
is_save method = bytes_eq method (codes "textDocument/didSave")

-- The `rangeLength` of each item of `contentChanges`, if it has one.
abbrev pub lengths_in : Items → List (Option ℕ)
lengths_in no_items = []
lengths_in (item d ds) = natural_in (member_at (codes "rangeLength") (Some d)) ∷ lengths_in ds

-- The same, where there may be no such items.
abbrev pub lengths_found : Option Items → List (Option ℕ)
lengths_found None = []
lengths_found (Some items) = lengths_in items

-- The params of a notification.
abbrev pub notification_params : Reading → Option Data
notification_params (message (notification method params)) = params
notification_params body = None

-- The lengths in a body. A body without changes has none.
abbrev pub lengths_of : Reading → List (Option ℕ)
lengths_of body =
    lengths_found (array_in (member_at (codes "contentChanges") (notification_params body)))

-- The lengths that notes go by, by what a body asks: those of a change.
abbrev pub lengths_noted : IncomingData → Reading → List (Option ℕ)
lengths_noted (did_change params) body = lengths_of body
lengths_noted m body = []

-- The params that notes go by, by what a body asks: those of a `didSave`.
abbrev pub params_noted : IncomingData → Reading → Option Data
params_noted (other_notification method) body
    = if is_save method then notification_params body else None
params_noted m body = None

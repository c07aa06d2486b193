-- The types of `src/` as the definitions see them: `x_view` is the data of an `x`.
use Rattle.std.specs.Prelude.{ℕ, List, map, string_bytes}
use Rattle.std.specs.declared.alloc.Global.{Global}
use Rattle.std.specs.Prelude.{Vec}
use Rattle.lsp_edit.specs.Edited.{content_change}
use Rattle.lsp_client.specs.Step as client
use Rattle.lsp_pair.specs.declared.event.Event.{Event}
use Rattle.lsp_pair.specs.declared.event.Event.TheVariants.{Start, Open, Edit, Close, Shutdown, Exit, ToServer, ToClient}
use Rattle.lsp_pair.specs.Events.{EventData, calls, to_server, to_client}

-- An event, with its texts as bytes.
abbrev pub event_view : Event → EventData
event_view Start = calls client.starts
event_view (Open uri language version text) =
    calls (client.orders
    (client.opens
    (record {
      uri = string_bytes uri;
      language = string_bytes language;
      version = version;
      text = string_bytes text;
    })))
event_view (Edit uri version changes)
    = calls (client.orders (client.edits (string_bytes uri) version (map content_change changes.items)))
event_view (Close uri) = calls (client.orders (client.closes (string_bytes uri)))
event_view Shutdown = calls client.shuts_down
event_view Exit = calls client.exits
event_view ToServer = to_server
event_view ToClient = to_client

-- The frames of a queue, as bytes.
abbrev pub frames : List (Vec ℕ Global) → List (List ℕ)
frames queue = map (λ f. f.items) queue

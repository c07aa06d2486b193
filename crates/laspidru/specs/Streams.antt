-- An end of a session in a handle, and the stream that it takes its messages from.
use Rattle.std.specs.Prelude.{ℕ, false, List, []}
use Rattle.lsp_frame.specs.Limits.{LimitsData}
use Rattle.lsp_frame.specs.Stream.{FramerData}
use Rattle.laspidru.specs.declared.party.Party.{Party}
use Rattle.laspidru.specs.declared.stream.Stream.{Stream}

-- A framer at the start of a stream.
abbrev pub framing_of : LimitsData → FramerData
framing_of limits = record { place = 0; buffered = []; failed = false; limits = limits }

-- A stream at its start.
abbrev pub stream_of : LimitsData → Stream
stream_of limits = record { framing = framing_of limits; is_handled = false }

-- A server or a client, the frame that it sends last (no bytes if it sends none), and its stream.
pub record EndData : Type 0 where
  pub party : Party
  pub frame : List ℕ
  pub stream : Stream

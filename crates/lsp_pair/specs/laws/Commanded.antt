-- The documents of both ends, by the document commands that were sent and delivered.
use Rattle.std.specs.Prelude.{◌≡◌, ◌++◌}
use Rattle.lsp_pair.specs.Prelude.{List, [], take, table_of}
use Rattle.lsp_pair.specs.Events.{Setting, EventData}
use Rattle.lsp_pair.specs.Pair.{PairData, IsFitting}
use Rattle.lsp_pair.specs.laws.World.{ClientMessage, commands_in, world_of, client_of}
use Rattle.lsp_pair.specs.laws.At.{IsAt}

-- The messages that the client sent.
abbrev pub sent_messages : Setting → List EventData → List ClientMessage
sent_messages setting events = (world_of setting events).out

-- The messages of the client that were delivered.
abbrev pub delivered_messages : Setting → List EventData → List ClientMessage
delivered_messages setting events =
    take (world_of setting events).out_delivered (sent_messages setting events)

-- The server's documents are what the client's were when it had sent the delivered messages, and no
-- other. That was after some first part of the events.
pub record IsWhatTheClientHad (setting : Setting) (events : List EventData) (pair : PairData)
    : Type 0 where
  pub before : List EventData
  pub later : List EventData
  pub parts : before ++ later ≡ events
  pub sent : sent_messages setting before ≡ delivered_messages setting events
  pub same : pair.server.table ≡ (client_of setting (world_of setting before)).table

-- The client's documents are the table of the document commands that it sent, and the server's the
-- table of those that were delivered. Where no message waits for the server, both are equal.
pub record HaveCommanded (setting : Setting) (events : List EventData) (pair : PairData)
    : Type 0 where
  pub client : pair.client.table ≡ table_of (commands_in (sent_messages setting events))
  pub server : pair.server.table ≡ table_of (commands_in (delivered_messages setting events))
  pub equal : pair.to_server ≡ [] → pair.server.table ≡ pair.client.table
  pub earlier : IsWhatTheClientHad setting events pair

-- The documents of a pair at a world.
abbrev pub CommandedLaw : Type 0
CommandedLaw =
    (setting : Setting) (events : List EventData) (pair : PairData) → IsFitting setting
    → IsAt setting pair events → HaveCommanded setting events pair

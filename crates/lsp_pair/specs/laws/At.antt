-- When a pair is at the world of a list of events. Each pair is at one: a new pair at that of no
-- events, and a step adds its event.
use Rattle.std.specs.Prelude.{◌≡◌, ◌∷◌}
use Rattle.lsp_pair.specs.Prelude.{ℕ, List, [], drop, map, OutgoingData, DocumentItem, table_after, announced_kind}
use Rattle.lsp_message.specs.declared.agreement.SyncKind.{SyncKind}
use Rattle.lsp_client.specs.Step as client
use Rattle.lsp_pair.specs.Events.{Setting, EventData}
use Rattle.lsp_pair.specs.Pair.{PairData, message_frame}
use Rattle.lsp_pair.specs.laws.World.{ClientMessage, commands, lifecycle, World, client_of, server_of, AreProperEvents, world_of}

-- The frame of a message, where the client had this table when it sent it.
abbrev pub frame_of : SyncKind → List DocumentItem → ClientMessage → List ℕ
frame_of kind table (commands command) = message_frame (client.sent_message kind table command)
frame_of kind table (lifecycle m) = message_frame m

-- The table after a message.
abbrev pub table_with : List DocumentItem → ClientMessage → List DocumentItem
table_with table (commands command) = table_after table command
table_with table (lifecycle m) = table

-- The frames of messages, where the client had this table when it sent the first.
abbrev pub frames_from : SyncKind → List DocumentItem → List ClientMessage → List (List ℕ)
frames_from kind table [] = []
frames_from kind table (sent ∷ rest) =
    frame_of kind table sent ∷ frames_from kind (table_with table sent) rest

-- The messages that wait for the server.
abbrev pub waiting_out : World → List ClientMessage
waiting_out w = drop w.out_delivered w.out

-- The messages that wait for the client.
abbrev pub waiting_back : World → List OutgoingData
waiting_back w = drop w.back_delivered w.back

-- The pair of a world: its ends, and in its queues the frames of the messages that wait.
abbrev pub pair_of : Setting → World → PairData
pair_of setting w =
    record {
      client = client_of setting w;
      server = server_of setting w;
      to_server =
          frames_from (announced_kind setting.config.sync) (server_of setting w).table
          (waiting_out w);
      to_client = map message_frame (waiting_back w);
    }

-- A pair is at the world of a list of events.
pub record IsAt (setting : Setting) (pair : PairData) (events : List EventData) : Type 0 where
  pub proper : AreProperEvents events
  pub is : pair ≡ pair_of setting (world_of setting events)

-- What happens in the deliveries of a pair, and what both ends agree on.
use Rattle.std.specs.Prelude.{◌≡◌}
use Rattle.lsp_pair.specs.Prelude.{Bool, true, false, slice_get, MatchOption, Some, None, ⊤, OutgoingData, encoding_chosen, announced_kind, Agreed, Happened, Server, Client, Nothing}
use Rattle.lsp_message.specs.Outgoing as outgoing
use Rattle.lsp_client.specs.declared.phase.Phase.{Phase}
use Rattle.lsp_client.specs.declared.phase.Phase.TheVariants.{New, Asked, Failed}
use Rattle.lsp_pair.specs.declared.event.Did.TheVariants as done
use Rattle.lsp_pair.specs.declared.event.Heard.TheVariants as heard
use Rattle.lsp_pair.specs.Events.{Setting, EventData, calls, to_server, to_client}
use Rattle.lsp_pair.specs.Pair.{PairData}
use Rattle.lsp_pair.specs.laws.World.{ClientMessage, commands, lifecycle, World}

-- The server answers `initialize` and `shutdown` with their results, ignores `initialized`, accepts
-- each document command, and ends at `exit` with status 0.
abbrev pub IsUsual : ClientMessage → Happened → Type 0
IsUsual (commands command) happened = happened ≡ Server done.Changed
IsUsual (lifecycle (outgoing.initialize offers)) happened =
    happened ≡ Server (done.Reply None)
IsUsual (lifecycle outgoing.initialized) happened = happened ≡ Server done.Ignored
IsUsual (lifecycle outgoing.shutdown) happened = happened ≡ Server (done.Reply None)
IsUsual (lifecycle outgoing.exit) happened = happened ≡ Server (done.Exit 0)
IsUsual (lifecycle m) happened = ⊥

-- The client sends `initialized` after the result of `initialize`, and notes that of `shutdown`.
abbrev pub IsUsualBack : OutgoingData → Happened → Type 0
IsUsualBack (outgoing.initialize_result id encoding kind) happened =
    happened ≡ Client heard.Send
IsUsualBack (outgoing.shutdown_result id) happened = happened ≡ Client heard.Noted
IsUsualBack m happened = ⊥

-- What happens in a delivery is usual for the first message that waits. Where none waits, nothing
-- happens.
abbrev pub IsUsualTurn : World → EventData → Happened → Type 0
IsUsualTurn w (calls call) happened = ⊤
IsUsualTurn w to_server happened =
    MatchOption (slice_get w.out w.out_delivered) (happened ≡ Nothing)
    (λ sent. IsUsual sent happened)
IsUsualTurn w to_client happened =
    MatchOption (slice_get w.back w.back_delivered) (happened ≡ Nothing)
    (λ m. IsUsualBack m happened)

-- What both ends agree on.
abbrev pub agreed_of : Setting → Agreed
agreed_of setting =
    record {
      encoding = encoding_chosen setting.config.choice setting.offers;
      kind = announced_kind setting.config.sync;
    }

-- The phases of the client from Ready on.
abbrev pub has_agreed : Phase → Bool
has_agreed New = false
has_agreed Asked = false
has_agreed (Failed reason) = false
has_agreed phase = true

-- From Ready on both ends use the encoding that was chosen.
pub record HaveOneEncoding (setting : Setting) (pair : PairData) : Type 0 where
  pub client : has_agreed pair.client.phase ≡ true → pair.client.agreed ≡ Some (agreed_of setting)
  pub server :
      has_agreed pair.client.phase ≡ true → pair.server.encoding ≡ Some (agreed_of setting).encoding

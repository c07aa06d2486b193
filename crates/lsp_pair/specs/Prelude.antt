-- What these definitions import from below, so that each names it by one line.
pub use Rattle.std.specs.Prelude.{Bool, Err, FitsSigned, IsUtf8, List, MatchOption, None, Ok, Option, Result, Some, [], drop, false, length, map, nat_le, not, slice_get, take, true, ℕ, ℤ, ⊤, ◌&&◌, ◌++◌, ◌+◌, ◌||◌, ◌∷◌, ◌≡◌, ◌≢◌}
pub use Rattle.lsp_client.specs.Step.{Call, DeliveredData, Order, orders}
pub use Rattle.lsp_client.specs.declared.agreed.Agreed.{Agreed}
pub use Rattle.lsp_client.specs.declared.fault.ClientFault.{ClientFault}
pub use Rattle.lsp_frame.specs.Limits.{AreInRange, LimitsData}
pub use Rattle.lsp_message.specs.Message.{message, reading}
pub use Rattle.lsp_message.specs.Outgoing.{OutgoingData, body_of}
pub use Rattle.lsp_message.specs.Params.{DocumentItem}
pub use Rattle.lsp_pair.specs.declared.event.Did.{Did}
pub use Rattle.lsp_pair.specs.declared.event.Happened.{Happened}
pub use Rattle.lsp_pair.specs.declared.event.Happened.TheVariants.{Client, Nothing, Refused, Server}
pub use Rattle.lsp_server.specs.Answer.{AnswerData, changed, exits, ignored, refused, reply, reply_code}
pub use Rattle.lsp_server.specs.Choice.{announced_kind, encoding_chosen}
pub use Rattle.lsp_store.specs.Table.{Command, changes, closes, opens, table_after, table_of}

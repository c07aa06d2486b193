-- What only proofs and private contracts use of `Seen` and of `Lengths`.
use Rattle.std.specs.Prelude.{◌≡◌}
use Rattle.lsp_message.specs.Prelude.{Bool, true, false, option_map, Result, Ok, Err, Message, ReadFault, NotJson, NotAMessage, NoMemory}
use Rattle.lsp_message.specs.Incoming.{IncomingData, did_change, other_notification}
use Rattle.lsp_message.specs.Lengths.{is_save}
use Rattle.lsp_message.specs.Message as spec
use Rattle.lsp_message.specs.Seen.{id_view, message_view}

-- The result of a private part of reading is exactly this reading.
abbrev pub Answers : Result Message ReadFault → spec.Reading → Type 0
Answers (Ok m) reading = reading ≡ spec.message (message_view m)
Answers (Err NotJson) reading = ⊥
Answers (Err (NotAMessage id)) reading = reading ≡ spec.not_a_message (option_map id_view id)
Answers (Err NoMemory) reading = ⊥

-- Do notes go by more of a message than what it asks?
abbrev pub is_noted : IncomingData → Bool
is_noted (did_change params) = true
is_noted (other_notification method) = is_save method
is_noted m = false

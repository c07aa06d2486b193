-- The words for what happened at a step, as docs/LSPSYNC.md lists them.
use Rattle.std.specs.Prelude.{◌++◌}
use Rattle.lsp_simulate.specs.Prelude.{ℕ, List, Option, Some, None, codes, decimal, code_of, Happened}
use Rattle.std.specs.Fmt.{signed_decimal}
use Rattle.lsp_store.specs.Faults.{fault_code}
use Rattle.lsp_message.specs.declared.outgoing.ErrorCode.{ErrorCode}
use Rattle.lsp_server.specs.declared.answer.Refusal.{Refusal}
use Rattle.lsp_server.specs.declared.answer.Refusal.TheVariants as refusal
use Rattle.lsp_client.specs.declared.fault.ClientFault.{ClientFault}
use Rattle.lsp_client.specs.declared.fault.ClientFault.TheVariants as fault
use Rattle.lsp_client.specs.declared.phase.Phase.{Phase}
use Rattle.lsp_client.specs.declared.phase.Phase.TheVariants.{New, Asked, Ready, Closing, Closed, Done, Failed}
use Rattle.lsp_client.specs.declared.phase.Reason.{Reason}
use Rattle.lsp_client.specs.declared.phase.Reason.TheVariants.{NotAnAnswer, ErrorAnswer, NoSync, BadEncoding}
use Rattle.lsp_pair.specs.declared.event.Did.{Did}
use Rattle.lsp_pair.specs.declared.event.Did.TheVariants as did
use Rattle.lsp_pair.specs.declared.event.Heard.{Heard}
use Rattle.lsp_pair.specs.declared.event.Heard.TheVariants as heard
use Rattle.lsp_pair.specs.declared.event.Happened.TheVariants as happened

-- The word of a client's phase.
abbrev pub phase_name : Phase → List ℕ
phase_name New = codes "new"
phase_name Asked = codes "asked"
phase_name Ready = codes "ready"
phase_name Closing = codes "closing"
phase_name Closed = codes "closed"
phase_name Done = codes "done"
phase_name (Failed reason) = codes "failed"

-- The word for why a server's answer is none that the protocol allows.
abbrev pub reason_name : Reason → List ℕ
reason_name NotAnAnswer = codes "not-an-answer"
reason_name ErrorAnswer = codes "error-answer"
reason_name NoSync = codes "no-sync"
reason_name BadEncoding = codes "bad-encoding"

-- The words for a call that the client refused.
abbrev pub refused_words : ClientFault → List ℕ
refused_words (fault.WrongPhase phase) = codes "refused C1 " ++ phase_name phase
refused_words (fault.Store why) = codes "refused " ++ fault_code why
refused_words fault.NoMemory = codes "refused C3"

-- The words for a reply: its error, if it is one.
abbrev pub reply_words : Option ErrorCode → List ℕ
reply_words None = codes "server reply"
reply_words (Some code) = codes "server error " ++ signed_decimal (code_of code)

-- The words for a notification that the server refused.
abbrev pub refusal_words : Refusal → List ℕ
refusal_words refusal.InvalidParams = codes "server refused M4"
refusal_words (refusal.Store why) = codes "server refused " ++ fault_code why

-- The words for what the server did with a message.
abbrev pub did_words : Did → List ℕ
did_words (did.Reply error) = reply_words error
did_words did.Changed = codes "server changed"
did_words did.Dropped = codes "server dropped"
did_words did.Ignored = codes "server ignored"
did_words (did.Refused why) = refusal_words why
did_words (did.Exit status) = codes "server exit " ++ decimal status

-- The words for what the client did with a message.
abbrev pub heard_words : Heard → List ℕ
heard_words heard.Send = codes "client send"
heard_words heard.Noted = codes "client noted"
heard_words heard.Ignored = codes "client ignored"
heard_words (heard.BadServer reason) = codes "client bad-server " ++ reason_name reason

abbrev pub happened_words : Happened → List ℕ
happened_words happened.Sent = codes "sent"
happened_words (happened.Refused why) = refused_words why
happened_words (happened.Server answer) = did_words answer
happened_words (happened.Client answer) = heard_words answer
happened_words happened.Nothing = codes "nothing"

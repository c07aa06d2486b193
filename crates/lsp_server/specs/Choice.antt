-- What a server announces in its result of `initialize` (LSP 3.17, Initialize Request:
-- PositionEncodingKind, TextDocumentSyncKind).
use Rattle.std.specs.Prelude.{if◌then◌else◌}
use Rattle.lsp_server.specs.Prelude.{Encoding, Utf16, Offers, is_offered, Config, Fixed, Negotiated}
use Rattle.lsp_message.specs.declared.agreement.SyncKind.{SyncKind}
use Rattle.lsp_message.specs.declared.agreement.SyncKind.TheVariants as kind
use Rattle.lsp_frame.specs.Limits.{default_limits}
use Rattle.lsp_server.specs.declared.config.EncodingChoice.{EncodingChoice}
use Rattle.lsp_server.specs.declared.config.ChangeForm.{ChangeForm}
use Rattle.lsp_server.specs.declared.config.ChangeForm.TheVariants.{Incremental, Full}

-- The encoding of a session: a fixed one whatever is offered (LSP 3.17 allows one that was offered,
-- or UTF-16), else the preferred one if it is offered, else UTF-16.
abbrev pub encoding_chosen : EncodingChoice → Offers → Encoding
encoding_chosen (Fixed encoding) offers = encoding
encoding_chosen (Negotiated prefer) offers = if is_offered offers prefer then prefer else Utf16

-- The kind of synchronisation that a server announces.
abbrev pub announced_kind : ChangeForm → SyncKind
announced_kind Incremental = kind.Incremental
announced_kind Full = kind.Full

-- A server's set-up where a user chooses none: the default limits, UTF-16 whatever the client
-- offers, changed ranges.
abbrev pub default_config : Config
default_config = record { limits = default_limits; choice = Negotiated Utf16; sync = Incremental }

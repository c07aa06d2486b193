-- The canonical message of a batch on an open document, and the document that a message is about.
use Rattle.std.specs.Prelude.{◌≡◌}
use Rattle.laspidru.specs.Prelude.{ℕ, ℤ, List, length, Option, Some, None, Result, Ok, Err, Encoding, units_in, StoreData, OK, Object, FaultAt, ok_or, NO_DOCUMENT, and_then, EndData}
use Rattle.lsp_edit.specs.Batch as batch
use Rattle.lsp_store.specs.Faults as documents
use Rattle.lsp_store.specs.Message.{canonical_frame, message_refusal}
use Rattle.lsp_store.specs.Table.{Refusal}
use Rattle.laspidru.specs.declared.structs.Edit.{Edit}
use Rattle.laspidru.specs.Clients.{IsStoreReport}
use Rattle.laspidru.specs.Edits.{edits_encoding, edits_of}
use Rattle.laspidru.specs.Ends.{store_in}
use Rattle.laspidru.specs.Logs.{as_output}
use Rattle.laspidru.specs.Objects.{in_handle, uri_asked}
use Rattle.laspidru.specs.Servers.{store_code}
use Rattle.lsp_message.specs.Incoming.{IncomingData, did_open, did_change, did_close}

-- A batch on the open document of a URI, under a version.
pub record MessageAsked : Type 0 where
  pub store : StoreData
  pub uri : List ℕ
  pub version : ℤ
  pub encoding : Encoding
  pub edits : List batch.ContentChange

-- The same as C passes it, or the code of its refusal.
abbrev pub message_asked : List ℕ → ℤ → ℕ → List Edit → List ℕ → Result EndData ℕ →
    Result MessageAsked ℕ
message_asked uri version number edits texts held = and_then (uri_asked uri) (λ named.
    and_then (edits_encoding number edits texts) (λ encoding. and_then held (λ it. Ok (record {
      store = store_in it.party;
      uri = named;
      version = version;
      encoding = encoding;
      edits = edits_of edits texts;
    }))))

-- The frame of the canonical message, unless it is refused.
abbrev pub frame_unless : Option Refusal → List ℕ → Result (List ℕ) Refusal
frame_unless (Some refusal) frame = Err refusal
frame_unless None frame = Ok frame

-- The frame of the canonical message that is asked for, or why it is refused.
abbrev pub canonical_message_of : MessageAsked → Result (List ℕ) Refusal
canonical_message_of asked =
    let units = units_in asked.encoding in
    frame_unless
    (message_refusal asked.store.limits units asked.store.table asked.uri asked.version asked.edits)
    (canonical_frame units asked.store.table asked.uri asked.version asked.edits)

-- The handle has the frame, or its refusal is reported.
abbrev pub IsMessageLeft : Result (List ℕ) Refusal → ℕ → Option Object → ℕ → FaultAt → Type 0
IsMessageLeft (Ok frame) code stored len out =
    (code ≡ OK) × (in_handle as_output stored ≡ Ok frame) × (len ≡ length frame)
IsMessageLeft (Err refusal) code stored len out =
    (code ≡ store_code (documents.refusal_fault refusal))
    × IsStoreReport (documents.refusal_fault refusal) out

-- The URI of the document that a message opens, changes or closes: the one in valid params.
abbrev pub document_of : IncomingData → Option (List ℕ)
document_of (did_open (Some params)) = Some params.uri
document_of (did_change (Some params)) = Some params.uri
document_of (did_close (Some params)) = Some params.uri
document_of other = None

-- The same, or the code of its refusal.
abbrev pub named_document : IncomingData → Result (List ℕ) ℕ
named_document message = ok_or (document_of message) NO_DOCUMENT

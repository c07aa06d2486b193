-- What a client offers and what a server announces (LSP 3.17, Initialize Request:
-- ClientCapabilities, ServerCapabilities).
use Rattle.std.specs.Prelude.{◌==◌, if◌then◌else◌}
use Rattle.lsp_message.specs.Prelude.{ℕ, Bool, true, false, List, [], Option, Some, None, option_map, option_and_then, codes, list_any, bytes_eq, Data, object, no_members, get, get_member, Encoding, Utf8, Utf16, Utf32, name_of, encoding_named, Offers, Announced, SyncKind, Off, Full, Incremental}
use Rattle.lsp_message.specs.Values.{◌>>=◌, text_in, members_in, texts_in, bool_in, natural_in, optional}

-- Whether a client offers an encoding; UTF-16 always is offered.
abbrev pub is_offered : Offers → Encoding → Bool
is_offered offers Utf8 = offers.utf8
is_offered offers Utf16 = true
is_offered offers Utf32 = offers.utf32

-- Whether a list of names has the name of an encoding.
abbrev pub is_among : Encoding → List (List ℕ) → Bool
is_among encoding names = list_any (λ name. bytes_eq name (name_of encoding)) names

-- The offers of a list of names. UTF-16 is always offered; unknown names are skipped.
abbrev pub offers_named : List (List ℕ) → Offers
offers_named names = record { utf8 = is_among Utf8 names; utf32 = is_among Utf32 names }

-- The encodings that the params of an `initialize` offer; none where they are invalid. The names are
-- in `capabilities.general.positionEncodings`. An object that is missing on the way there counts as
-- one without members, and a missing list as an empty one. (LSP 3.17 requires `capabilities`, and
-- also `processId` and `rootUri`, which aren't read.)
abbrev pub offers_of : Option Data → Option Offers
offers_of params = do
  ms ← members_in params
  capabilities ← optional no_members members_in (get_member (codes "capabilities") ms)
  general ← optional no_members members_in (get_member (codes "general") capabilities)
  names ← optional [] texts_in (get_member (codes "positionEncodings") general)
  Some (offers_named names)

-- The kind of synchronisation with this number (TextDocumentSyncKind).
abbrev pub kind_with_number : ℕ → Option SyncKind
kind_with_number n = if n == 0 then Some Off else if n == 1 then Some Full else
    if n == 2 then Some Incremental else None

-- The kind whose number a value is.
abbrev pub kind_in : Option Data → Option SyncKind
kind_in value = option_and_then kind_with_number (natural_in value)

-- What a `textDocumentSync` announces: whether opening and closing are notified, and how changes
-- are. An object says both (a missing `openClose` is false, a missing `change` is Off, the
-- protocol's None). A number is a kind, and opening and closing are then notified whichever kind it
-- is.
abbrev pub sync_in : Option Data → Option (Bool × SyncKind)
sync_in (Some (object ms)) = do
  open_close ← optional false bool_in (get_member (codes "openClose") ms)
  kind ← optional Off kind_in (get_member (codes "change") ms)
  Some (open_close, kind)
sync_in value = option_map (λ kind. (true, kind)) (kind_in value)

-- The encoding whose name a value is. `None`: the value is no string. `Some None`: a name that
-- nobody knows.
abbrev pub announced_encoding : Option Data → Option (Option Encoding)
announced_encoding value = option_map encoding_named (text_in value)

-- What the result of an `initialize` announces; none where it is invalid.
abbrev pub announced_of : Data → Option Announced
announced_of result = do
  capabilities ← members_in (get (codes "capabilities") result)
  sync ← optional (false, Off) sync_in (get_member (codes "textDocumentSync") capabilities)
  encoding ← optional (Some Utf16) announced_encoding
      (get_member (codes "positionEncoding") capabilities)
  Some (record { open_close = sync.0; kind = sync.1; encoding = encoding })

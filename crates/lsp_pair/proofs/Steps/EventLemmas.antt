-- Events as the types hold them.
use Rattle.lsp_pair.proofs.Prelude.{FitsSigned, w32, ⊤, IsUtf8-string_bytes, texts_held, Event, Start, Open, Edit, Close, Shutdown, Exit, ToServer, ToClient, IsProperEvent, event_view}

-- its version fits
abbrev pub FitsVersion : Event → Type 0
FitsVersion (Open uri language version text) = FitsSigned w32 version
FitsVersion (Edit uri version changes) = FitsSigned w32 version
FitsVersion event = ⊤

pub proper_event : (e : Event) → FitsVersion e → IsProperEvent (event_view e)
proper_event Start fits = tt
proper_event (Open uri language version text) fits = record {
  uri = IsUtf8-string_bytes uri;
  language = IsUtf8-string_bytes language;
  version = fits;
  text = IsUtf8-string_bytes text;
}
proper_event (Edit uri version changes) fits = record {
  name = IsUtf8-string_bytes uri;
  fits = fits;
  texts = texts_held changes.items;
}
proper_event (Close uri) fits = IsUtf8-string_bytes uri
proper_event _ fits = tt

-- A batch is read back as it was written.
use Rattle.lsp_server.proofs.Prelude.{◌≡◌, List, [], ◌∷◌, map, encode_utf8_all, refl, chars, ContentChange, content_change_from_data}
use Rattle.std.proofs.lemmas.Str.{chars-encodes}
use Rattle.lsp_store.specs.Message.{AreTexts, written_content_change}

pub edits_back : (batch : List ContentChange) → AreTexts batch → map content_change_from_data
    (map written_content_change batch) ≡ batch
edits_back [] texts = refl
edits_back (change ∷ batch) texts =
    let text : chars (encode_utf8_all change.text) ≡ change.text = chars-encodes change.text texts.0 in
    let same : content_change_from_data (written_content_change change)
    ≡ change = λ i. record { range = change.range; text = text i } in
    rw (same, edits_back batch texts.1) refl

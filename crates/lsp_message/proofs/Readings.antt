-- A body against the value that its bytes are.
use Rattle.lsp_message.proofs.Prelude.{◌≡◌, ◌≢◌, ℕ, [], ◌∷◌, slice_index, ◌<◌, List, length, Some, None, IsUtf8, refl, sym, subst, arith, IsUtf8-from_is_utf8, is_utf8-from_IsUtf8, Data, read, MessageData, message_of, not_json, message, reading, IsReadFault, IsFaultOfError, common_steps}
use Rattle.std.proofs.lemmas.Bool.{cases_Bool}
use Rattle.json.specs.Json.{value}
use Rattle.json.specs.Lex.{punctuate, lex}
use Rattle.json.specs.Word.{word, after_number}
use Rattle.lsp_message.specs.declared.message.ReadFault.{ReadFault}
use Rattle.lsp_message.specs.declared.message.ReadFault.TheVariants.{NotJson, NotAMessage, NoMemory}
use Rattle.serde_json.specs.Errors.{IsMemory}
use Rattle.serde_json.specs.declared.error.Error.{Error}

-- a body whose bytes are a value is read as what that value is
pub reading_of_value : (body : List ℕ) (d : Data) → IsUtf8 body → read body ≡ Some d → reading body ≡ message_of d
reading_of_value body d utf8 reads = rw (is_utf8-from_IsUtf8 body utf8, reads) refl

-- a body that `serde_json` refuses is no JSON
pub reading_of_none : (body : List ℕ) → (IsUtf8 body → read body ≡ None) → reading body ≡ not_json
reading_of_none body refused = grind (arith, common_steps, IsUtf8-from_is_utf8, refused)

-- the fault that an error of `serde_json` makes
pub fault_by_error : (body : List ℕ) (error : Error) (fault : ReadFault) → IsUtf8 body → IsFaultOfError error fault
    → (¬ IsMemory error → read body ≡ None) → (IsMemory error → 0 < length body) → slice_index body 0
    ≢ 239 → IsReadFault body fault
fault_by_error body error NotJson utf8 is refused memory unmarked = reading_of_none body (λ u. refused is)
fault_by_error body error (NotAMessage id) utf8 is refused memory unmarked = absurd is
fault_by_error body error NoMemory utf8 is refused memory unmarked = (memory is, unmarked, utf8)

-- A body that is a message is UTF-8.
pub message_utf8 : (body : List ℕ) (m : MessageData) → reading body ≡ message m → IsUtf8 body
message_utf8 body m is = grind (arith, common_steps, cases_Bool, IsUtf8-from_is_utf8)

marked : (rest : List ℕ) → read (239 ∷ rest) ≡ None
unfolding value punctuate lex word after_number
marked rest = refl

marked_none : (body : List ℕ) → slice_index body 0 ≡ 239 → read body ≡ None
marked_none [] mark = absurd (let e : 0 ≡ 239 = mark in omega (arith, e))
marked_none (x ∷ rest) mark = subst (λ (n : ℕ). read (n ∷ rest) ≡ None) (sym mark) (marked rest)

-- A body that begins as a byte order mark does is no JSON.
pub marked_no_json : (body : List ℕ) → slice_index body 0 ≡ 239 → reading body ≡ not_json
marked_no_json body mark = reading_of_none body (λ utf8. marked_none body mark)

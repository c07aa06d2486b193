-- The body of a message is the compact text of its value.
use Rattle.lsp_message.proofs.Prelude.{◌≡◌, ℕ, ℤ, pos, negsuc, Bool, true, false, List, [], ◌∷◌, ◌++◌, map, Option, Some, None, codes, refl, sym, ap, ap₂, ◌∙◌, append_assoc, join_by, flat_map, Data, null, of_integer, items_of, compact_text, items_text, number_text, Position, Range, Offers, ErrorCode, ParseError, IdData, whole, text, DocumentItem, ContentChangeData, ChangeData}
use Rattle.std.specs.Fmt.{digits, signed_decimal}
use Rattle.json.specs.Print.{quoted, escape_byte}
use Rattle.lsp_message.specs.Outgoing.{OutgoingData, initialize, did_open, did_change, did_close, initialize_result, shutdown_result, error_reply, error_text, id_text, document_text, position_text, range_text, content_change_text, notification_text, result_text, body_of}
use Rattle.lsp_message.specs.Written as values

-- the digits of a whole number
integer_text : (n : ℤ) → number_text (of_integer n) ≡ signed_decimal n
integer_text (pos n) = refl
integer_text (negsuc n) = refl

-- ---- lists, one after another

four : (a b c d : List ℕ) → ((a ++ b) ++ c) ++ d ≡ a ++ (b ++ (c ++ d))
four a b c d = simp append_assoc

five : (a b c d e : List ℕ) → (((a ++ b) ++ c) ++ d) ++ e ≡ a ++ (b ++ (c ++ (d ++ e)))
five a b c d e = simp append_assoc

six : (a b c d e f : List ℕ) → ((((a ++ b) ++ c) ++ d) ++ e) ++ f ≡ a ++ (b ++ (c ++ (d ++ (e ++ f))))
six a b c d e f = simp append_assoc

within : (a b c d e : List ℕ) → (a ++ (b ++ (c ++ d))) ++ e ≡ a ++ (b ++ (c ++ (d ++ e)))
within a b c d e = simp append_assoc

-- the items of an array, with the closing bracket
module _ {X : Type 0} (t : X → List ℕ) (v : X → Data) (are : (x : X) → t x ≡ compact_text (v x)) where
  items_later : (xs : List X) → flat_map (λ x. codes "," ++ t x) xs ++ codes "]" ≡ items_text true (items_of (map v xs))
  items_later [] = refl
  items_later (x ∷ xs) = simp append_assoc (rw (are x, items_later xs) refl)

  items_are : (xs : List X) → join_by t (codes ",") xs ++ codes "]" ≡ items_text false (items_of (map v xs))
  items_are [] = refl
  items_are (x ∷ xs) = simp append_assoc (rw (are x, items_later xs) refl)

-- ---- parts

error_is : (e : ErrorCode) → error_text e ≡ compact_text (values.error_value e)
unfolding escape_byte digits
error_is ParseError = refl
error_is _ = refl

id_is : (id : IdData) → id_text (Some id) ≡ compact_text (values.id_value id)
id_is (whole n) = sym (integer_text n)
id_is (text s) = refl

id_or_null_is : (id : Option IdData) → id_text id ≡ compact_text (values.id_or_null id)
id_or_null_is None = refl
id_or_null_is (Some id) = id_is id

position_is : (p : Position) → position_text p ≡ compact_text (values.position_value p)
unfolding escape_byte
position_is p = simp append_assoc

range_is : (r : Range) → range_text r ≡ compact_text (values.range_value r)
unfolding escape_byte
range_is r =
    ap (λ s. codes "{\"end\":" ++ s)
    (four (position_text r.stop) (codes ",\"start\":") (position_text r.start) (codes "}")
    ∙ ap₂ (λ stop start. stop ++ (codes ",\"start\":" ++ (start ++ codes "}"))) (position_is r.stop)
    (position_is r.start))

edit_of_is : (r : Option Range) (s : List ℕ) → content_change_text (record { range = r; text = s })
    ≡ compact_text (values.content_change_value (record { range = r; text = s }))
unfolding escape_byte
edit_of_is None s = refl
edit_of_is (Some r) s =
    ap (λ t. codes "{\"range\":" ++ t)
    (five (range_text r) (codes ",") (codes "\"text\":") (quoted s) (codes "}")
    ∙ ap (λ t. t ++ (codes ",\"text\":" ++ (quoted s ++ codes "}"))) (range_is r))

edit_is : (e : ContentChangeData) → content_change_text e ≡ compact_text (values.content_change_value e)
edit_is e = edit_of_is e.range e.text

pub document_is : (p : DocumentItem) → document_text p ≡ compact_text (values.opened_document p)
unfolding escape_byte
document_is p = simp (append_assoc, integer_text)

-- ---- params and results

change_is : (p : ChangeData) → codes "{\"contentChanges\":[" ++ join_by content_change_text (codes ",") p.changes
    ++ codes "],\"textDocument\":{\"uri\":"
    ++ quoted p.uri ++ codes ",\"version\":" ++ signed_decimal p.version ++ codes "}}"
    ≡ compact_text (values.change_params p)
unfolding escape_byte
change_is p =
    let items = join_by content_change_text (codes ",") p.changes in
    let after = codes ",\"textDocument\":{\"uri\":" in
    let version = codes ",\"version\":" in
    let number = number_text (of_integer p.version) in
    ap (λ s. codes "{\"contentChanges\":[" ++ s)
    (six items (codes "],\"textDocument\":{\"uri\":") (quoted p.uri) version (signed_decimal p.version) (codes "}}")
    ∙ (sym (append_assoc items (codes "]")
    (after ++ (quoted p.uri ++ (version ++ (signed_decimal p.version ++ codes "}}")))))
    ∙ ap₂ (λ list rest. list ++ (after ++ rest))
    (items_are content_change_text values.content_change_value edit_is p.changes)
    (ap (λ n. quoted p.uri ++ (version ++ (n ++ codes "}}"))) (sym (integer_text p.version))
    ∙ sym (within (quoted p.uri) version number (codes "}") (codes "}")))))

response_is : (id : IdData) (result : List ℕ) (value : Data) → result ≡ compact_text value → result_text id result
    ≡ compact_text (values.result_value id value)
unfolding escape_byte
response_is id result value is = simp append_assoc (rw (id_is, is) refl)

-- ---- bodies

initialize_is : (utf8 utf32 : Bool) → let offers : Offers = record { utf8 = utf8; utf32 = utf32 } in
    body_of (initialize offers) ≡ compact_text (values.value_of (initialize offers))
unfolding escape_byte digits
initialize_is true true = refl
initialize_is false false = refl
initialize_is _ _ = refl

error_reply_is : (id : Option IdData) (error : ErrorCode) → body_of (error_reply id error)
    ≡ compact_text (values.value_of (error_reply id error))
unfolding escape_byte
error_reply_is id error =
    ap (λ s. codes "{\"error\":" ++ s)
    (four (error_text error) (codes ",\"id\":") (id_text id) (codes ",\"jsonrpc\":\"2.0\"}")
    ∙ ap₂ (λ e i. e ++ (codes ",\"id\":" ++ (i ++ codes ",\"jsonrpc\":\"2.0\"}"))) (error_is error) (id_or_null_is id))

pub body_is : (m : OutgoingData) → body_of m ≡ compact_text (values.value_of m)
unfolding escape_byte digits
body_is (initialize offers) = initialize_is offers.utf8 offers.utf32
body_is (did_open p) = simp (append_assoc, integer_text)
body_is (did_change p) = ap (notification_text (codes "textDocument/didChange")) (change_is p)
body_is (did_close p) = simp append_assoc
body_is (initialize_result id encoding kind) =
    response_is id _ (values.initialize_value encoding kind) (simp append_assoc)
body_is (shutdown_result id) = response_is id (codes "null") null refl
body_is (error_reply id error) = error_reply_is id error
body_is _ = refl

-- The line of `trace` for a record, and that of `replay` for a document.
use Rattle.log_report.proofs.Prelude.{◌∙◌, ◌≡◌, ℕ, ℤ, ◌^◌, ◌<◌, Bool, true, false, List, [], ◌∷◌, ◌++◌, map, Option, Some, None, refl, sym, ap, ap₂, subst, arith, append_assoc, decimal, FitsSigned, IsUtf8, ◌&&◌, codes, flat_map, if◌then◌else◌, option_and_then, option_map, signed_decimal, one_line, and_parts, IsUtf8-append, IsUtf8-are_ascii, are_ascii, IsUtf8-quoted, Json, document, ItemsHaveNumbers, items_depth, compact_text, items_outline, items_text, outline, LimitsData, AreInRange, IdData, whole, text, reading, DocumentItem, IsProperDocument, IsProperId, AnswerData, Sent, IncomingData, incoming_of, Record, Details, Note, Known, hint_of, known_after, last_in, uri_of, note_words, notes_of, notes_words, reason_words, hint_words, Hint, Session, Judged, Verdict, answered, has_changed, is_refused, judge, IsJsonLine, body_value, document_value, id_value, integer, natural, notes_value, reason_value, text_value, trace_value, common_steps}
use Rattle.std.specs.Int.{w32}
use Rattle.json.specs.Print.{escape_byte, quoted}
use Rattle.log_session.specs.Canonical.{canonical_of_record, change_in}
use Rattle.log_session.specs.Replay.{document_line}
use Rattle.log_report.specs.Check.{verdict_word}
use Rattle.log_report.specs.Trace.{body_json, document_after, id_json, id_of, is_json, json_string, member, method_of, notes_json, reason_json, side_word, text_json, trace_line, version_json, within}
use Rattle.log_report.proofs.JsonLines.FitLemmas.{HasText, IsBody, IsFit, canonical_json, document_fits, id_fits, judged_fits, last_fits, method_utf8, text_utf8, uri_utf8}
use Rattle.log_report.proofs.JsonLines.PlainLemmas.{escape_plain, utf8_plain}
use Rattle.log_report.proofs.JsonLines.ReasonPlainLemmas.{plain_note, plain_reason_with, plain_side, plain_verdict}
use Rattle.log_session.proofs.Json.StringLemmas.{are_visible}
use Rattle.log_report.proofs.JsonLines.ValueLemmas.{IsValue, IsValueIf, a_body, a_compact, a_member, a_member_if, a_natural, a_plain, a_quoted, a_string, a_text, an_integer, an_object, document_is, no_more}
use Rattle.log_session.proofs.Json.ReadLemmas.{OnSome}
use Rattle.json.specs.Json as json
use Rattle.json.specs.Value as values
use Rattle.serde_json.specs.Data as tree
use Rattle.serde_json.specs.View as view
use Rattle.log_report.proofs.JsonLines.FitLemmas as fit

-- ---- values that are there or not

values_if : {A : Type 0} (P : A → Type 0) (f : A → List ℕ) (g : A → Json) → ((a : A) → P a → IsValue (f a) (g a))
    → (o : Option A) → OnSome P o → IsValueIf (option_map f o) (option_map g o)
values_if P f g is None p = tt
values_if P f g is (Some a) p = is a p

a_json_string : (s : List ℕ) → IsUtf8 s → IsValue (json_string s) (json.string s)
unfolding json_string
a_json_string s u = a_string s u

an_id : (id : IdData) → IsProperId id → IsValue (id_json id) (id_value id)
an_id (whole z) is = an_integer z is
an_id (text s) is = a_json_string s is

a_version : (z : ℤ) → FitsSigned w32 z → IsValue (signed_decimal z) (integer z)
a_version z h = let small = h.sfits in an_integer z (record { sfits = omega arith })

text_if : (is_asked : Bool) (entry : Option DocumentItem) → OnSome HasText entry
    → IsValueIf (text_json is_asked entry) (text_value is_asked entry)
text_if true (Some entry) is = a_json_string entry.text is
text_if _ _ is = tt

reason_by : (b : Bool) (limits : LimitsData) (m : IncomingData) (hint : Option Hint) (answer : AnswerData Sent)
    → IsValueIf (if b then Some (codes "\"" ++ reason_words limits (change_in m) answer ++ hint_words hint
    ++ codes "\"") else None)
    (if b then Some (json.string (reason_words limits (change_in m) answer ++ hint_words hint)) else None)
reason_by false limits m hint answer = tt
reason_by true limits m hint answer =
    a_plain (reason_words limits (change_in m) answer ++ hint_words hint)
    (plain_reason_with limits (change_in m) answer hint)

reason_if : (limits : LimitsData) (m : IncomingData) (hint : Option Hint) (verdict : Verdict)
    → IsValueIf (reason_json limits (change_in m) hint verdict) (reason_value limits m hint verdict)
reason_if limits m hint (answered answer) = reason_by (is_refused answer) limits m hint answer
reason_if limits m hint _ = tt

-- ---- notes

abbrev note_items : List Note → tree.Items
note_items notes = view.items_of (map (λ note. tree.string (note_words note)) notes)

notes_from : (notes : List Note) → flat_map (λ note. codes "\",\"" ++ note_words note) notes ++ codes "\"]"
    ≡ 34 ∷ items_text true (note_items notes)
notes_from [] = refl
notes_from (note ∷ notes) = grind (arith, common_steps, append_assoc, escape_plain, plain_note, (notes_from notes))

notes_text : (note : Note) (notes : List Note)
    → codes "[\"" ++ notes_words (codes "\",\"") (note ∷ notes) ++ codes "\"]"
    ≡ compact_text (tree.array (note_items (note ∷ notes)))
notes_text note notes =
    ap (λ l. 91 ∷ 34 ∷ l)
    (append_assoc (note_words note) (flat_map (λ note. codes "\",\"" ++ note_words note) notes) (codes "\"]")
    ∙ ap₂ (λ w l. w ++ l) (sym (escape_plain (note_words note) (plain_note note))) (notes_from notes)
    ∙ sym (append_assoc _ (34 ∷ []) (items_text true (note_items notes))))

record AreStrings (notes : List Note) : Type 0 where
  outline : items_outline (note_items notes) ≡ values.items_of (map (λ note. json.string (note_words note)) notes)
  numbers : ItemsHaveNumbers (items_outline (note_items notes))
  flat : items_depth (items_outline (note_items notes)) ≡ 0
  utf8 : IsUtf8 (items_text true (note_items notes))

note_utf8 : (c : ℕ) (note : Note) (rest : List ℕ) → are_ascii (c ∷ []) ≡ true → IsUtf8 rest
    → IsUtf8 (c ∷ (quoted (note_words note) ++ rest))
note_utf8 c note rest ascii u =
    IsUtf8-append (c ∷ []) (quoted (note_words note) ++ rest) (IsUtf8-are_ascii (c ∷ []) ascii)
    (IsUtf8-append (quoted (note_words note)) rest
    (IsUtf8-quoted (note_words note) (utf8_plain (note_words note) (plain_note note))) u)

are_strings : (notes : List Note) → AreStrings notes
are_strings [] = record { outline = refl; numbers = tt; flat = refl; utf8 = IsUtf8-are_ascii (93 ∷ []) refl }
are_strings (note ∷ notes) =
    let more = are_strings notes in
    record {
      outline = ap (json.item (json.string (note_words note))) more.outline;
      numbers = (tt, more.numbers);
      flat = omega (arith, more.flat);
      utf8 = note_utf8 44 note (items_text true (note_items notes)) refl more.utf8;
    }

notes_if : (notes : List Note) → IsValueIf (notes_json notes) (notes_value notes)
notes_if [] = tt
notes_if (note ∷ notes) =
    let all = are_strings (note ∷ notes) in
    let more = are_strings notes in
    subst (λ j. IsValue (codes "[\"" ++ notes_words (codes "\",\"") (note ∷ notes) ++ codes "\"]") (json.array j))
    all.outline
    (subst (λ bytes. IsValue bytes (outline (tree.array (note_items (note ∷ notes))))) (sym (notes_text note notes))
    (a_compact (tree.array (note_items (note ∷ notes))) all.numbers (omega (arith, all.flat))
    (note_utf8 91 note (items_text true (note_items notes)) refl more.utf8)))

-- ---- bodies

body_if : (is_asked : Bool) (body : List ℕ) → (is_asked ≡ true → IsBody body)
    → IsValueIf (body_json is_asked body) (body_value is_asked body)
body_if false body is = tt
body_if true body is =
    let found = is refl in
    subst (λ v. IsValueIf (Some (one_line body)) v) (sym (document_is body found.value found.json))
    (a_body body found.value found.utf8 found.json)

canonical_if : (o : Option (List ℕ)) → ((body : List ℕ) → o ≡ Some body → IsBody body × (are_visible body ≡ true))
    → IsValueIf o (option_and_then document o)
canonical_if None is = tt
canonical_if (Some body) is =
    let both = is body refl in
    let found = both.0 in
    subst (λ v. IsValueIf (Some body) v) (sym (document_is body found.value found.json))
    (a_text body found.value both.1 found.utf8 found.json)

-- ---- the line of `trace`

regroup : (a n b p c s q m i u w v z rest : List ℕ)
    → (a ++ n ++ b ++ p ++ c ++ s ++ q ++ m ++ i ++ u) ++ (w ++ v ++ z ++ rest)
    ≡ a ++ (n ++ (b ++ (p ++ (c ++ (s ++ (q ++ (m ++ (i ++ (u ++ (w ++ (v ++ (z ++ rest))))))))))))
regroup a n b p c s q m i u w v z rest = simp append_assoc

module _ (limits : LimitsData) (ranges : AreInRange limits) (details : Details) (known : Known) (s : Session)
    (r : Record) (fits : IsFit limits known s) (place : r.head.place < 2 ^ 64) where
  abbrev j : Judged
  j = judge s r

  abbrev m : IncomingData
  m = incoming_of (reading r.body)

  abbrev uri : Option (List ℕ)
  uri = uri_of r.head.side m

  abbrev entry : Option DocumentItem
  entry = document_after j.session.server.table uri

  abbrev canonical : Option (List ℕ)
  canonical = within s.server.config.limits.max_body (canonical_of_record s r.body j.verdict)

  after : IsFit limits (known_after known s r.head r.body j) j.session
  after = judged_fits limits known s r fits

  pub trace_json : IsJsonLine (trace_line details known s r j m) (trace_value details known s r j m)
  unfolding escape_byte
  trace_json =
      let body = a_member_if (codes "body") _ (body_json (details.bodies && is_json m) r.body)
      (body_value (details.bodies && is_json m) r.body) _ refl (body_if (details.bodies && is_json m) r.body
      (λ e. fit.body_json r.body (and_parts details.bodies (is_json m) e).1)) no_more in
      let text = a_member_if (codes "text") _ (text_json (details.texts && has_changed j.verdict) entry)
      (text_value (details.texts && has_changed j.verdict) entry) _ refl
      (text_if (details.texts && has_changed j.verdict) entry
      (text_utf8 limits j.session.server.table uri after.held.table)) body in
      let with_canonical = a_member_if (codes "canonical") _ canonical (option_and_then document canonical) _ refl
      (canonical_if canonical (λ body e. canonical_json limits ranges s r body fits.held e)) text in
      let version = a_member_if (codes "version") _ (version_json entry)
      (option_map (λ (e : DocumentItem). integer e.version) entry) _ refl
      (values_if (λ (e : DocumentItem). FitsSigned w32 e.version) (λ (e : DocumentItem). signed_decimal e.version)
      (λ (e : DocumentItem). integer e.version) (λ e is. a_version e.version is) entry
      (document_fits j.session.server.table uri after.versions)) with_canonical in
      let notes = a_member_if (codes "notes") _ (notes_json (notes_of s known.documents known.ranged r.body j.verdict))
      (notes_value (notes_of s known.documents known.ranged r.body j.verdict)) _ refl
      (notes_if (notes_of s known.documents known.ranged r.body j.verdict)) version in
      let last = a_member_if (codes "last") _ (option_map decimal (last_in known uri j.verdict))
      (option_map natural (last_in known uri j.verdict)) _ refl
      (values_if (λ n. n < 2 ^ 64) decimal natural a_natural (last_in known uri j.verdict)
      (last_fits known uri j.verdict fits.made fits.mentions fits.unread)) notes in
      let reason = a_member_if (codes "reason") _
      (reason_json j.session.server.config.limits (change_in m) (hint_of known r j m) j.verdict)
      (reason_value j.session.server.config.limits m (hint_of known r j m) j.verdict) _ refl
      (reason_if j.session.server.config.limits m (hint_of known r j m) j.verdict) last in
      let word = a_quoted (codes "word") (verdict_word j.verdict) _ _ refl (plain_verdict j.verdict) reason in
      let with_uri = a_member_if (codes "uri") _ (option_map json_string uri) (option_map json.string uri) _ refl
      (values_if IsUtf8 json_string json.string a_json_string uri (uri_utf8 r.head.side r.body)) word in
      let id = a_member_if (codes "id") _ (option_map id_json (id_of m)) (option_map id_value (id_of m)) _ refl
      (values_if IsProperId id_json id_value an_id (id_of m) (id_fits r.body)) with_uri in
      let method = a_member_if (codes "method") _ (option_map json_string (method_of m))
      (option_map json.string (method_of m)) _ refl
      (values_if IsUtf8 json_string json.string a_json_string (method_of m) (method_utf8 r.body)) id in
      let from = a_quoted (codes "from") (side_word r.head.side) _ _ refl (plain_side r.head.side) method in
      let offset = a_member (codes "offset") (decimal r.head.place) _ (natural r.head.place) _
      refl (a_natural r.head.place place) from in
      let line = an_object (codes "number") (decimal j.session.records) _
      (natural j.session.records) _ refl (a_natural j.session.records after.records) offset in
      subst (λ l. IsJsonLine l (trace_value details known s r j m))
      (sym (regroup (codes "{\"number\":") (decimal j.session.records) (codes ",\"offset\":") (decimal r.head.place)
      (codes ",\"from\":\"") (side_word r.head.side) (codes "\"")
      (member (codes ",\"method\":") (option_map json_string (method_of m)))
      (member (codes ",\"id\":") (option_map id_json (id_of m)))
      (member (codes ",\"uri\":") (option_map json_string uri)) (codes ",\"word\":\"") (verdict_word j.verdict)
      (codes "\"") _)) line

-- ---- the line of `replay`

pub document_json : (entry : DocumentItem) → IsProperDocument entry
    → IsJsonLine (document_line entry) (document_value entry)
unfolding document_line escape_byte
document_json entry proper =
    let version = a_member (codes "version") (signed_decimal entry.version) (codes "}\n")
    (integer entry.version) json.no_members refl (a_version entry.version proper.version) no_more in
    let with_uri = a_member (codes "uri") (quoted entry.uri) _ (json.string entry.uri) _
    refl (a_string entry.uri proper.uri) version in
    let with_text = a_member (codes "text") (quoted entry.text) _ (json.string entry.text) _
    refl (a_string entry.text proper.text) with_uri in
    let line = an_object (codes "languageId") (quoted entry.language) _
    (json.string entry.language) _ refl (a_string entry.language proper.language) with_text in
    simp append_assoc (simp append_assoc at line)

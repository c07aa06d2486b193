-- `trace` beside `check` and `replay`.
use Rattle.log_report.proofs.Prelude.{if◌then◌else◌, lines, Bool, List, None, Option, Some, [], ap, arith, codes, false, refl, true, ℕ, ◌&&◌, ◌++◌, ◌∙◌, ◌∷◌, ◌≡◌, common_steps, bytes_eq-Decides, Err, decimal, flat_map, option_map, Record, reading, DocumentItem, ErrorCode, ParseError, canonical_of_record, check_line, checking, code_word, followed_by, log_config, output_in, replaying, report_from, unless_bad, verdict_word, writes, Known, hint_of, known_after, last_in, nothing_known, uri_of, notes_of, RunOutput, written_first, Judged, Session, Verdict, answered, bad, has_changed, judge, opened, body_json, document_after, id_json, id_of, is_json, json_string, member, method_of, notes_json, reason_json, side_word, text_json, trace_line, tracing, version_json, within, Details, run_output_in, Line, TraceLaw, checked_line, is_document, traced_line, written_text, reply, IncomingData, incoming_of, entry_at, BadLog, change_in}
use Rattle.std.specs.Str.{bytes_eq}
use Rattle.log_report.proofs.Reports.MemberLemmas.{line_parts}
use Rattle.log_report.proofs.Reports.TableLemmas.{record_keeps}

-- ---- a line beside those of `check`

abbrev text_if : Bool → Option DocumentItem → Option (List ℕ)
text_if is_asked document = if is_asked then option_map (λ (entry : DocumentItem). entry.text) document else None

text_member : (is_asked : Bool) (document : Option DocumentItem) → text_json is_asked document
    ≡ option_map json_string (text_if is_asked document)
text_member true (Some entry) = refl
text_member _ _ = refl

module _ (details : Details) (known : Known) (s : Session) (r : Record) (m : IncomingData) where
  abbrev j : Judged
  j = judge s r

  abbrev uri : Option (List ℕ)
  uri = uri_of r.head.side m

  abbrev document : Option DocumentItem
  document = document_after j.session.server.table uri

  abbrev text : Option (List ℕ)
  text = text_if (details.texts && has_changed j.verdict) document

  abbrev line_of : Line
  line_of = record {
    number = j.session.records;
    word = verdict_word j.verdict;
    uri = uri;
    text = text;
    before =
        codes ",\"offset\":" ++ decimal r.head.place ++ codes ",\"from\":\"" ++ side_word r.head.side ++ codes "\""
        ++ member (codes ",\"method\":") (option_map json_string (method_of m)) ++ member (codes ",\"id\":")
        (option_map id_json (id_of m));
    between =
        member (codes ",\"reason\":")
        (reason_json j.session.server.config.limits (change_in m) (hint_of known r j m) j.verdict)
        ++ member (codes ",\"last\":") (option_map decimal (last_in known uri j.verdict))
        ++ member (codes ",\"notes\":") (notes_json (notes_of s known.documents known.ranged r.body j.verdict))
        ++ member (codes ",\"version\":") (version_json document) ++ member (codes ",\"canonical\":")
        (within s.server.config.limits.max_body (canonical_of_record s r.body j.verdict));
    after = member (codes ",\"body\":") (body_json (details.bodies && is_json m) r.body) ++ codes "}\n";
  }

  line_of_trace : trace_line details known s r j m ≡ traced_line line_of
  line_of_trace =
      rw (text_member (details.texts && has_changed j.verdict) document)
      (line_parts (codes "{\"number\":") (decimal j.session.records) (codes ",\"offset\":") (decimal r.head.place)
      (codes ",\"from\":\"") (side_word r.head.side) (codes "\"")
      (member (codes ",\"method\":") (option_map json_string (method_of m)))
      (member (codes ",\"id\":") (option_map id_json (id_of m)))
      (member (codes ",\"uri\":") (option_map json_string uri))
      (codes ",\"word\":\"") (verdict_word j.verdict) (codes "\"")
      (member (codes ",\"reason\":")
      (reason_json j.session.server.config.limits (change_in m) (hint_of known r j m) j.verdict))
      (member (codes ",\"last\":") (option_map decimal (last_in known uri j.verdict)))
      (member (codes ",\"notes\":") (notes_json (notes_of s known.documents known.ranged r.body j.verdict)))
      (member (codes ",\"version\":") (version_json document))
      (member (codes ",\"canonical\":")
      (within s.server.config.limits.max_body (canonical_of_record s r.body j.verdict)))
      (member (codes ",\"text\":") (option_map json_string text))
      (member (codes ",\"body\":") (body_json (details.bodies && is_json m) r.body)) (codes "}\n"))

-- ---- the text after a record

word_changed : (verdict : Verdict) → bytes_eq (verdict_word verdict) (codes "changed") ≡ has_changed verdict
word_changed (answered (reply m)) = by m.code
  where
    by : (code : Option ErrorCode) → bytes_eq (code_word code) (codes "changed") ≡ false
    by (Some ParseError) = refl
    by _ = refl
word_changed _ = refl

abbrev text_in : List DocumentItem → List ℕ → Option (List ℕ)
text_in table uri = option_map (λ (entry : DocumentItem). entry.text) (entry_at table uri)

-- the text in the line of an accepted record about the document
text_there : (asked here : Bool) (table : List DocumentItem) (uri : List ℕ) (other : Option (List ℕ)) → asked ≡ true
    → (here && is_document uri other) ≡ true → text_if (asked && here) (document_after table other) ≡ text_in table uri
text_there asked here table uri other is both = grind (arith, common_steps, bytes_eq-Decides)

module _ (details : Details) (known : Known) (s : Session) (r : Record) (uri : List ℕ)
    (asked : details.texts ≡ true) where
  abbrev l : Line
  l = line_of details known s r (incoming_of (reading r.body))

  abbrev table_after : List DocumentItem
  table_after = (judge s r).session.server.table

  abbrev is_changed_here : Bool
  is_changed_here = has_changed (judge s r).verdict && is_document uri l.uri

  by_case : (old : Option (List ℕ)) → old ≡ text_in s.server.table uri → (b : Bool) → is_changed_here ≡ b
      → (if b then l.text else old) ≡ text_in table_after uri
  by_case old is b here = grind (arith, common_steps, text_there, record_keeps)

  text_after : (old : Option (List ℕ)) → old ≡ text_in s.server.table uri
      → (if bytes_eq l.word (codes "changed") && is_document uri l.uri then l.text else old) ≡ text_in table_after uri
  text_after old is = ap (λ (b : Bool). if b && is_document uri l.uri then l.text else old)
      (word_changed (judge s r).verdict) ∙ by_case old is is_changed_here refl

-- ---- `trace` beside `check` and `replay`

-- from a session on
record TextsFrom (s : Session) (report : RunOutput) (lines : List Line) : Type 0 where
  table : List DocumentItem
  reported : (line_due : Bool) → report.last line_due ≡ report_from 0 table
  texts : (uri : List ℕ) (old : Option (List ℕ)) → old ≡ text_in s.server.table uri → written_text uri old lines
      ≡ text_in table uri

record Beside (details : Details) (s : Session) (trace check report : RunOutput) : Type 0 where
  stop : trace.stop ≡ check.stop
  outcome : trace.outcome ≡ check.outcome
  lines : List Line
  traced : trace.out ≡ flat_map traced_line lines
  checked : check.out ≡ flat_map checked_line lines
  texts : details.texts ≡ true → trace.stop ≡ None → TextsFrom s report lines

abbrev given_by : Record → Verdict → List ℕ → RunOutput → RunOutput
given_by r verdict out c = followed_by (unless_bad r verdict (writes out)).out (unless_bad r verdict (writes out)).end
    c

module _ (details : Details) (known : Known) (s : Session) (r : Record) where
  abbrev what : IncomingData
  what = incoming_of (reading r.body)

  abbrev this : Line
  this = line_of details known s r what

  goes : (c d e : RunOutput) → Beside details (judge s r).session c d e
      → Beside details s (written_first (trace_line details known s r (judge s r) what) c)
      (written_first (check_line (judge s r).session.records (judge s r).verdict) d) (written_first [] e)
  goes c d e is = record {
    stop = is.stop;
    outcome = is.outcome;
    lines = this ∷ is.lines;
    traced = ap (λ (bs : List ℕ). bs ++ c.out) (line_of_trace details known s r what)
        ∙ ap (λ (bs : List ℕ). traced_line this ++ bs) is.traced;
    checked = ap (λ (bs : List ℕ). checked_line this ++ bs) is.checked;
    texts = λ asked none.
        let after = is.texts asked none in
        record {
          table = after.table;
          reported = after.reported;
          texts = λ uri old old_is. after.texts uri _ (text_after details known s r uri asked old old_is);
        };
  }

  by_verdict : (verdict : Verdict) → (judge s r).verdict ≡ verdict → (c d e : RunOutput)
      → Beside details (judge s r).session c d e
      → Beside details s (given_by r verdict (trace_line details known s r (judge s r) what) c)
      (given_by r verdict (check_line (judge s r).session.records (judge s r).verdict) d) (given_by r verdict [] e)
  by_verdict bad is c d e beside = record {
    stop = refl;
    outcome = refl;
    lines = [];
    traced = refl;
    checked = refl;
    texts = λ asked none. absurd (let wrong : Some (Err (BadLog r.head.place)) ≡ None = none in cc);
  }
  by_verdict _ is c d e beside = goes c d e beside

trace_beside : (details : Details) (known : Known) (s : Session) (rs : List Record)
    → Beside details s (output_in (lines (tracing details)) known s rs) (run_output_in checking s rs)
    (run_output_in replaying s rs)
trace_beside details known s [] =
    record {
      stop = refl;
      outcome = refl;
      lines = [];
      traced = refl;
      checked = refl;
      texts = λ asked none. record { table = s.server.table; reported = λ line_due. refl; texts = λ uri old is. is };
    }
trace_beside details known s (r ∷ rs) =
    let next = known_after known s r.head r.body (judge s r) in
    by_verdict details known s r (judge s r).verdict refl
    (output_in (lines (tracing details)) next (judge s r).session rs)
    (run_output_in checking (judge s r).session rs) (run_output_in replaying (judge s r).session rs)
    (trace_beside details next (judge s r).session rs)

pub trace_law : TraceLaw
trace_law settings details records =
    let is = trace_beside details nothing_known (opened (log_config settings)) records in
    record {
      stop = is.stop;
      outcome = is.outcome;
      lines = is.lines;
      traced = is.traced;
      checked = is.checked;
      texts = λ asked none. let here = is.texts asked none in
          record { table = here.table; reported = here.reported; texts = λ uri. here.texts uri None refl };
    }

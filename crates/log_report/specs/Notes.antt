-- What of a message that wasn't refused is suspicious: its notes, and their words.
-- These are ASCII, with no quotation mark and no backslash.
use Rattle.std.specs.Prelude.{◌&&◌, ◌||◌, ◌==◌, ◌++◌, if◌then◌else◌, ◌∷◌}
use Rattle.log_report.specs.Prelude.{ℕ, ℤ, suc, Bool, true, false, not, nat_lt, int_le, length, map, slice_get, slice_range, sum_by, encode_utf8_all, List, [], Option, Some, None, option_and_then, option_map, Result, Ok, Err, codes, decimal, flat_map, signed_decimal, bytes_eq, chars, Data, units_in, Utf16, Utf32, Position, Range, ContentChange, Fault, meaning, ends_of, Side, Start, Stop, DocumentItem, ChangeData, is_save, entry_at, greatest_batch, changed, ignored, IncomingData, did_open, did_change, other_notification, ServerData, content_change_from_data, session_encoding, Note, is_some}
use Rattle.std.specs.List.{list_any}
use Rattle.std.specs.Result.{result_ok}
use Rattle.line_diff.specs.Lines.{ends_line}
use Rattle.memchr.specs.Find.{first_of, matches}
use Rattle.lsp_text.specs.Positions.{denoted, exact_position}
use Rattle.lsp_edit.specs.Indexed.{text_within}
use Rattle.lsp_message.specs.Values.{member_at, text_in}
use Rattle.log_report.specs.declared.notes.Note.TheVariants.{OpenAlready, LoneReturn, OldVersion, OddVersion, NoChanges, WholeText, PastEnd, WrongLength, SameText, OtherSaved, PartSaved}
use Rattle.log_report.specs.Reasons.{change_words, is_empty, position_words}
use Rattle.log_session.specs.Session.{Verdict, answered}

-- ---- one change on the text before it (LSP 3.17, TextDocumentContentChangeEvent); a character `c`
-- has `units c` units, and `index` is the change's index in its message

-- What the notes of changes go by beside the text: the units of a character, the `rangeLength` of
-- each change, and whether the server asked for ranges.
pub record Terms : Type 0 where
  pub units : ℕ → ℕ
  pub lengths : List (Option ℕ)
  pub ranged : Bool

-- The note of a whole text where ranges were asked for.
abbrev pub whole_notes : Bool → ℕ → Option Range → List Note
whole_notes true index None = WholeText index ∷ []
whole_notes ranged index range = []

-- The exact position of what a position denotes. It is another one exactly where the position is
-- past its line's end or past the last line.
abbrev pub taken_as : (ℕ → ℕ) → List ℕ → Position → Option Position
taken_as units text p = option_map (exact_position units text) (denoted units text p)

-- Are two positions equal?
abbrev pub is_same : Position → Position → Bool
is_same p q = p.line == q.line && p.character == q.character

-- The note of an end of a range, by the position that it is taken as.
abbrev pub end_notes : ℕ → Side → Position → Option Position → List Note
end_notes index side p None = []
end_notes index side p (Some taken) = if is_same p taken then [] else
    PastEnd index side p taken ∷ []

-- The notes of the ends of a range. An empty range is noted once.
abbrev pub range_notes : (ℕ → ℕ) → List ℕ → ℕ → Option Range → List Note
range_notes units text index None = []
range_notes units text index (Some range) =
    end_notes index Start range.start (taken_as units text range.start)
    ++ (if is_same range.start range.stop then [] else
    end_notes index Stop range.stop (taken_as units text range.stop))

-- The characters between two indexes, if there are two.
abbrev pub part_between : List ℕ → Result (ℕ × ℕ) Fault → Option (List ℕ)
part_between text (Ok ends) = Some (slice_range text ends.0 ends.1)
part_between text (Err fault) = None

-- The characters that a change replaces: those of its range, or all. It has none if it has no
-- result.
abbrev pub replaced_by : (ℕ → ℕ) → List ℕ → Option Range → Option (List ℕ)
replaced_by units text None = Some text
replaced_by units text (Some range) = part_between text (ends_of units text range)

-- The `rangeLength` of a change.
abbrev pub length_at : List (Option ℕ) → ℕ → Option ℕ
length_at lengths index = option_and_then (λ length. length) (slice_get lengths index)

-- The UTF-16 units of some characters.
abbrev pub utf16_units : List ℕ → ℕ
utf16_units characters = sum_by (units_in Utf16) characters

-- The note of a `rangeLength` that is neither the units of what the change replaces nor its UTF-16
-- units. It has the number of these, and that of the characters.
abbrev pub length_notes : (ℕ → ℕ) → ℕ → Option ℕ → Option (List ℕ) → List Note
length_notes units index (Some sent) (Some replaced) =
    if sent == utf16_units replaced || sent == sum_by units replaced then [] else
    WrongLength index sent (utf16_units replaced) (sum_by (units_in Utf32) replaced) ∷ []
length_notes units index sent replaced = []

-- The note that a change's text is what it replaces, character by character.
abbrev pub same_notes : ℕ → List ℕ → Option (List ℕ) → List Note
same_notes index new None = []
same_notes index new (Some replaced) = if bytes_eq new replaced then SameText index ∷ [] else []

-- The notes of a change, with this index, on the characters of a text.
abbrev pub change_notes : Terms → List ℕ → ℕ → ContentChange → List Note
change_notes terms text index change =
    whole_notes terms.ranged index change.range
    ++ range_notes terms.units text index change.range
    ++ length_notes terms.units index (length_at terms.lengths index)
    (replaced_by terms.units text change.range)
    ++ same_notes index change.text (replaced_by terms.units text change.range)

-- ---- a batch of changes

-- The bytes that a change leaves of a text. There are none if it has no result, or if these bytes
-- or those of its own text are more than a batch may have.
abbrev pub left_by : (ℕ → ℕ) → List ℕ → ContentChange → Option (List ℕ)
left_by units text change =
    if nat_lt greatest_batch (length (encode_utf8_all change.text)) then None
    else result_ok (text_within greatest_batch text (meaning units (chars text) (change ∷ [])))

-- What comes after a change, if the change leaves a text.
abbrev pub if_left : {A : Type 0} → (List ℕ → List A) → Option (List ℕ) → List A
if_left rest None = []
if_left rest (Some text) = rest text

-- The notes of changes from an index on, each on the bytes that the one before it leaves.
abbrev pub notes_from : Terms → ℕ → List ℕ → List ContentChange → List Note
notes_from terms index text [] = []
notes_from terms index text (change ∷ changes) =
    change_notes terms (chars text) index change
    ++ if_left (λ next. notes_from terms (suc index) next changes)
    (left_by terms.units text change)

-- The notes of a batch on a text.
abbrev pub batch_notes : Terms → List ℕ → List ContentChange → List Note
batch_notes terms text [] = NoChanges ∷ []
batch_notes terms text (change ∷ changes) = notes_from terms 0 text (change ∷ changes)

-- ---- a message

-- The note of a version that isn't greater than the current one, which lenient limits accept.
abbrev pub version_notes : ℤ → ℤ → List Note
version_notes sent current = if int_le sent current then OldVersion sent current ∷ [] else []

-- The notes of a change of a document that may be open.
abbrev pub changing_notes : Terms → ChangeData → Option DocumentItem → List Note
changing_notes terms p None = []
changing_notes terms p (Some entry) =
    version_notes p.version entry.version
    ++ batch_notes terms entry.text (map content_change_from_data p.changes)

-- The note of the opening of a document that is open, which lenient limits accept.
abbrev pub open_notes : Option DocumentItem → List Note
open_notes None = []
open_notes (Some entry) = OpenAlready ∷ []

-- Does a carriage return end a line by itself? `after`: is the byte before these one?
abbrev pub has_lone_return : Bool → List ℕ → Bool
has_lone_return after [] = after
has_lone_return after (byte ∷ bytes) =
    (after && not (byte == 10)) || has_lone_return (byte == 13) bytes

-- Is there a line feed?
abbrev pub has_feed : List ℕ → Bool
has_feed bytes = list_any (λ byte. byte == 10) bytes

-- The note of a text in which a carriage return ends a line by itself, and a line feed another.
-- Some editors don't count the first as a line end.
abbrev pub return_notes : List ℕ → List Note
return_notes text = if has_lone_return false text && has_feed text then LoneReturn ∷ [] else []

-- The notes of the opening of a document with this text, which may be open.
abbrev pub opening_notes : Option DocumentItem → List ℕ → List Note
opening_notes entry text = open_notes entry ++ return_notes text

-- The document and the text that params of a `didSave` name. The text is there only if the server
-- asked for it.
abbrev pub saved_uri : Option Data → Option (List ℕ)
saved_uri params = text_in (member_at (codes "uri") (member_at (codes "textDocument") params))

abbrev pub saved_text : Option Data → Option (List ℕ)
saved_text params = text_in (member_at (codes "text") params)

-- The line of a text in which another differs first, if the text begins with this line:
-- `differing_line 1` of "a\nb\n" and "a\nc" is 2, of "a\n" and "a" 1, and of "a" and "a\n" too. Where
-- one ends a line and the other doesn't yet, that line differs.
abbrev pub differing_line : ℕ → List ℕ → List ℕ → ℕ
differing_line line [] others = line
differing_line line (byte ∷ bytes) [] = line
differing_line line (byte ∷ bytes) (other ∷ others) = if byte == other
    then differing_line (if ends_line byte bytes && ends_line other others then suc line else line)
    bytes others
    else line

-- Is a text a part of another? "b" is one of "abc"; no text at all is none.
abbrev pub is_part : List ℕ → List ℕ → Bool
is_part part text = not (is_empty part) && is_some (first_of (matches text part 0))

-- The note of a text that was saved, and isn't that of its document: a part of it, as an editor
-- saves that shows a part of its text alone, or another text. Lines count from 1.
abbrev pub saved_notes : Option DocumentItem → Option (List ℕ) → List Note
saved_notes (Some entry) (Some saved) = if bytes_eq entry.text saved then []
    else if is_part saved entry.text then PartSaved ∷ []
    else OtherSaved (differing_line 1 entry.text saved) ∷ []
saved_notes entry saved = []

-- What the notes of changes go by, in the encoding of the session.
abbrev pub terms_in : ServerData → Bool → List (Option ℕ) → Terms
terms_in s ranged lengths =
    record { units = units_in (session_encoding s); lengths = lengths; ranged = ranged }

-- What there is to note of a message on the documents before it, unless it is refused, by the
-- `rangeLength` of its changes or its params. `ranged`: did the server ask for ranges? Of a
-- `didSave` of an open document with the text "abc" the text "abc" has none, "abX" has one.
abbrev pub notes_on : ServerData → Bool → List (Option ℕ) → Option Data → IncomingData → List Note
notes_on s ranged lengths params (did_open (Some p))
    = opening_notes (entry_at s.table p.uri) p.text
notes_on s ranged lengths params (did_change (Some p))
    = changing_notes (terms_in s ranged lengths) p (entry_at s.table p.uri)
notes_on s ranged lengths params (other_notification method) = if is_save method then
    saved_notes (option_and_then (entry_at s.table) (saved_uri params)) (saved_text params) else []
notes_on s ranged lengths params m = []

-- Notes, if a message is accepted, or ignored by a running server. A refused one has its reason.
abbrev pub notes_if : List Note → Verdict → List Note
notes_if notes (answered changed) = notes
notes_if notes (answered ignored) = notes
notes_if notes verdict = []

-- ---- in words

-- Which end of a change's range.
abbrev pub side_words : Side → List ℕ
side_words Start = codes " starts at "
side_words Stop = codes " ends at "

-- Past which end a position is, by the position that it is taken as.
abbrev pub past_words : Position → Position → List ℕ
past_words sent taken =
    if sent.line == taken.line then codes ", past the line's end (taken as "
    else codes ", past the last line (taken as "

-- How many changes.
abbrev pub changes_words : ℕ → List ℕ
changes_words count = if count == 1 then codes "1 change" else decimal count ++ codes " changes"

-- What versions grew by: a number, else the number of changes.
abbrev pub usual_words : Option ℕ → List ℕ
usual_words None = codes "the number of changes"
usual_words (Some step) = decimal step

-- A note.
abbrev pub note_words : Note → List ℕ
note_words OpenAlready = codes "the document was open already"
note_words LoneReturn = codes "a CR alone ends a line, and an LF another"
note_words (OldVersion sent current) =
    codes "version " ++ signed_decimal sent ++ codes " was sent, and the current one was "
    ++ signed_decimal current
note_words (OddVersion sent before changes usual) =
    codes "version " ++ signed_decimal sent ++ codes " came after " ++ signed_decimal before
    ++ codes ", with " ++ changes_words changes ++ codes ", and until here it grew by " ++ usual_words usual
note_words NoChanges = codes "it has no changes"
note_words (WholeText index) =
    change_words index ++ codes " is the whole text, and the server asked for ranges"
note_words (PastEnd index side sent taken) =
    change_words index ++ side_words side ++ position_words sent ++ past_words sent taken
    ++ position_words taken ++ codes ")"
note_words (WrongLength index sent replaced characters) =
    change_words index ++ codes " has the rangeLength " ++ decimal sent ++ codes ", and replaces "
    ++ decimal replaced ++ codes " UTF-16 units"
note_words (SameText index) = change_words index ++ codes " changes nothing"
note_words PartSaved = codes "a part of the document was saved"
note_words (OtherSaved line) = codes "the saved text is not the document's: they differ in line "
    ++ decimal line ++ codes " first"

-- Some notes in words, with `between` between two of them.
abbrev pub notes_words : List ℕ → List Note → List ℕ
notes_words between [] = []
notes_words between (note ∷ notes) =
    note_words note ++ flat_map (λ note. between ++ note_words note) notes

-- ---- the kind of a note, by which notes are counted

-- The kind of a note, in words. A `rangeLength` may count characters, as it does in some editors.
abbrev pub note_kind : Note → List ℕ
note_kind OpenAlready = codes "open already"
note_kind LoneReturn = codes "a CR alone"
note_kind (OldVersion sent current) = codes "an old version"
note_kind (OddVersion sent before changes usual) = codes "an odd version"
note_kind NoChanges = codes "no changes"
note_kind (WholeText index) = codes "a whole text"
note_kind (PastEnd index side sent taken) =
    if sent.line == taken.line then codes "past the line's end" else codes "past the last line"
note_kind (WrongLength index sent replaced characters) =
    if sent == characters then codes "rangeLength in characters" else codes "rangeLength"
note_kind (SameText index) = codes "changes nothing"
note_kind (OtherSaved line) = codes "another text saved"
note_kind PartSaved = codes "a part saved"

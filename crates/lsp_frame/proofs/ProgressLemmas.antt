-- A header that is coming in, line by line.
use Rattle.lsp_frame.proofs.Prelude.{◌≡◌, ◌≢◌, ℕ, ◌+◌, ◌-◌, ◌<◌, ◌≤◌, false, List, [], ◌++◌, length, take, drop, refl, sym, ◌∙◌, ap, subst, append_assoc, append-nil, arith, length-append, length-take, length-drop, drop_at, take_rest, take-take, take-append-drop, take-append-add, take-add, Line, IsLine, line_bytes, lines_bytes, BeginsHeader, HeaderFault, Stop, IsPartOfLine, IsSoFar, CanContinue, is_over, noted, IsBadByte, IsLineStop, IsHeaderStop, StopsHeader, IsBadHeaderAt, IsHeaderTooLongAt, IsDecidedAt, Notes, Shape, common_steps}
use Rattle.lsp_frame.specs.declared.framer.header.Header.{Header}
use Rattle.lsp_frame.proofs.HeaderLemmas.{lines_bytes-append, begins_part, begins_behind, stops_behind}
use Rattle.lsp_frame.proofs.LineLemmas.{noted_is}
use Rattle.lsp_frame.specs.declared.framer.header.Stop.TheVariants as stop
use Rattle.lsp_frame.specs.declared.framer.shape.Shape.TheVariants as shape

-- The line that is whole becomes one of the lines.
pub with_line_so_far : (max_body : ℕ) (buffered : List ℕ) (header : Header) (name value : List ℕ) (added : Notes)
    → IsSoFar max_body buffered header → header.shape ≡ shape.Whole
    → ((parts : Line) → IsLine parts → take (length buffered - header.line) (drop header.line buffered)
    ≡ line_bytes parts → (name ≡ parts.name) × (value ≡ parts.value)) → added ≡ noted max_body header.notes name value
    → IsSoFar max_body buffered (record { shape = shape.Start; line = length buffered; notes = added })
with_line_so_far max_body buffered header name value added so_far whole split add =
    grind (arith, common_steps, drop_at, take_rest, lines_bytes-append, append-nil, noted_is)

-- The byte of a window with which no header goes on.
pub bad_byte : (max_body : ℕ) (buffered window : List ℕ) (header : Header) (n i at : ℕ)
    → IsSoFar max_body buffered header → n ≤ length window → i < length (take n window) → at ≡ length buffered + i
    → ((part : List ℕ) → IsPartOfLine header.shape part → CanContinue (part ++ take i (take n window)))
    → ((part : List ℕ) → IsPartOfLine header.shape part → StopsHeader (part ++ take (i + 1) (take n window)))
    → IsBadByte buffered window at
bad_byte max_body buffered window header n i at so_far within there place goes stops =
    let below : i < n = omega (arith, length-take n window) in
    let g = goes so_far.part so_far.shaped in
    let begins : BeginsHeader (lines_bytes so_far.lines ++ (so_far.part ++ take i (take n window))) =
    begins_behind so_far.lines (so_far.part ++ take i (take n window)) so_far.each
    (begins_part g.shape (so_far.part ++ take i (take n window)) g.is g.open_line) in
    let stopped : StopsHeader (lines_bytes so_far.lines ++ (so_far.part ++ take (i + 1) (take n window))) =
    stops_behind so_far.lines (so_far.part ++ take (i + 1) (take n window)) so_far.each
    (stops so_far.part so_far.shaped) in
    let first : lines_bytes so_far.lines ++ (so_far.part ++ take i (take n window)) ≡ buffered ++ take i window =
    grind (arith, common_steps, append_assoc, take-take) in
    let second : lines_bytes so_far.lines ++ (so_far.part ++ take (i + 1) (take n window))
    ≡ buffered ++ take (i + 1) window =
    sym (append_assoc (lines_bytes so_far.lines) so_far.part (take (i + 1) (take n window)))
    ∙ rw (← so_far.is, take-take (i + 1) n window (omega arith)) refl in
    record {
      i = i;
      there = omega (arith, length-take n window);
      place = place;
      before = subst BeginsHeader first begins;
      stops = subst StopsHeader second stopped;
    }

-- A header that is coming in goes on.
pub so_far_begins : (max_body : ℕ) (buffered : List ℕ) (header : Header) → IsSoFar max_body buffered header
    → is_over header.shape ≡ false → BeginsHeader buffered
so_far_begins max_body buffered header so_far line_open = grind (arith, common_steps, begins_behind, begins_part)

pub open_shape : (s : Shape) → s ≢ shape.Whole → s ≢ shape.End → is_over s ≡ false
open_shape shape.Whole not_whole not_end = absurd (not_whole refl)
open_shape shape.End not_whole not_end = absurd (not_end refl)
open_shape _ not_whole not_end = refl

-- Bytes of a piece behind what was held before it.
pub take_joined : (old piece : List ℕ) (at i : ℕ) → take (length old + (at + i)) (old ++ piece) ≡ (old ++ take at piece)
    ++ take i (drop at piece)
take_joined old piece at i =
    take-append-add old piece (at + i) ∙ ap (λ x. old ++ x) (take-add at i piece)
    ∙ sym (append_assoc old (take at piece) (take i (drop at piece)))

-- what a window shows of a piece
pub window_take : (piece window : List ℕ) (at room n : ℕ)
    → window ≡ take room (take (length piece - at) (drop at piece)) → n ≤ length window → take n window
    ≡ take n (drop at piece)
window_take piece window at room n e within = grind (arith, common_steps, take_rest, length-take, take-take)

pub window_len : (piece window : List ℕ) (at room : ℕ) → window ≡ take room (take (length piece - at) (drop at piece))
    → (length window ≤ room) × (length window ≤ length piece - at)
window_len piece window at room e = grind (arith, common_steps, take_rest, length-take, length-drop)

pub held_more : (old piece buffered window : List ℕ) (at room n : ℕ) → buffered ≡ old ++ take at piece
    → window ≡ take room (take (length piece - at) (drop at piece)) → n ≤ length window → buffered ++ take n window
    ≡ old ++ take (at + n) piece
held_more old piece buffered window at room n e w within =
    grind (arith, common_steps, window_take, append_assoc, take-add)

-- The fault of a line is the header's, decided at the same byte.
pub bad_header : (old piece buffered window : List ℕ) (at room place : ℕ) → at ≤ length piece → buffered
    ≡ old ++ take at piece → window ≡ take room (take (length piece - at) (drop at piece)) → length buffered + room
    ≤ 8192 → IsBadByte buffered window place → IsBadHeaderAt (old ++ piece) place
bad_header old piece buffered window at room place within e w room_is bad =
    let len : length buffered ≡ length old + at =
    ap length e ∙ omega (arith, length-append old (take at piece), length-take at piece) in
    let at_place : place ≡ length old + (at + bad.i) = bad.place ∙ omega (arith, len) in
    let rest_after : place + 1 ≡ length old + (at + (bad.i + 1)) = omega (arith, at_place) in
    let lens = window_len piece window at room w in
    let there : bad.i < length window = bad.there in
    let first : take place (old ++ piece) ≡ buffered ++ take bad.i window =
    grind (arith, common_steps, take_joined, window_take) in
    let second : take (place + 1) (old ++ piece) ≡ buffered ++ take (bad.i + 1) window =
    grind (arith, common_steps, take_joined, window_take) in
    let stopped : StopsHeader (take (place + 1) (old ++ piece)) = subst StopsHeader (sym second) bad.stops in
    record {
      there = omega (arith, length-append old piece, at_place, lens.1);
      within = omega (arith, len, at_place, lens.0);
      before = subst BeginsHeader (sym first) bad.before;
      not_on = λ b. stopped b.lines b.rest b.each b.is;
      not_whole = λ h. stopped h.lines [] h.each (sym (append-nil (take (place + 1) (old ++ piece)) ∙ h.is));
    }

-- A header that goes on behind its 8,192nd byte is too long.
pub too_long : (max_body : ℕ) (old piece buffered : List ℕ) (header : Header) (at : ℕ) → at ≤ length piece → buffered
    ≡ old ++ take at piece → length buffered ≡ 8192 → IsSoFar max_body buffered header → is_over header.shape ≡ false
    → IsHeaderTooLongAt (old ++ piece) 8191
too_long max_body old piece buffered header at within e len so_far line_open =
    let total : length old + at ≡ 8192 = grind (arith, common_steps, length-append, length-take) in
    let front : take (8191 + 1) (old ++ piece) ≡ buffered = ap (λ n. take n (old ++ piece)) (sym total)
    ∙ take-append-add old piece at ∙ sym e in
    record {
      there = omega (arith, length-append old piece);
      place = refl;
      on = subst BeginsHeader (sym front) (so_far_begins max_body buffered header so_far line_open);
    }

-- Why a line was not taken is why the header was not.
pub header_stop : (max_body : ℕ) (old piece buffered window : List ℕ) (at room : ℕ) (why : Stop) → at ≤ length piece
    → buffered ≡ old ++ take at piece → window ≡ take room (take (length piece - at) (drop at piece))
    → length buffered + room ≤ 8192 → IsLineStop buffered window why → IsHeaderStop max_body (old ++ piece) why
header_stop max_body old piece buffered window at room (stop.Fault fault place) within e w room_is line =
    subst (λ (f : HeaderFault). IsDecidedAt max_body (old ++ piece) place f) (sym line.0)
    (bad_header old piece buffered window at room place within e w room_is line.1)
header_stop max_body old piece buffered window at room stop.NoMemory within e w room_is line = tt

pub take_short : (buffered window new : List ℕ) (n : ℕ) → new ≡ buffered ++ take n window
    → length buffered + length window ≤ 8192 → length new ≤ 8192
take_short buffered window new n e short =
    omega (arith, ap length e, length-append buffered (take n window), length-take n window)

-- What is taken behind the first bytes of a piece.
pub taken_more : (old piece buffered new : List ℕ) (n m : ℕ) → buffered ≡ old ++ take n piece
    → new ≡ buffered ++ take m (take (length piece - n) (drop n piece)) → new ≡ old ++ take (n + m) piece
taken_more old piece buffered new n m first second = grind (arith, common_steps, take_rest, append_assoc, take-add)

pub all_of : (old piece buffered : List ℕ) (n : ℕ) → buffered ≡ old ++ take n piece
    → buffered ++ take (length piece - n) (drop n piece) ≡ old ++ piece
all_of old piece buffered n first = grind (arith, common_steps, take_rest, append_assoc, take-append-drop)

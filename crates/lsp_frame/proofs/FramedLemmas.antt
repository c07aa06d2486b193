-- Which frames a stream begins with, and that they are the same however it is read.
use Rattle.lsp_frame.proofs.Prelude.{◌≡◌, ℕ, ◌+◌, ◌<◌, ◌≤◌, List, [], ◌∷◌, ◌++◌, length, take, drop, refl, sym, ◌∙◌, ap, subst, append_assoc, append-nil, take-append-drop, arith, inl, inr, Err, ◌⊎◌, Option, length-append, length-take, length-drop, take-take, take_at, drop_at, Line, AreLines, lines_bytes, header_of, BeginsHeader, judge_header, IsFrameOf, HasNoFrame, IsBadHeaderAt, IsHeaderTooLongAt, IsJudgedAt, IsDecidedAt, IsDecided, header_fault_at, place_after, IsFrame, IsPart, AreFrames, IsRead, SameFrame, HeaderFault, FrameFault, common_steps}
use Rattle.lsp_frame.proofs.HeaderLemmas.{same_header}
use Rattle.lsp_frame.proofs.FaultLemmas.{header_begins_none}
use Rattle.lsp_frame.specs.declared.fault.HeaderFault.TheVariants as header

-- Fronts of one length of the same bytes are one.
pub same_length_front : (a b x y : List ℕ) → length a ≡ length b → a ++ x ≡ b ++ y → (a ≡ b) × (x ≡ y)
same_length_front a b x y l e = (
  sym (take_at a x (length a) refl) ∙ ap (take (length a)) e ∙ take_at b y (length a) (sym l),
  sym (drop_at a x (length a) refl) ∙ ap (drop (length a)) e ∙ drop_at b y (length a) (sym l),
)

-- Two frames at the front of the same bytes are one: no raw is a proper beginning of another.
pub same_frame : (max_body : ℕ) (raw other body other_body x y : List ℕ) → IsFrameOf max_body raw body
    → IsFrameOf max_body other other_body → raw ++ x ≡ other ++ y → SameFrame raw other body other_body x y
same_frame max_body raw other body other_body x y s t e =
    grind (arith, common_steps, append_assoc, same_header, same_length_front)

-- The frames of a stream are one list.
pub same_frames : (max_body : ℕ) (stream : List ℕ) (bodies others : List (List ℕ)) (rest other : List ℕ)
    → AreFrames max_body stream bodies rest → AreFrames max_body stream others other → HasNoFrame max_body rest
    → HasNoFrame max_body other → (bodies ≡ others) × (rest ≡ other)
same_frames max_body stream [] [] rest other a b m n = (refl, sym a ∙ b)
same_frames max_body stream [] (body ∷ others) rest other a b m n = absurd (m b.0 body b.1 b.2 (sym a ∙ b.3))
same_frames max_body stream (body ∷ bodies) [] rest other a b m n = absurd (n a.0 body a.1 a.2 (sym b ∙ a.3))
same_frames max_body stream (body ∷ bodies) (other_body ∷ others) rest other a b m n =
    let s = same_frame max_body a.0 b.0 body other_body a.1 b.1 a.2 b.2 (sym a.3 ∙ b.3) in
    let later : AreFrames max_body a.1 others other =
    subst (λ (z : List ℕ). AreFrames max_body z others other) (sym s.rest_is) b.4 in
    let i = same_frames max_body a.1 bodies others rest other a.4 later m n in
    let e0 : body ≡ other_body = s.body_is in
    let e1 : bodies ≡ others = i.0 in
    let r : body ∷ bodies ≡ other_body ∷ others = cc in
    (r, i.1)

-- Each front of what begins a header does.
pub begins_front : (bytes : List ℕ) (j : ℕ) → BeginsHeader bytes → BeginsHeader (take j bytes)
begins_front bytes j begins =
    let cut : bytes ++ begins.rest ≡ take j bytes ++ (drop j bytes ++ begins.rest) =
    ap (λ z. z ++ begins.rest) (sym (take-append-drop j bytes)) ∙ append_assoc (take j bytes) (drop j bytes)
    begins.rest in
    record {
      lines = begins.lines;
      rest = drop j bytes ++ begins.rest;
      each = begins.each;
      is = begins.is ∙ cut;
      more = omega (arith, length-append (drop j bytes) begins.rest, begins.more);
    }

-- Each proper front of a header begins one.
pub header_front : (lines : List Line) (j : ℕ) → AreLines lines → j < length (header_of lines)
    → BeginsHeader (take j (header_of lines))
header_front lines j each less =
    record {
      lines = lines;
      rest = drop j (header_of lines);
      each = each;
      is = sym (take-append-drop j (header_of lines));
      more = omega (arith, length-drop j (header_of lines));
    }

-- How a fault was decided.
abbrev pub Way : ℕ → List ℕ → ℕ → HeaderFault → Type 0
Way max_body bytes k kind = ((kind ≡ header.BadHeader) × IsBadHeaderAt bytes k)
    ⊎ (((kind ≡ header.HeaderTooLong) × IsHeaderTooLongAt bytes k) ⊎ IsJudgedAt max_body bytes k kind)

pub way_of : (max_body : ℕ) (bytes : List ℕ) (k : ℕ) (kind : HeaderFault) → IsDecidedAt max_body bytes k kind
    → Way max_body bytes k kind
way_of max_body bytes k header.BadHeader at = inl (refl, at)
way_of max_body bytes k header.HeaderTooLong at = inr (inl (refl, at))
way_of max_body bytes k _ at = inr (inr at)

-- Up to the byte of a decision a header goes on.
pub on_before : (max_body : ℕ) (bytes : List ℕ) (k j : ℕ) (kind : HeaderFault) → Way max_body bytes k kind → j ≤ k
    → BeginsHeader (take j bytes)
on_before max_body bytes k j kind (inl bad) low =
    subst BeginsHeader (take-take j k bytes low) (begins_front (take k bytes) j bad.1.before)
on_before max_body bytes k j kind (inr (inl long)) low =
    subst BeginsHeader (take-take j (k + 1) bytes (omega arith)) (begins_front (take (k + 1) bytes) j long.1.on)
on_before max_body bytes k j kind (inr (inr at)) low =
    let len : length (header_of at.lines) ≡ k + 1 =
    omega (arith, ap length at.is, length-take (k + 1) bytes, at.there) in
    subst BeginsHeader (ap (take j) (sym at.is) ∙ take-take j (k + 1) bytes (omega arith))
    (header_front at.lines j at.each (omega (arith, len)))

-- With the byte of a decision it goes on only where it is too long.
pub ends_here : (max_body : ℕ) (bytes : List ℕ) (k : ℕ) (kind : HeaderFault) → Way max_body bytes k kind
    → BeginsHeader (take (k + 1) bytes) → k + 1 ≡ 8192
ends_here max_body bytes k kind (inl bad) begins = absurd (bad.1.not_on begins)
ends_here max_body bytes k kind (inr (inl long)) begins = long.1.place
ends_here max_body bytes k kind (inr (inr at)) begins =
    absurd (header_begins_none at.lines at.each (subst BeginsHeader at.is begins))

pub way_within : (max_body : ℕ) (bytes : List ℕ) (k : ℕ) (kind : HeaderFault) → Way max_body bytes k kind → (k < 8192)
    × (k < length bytes)
way_within max_body bytes k kind (inl bad) = (bad.1.within, bad.1.there)
way_within max_body bytes k kind (inr (inl long)) = (omega (arith, long.1.place), long.1.there)
way_within max_body bytes k kind (inr (inr at)) = (at.within, at.there)

pub not_before : (max_body : ℕ) (bytes : List ℕ) (j k : ℕ) (kind other : HeaderFault) → Way max_body bytes j kind
    → Way max_body bytes k other → j < k → ⊥
not_before max_body bytes j k kind other a b less =
    let full = ends_here max_body bytes j kind a (on_before max_body bytes k (j + 1) other b (omega arith)) in
    let within = way_within max_body bytes k other b in
    omega (arith, full, within.0)

pub same_kind : (max_body : ℕ) (bytes : List ℕ) (k : ℕ) (kind other : HeaderFault) → Way max_body bytes k kind
    → Way max_body bytes k other → kind ≡ other
same_kind max_body bytes k kind other (inl a) (inl b) = a.0 ∙ sym b.0
same_kind max_body bytes k kind other (inl a) (inr (inl b)) = absurd (a.1.not_on b.1.on)
same_kind max_body bytes k kind other (inl a) (inr (inr b)) =
    absurd (a.1.not_whole (record { lines = b.lines; each = b.each; is = b.is }))
same_kind max_body bytes k kind other (inr (inl a)) (inl b) = absurd (b.1.not_on a.1.on)
same_kind max_body bytes k kind other (inr (inl a)) (inr (inl b)) = a.0 ∙ sym b.0
same_kind max_body bytes k kind other (inr (inl a)) (inr (inr b)) =
    absurd (header_begins_none b.lines b.each (subst BeginsHeader b.is a.1.on))
same_kind max_body bytes k kind other (inr (inr a)) (inl b) =
    absurd (b.1.not_whole (record { lines = a.lines; each = a.each; is = a.is }))
same_kind max_body bytes k kind other (inr (inr a)) (inr (inl b)) =
    absurd (header_begins_none a.lines a.each (subst BeginsHeader a.is b.1.on))
same_kind max_body bytes k kind other (inr (inr a)) (inr (inr b)) =
    let e : header_of a.lines ++ [] ≡ header_of b.lines ++ [] = ap (λ z. z ++ []) (sym a.is ∙ b.is) in
    let s = same_header a.lines b.lines [] [] a.each b.each e in
    let one : judge_header max_body a.lines ≡ Err other = ap (judge_header max_body) s.0 ∙ b.judged in
    let two : judge_header max_body a.lines ≡ Err kind = a.judged in
    cc

-- A fault is decided once.
pub same_fault : (max_body start : ℕ) (bytes : List ℕ) (fault other : FrameFault) → IsDecided max_body start bytes fault
    → IsDecided max_body start bytes other → fault ≡ other
same_fault max_body start bytes fault other a b =
    let v = way_of max_body bytes a.k a.kind a.decided in
    let w = way_of max_body bytes b.k b.kind b.decided in
    let before : a.k < b.k → ⊥ = not_before max_body bytes a.k b.k a.kind b.kind v w in
    let rest_after : b.k < a.k → ⊥ = not_before max_body bytes b.k a.k b.kind a.kind w v in
    let k : b.k ≡ a.k = omega (arith, before, rest_after) in
    let w_here : Way max_body bytes a.k b.kind = subst (λ (n : ℕ). Way max_body bytes n b.kind) k w in
    let kind = same_kind max_body bytes a.k a.kind b.kind v w_here in
    a.is ∙ ap (λ z. header_fault_at z (place_after start a.k)) kind
    ∙ ap (λ n. header_fault_at b.kind (place_after start n)) (sym k) ∙ sym b.is

-- A stream is read in one way.
pub same_read : (max_body : ℕ) (stream : List ℕ) (bodies others : List (List ℕ)) (fault other : Option FrameFault)
    → IsRead max_body stream bodies fault → IsRead max_body stream others other → (bodies ≡ others) × (fault ≡ other)
same_read max_body stream bodies others fault other a b = grind (arith, common_steps, same_frames, same_fault)

pub no_empty_frame : (max_body : ℕ) → IsFrame max_body [] → ⊥
no_empty_frame max_body frame =
    omega (
      arith,
      ap length frame.is_frame_of.is,
      length-append (header_of frame.is_frame_of.lines) frame.body,
      length-append (lines_bytes frame.is_frame_of.lines) (13 ∷ 10 ∷ []),
    )

pub nothing_part : (max_body : ℕ) → IsPart max_body []
nothing_part max_body = grind (arith, common_steps, inl)

-- A frame more, and bytes more.
pub framed_push : (max_body : ℕ) (stream : List ℕ) (bodies : List (List ℕ)) (buffered body : List ℕ)
    → AreFrames max_body stream bodies buffered → IsFrameOf max_body buffered body
    → AreFrames max_body stream (bodies ++ body ∷ []) []
framed_push max_body stream [] buffered body a s = (buffered, [], s, a ∙ sym (append-nil buffered), refl)
framed_push max_body stream (first ∷ bodies) buffered body a s =
    (a.0, a.1, a.2, a.3, framed_push max_body a.1 bodies buffered body a.4 s)

pub framed_more : (max_body : ℕ) (stream : List ℕ) (bodies : List (List ℕ)) (buffered more : List ℕ)
    → AreFrames max_body stream bodies buffered → AreFrames max_body (stream ++ more) bodies (buffered ++ more)
framed_more max_body stream [] buffered more a = ap (λ z. z ++ more) a
framed_more max_body stream (first ∷ bodies) buffered more a = grind (
  arith,
  common_steps,
  append_assoc,
  (framed_more max_body a.1 bodies buffered more a.4),
)

pub framed_len : (max_body : ℕ) (stream : List ℕ) (bodies : List (List ℕ)) (buffered : List ℕ)
    → AreFrames max_body stream bodies buffered → length buffered ≤ length stream
framed_len max_body stream [] buffered a = omega (arith, ap length a)
framed_len max_body stream (first ∷ bodies) buffered a =
    grind (arith, common_steps, length-append, (framed_len max_body a.1 bodies buffered a.4))

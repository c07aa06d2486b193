-- Whether a frame begins somewhere is decided by the bytes, and so are the frames of a stream.
use Rattle.lsp_frame.proofs.Prelude.{◌≡◌, ◌≢◌, ℕ, zero, suc, ◌+◌, ◌≤◌, false, List, [], ◌∷◌, ◌++◌, length, take, drop, refl, sym, ◌∙◌, ap, subst, append_assoc, append-nil, take-append-drop, arith, inl, inr, ◌⊎◌, Result, Ok, Err, cases_lt, cases_eq, length-append, length-take-le, Line, IsLine, AreLines, IsNameByte, IsValueByte, line_bytes, lines_bytes, header_of, BeginsHeader, judge_header, IsFrameOf, HasNoFrame, BeginsFrame, DecisionLaw, AllFrames, AllFramesLaw, IsPartOfLine, is_over, StopsHeader, HeaderFault, Shape, common_steps}
use Rattle.lsp_frame.proofs.Lists.{All_push}
use Rattle.lsp_frame.proofs.HeaderLemmas.{same_header, lines_bytes-append, stops_behind, stops_at_start, stops_at_name, stops_at_value, stops_at_return, stops_at_last, begins_part, begins_behind, colon_part, value_part}
use Rattle.lsp_frame.proofs.FaultLemmas.{one_front, begins_none, header_begins_none}
use Rattle.lsp_frame.specs.declared.framer.shape.Shape.TheVariants as shape

-- ---- one byte

name_or_not : (b : ℕ) → IsNameByte b ⊎ (IsNameByte b → ⊥)
name_or_not b = grind (arith, common_steps, cases_lt, inl, inr, cases_eq)

not_value : (b : ℕ) → ((32 ≤ b) × (b ≤ 126) → ⊥) → b ≢ 9 → IsValueByte b → ⊥
not_value b hidden no_tab (inl visible) = hidden visible
not_value b hidden no_tab (inr tab) = no_tab tab

value_or_not : (b : ℕ) → IsValueByte b ⊎ (IsValueByte b → ⊥)
value_or_not b =
    elim (cases_eq b 9) [
      | inl tab ↦ inl (inr tab)
      | inr no_tab ↦ elim (cases_lt b 32) [
        | inl low ↦ inr (not_value b (λ visible. omega (arith, low, visible.0)) no_tab)
        | inr some ↦ elim (cases_lt 126 b) [
          | inl high ↦ inr (not_value b (λ visible. omega (arith, high, visible.1)) no_tab)
          | inr within ↦ inl (inl (some, within))
        ]
      ]
    ]

-- Some header goes on with these bytes of a line, or none does.
abbrev Next : List ℕ → Type 0
Next part = ((s : Shape) × IsPartOfLine s part) ⊎ StopsHeader part

next_byte : (s : Shape) (part : List ℕ) (b : ℕ) → IsPartOfLine s part → is_over s ≡ false → Next (part ++ b ∷ [])
next_byte shape.Start part b is line_open =
    elim (name_or_not b) [
      | inl name ↦ inl (
        shape.Name,
        subst (λ (p : List ℕ). IsPartOfLine shape.Name (p ++ b ∷ [])) (sym is) (omega arith, (name, tt)),
      )
      | inr no_name ↦ elim (cases_eq b 13) [
        | inl return ↦ inl (shape.LastReturn, ap (λ (p : List ℕ). p ++ b ∷ []) is ∙ ap (λ (c : ℕ). c ∷ []) return)
        | inr no_return ↦ inr (stops_at_start shape.Start b refl no_name no_return part is)
      ]
    ]
next_byte shape.Name part b is line_open =
    elim (name_or_not b) [
      | inl name ↦ inl (shape.Name, (omega (arith, length-append part (b ∷ [])), All_push IsNameByte part b is.1 name))
      | inr no_name ↦ elim (cases_eq b 58) [
        | inl colon ↦ inl (shape.Value, colon_part shape.Name b refl colon part is)
        | inr no_colon ↦ inr (stops_at_name shape.Name b refl no_name no_colon part is)
      ]
    ]
next_byte shape.Value part b is line_open =
    elim (value_or_not b) [
      | inl value ↦ inl (shape.Value, value_part shape.Value b refl value part is)
      | inr no_value ↦ elim (cases_eq b 13) [
        | inl return ↦ inl (shape.Return, grind (arith, common_steps, append_assoc))
        | inr no_return ↦ inr (stops_at_value shape.Value b refl no_value no_return part is)
      ]
    ]
next_byte shape.Return part b is line_open =
    elim (cases_eq b 10) [
      | inl feed ↦ inl (shape.Whole, grind (arith, common_steps, append_assoc))
      | inr no_feed ↦ inr (stops_at_return shape.Return b refl no_feed part is)
    ]
next_byte shape.LastReturn part b is line_open =
    elim (cases_eq b 10) [
      | inl feed ↦ inl (shape.End, ap (λ (p : List ℕ). p ++ b ∷ []) is ∙ ap (λ (c : ℕ). 13 ∷ c ∷ []) feed)
      | inr no_feed ↦ inr (stops_at_last shape.LastReturn b refl no_feed part is)
    ]
next_byte _ part b is line_open = cc

-- ---- a header

record HeaderFront (bytes : List ℕ) : Type 0 where
  lines : List Line
  rest : List ℕ
  each : AreLines lines
  is : bytes ≡ header_of lines ++ rest

abbrev IsHeaderDecided : List ℕ → Type 0
IsHeaderDecided bytes =
    HeaderFront bytes ⊎ ((lines : List Line) (rest : List ℕ) → AreLines lines → bytes ≢ header_of lines ++ rest)

-- Where the next byte stops each header, none begins.
none_stopped : (front rest : List ℕ) (b : ℕ) → BeginsHeader front → StopsHeader (front ++ b ∷ []) → (lines : List Line)
    (more : List ℕ) → AreLines lines → front ++ (b ∷ rest) ≢ header_of lines ++ more
none_stopped front rest b begins stops lines more each e =
    elim (one_front front (header_of lines) (b ∷ rest) more e) [
      | inl f ↦ begins_none lines f.more each (subst BeginsHeader f.is begins)
      | inr f ↦ longer f.more f.is f.rest
    ]
  where
    longer : (c : List ℕ) → header_of lines ≡ front ++ c → b ∷ rest ≡ c ++ more → ⊥
    longer [] is same = header_begins_none lines each (subst BeginsHeader (sym (is ∙ append-nil front)) begins)
    longer (d ∷ c) is same =
        let byte : d ≡ b = cc in
        stops lines c each (is ∙ ap (λ (x : ℕ). front ++ (x ∷ c)) byte ∙ sym (append_assoc front (b ∷ []) c))

-- The rest of the bytes decides, after so many lines and these bytes of one.
after_byte : (lines : List Line) (part rest : List ℕ) (s : Shape) → AreLines lines → IsPartOfLine s part
    → (is_over s ≡ false → IsHeaderDecided (lines_bytes lines ++ (part ++ rest)))
    → ((line : Line) → IsLine line → part ≡ line_bytes line → IsHeaderDecided (lines_bytes lines ++ (part ++ rest)))
    → IsHeaderDecided (lines_bytes lines ++ (part ++ rest))
after_byte lines part rest shape.Whole each is on whole = whole is.0 is.1 is.2
after_byte lines part rest shape.End each is on whole =
    inl (record {
      lines = lines;
      rest = rest;
      each = each;
      is = ap (λ (x : List ℕ). lines_bytes lines ++ (x ++ rest)) is
          ∙ sym (append_assoc (lines_bytes lines) (13 ∷ 10 ∷ []) rest);
    })
after_byte lines part rest _ each is on whole = on refl

header_decided : (rest : List ℕ) (lines : List Line) (s : Shape) (part : List ℕ) → AreLines lines → IsPartOfLine s part
    → is_over s ≡ false → IsHeaderDecided (lines_bytes lines ++ (part ++ rest))
header_decided [] lines s part each is line_open =
    inr (λ others more all e. begins_none others more all
    (subst BeginsHeader (ap (λ (x : List ℕ). lines_bytes lines ++ x) (sym (append-nil part)) ∙ e)
    (begins_behind lines part each (begins_part s part is line_open))))
header_decided (b ∷ rest) lines s part each is line_open =
    let moved : lines_bytes lines ++ ((part ++ b ∷ []) ++ rest) ≡ lines_bytes lines ++ (part ++ (b ∷ rest)) =
    ap (λ (x : List ℕ). lines_bytes lines ++ x) (append_assoc part (b ∷ []) rest) in
    elim (next_byte s part b is line_open) [
      | inl next ↦ subst IsHeaderDecided moved (after_byte lines (part ++ b ∷ []) rest next.0 each next.1
          (header_decided rest lines next.0 (part ++ b ∷ []) each next.1)
          (λ line is_line e. subst IsHeaderDecided (with_line line e)
          (header_decided rest (lines ++ line ∷ []) shape.Start [] (grind (arith, common_steps)) refl refl)))
      | inr stops ↦ inr (λ others more all e. none_stopped (lines_bytes lines ++ part) rest b
          (begins_behind lines part each (begins_part s part is line_open))
          (subst StopsHeader (sym (append_assoc (lines_bytes lines) part (b ∷ [])))
          (stops_behind lines (part ++ b ∷ []) each stops)) others more all
          (append_assoc (lines_bytes lines) part (b ∷ rest) ∙ e))
    ]
  where
    with_line : (line : Line) → part ++ b ∷ [] ≡ line_bytes line → lines_bytes (lines ++ line ∷ []) ++ rest
        ≡ lines_bytes lines ++ ((part ++ b ∷ []) ++ rest)
    with_line line e = grind (arith, common_steps, lines_bytes-append, append_assoc, append-nil)

-- ---- a frame

frame_decided : (max_body : ℕ) (bytes : List ℕ) → HeaderFront bytes → BeginsFrame max_body bytes
    ⊎ HasNoFrame max_body bytes
frame_decided max_body bytes front =
    elim (cases_lt 8192 (length (header_of front.lines))) [
      | inl long ↦ inr (λ frame body more s e. omega (
        arith,
        long,
        s.short,
        ap (λ (lines : List Line). length (header_of lines)) (same frame body more s e).0,
      ))
      | inr short ↦ judged short (judge_header max_body front.lines) refl
    ]
  where
    same : (frame body more : List ℕ) (s : IsFrameOf max_body frame body) → bytes ≡ frame ++ more
        → (front.lines ≡ s.lines) × (front.rest ≡ body ++ more)
    same frame body more s e = grind (arith, common_steps, same_header, append_assoc)

    judged : length (header_of front.lines) ≤ 8192 → (verdict : Result ℕ HeaderFault)
        → judge_header max_body front.lines ≡ verdict → BeginsFrame max_body bytes ⊎ HasNoFrame max_body bytes
    judged short (Err fault) is = inr (λ frame body more s e.
        let both : Err fault ≡ Ok (length body) = sym is ∙ ap (judge_header max_body) (same frame body more s e).0
        ∙ s.good in
        cc)
    judged short (Ok wanted) is =
        elim (cases_lt (length front.rest) wanted) [
          | inl few ↦ inr (λ frame body more s e.
              let both : Ok wanted ≡ Ok (length body) = sym is ∙ ap (judge_header max_body) (same frame body more s e).0
              ∙ s.good in
              let len : wanted ≡ length body = cc in
              omega (arith, few, len, ap length (same frame body more s e).1, length-append body more))
          | inr enough ↦ inl (record {
            frame = header_of front.lines ++ take wanted front.rest;
            body = take wanted front.rest;
            rest = drop wanted front.rest;
            is_frame = grind (arith, common_steps, length-take-le);
            is = front.is ∙ ap (λ (x : List ℕ). header_of front.lines ++ x) (sym (take-append-drop wanted front.rest))
                ∙ sym (append_assoc (header_of front.lines) (take wanted front.rest) (drop wanted front.rest));
          })
        ]

pub decision_law : DecisionLaw
decision_law max_body bytes =
    elim (header_decided bytes [] shape.Start [] tt refl refl) [
      | inl front ↦ frame_decided max_body bytes front
      | inr none ↦ inr (λ frame body more s e. none s.lines (body ++ more) s.each
          (e ∙ ap (λ (x : List ℕ). x ++ more) s.is ∙ append_assoc (header_of s.lines) body more))
    ]

-- ---- a stream

frame_some : (max_body : ℕ) (frame body : List ℕ) → IsFrameOf max_body frame body → 2 ≤ length frame
frame_some max_body frame body s = grind (arith, common_steps, length-append)

first_shorter : (max_body : ℕ) (stream : List ℕ) (first : BeginsFrame max_body stream)
    → length first.rest + 2 ≤ length stream
first_shorter max_body stream first = grind (arith, common_steps, length-append, frame_some)

frames_within : (n max_body : ℕ) (stream : List ℕ) → length stream ≤ n → AllFrames max_body stream
frames_within zero max_body stream within = grind (arith, common_steps, decision_law, inl, first_shorter, inr)
frames_within (suc n) max_body stream within =
    elim (decision_law max_body stream) [
      | inl first ↦
          let others : AllFrames max_body first.rest =
          frames_within n max_body first.rest (omega (arith, within, first_shorter max_body stream first)) in
          record {
            bodies = first.body ∷ others.bodies;
            rest = others.rest;
            frames = grind (arith, common_steps);
          }
      | inr none ↦ record { bodies = []; rest = stream; frames = record { framed = refl; longest = none } }
    ]

pub all_frames_law : AllFramesLaw
all_frames_law max_body stream = frames_within (length stream) max_body stream (omega arith)

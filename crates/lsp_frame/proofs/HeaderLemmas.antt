-- A header has one reading, and none is a proper beginning of another.
use Rattle.lsp_frame.proofs.Prelude.{◌≡◌, ◌≢◌, ℕ, ◌+◌, ◌-◌, ◌<◌, ◌≤◌, get_or, true, false, List, [], ◌∷◌, ◌++◌, length, refl, sym, ◌∙◌, ap, subst, append_assoc, arith, inl, inr, length-append, AllByRecursion, Line, IsLine, AreLines, IsNameByte, IsValueByte, line_bytes, lines_bytes, header_of, BeginsHeader, IsPartOfLine, is_over, StopsHeader, Shape, common_steps}
use Rattle.lsp_frame.proofs.Lists.{same_front, All_push}
use Rattle.lsp_frame.specs.declared.framer.shape.Shape.TheVariants as shape

pub colon_not : IsNameByte 58 → ⊥
colon_not h = h.2 refl

pub return_not : IsValueByte 13 → ⊥
return_not h = elim h [ inl a ↦ omega arith | inr e ↦ omega arith ]

-- a header that has a line, from its front
pub header_cons : (line : Line) (lines : List Line) → header_of (line ∷ lines)
    ≡ line.name ++ (58 ∷ (line.value ++ (13 ∷ 10 ∷ header_of lines)))
header_cons line lines = simp append_assoc

-- A header without a line doesn't begin as a name does.
pub no_name : (name x y : List ℕ) → 0 < length name → AllByRecursion IsNameByte name → 13 ∷ x ≡ name ++ y → ⊥
no_name [] x y some all e = omega arith
no_name (b ∷ name) x y some all e = let h : 13 ≡ b = cc in let low : 33 ≤ b = all.0.0 in omega arith

-- Two lines at the front of the same bytes are one.
pub same_line : (line other : Line) (x y : List ℕ) → IsLine line → IsLine other
    → line.name ++ (58 ∷ (line.value ++ (13 ∷ x))) ≡ other.name ++ (58 ∷ (other.value ++ (13 ∷ y)))
    → (line.name ≡ other.name) × (line.value ≡ other.value) × (x ≡ y)
same_line line other x y a b e = grind (arith, common_steps, same_front, colon_not, return_not)

pub same_record : (line other : Line) → line.name ≡ other.name → line.value ≡ other.value → line ≡ other
same_record line other n v = ap (λ (p : List ℕ × List ℕ). record { name = p.0; value = p.1 })
    (let e : (line.name, line.value) ≡ (other.name, other.value) = cc in e)

-- Two headers at the front of the same bytes are one.
pub same_header : (lines others : List Line) (x y : List ℕ) → AreLines lines → AreLines others → header_of lines ++ x
    ≡ header_of others ++ y → (lines ≡ others) × (x ≡ y)
same_header [] [] x y a b e = let t : x ≡ y = cc in (refl, t)
same_header (line ∷ lines) (other ∷ others) x y a b e =
    let left : header_of (line ∷ lines) ++ x ≡ line.name ++ (58 ∷ (line.value ++ (13 ∷ 10 ∷ (header_of lines ++ x)))) =
    simp append_assoc in
    let right : header_of (other ∷ others) ++ y
    ≡ other.name ++ (58 ∷ (other.value ++ (13 ∷ 10 ∷ (header_of others ++ y)))) = simp append_assoc in
    let s = same_line line other (10 ∷ (header_of lines ++ x)) (10 ∷ (header_of others ++ y)) a.0 b.0
    (sym left ∙ e ∙ right) in
    let t : header_of lines ++ x ≡ header_of others ++ y = let e2 = s.2 in cc in
    let i = same_header lines others x y a.1 b.1 t in
    let l : line ≡ other = same_record line other s.0 s.1 in
    let ls : lines ≡ others = i.0 in
    let r : line ∷ lines ≡ other ∷ others = cc in
    (r, i.1)
same_header _ _ x y a b e = grind (arith, common_steps, no_name, append_assoc)

pub lines_bytes-append : (lines others : List Line) → lines_bytes (lines ++ others) ≡ lines_bytes lines ++ lines_bytes
    others
lines_bytes-append [] others = refl
lines_bytes-append (line ∷ lines) others = ap (λ x. line_bytes line ++ x) (lines_bytes-append lines others)
    ∙ sym (append_assoc (line_bytes line) (lines_bytes lines) (lines_bytes others))

pub header_of-append : (lines others : List Line) → header_of (lines ++ others) ≡ lines_bytes lines ++ header_of others
header_of-append lines others = ap (λ x. x ++ (13 ∷ 10 ∷ [])) (lines_bytes-append lines others)
    ∙ append_assoc (lines_bytes lines) (lines_bytes others) (13 ∷ 10 ∷ [])

-- A header that begins with whole lines goes on as a header does.
pub record Goes (x : List ℕ) : Type 0 where
  pub lines : List Line
  pub each : AreLines lines
  pub is : header_of lines ≡ x

pub after_lines : (lines others : List Line) (x : List ℕ) → AreLines lines → AreLines others → header_of others
    ≡ lines_bytes lines ++ x → Goes x
after_lines [] others x a b e = record { lines = others; each = b; is = e }
after_lines (line ∷ lines) [] x a b e = grind (arith, common_steps, no_name, append_assoc)
after_lines (line ∷ lines) (other ∷ others) x a b e =
    let right : lines_bytes (line ∷ lines) ++ x
    ≡ line.name ++ (58 ∷ (line.value ++ (13 ∷ 10 ∷ (lines_bytes lines ++ x)))) = simp append_assoc in
    let s = same_line other line (10 ∷ header_of others) (10 ∷ (lines_bytes lines ++ x)) b.0 a.0
    (sym (header_cons other others) ∙ e ∙ right) in
    let t : header_of others ≡ lines_bytes lines ++ x = let e2 = s.2 in cc in
    after_lines lines others x a.1 b.1 t

-- What stops a header stops it behind whole lines too.
pub stops_behind : (lines : List Line) (part : List ℕ) → AreLines lines → StopsHeader part
    → StopsHeader (lines_bytes lines ++ part)
stops_behind lines part a stops others more b e =
    let g = after_lines lines others (part ++ more) a b (e ∙ append_assoc (lines_bytes lines) part more) in
    stops g.lines more g.each g.is

-- The byte with which no header goes on, by what is here of its line.
pub stops_start : (b : ℕ) → (IsNameByte b → ⊥) → b ≢ 13 → StopsHeader (b ∷ [])
stops_start b no_name_byte no_return [] more each e = let h : 13 ≡ b = cc in no_return (sym h)
stops_start b no_name_byte no_return (line ∷ lines) more each e =
    starts_name line.name each.0.some each.0.name b _ more no_name_byte (sym (header_cons line lines) ∙ e)
  where
    starts_name : (name : List ℕ) → 0 < length name → AllByRecursion IsNameByte name → (b : ℕ) (x more : List ℕ)
        → (IsNameByte b → ⊥) → name ++ x ≡ b ∷ more → ⊥
    starts_name [] some all b x more never e = omega arith
    starts_name (c ∷ name) some all b x more never e = let h : c ≡ b = cc in never (subst IsNameByte h all.0)

pub stops_name : (part : List ℕ) (b : ℕ) → 0 < length part → AllByRecursion IsNameByte part → (IsNameByte b → ⊥)
    → b ≢ 58 → StopsHeader (part ++ b ∷ [])
stops_name part b some all no_name_byte no_colon [] more each e =
    no_name part (10 ∷ []) (b ∷ more) some all (e ∙ append_assoc part (b ∷ []) more)
stops_name part b some all no_name_byte no_colon (line ∷ lines) more each e =
    grind (arith, common_steps, same_front, colon_not, header_cons, append_assoc)

pub stops_value : (line : Line) (b : ℕ) → IsLine line → (IsValueByte b → ⊥) → b ≢ 13
    → StopsHeader ((line.name ++ (58 ∷ line.value)) ++ b ∷ [])
stops_value line b is no_value_byte no_return [] more each e =
    no_name line.name (10 ∷ []) (58 ∷ (line.value ++ (b ∷ more))) is.some is.name (e ∙ simp append_assoc)
stops_value line b is no_value_byte no_return (other ∷ lines) more each e =
    grind (arith, common_steps, append_assoc, same_front, colon_not, header_cons, return_not)

pub stops_return : (line : Line) (b : ℕ) → IsLine line → b ≢ 10
    → StopsHeader ((line.name ++ (58 ∷ (line.value ++ (13 ∷ [])))) ++ b ∷ [])
stops_return line b is no_feed [] more each e =
    no_name line.name (10 ∷ []) (58 ∷ (line.value ++ (13 ∷ (b ∷ more)))) is.some is.name (e ∙ simp append_assoc)
stops_return line b is no_feed (other ∷ lines) more each e =
    grind (arith, common_steps, append_assoc, same_line, header_cons)

pub stops_last : (b : ℕ) → b ≢ 10 → StopsHeader ((13 ∷ []) ++ b ∷ [])
stops_last b no_feed [] more each e = let h : 10 ≡ b = cc in no_feed (sym h)
stops_last b no_feed (line ∷ lines) more each e =
    no_name line.name (b ∷ more) _ each.0.some each.0.name (sym e ∙ header_cons line lines)

-- Some header goes on behind an open line.
pub begins_name : (name : List ℕ) → 0 < length name → AllByRecursion IsNameByte name → BeginsHeader name
begins_name name some all =
    let line : Line = record { name = name; value = [] } in
    record {
      lines = line ∷ [];
      rest = 58 ∷ 13 ∷ 10 ∷ 13 ∷ 10 ∷ [];
      each = (record { some = some; name = all; value = tt }, tt);
      is = simp append_assoc;
      more = omega arith;
    }

pub begins_line : (line : Line) (front rest : List ℕ) → IsLine line → 0 < length rest → line_bytes line ≡ front ++ rest
    → BeginsHeader front
begins_line line front rest is more e =
    record {
      lines = line ∷ [];
      rest = rest ++ (13 ∷ 10 ∷ []);
      each = (is, tt);
      is = ap (λ x. (x ++ []) ++ (13 ∷ 10 ∷ [])) e ∙ simp append_assoc;
      more = omega (arith, length-append rest (13 ∷ 10 ∷ []));
    }

pub begins_part : (s : Shape) (part : List ℕ) → IsPartOfLine s part → is_over s ≡ false → BeginsHeader part
begins_part shape.Start part is open_line = record {
  lines = [];
  rest = 13 ∷ 10 ∷ [];
  each = tt;
  is = rw is refl;
  more = omega arith;
}
begins_part shape.Name part is open_line = begins_name part is.0 is.1
begins_part shape.Value part is open_line =
    begins_line is.0 part (13 ∷ 10 ∷ []) is.1 (omega arith) (rw is.2 (simp append_assoc))
begins_part shape.Return part is open_line =
    begins_line is.0 part (10 ∷ []) is.1 (omega arith) (rw is.2 (simp append_assoc))
begins_part shape.Whole part is open_line = cc
begins_part shape.LastReturn part is open_line = record {
  lines = [];
  rest = 10 ∷ [];
  each = tt;
  is = rw is refl;
  more = omega arith;
}
begins_part shape.End part is open_line = cc

-- Whole lines before it change nothing.
pub begins_behind : (lines : List Line) (part : List ℕ) → AreLines lines → BeginsHeader part
    → BeginsHeader (lines_bytes lines ++ part)
begins_behind lines part each b = grind (arith, common_steps, header_of-append, append_assoc)

-- The same by the shape of the line.
pub stops_at_start : (s : Shape) (b : ℕ) → s ≡ shape.Start → (IsNameByte b → ⊥) → b ≢ 13 → (part : List ℕ)
    → IsPartOfLine s part → StopsHeader (part ++ b ∷ [])
stops_at_start s b e name_byte return part is = grind (arith, common_steps, stops_start)

pub stops_at_name : (s : Shape) (b : ℕ) → s ≡ shape.Name → (IsNameByte b → ⊥) → b ≢ 58 → (part : List ℕ)
    → IsPartOfLine s part → StopsHeader (part ++ b ∷ [])
stops_at_name s b e name_byte colon part is = grind (arith, common_steps, stops_name)

pub stops_at_value : (s : Shape) (b : ℕ) → s ≡ shape.Value → (IsValueByte b → ⊥) → b ≢ 13 → (part : List ℕ)
    → IsPartOfLine s part → StopsHeader (part ++ b ∷ [])
stops_at_value s b e value_byte return part is = grind (arith, common_steps, stops_value)

pub stops_at_return : (s : Shape) (b : ℕ) → s ≡ shape.Return → b ≢ 10 → (part : List ℕ) → IsPartOfLine s part
    → StopsHeader (part ++ b ∷ [])
stops_at_return s b e feed part is = grind (arith, common_steps, stops_return)

pub stops_at_last : (s : Shape) (b : ℕ) → s ≡ shape.LastReturn → b ≢ 10 → (part : List ℕ) → IsPartOfLine s part
    → StopsHeader (part ++ b ∷ [])
stops_at_last s b e feed part is = grind (arith, common_steps, stops_last)

-- One more byte of a line.
pub colon_part : (s : Shape) (b : ℕ) → s ≡ shape.Name → b ≡ 58 → (part : List ℕ) → IsPartOfLine s part
    → IsPartOfLine shape.Value (part ++ b ∷ [])
colon_part s b e colon part is =
    let at : IsPartOfLine shape.Name part = subst (λ (x : Shape). IsPartOfLine x part) e is in (
      record { name = part; value = [] },
      record { some = at.0; name = at.1; value = tt },
      ap (λ x. part ++ x ∷ []) colon,
    )

pub value_part : (s : Shape) (b : ℕ) → s ≡ shape.Value → IsValueByte b → (part : List ℕ) → IsPartOfLine s part
    → IsPartOfLine shape.Value (part ++ b ∷ [])
value_part s b e value_byte part is =
    let at : IsPartOfLine shape.Value part = subst (λ (x : Shape). IsPartOfLine x part) e is in
    let line : Line = at.0 in
    let whole : line.name ++ (58 ∷ line.value) ++ b ∷ [] ≡ line.name ++ (58 ∷ (line.value ++ b ∷ [])) =
    simp append_assoc in (
      record { name = line.name; value = line.value ++ b ∷ [] },
      record { some = at.1.some; name = at.1.name; value = All_push IsValueByte line.value b at.1.value value_byte },
      ap (λ x. x ++ b ∷ []) at.2 ∙ whole,
    )

-- A line that a line feed ended has no byte behind it.
pub not_over : (s : Shape) (piece : List ℕ) (i : ℕ) → (is_over s ≡ true → (0 < i) × (get_or piece (i - 1) 0 ≡ 10))
    → ((k : ℕ) → k + 1 < length piece → get_or piece k 0 ≢ 10) → i < length piece → is_over s ≡ false
not_over s piece i over one_line within = grind (arith, common_steps)

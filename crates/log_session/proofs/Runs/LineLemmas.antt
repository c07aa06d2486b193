-- No frame begins with the line of version 2: a name goes on to its colon, and the line has a space before one.
use Rattle.log_session.proofs.Prelude.{◌≡◌, ◌≢◌, ℕ, Bool, true, List, [], ◌∷◌, ◌++◌, length, sym, ap, ◌∙◌, arith, append_assoc, codes, ⊤, AllByRecursion, IsFrameOf, One, Record, IsVersion, AreRecords, together, version_line, first_byte, common_steps}
use Rattle.lsp_frame.specs.Header.{IsNameByte, Line, AreLines, header_of, lines_bytes}

abbrev NoColon : List ℕ → Type 0
NoColon [] = ⊤
NoColon (b ∷ bs) = (b ≢ 58) × NoColon bs

later_bytes : (x y : ℕ) (xs ys : List ℕ) → x ∷ xs ≡ y ∷ ys → xs ≡ ys
later_bytes x y xs ys e = cc

apart : (name word a b : List ℕ) → AllByRecursion IsNameByte name → NoColon word → name ++ 58 ∷ a ≡ word ++ 32 ∷ b → ⊥
apart [] [] a b named none e = let same = first_byte 58 32 a b e in omega arith
apart [] (w ∷ word) a b named none e = none.0 (sym (first_byte 58 w a (word ++ 32 ∷ b) e))
apart (n ∷ name) [] a b named none e = let same = first_byte n 32 (name ++ 58 ∷ a) b e in let high = named.0.0 in
    omega arith
apart (n ∷ name) (w ∷ word) a b named none e =
    apart name word a b named.1 none.1 (later_bytes n w (name ++ 58 ∷ a) (word ++ 32 ∷ b) e)

abbrev name_of_line : List ℕ
name_of_line = codes "lsp-session-log"

no_colon : NoColon name_of_line
no_colon = grind (arith, common_steps)

line_apart : (line : Line) (a more : List ℕ) → AllByRecursion IsNameByte line.name → line.name ++ 58 ∷ a ≡ version_line
    ++ more → ⊥
line_apart line a more named e = apart line.name name_of_line a (50 ∷ 10 ∷ more) named no_colon e

lines_apart : (lines : List Line) (body others more : List ℕ) → AreLines lines → (header_of lines ++ body) ++ others
    ≡ version_line ++ more → ⊥
lines_apart [] body others more each e = grind (arith, common_steps, first_byte, codes)
lines_apart (line ∷ lines) body others more each e =
    line_apart line ((((line.value ++ (13 ∷ 10 ∷ [])) ++ lines_bytes lines) ++ (13 ∷ 10 ∷ [])) ++ body ++ others) more
    each.0.name
    (sym (grouped line.name (line.value ++ (13 ∷ 10 ∷ [])) (lines_bytes lines) (13 ∷ 10 ∷ []) body others) ∙ e)
  where
    grouped : (name value rest end body others : List ℕ) → ((((name ++ (58 ∷ value)) ++ rest) ++ end) ++ body) ++ others
        ≡ name ++ 58 ∷ ((((value ++ rest) ++ end) ++ body) ++ others)
    grouped name value rest end body others = grind (arith, common_steps, append_assoc)

pub no_line : (max_body : ℕ) (raw body others more : List ℕ) → IsFrameOf max_body raw body → raw ++ others
    ≢ version_line ++ more
no_line max_body raw body others more is_frame_of e =
    lines_apart is_frame_of.lines body others more is_frame_of.each (ap (λ z. z ++ others) (sym is_frame_of.is) ∙ e)

-- Records without marks are no log of version 2.
pub is_version_one : (max_body place : ℕ) (due : Bool) (rs : List Record) → AreRecords max_body One place due rs
    → IsVersion true One (together One rs [])
is_version_one max_body place due [] are = λ wanted more e. absurd (let lengths = ap length e in cc)
is_version_one max_body place due (r ∷ rs) are = λ wanted more e. no_line max_body r.raw r.body (together One rs [])
    more are.0.is_frame_of e

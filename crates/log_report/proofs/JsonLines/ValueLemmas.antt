-- Values and members of an object, as they are written one after another.
use Rattle.log_report.proofs.Prelude.{cond_both, eqb-true, or_cases, ◌≡◌, inl, inr, ℕ, suc, ℤ, ◌^◌, ◌<◌, ◌≤◌, FitsSigned, Bool, true, false, ◌||◌, ◌==◌, List, [], ◌∷◌, ◌++◌, Option, Some, None, option_and_then, refl, sym, ap, ap₂, ◌∙◌, subst, arith, append_assoc, append-nil, decimal, IsUtf8, length, signed_decimal, w64, ⊤, codes, cases_Bool, IsUtf8-append, Token, ends_word, depth, members_depth, json_tokens, items_tokens, members_tokens, HasNumbers, IsUtf8-are_ascii, IsUtf8-quoted, are_ascii, Data, number, unsigned, negative, string, max_depth, compact_text, outline, print-outline, IsJsonLine, member_if, member, one_line, common_steps}
use Rattle.json.specs.Json.{Json, Items, Members, document, if_last, value}
use Rattle.json.specs.Lex.{token, comma, colon, string_token, lex, between, fresh, after_value, begins_colon, punctuate, tokens}
use Rattle.json.specs.Print.{ends, escape, quoted, ArePrintable}
use Rattle.json.proofs.Printed.Strings.{content-escape, lex-escape}
use Rattle.json.proofs.Printed.Tokens.{tokens-print}
use Rattle.json.proofs.Printed.Decimals.{IsNumber-decimal, IsNumber-signed_decimal}
use Rattle.json.proofs.Printed.Trees.{ArePrintable-json_tokens, value-json_tokens}
use Rattle.log_session.proofs.Json.StringLemmas.{are_visible, cut_ascii, one_visible, stays_text, visible-append}
use Rattle.log_report.proofs.JsonLines.PlainLemmas.{IsPlain, quoted_plain, visible_compact, visible_quoted, plain_decimal, plain_signed, utf8_plain}
use Rattle.log_session.proofs.Json.WithinLemmas.{alike, ended, place, IsJson}
use Rattle.json.specs.Json as json

-- ---- the last token of a value

ended-append : (b : Bool) (ts us : List Token) → ended b (ts ++ us) ≡ ended (ended b ts) us
ended-append b [] us = refl
ended-append b (t ∷ ts) us = ended-append (ends t) ts us

mutual
  ended-json : (b : Bool) (j : Json) → ended b (json_tokens j) ≡ true
  ended-json b (json.array js) = ended-items false js
  ended-json b (json.object ms) = ended-members false ms
  ended-json b _ = refl

  ended-items : (b : Bool) (js : Items) → ended b (items_tokens js) ≡ true
  ended-items b json.no_items = refl
  ended-items b (json.item j js) =
      ended-append b (json_tokens j) (items_tokens js) ∙ ended-items (ended b (json_tokens j)) js

  ended-members : (b : Bool) (ms : Members) → ended b (members_tokens ms) ≡ true
  ended-members b json.no_members = refl
  ended-members b (json.member k j ms) =
      ended-append false (json_tokens j) (members_tokens ms) ∙ ended-members (ended false (json_tokens j)) ms

-- ---- a value

-- bytes that are a value, before more text
abbrev pub IsText : List ℕ → Json → Type 0
IsText bytes j = (r : List ℕ) → ends_word r ≡ true → begins_colon (lex between r) ≡ false
    → punctuate fresh (lex between (bytes ++ r)) ≡ json_tokens j ++ punctuate after_value (lex between r)

document_by : (text : List ℕ) (j : Json) → tokens text ≡ json_tokens j → depth j ≤ json.max_depth
    → document text ≡ Some j
document_by text j e shallow =
    ap (option_and_then (λ p. if_last p.0 p.1)) (ap (value json.max_depth) (e ∙ sym (append-nil (json_tokens j)))
    ∙ value-json_tokens j json.max_depth [] shallow)

pub document_is : (text : List ℕ) (j : Json) → IsJson text j → document text ≡ Some j
document_is text j is = let shallow = is.shallow in document_by text j is.tokens (omega arith)

-- what is printed is JSON
printed_is : (d : Data) → HasNumbers (outline d) → depth (outline d) ≤ max_depth → IsJson (compact_text d) (outline d)
printed_is d numbers shallow = record {
  tokens = ap tokens (sym (print-outline d))
      ∙ tokens-print (json_tokens (outline d)) (ArePrintable-json_tokens (outline d) numbers);
  numbers = numbers;
  shallow = shallow;
}

-- JSON within JSON, on one line
one_line_text : (text : List ℕ) (j : Json) → IsJson text j → IsText (one_line text) j
one_line_text text j is r e c =
    let right = subst ArePrintable (sym is.tokens) (ArePrintable-json_tokens j is.numbers) in
    let all = alike r e c (suc (length text)) text fresh (omega arith) right in
    all.tokens ∙ ap (λ ts. ts ++ punctuate (place (ended false ts)) (lex between r)) is.tokens
    ∙ ap (λ b. json_tokens j ++ punctuate (place b) (lex between r)) (ended-json false j)

-- ---- a text on one line

abbrev is_break : ℕ → Bool
is_break x = (x == 10) || (x == 13)

one_line_twice : (xs : List ℕ) → one_line (one_line xs) ≡ one_line xs
one_line_twice [] = refl
one_line_twice (x ∷ xs) = grind (arith, common_steps, cases_Bool, inl, inr, (one_line_twice xs))

one_line-append : (xs ys : List ℕ) → one_line (xs ++ ys) ≡ one_line xs ++ one_line ys
one_line-append [] ys = refl
one_line-append (x ∷ xs) ys = grind (arith, common_steps, cases_Bool, inl, inr, (one_line-append xs ys))

-- a text without line breaks is on one line
unbroken : (s : List ℕ) → are_visible s ≡ true → one_line s ≡ s
unbroken s h = ap one_line (sym (append-nil s)) ∙ stays_text s [] h ∙ append-nil s

break_small : (x : ℕ) → is_break x ≡ true → x < 128
break_small x e = grind (arith, common_steps, or_cases, inl, eqb-true, inr)

one_line_utf8 : (before xs : List ℕ) → IsUtf8 (before ++ xs) → IsUtf8 (before ++ one_line xs)
one_line_utf8 before [] u = u
one_line_utf8 before (x ∷ xs) u =
    cond_both (is_break x) (one_line xs) (x ∷ one_line xs) (λ ys. IsUtf8 (before ++ ys))
    (λ e.
    let both = cut_ascii before x xs (break_small x e) u in
    IsUtf8-append before (one_line xs) both.0 (one_line_utf8 [] xs both.1))
    (λ e. subst IsUtf8 (append_assoc before (x ∷ []) (one_line xs))
    (one_line_utf8 (before ++ x ∷ []) xs (subst IsUtf8 (sym (append_assoc before (x ∷ []) xs)) u)))

-- ---- a value on one line

pub record IsValue (bytes : List ℕ) (j : Json) : Type 0 where
  pub shallow : depth j ≤ max_depth
  pub utf8 : IsUtf8 bytes
  pub text : IsText bytes j
  pub one : one_line bytes ≡ bytes

-- JSON on one line
pub a_body : (text : List ℕ) (j : Json) → IsUtf8 text → IsJson text j → IsValue (one_line text) j
a_body text j u is = record {
  shallow = is.shallow;
  utf8 = one_line_utf8 [] text u;
  text = one_line_text text j is;
  one = one_line_twice text;
}

-- JSON without line breaks
pub a_text : (text : List ℕ) (j : Json) → are_visible text ≡ true → IsUtf8 text → IsJson text j → IsValue text j
a_text text j h u is = subst (λ bytes. IsValue bytes j) (unbroken text h) (a_body text j u is)

-- what is printed
pub a_compact : (d : Data) → HasNumbers (outline d) → depth (outline d) ≤ max_depth → IsUtf8 (compact_text d)
    → IsValue (compact_text d) (outline d)
a_compact d numbers shallow utf8 =
    a_text (compact_text d) (outline d) (visible_compact d) utf8 (printed_is d numbers shallow)

pub a_string : (s : List ℕ) → IsUtf8 s → IsValue (quoted s) (json.string s)
a_string s u = a_compact (string s) tt (omega arith) (IsUtf8-quoted s u)

-- a string whose text needs no escape
pub a_plain : (s : List ℕ) → IsPlain s → IsValue (34 ∷ (s ++ 34 ∷ [])) (json.string s)
a_plain s h = subst (λ bytes. IsValue bytes (json.string s)) (sym (quoted_plain s h)) (a_string s (utf8_plain s h))

pub a_natural : (n : ℕ) → n < 2 ^ 64 → IsValue (decimal n) (json.number (decimal n))
a_natural n h = a_compact (number (unsigned n)) (IsNumber-decimal n h) (omega arith)
    (utf8_plain (decimal n) (plain_decimal n))

pub an_integer : (z : ℤ) → FitsSigned w64 z → IsValue (signed_decimal z) (json.number (signed_decimal z))
an_integer z h = a_compact (number (negative z)) (IsNumber-signed_decimal z h.sfits) (omega arith)
    (utf8_plain (signed_decimal z) (plain_signed z))

-- ---- the members of an object, with its end

abbrev name_visible : (name : List ℕ) → are_visible (quoted name ++ 58 ∷ []) ≡ true
name_visible name = visible-append (quoted name) (58 ∷ []) (visible_quoted name) refl

-- a line from a part on: its only line break is the line feed at its end
abbrev pub EndsLine : List ℕ → Type 0
EndsLine line = line ≡ one_line line ++ codes "\n"

line_before : (front rest : List ℕ) → one_line front ≡ front → EndsLine rest → EndsLine (front ++ rest)
line_before front rest e h = grind (arith, common_steps, append_assoc, one_line-append)

pub record AreMembers (bytes : List ℕ) (ms : Members) : Type 0 where
  pub shallow : members_depth ms ≤ max_depth
  pub line : EndsLine bytes
  pub utf8 : IsUtf8 bytes
  pub tokens : punctuate after_value (lex between bytes) ≡ members_tokens ms
  pub ends : ends_word bytes ≡ true
  pub no_colon : begins_colon (lex between bytes) ≡ false

pub no_more : AreMembers (codes "}\n") json.no_members
unfolding lex punctuate
no_more = record {
  shallow = omega arith;
  line = refl;
  utf8 = IsUtf8-are_ascii (codes "}\n") refl;
  tokens = refl;
  ends = refl;
  no_colon = refl;
}

lex-name : (name r : List ℕ) → lex between (quoted name ++ 58 ∷ r) ≡ token (Token.string name) ∷ colon ∷ lex between r
unfolding lex
lex-name name r =
    ap (λ l. lex between (34 ∷ l)) (append_assoc (escape name) (34 ∷ []) (58 ∷ r))
    ∙ ap₂ (λ o l. token (string_token o) ∷ l) (content-escape name (58 ∷ r)) (lex-escape name (58 ∷ r))

-- a name before its value, behind a comma or the bracket of an object
abbrev pub front_of : ℕ → List ℕ → List ℕ
front_of c name = c ∷ (quoted name ++ 58 ∷ [])

front_then : (c : ℕ) (name rest : List ℕ) → front_of c name ++ rest ≡ c ∷ (quoted name ++ 58 ∷ rest)
front_then c name rest = ap (λ l. c ∷ l) (append_assoc (quoted name) (58 ∷ []) rest)

front_visible : (c : ℕ) (name : List ℕ) → 32 ≤ c → one_line (front_of c name) ≡ front_of c name
front_visible c name l = unbroken (front_of c name) (one_visible c (quoted name ++ 58 ∷ []) l (name_visible name))

-- bytes that are a value, if there is one
abbrev pub IsValueIf : Option (List ℕ) → Option Json → Type 0
IsValueIf None None = ⊤
IsValueIf (Some bytes) (Some j) = IsValue bytes j
IsValueIf _ _ = ⊥

front_utf8 : (front bytes rest : List ℕ) {j : Json} → are_ascii front ≡ true → IsValue bytes j → IsUtf8 rest
    → IsUtf8 (front ++ (bytes ++ rest))
front_utf8 front bytes rest h value u =
    IsUtf8-append front (bytes ++ rest) (IsUtf8-are_ascii front h) (IsUtf8-append bytes rest value.utf8 u)

pub a_member : (name bytes rest : List ℕ) (j : Json) (ms : Members) → are_ascii (front_of 44 name) ≡ true
    → IsValue bytes j → AreMembers rest ms → AreMembers (front_of 44 name ++ (bytes ++ rest)) (json.member name j ms)
unfolding lex punctuate
a_member name bytes rest j ms ascii value more =
    let same = front_then 44 name (bytes ++ rest) in
    let lexed : lex between (front_of 44 name ++ (bytes ++ rest))
    ≡ comma ∷ token (Token.string name) ∷ colon ∷ lex between (bytes ++ rest) =
    ap (lex between) same ∙ ap (λ ls. comma ∷ ls) (lex-name name (bytes ++ rest)) in
    let value_shallow = value.shallow in
    let more_shallow = more.shallow in
    record {
      shallow = omega arith;
      line = line_before (front_of 44 name) (bytes ++ rest) (front_visible 44 name (omega arith))
          (line_before bytes rest value.one more.line);
      utf8 = front_utf8 (front_of 44 name) bytes rest ascii value more.utf8;
      tokens = ap (punctuate after_value) lexed
          ∙ ap (λ ts. Token.key name ∷ ts) (value.text rest more.ends more.no_colon
          ∙ ap (λ ts. json_tokens j ++ ts) more.tokens);
      ends = ap ends_word same;
      no_colon = ap begins_colon lexed;
    }

pub a_member_if : (name rest : List ℕ) (o : Option (List ℕ)) (v : Option Json) (ms : Members)
    → are_ascii (front_of 44 name) ≡ true → IsValueIf o v → AreMembers rest ms
    → AreMembers (member (front_of 44 name) o ++ rest) (member_if name v ms)
a_member_if name rest None None ms ascii value more = more
a_member_if name rest (Some bytes) (Some j) ms ascii value more =
    subst (λ l. AreMembers l (json.member name j ms)) (sym (append_assoc (front_of 44 name) bytes rest))
    (a_member name bytes rest j ms ascii value more)
a_member_if name rest _ _ ms ascii value more = absurd value

-- a line that is an object, from its first member on
pub an_object : (name bytes rest : List ℕ) (j : Json) (ms : Members) → are_ascii (front_of 123 name) ≡ true
    → IsValue bytes j → AreMembers rest ms
    → IsJsonLine (front_of 123 name ++ (bytes ++ rest)) (json.object (json.member name j ms))
unfolding lex punctuate
an_object name bytes rest j ms ascii value more =
    let value_shallow = value.shallow in
    let more_shallow = more.shallow in
    record {
      utf8 = front_utf8 (front_of 123 name) bytes rest ascii value more.utf8;
      reads = document_by (front_of 123 name ++ (bytes ++ rest)) (json.object (json.member name j ms))
          (ap tokens (front_then 123 name (bytes ++ rest))
          ∙ ap (λ ls. punctuate fresh (token Token.begin_object ∷ ls)) (lex-name name (bytes ++ rest))
          ∙ ap (λ ts. Token.begin_object ∷ Token.key name ∷ ts) (value.text rest more.ends more.no_colon
          ∙ ap (λ ts. json_tokens j ++ ts) more.tokens)) (omega arith);
      ends = line_before (front_of 123 name) (bytes ++ rest) (front_visible 123 name (omega arith))
          (line_before bytes rest value.one more.line);
    }

-- a member whose value is a text between quotation marks
pub a_quoted : (name s rest : List ℕ) (ms : Members) → are_ascii (front_of 44 name) ≡ true → IsPlain s
    → AreMembers rest ms
    → AreMembers ((front_of 44 name ++ 34 ∷ []) ++ (s ++ (34 ∷ rest))) (json.member name (json.string s) ms)
a_quoted name s rest ms ascii plain more =
    subst (λ l. AreMembers l (json.member name (json.string s) ms))
    (sym (append_assoc (front_of 44 name) (34 ∷ []) (s ++ (34 ∷ rest))
    ∙ ap (λ l. front_of 44 name ++ 34 ∷ l) (sym (append_assoc s (34 ∷ []) rest))))
    (a_member name (34 ∷ (s ++ 34 ∷ [])) rest (json.string s) ms ascii (a_plain s plain) more)

-- JSON within a longer text: on one line its tokens are there what they are alone. Its strings are UTF-8 where it is.
use Rattle.log_session.proofs.Prelude.{⊎_elim, ◌≡◌, ◌⊎◌, inl, inr, ℕ, zero, suc, ◌<◌, Bool, true, false, cond, ◌||◌, ◌==◌, List, [], ◌∷◌, ◌++◌, length, Option, Some, None, refl, sym, ap, ap₂, ◌∙◌, subst, arith, append_assoc, length-append, fold, IsUtf8, ⊤, cases_Bool, eqb-true, or_cases, one_line, common_steps, ◌≤◌, option_and_then, append-nil, Token, depth, json_tokens, HasNumbers, Data, max_depth, of_json, read}
use Rattle.json.specs.Token.{Token, begin_object, end_object, begin_array, end_array, key, string, number, boolean, null, bad}
use Rattle.json.specs.Text.{content, plain}
use Rattle.std.proofs.lemmas.Option.{none-some, option_and_then_some, same_Some}
use Rattle.json.specs.Word.{after_number, ends_word, is_operator, is_space, word}
use Rattle.json.specs.Lex.{Class, quote, backslash, operator, space, other, class, Lexeme, token, comma, colon, operator_lexeme, string_token, Mode, between, in_string, in_word, lex, lex_byte, Place, fresh, after_value, after_comma, after_key, begins_colon, may_begin, may_close, if_allowed, place_token, punctuate, tokens}
use Rattle.json.specs.Print.{ends, token_text, IsPrintable, ArePrintable}
use Rattle.json.proofs.Printed.Numbers.{lex-number, in_word-ended}
use Rattle.log_session.proofs.Json.StringLemmas.{cut_ascii, stays_text, string_is}
use Rattle.log_session.proofs.Json.WordLemmas.{Word, is_word, word_is}
use Rattle.json.specs.Json.{Json, if_last, value}
use Rattle.json.proofs.Nesting.{value-depth}
use Rattle.json.proofs.Numbered.{ArePrintableOrBad-tokens, value-HasNumbers}
use Rattle.json.proofs.Unique.Spelling.{value-json_tokens_back}

-- ---- tokens whose texts are UTF-8

abbrev pub HasText : Token → Type 0
HasText (key s) = IsUtf8 s
HasText (string s) = IsUtf8 s
HasText _ = ⊤

abbrev pub AllText : List Token → Type 0
AllText [] = ⊤
AllText (t ∷ ts) = HasText t × AllText ts

abbrev LexemeText : Lexeme → Type 0
LexemeText (token t) = HasText t
LexemeText _ = ⊤

abbrev IsGood : Lexeme → Type 0
IsGood (token t) = IsPrintable t
IsGood _ = ⊤

-- the end of such a text
abbrev pub IsEnd : List ℕ → Type 0
IsEnd text = (before : List ℕ) × IsUtf8 (before ++ text)

end_of : (front rest : List ℕ) → IsEnd (front ++ rest) → IsEnd rest
end_of front rest u = (u.0 ++ front, subst IsUtf8 (sym (append_assoc u.0 front rest)) u.1)

-- ---- the lexeme at the front of a text

no_bad : {A : Type 0} → ArePrintable (bad ∷ []) → A
unfolding ArePrintable
no_bad h = absurd h.0

no_word : {A : Type 0} → false ≡ true → A
no_word e = absurd (cc)

-- is a lexeme a word, which ends where no other byte of a word comes?
abbrev is_open : Lexeme → Bool
is_open (token t) = is_word t
is_open _ = false

record Chunk (text : List ℕ) : Type 0 where
  lexeme : Lexeme
  front : List ℕ
  rest : List ℕ
  is : text ≡ front ++ rest
  shorter : length rest < length text
  stays : (xs : List ℕ) → one_line (front ++ xs) ≡ front ++ one_line xs
  lexes : (xs : List ℕ) → (is_open lexeme ≡ true → ends_word xs ≡ true)
      → lex between (front ++ xs) ≡ lexeme ∷ lex between xs
  ended : is_open lexeme ≡ true → ends_word rest ≡ true
  ends : (ls : List Lexeme) → ArePrintable (punctuate after_value (lexeme ∷ ls)) → (xs : List ℕ)
      → ends_word (front ++ xs) ≡ true
  utf8 : IsEnd text → LexemeText lexeme

lex-class : (c : Class) (x : ℕ) (xs : List ℕ) → class x ≡ c
    → lex between (x ∷ xs) ≡ lex_byte between c x xs (λ n. lex n xs)
unfolding lex
lex-class c x xs e = ap (λ d. lex_byte between d x xs (λ n. lex n xs)) e

abbrev is_break : ℕ → Bool
is_break x = (x == 10) || (x == 13)

-- an operator and a space end a word
abbrev is_ender : Class → Bool
is_ender operator = true
is_ender space = true
is_ender _ = false

class_ends : (q b o s : Bool) → is_ender (cond q quote (cond b backslash (cond o operator (cond s space other)))) ≡ true
    → (o || s) ≡ true
class_ends true b o s e = no_word e
class_ends false true o s e = no_word e
class_ends false false false false e = no_word e
class_ends false false _ _ e = refl

byte_ends : (x : ℕ) → is_ender (class x) ≡ true → (is_operator x || is_space x) ≡ true
byte_ends x = class_ends (x == 34) (x == 92) (is_operator x) (is_space x)

operator_text : (x : ℕ) → LexemeText (operator_lexeme x)
operator_text x = grind (arith, common_steps)

not_open : (x : ℕ) → is_open (operator_lexeme x) ≡ false
not_open x = grind (arith, common_steps)

an_operator : (x : ℕ) (xs : List ℕ) → class x ≡ operator → is_break x ≡ false → Chunk (x ∷ xs)
an_operator x xs c d = record {
  lexeme = operator_lexeme x;
  front = x ∷ [];
  rest = xs;
  is = refl;
  shorter = omega arith;
  stays = λ ys. ap (λ b. cond b (one_line ys) (x ∷ one_line ys)) d;
  lexes = λ ys w. lex-class operator x ys c;
  ended = λ w. no_word (sym (not_open x) ∙ w);
  ends = λ ls h ys. byte_ends x (ap is_ender c);
  utf8 = λ u. operator_text x;
}

-- no value begins after a value
no_value : (t : Token) (b : Bool) (k : Place → List Token) → is_word t ≡ true
    → ArePrintable (place_token after_value t b k) → ⊥
no_value (number s) b k w h = no_bad h
no_value (boolean v) b k w h = no_bad h
no_value null b k w h = no_bad h
no_value _ b k w h = no_word w

no_string : (s : List ℕ) (b : Bool) (k : Place → List Token) → ArePrintable (place_token after_value (string s) b k) → ⊥
no_string s true k h = no_bad h
no_string s false k h = no_bad h

class_is_quote : (x : ℕ) → class x ≡ quote → x ≡ 34
class_is_quote x e = grind (arith, common_steps, eqb-true)

a_string : (xs s : List ℕ) → content plain xs ≡ Some s → Chunk (34 ∷ xs)
unfolding lex punctuate
a_string xs s found =
    let k = string_is (suc (length xs)) xs s (omega arith) found in
    let all : List ℕ = k.front ++ 34 ∷ [] in
    let after = λ (ys : List ℕ). append_assoc k.front (34 ∷ []) ys in
    record {
      lexeme = token (string s);
      front = 34 ∷ all;
      rest = k.rest;
      is = ap (λ l. 34 ∷ l) (k.is ∙ sym (after k.rest));
      shorter = omega (arith, ap length k.is, length-append k.front (34 ∷ k.rest));
      stays = λ ys. ap (λ l. 34 ∷ one_line l) (after ys) ∙ ap (λ l. 34 ∷ l) (stays_text k.front (34 ∷ ys) k.visible
          ∙ sym (after (one_line ys)));
      lexes = λ ys w. ap (λ l. lex between (34 ∷ l)) (after ys)
          ∙ ap₂ (λ o l. token (string_token o) ∷ l) (k.reads ys) (k.lexes ys);
      ended = λ w. no_word w;
      ends = λ ls h ys. absurd (no_string s _ _ h);
      utf8 = λ u. k.utf8 [] (cut_ascii u.0 34 xs (omega arith) u.1).1;
    }

lex-word : (t : Token) (r : List ℕ) → is_word t ≡ true → IsPrintable t → ends_word r ≡ true
    → lex between (token_text t ++ r) ≡ token t ∷ lex between r
unfolding lex word
lex-word (number s) r w h e = lex-number s r h e
lex-word (boolean true) r w h e = ap₂ (λ b l. token (cond b (boolean true) bad) ∷ l) e (in_word-ended r e)
lex-word (boolean false) r w h e = ap₂ (λ b l. token (cond b (boolean false) bad) ∷ l) e (in_word-ended r e)
lex-word null r w h e = ap₂ (λ b l. token (cond b null bad) ∷ l) e (in_word-ended r e)
lex-word _ r w h e = no_word w

word_text : (t : Token) → is_word t ≡ true → HasText t
word_text (key s) w = no_word w
word_text (string s) w = no_word w
word_text _ w = tt

some_text : (t : Token) → is_word t ≡ true → IsPrintable t → 0 < length (token_text t)
unfolding after_number
some_text (number []) w h = absurd (none-some [] h)
some_text (number (x ∷ s)) w h = omega arith
some_text (boolean true) w h = omega arith
some_text (boolean false) w h = omega arith
some_text null w h = omega arith
some_text _ w h = no_word w

a_word : (text : List ℕ) → IsPrintable (word text) → Chunk text
unfolding punctuate
a_word text h =
    let t : Token = word text in
    let w : Word text t = word_is text h in
    let some = some_text t w.word h in
    record {
      lexeme = token t;
      front = token_text t;
      rest = w.rest;
      is = w.is;
      shorter = omega (arith, ap length w.is, length-append (token_text t) w.rest);
      stays = λ xs. stays_text (token_text t) xs w.visible;
      lexes = λ xs e. lex-word t xs w.word h (e w.word);
      ended = λ e. w.ended;
      ends = λ ls p xs. absurd (no_value t _ _ w.word p);
      utf8 = λ u. word_text t w.word;
    }

-- ---- the places around a lexeme

-- is the last of these tokens the end of a value?
abbrev pub ended : Bool → List Token → Bool
ended after ts = fold (λ _ t. ends t) after ts

-- is the place one after a value, or after a comma, which only a value ends?
abbrev pub after : Place → Bool
after after_value = true
after after_comma = true
after _ = false

-- the place after tokens, by whether the last one ends a value
abbrev pub place : Bool → Place
place after = cond after after_value fresh

module _ (r : List ℕ) (word_ends : ends_word r ≡ true) (no_colon : begins_colon (lex between r) ≡ false) where
  abbrev pub on : List ℕ → List ℕ
  on xs = one_line xs ++ r

  -- tokens, and those of r after them
  abbrev pub Then : Bool → List Token → List Token
  Then b ts = ts ++ punctuate (place (ended b ts)) (lex between r)

  -- a lexeme at a place: the tokens that it gives, and the place after it
  record Placed (p : Place) (l : Lexeme) (ls : List Lexeme) : Type 0 where
    given : List Token
    next : Place
    is : (ks : List Lexeme) → begins_colon ks ≡ begins_colon ls → punctuate p (l ∷ ks) ≡ given ++ punctuate next ks
    good : ArePrintable (punctuate next ls)
    ends_so : (ts : List Token) → given ++ Then (after next) ts ≡ Then (after p) (given ++ ts)
    text : LexemeText l → (ts : List Token) → AllText ts → AllText (given ++ ts)
    word : is_open l ≡ true → next ≡ after_value
    printable : IsGood l

  allowed : (b : Bool) (p : Place) (t u : Token) (q : Place) (ls : List Lexeme)
      → ((ks : List Lexeme) → begins_colon ks ≡ begins_colon ls
      → punctuate p (token t ∷ ks) ≡ if_allowed b u (λ n. punctuate n ks) q)
      → ends u ≡ after q → (HasText t → HasText u) → (IsPrintable u → IsPrintable t)
      → (is_word t ≡ true → q ≡ after_value)
      → ArePrintable (if_allowed b u (λ n. punctuate n ls) q) → Placed p (token t) ls
  unfolding ArePrintable
  allowed true p t u q ls is e same back word h = record {
    given = u ∷ [];
    next = q;
    is = is;
    good = h.1;
    ends_so = λ ts. ap (λ b. u ∷ Then b ts) (sym e);
    text = λ w ts v. (same w, v);
    word = word;
    printable = back h.0;
  }
  allowed false p t u q ls is e same back word h = no_bad h

  string_placed : (p : Place) (s : List ℕ) (ls : List Lexeme) (b : Bool) → begins_colon ls ≡ b
      → ArePrintable (place_token p (string s) b (λ n. punctuate n ls)) → Placed p (token (string s)) ls
  unfolding punctuate
  string_placed p s ls true c h =
      allowed (may_begin p) p (string s) (key s) after_key ls
      (λ ks e. ap (λ b. place_token p (string s) b (λ n. punctuate n ks)) (e ∙ c)) refl (λ u. u) (λ i. i) no_word h
  string_placed p s ls false c h =
      allowed (may_begin p) p (string s) (string s) after_value ls
      (λ ks e. ap (λ b. place_token p (string s) b (λ n. punctuate n ks)) (e ∙ c)) refl (λ u. u) (λ i. i) no_word h

  placed : (p : Place) (l : Lexeme) (ls : List Lexeme) → ArePrintable (punctuate p (l ∷ ls)) → Placed p l ls
  unfolding punctuate
  placed p (token begin_object) ls h =
      allowed (may_begin p) p begin_object begin_object fresh ls (λ ks e. refl) refl (λ u. u) (λ i. i) no_word h
  placed p (token end_object) ls h =
      allowed (may_close p) p end_object end_object after_value ls (λ ks e. refl) refl (λ u. u) (λ i. i) (λ w. refl) h
  placed p (token begin_array) ls h =
      allowed (may_begin p) p begin_array begin_array fresh ls (λ ks e. refl) refl (λ u. u) (λ i. i) no_word h
  placed p (token end_array) ls h =
      allowed (may_close p) p end_array end_array after_value ls (λ ks e. refl) refl (λ u. u) (λ i. i) (λ w. refl) h
  placed p (token (key s)) ls h = no_bad h
  placed p (token bad) ls h = no_bad h
  placed p (token (string s)) ls h = string_placed p s ls (begins_colon ls) refl h
  placed p (token t) ls h =
      allowed (may_begin p) p t t after_value ls (λ ks e. refl) refl (λ u. u) (λ i. i) (λ w. refl) h
  placed after_value comma ls h = record {
    given = [];
    next = after_comma;
    is = λ ks e. refl;
    good = h;
    ends_so = λ ts. refl;
    text = λ w ts v. v;
    word = no_word;
    printable = tt;
  }
  placed after_key colon ls h = record {
    given = [];
    next = fresh;
    is = λ ks e. refl;
    good = h;
    ends_so = λ ts. refl;
    text = λ w ts v. v;
    word = no_word;
    printable = tt;
  }
  placed _ _ ls h = no_bad h

  -- ---- the text on one line, before r

  pub record Alike (p : Place) (xs : List ℕ) : Type 0 where
    pub tokens : punctuate p (lex between (on xs)) ≡ Then (after p) (punctuate p (lex between xs))
    pub colon : begins_colon (lex between (on xs)) ≡ begins_colon (lex between xs)
    pub ends : p ≡ after_value → ends_word (on xs) ≡ true
    pub text : IsEnd xs → AllText (punctuate p (lex between xs))

  abbrev pub IsRight : Place → List ℕ → Type 0
  IsRight p xs = ArePrintable (punctuate p (lex between xs))

  at_end : (p : Place) → IsRight p [] → Alike p []
  unfolding lex punctuate
  at_end fresh h = record { tokens = refl; colon = no_colon; ends = λ e. word_ends; text = λ u. tt }
  at_end after_value h = record { tokens = refl; colon = no_colon; ends = λ e. word_ends; text = λ u. tt }
  at_end _ h = no_bad h

  -- a space, which may be a line break
  spaced : (x : ℕ) (xs : List ℕ) (p : Place) → class x ≡ space → (b : Bool) → is_break x ≡ b → Alike p xs
      → Alike p (x ∷ xs)
  spaced x xs p c b e a =
      let alone : lex between (x ∷ xs) ≡ lex between xs = lex-class space x xs c in
      let there : lex between (on (x ∷ xs)) ≡ lex between (on xs) =
      ap (λ d. lex between (cond d (one_line xs) (x ∷ one_line xs) ++ r)) e ∙ goes b in
      record {
        tokens = ap (punctuate p) there ∙ a.tokens ∙ ap (λ ls. Then (after p) (punctuate p ls)) (sym alone);
        colon = ap begins_colon there ∙ a.colon ∙ ap begins_colon (sym alone);
        ends = λ q. ap (λ d. ends_word (cond d (one_line xs) (x ∷ one_line xs) ++ r)) e ∙ ending b (a.ends q);
        text = λ u. subst (λ ls. AllText (punctuate p ls)) (sym alone) (a.text (end_of (x ∷ []) xs u));
      }
    where
      goes : (d : Bool) → lex between (cond d (one_line xs) (x ∷ one_line xs) ++ r) ≡ lex between (on xs)
      goes true = refl
      goes false = lex-class space x (on xs) c

      ending : (d : Bool) → ends_word (on xs) ≡ true → ends_word (cond d (one_line xs) (x ∷ one_line xs) ++ r) ≡ true
      ending true q = q
      ending false q = byte_ends x (ap is_ender c)

  begins_same : (l : Lexeme) (ks ls : List Lexeme) → begins_colon (l ∷ ks) ≡ begins_colon (l ∷ ls)
  begins_same (token t) ks ls = refl
  begins_same _ ks ls = refl

  chunked : (xs : List ℕ) (k : Chunk xs) (p : Place) → ((q : Place) → IsRight q k.rest → Alike q k.rest)
      → IsRight p xs → Alike p xs
  chunked xs k p more h =
      let alone : lex between xs ≡ k.lexeme ∷ lex between k.rest = ap (lex between) k.is ∙ k.lexes k.rest k.ended in
      let good : ArePrintable (punctuate p (k.lexeme ∷ lex between k.rest)) =
      subst (λ ls. ArePrintable (punctuate p ls)) alone h in
      let it = placed p k.lexeme (lex between k.rest) good in
      let a = more it.next it.good in
      let there : on xs ≡ k.front ++ on k.rest =
      ap on k.is ∙ ap (λ l. l ++ r) (k.stays k.rest) ∙ append_assoc k.front (one_line k.rest) r in
      let lexed : lex between (on xs) ≡ k.lexeme ∷ lex between (on k.rest) =
      ap (lex between) there ∙ k.lexes (on k.rest) (λ w. a.ends (it.word w)) in
      let here : punctuate p (lex between xs) ≡ it.given ++ punctuate it.next (lex between k.rest) =
      ap (punctuate p) alone ∙ it.is (lex between k.rest) refl in
      record {
        tokens = ap (punctuate p) lexed ∙ it.is (lex between (on k.rest)) a.colon
            ∙ ap (λ ts. it.given ++ ts) a.tokens ∙ it.ends_so (punctuate it.next (lex between k.rest))
            ∙ ap (Then (after p)) (sym here);
        colon = ap begins_colon lexed ∙ begins_same k.lexeme (lex between (on k.rest)) (lex between k.rest)
            ∙ ap begins_colon (sym alone);
        ends = λ e. ap ends_word there ∙ k.ends (lex between k.rest)
            (subst (λ q. ArePrintable (punctuate q (k.lexeme ∷ lex between k.rest))) e good) (on k.rest);
        text = λ u. subst AllText (sym here) (it.text (k.utf8 u) (punctuate it.next (lex between k.rest))
            (a.text (end_of k.front k.rest (subst IsEnd k.is u))));
      }

  break_is_space : (x : ℕ) → is_break x ≡ true → class x ≡ space
  break_is_space x e =
      ⊎_elim (λ (h : (x == 10) ≡ true). ap class (eqb-true x 10 h))
      (λ (h : (x == 13) ≡ true). ap class (eqb-true x 13 h)) (or_cases (x == 10) (x == 13) e)

  good_string : (o : Option (List ℕ)) → IsPrintable (string_token o) → (s : List ℕ) × (o ≡ Some s)
  good_string None h = absurd h
  good_string (Some s) h = (s, refl)

  byte_alike : (x : ℕ) (xs : List ℕ) (p : Place)
      → ((ys : List ℕ) (q : Place) → length ys < length (x ∷ xs) → IsRight q ys → Alike q ys) → IsRight p (x ∷ xs)
      → Alike p (x ∷ xs)
  unfolding punctuate
  byte_alike x xs p again h = by (cases_Bool (is_break x)) (class x) refl
    where
      good : (c : Class) → class x ≡ c → ArePrintable (punctuate p (lex_byte between c x xs (λ m. lex m xs)))
      good c e = subst (λ ls. ArePrintable (punctuate p ls)) (lex-class c x xs e) h

      first : (t : Token) (m : Mode) → ArePrintable (punctuate p (token t ∷ lex m xs)) → IsPrintable t
      first t m g = let it = placed p (token t) (lex m xs) g in it.printable

      goes_on : Chunk (x ∷ xs) → Alike p (x ∷ xs)
      goes_on k = chunked (x ∷ xs) k p (λ q. again k.rest q k.shorter) h

      by : (is_break x ≡ true) ⊎ (is_break x ≡ false) → (c : Class) → class x ≡ c → Alike p (x ∷ xs)
      by (inl d) c e =
          let is = break_is_space x d in spaced x xs p is true d (again xs p (omega arith) (good space is))
      by (inr d) space e = spaced x xs p e false d (again xs p (omega arith) (good space e))
      by (inr d) backslash e = no_bad (good backslash e)
      by (inr d) operator e = goes_on (an_operator x xs e d)
      by (inr d) quote e =
          let o : Option (List ℕ) = content plain xs in
          let found = good_string o (first (string_token o) in_string (good quote e)) in
          goes_on (subst (λ y. Chunk (y ∷ xs)) (sym (class_is_quote x e)) (a_string xs found.0 found.1))
      by (inr d) other e = goes_on (a_word (x ∷ xs) (first (word (x ∷ xs)) in_word (good other e)))

  pub alike : (n : ℕ) (xs : List ℕ) (p : Place) → length xs < n → IsRight p xs → Alike p xs
  alike zero xs p short h = absurd (omega arith)
  alike (suc n) [] p short h = at_end p h
  alike (suc n) (x ∷ xs) p short h = byte_alike x xs p (λ ys q less. alike n ys q (omega arith)) h

-- the strings of a text are UTF-8, where it is
pub text_tokens : (text : List ℕ) → IsUtf8 text → ArePrintable (tokens text) → AllText (tokens text)
unfolding lex
text_tokens text u h = let all = alike [] refl refl (suc (length text)) text fresh (omega arith) h in all.text ([], u)

-- bytes that are a value by themselves
pub record IsJson (text : List ℕ) (j : Json) : Type 0 where
  pub tokens : tokens text ≡ json_tokens j
  pub numbers : HasNumbers j
  pub shallow : depth j ≤ max_depth

last_is : (j k : Json) (ts : List Token) → if_last j ts ≡ Some k → (ts ≡ []) × (j ≡ k)
last_is j k [] e = (refl, same_Some j k e)
last_is j k (t ∷ ts) e = absurd (none-some k e)

-- what `serde_json` reads is JSON
pub read_is : (text : List ℕ) (d : Data) → read text ≡ Some d → (j : Json) × IsJson text j × (of_json j ≡ Some d)
read_is text d e =
    option_and_then_some of_json (option_and_then (λ p. if_last p.0 p.1) (value max_depth (tokens text))) d e
    (λ j found from. option_and_then_some (λ p. if_last p.0 p.1) (value max_depth (tokens text)) j found
    (λ p parsed is.
    let last = last_is p.0 j p.1 is in
    let whole : value max_depth (tokens text) ≡ Some (j, []) =
    parsed ∙ ap₂ (λ (k : Json) (ts : List Token). Some (k, ts)) last.1 last.0 in (
      j,
      record {
        tokens = value-json_tokens_back max_depth (tokens text) [] j whole ∙ append-nil (json_tokens j);
        numbers = value-HasNumbers max_depth (tokens text) [] j (ArePrintableOrBad-tokens text) whole;
        shallow = value-depth max_depth (tokens text) [] j whole;
      },
      from,
    )))

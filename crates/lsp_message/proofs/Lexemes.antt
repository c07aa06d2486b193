-- The parts of a message with one change of a range, by their bytes.
use Rattle.lsp_message.proofs.Prelude.{◌≡◌, ℕ, List, [], ◌∷◌, ◌++◌, take, drop, length, get_or, true, false, Option, Some, None, ◌≤◌, ◌<◌, max, refl, sym, ap, ap₂, ◌∙◌, arith, codes, ◌==◌, get_or-take, length-take-le, take-append-drop, drop-cons, suc, or_cases, eqb-true, ◌||◌, not, option_map, option_and_then, append_assoc, ends_word, is_stop, IsNumber, escape, Data, Members, number, string, array, object, no_members, no_items, item, put, unsigned, number_of, of_members, read, tokens, json_tokens, members_tokens, Range, content_change_in, member_at, natural_in, range_of, IsTaken, IsValueAt, IsLengthAt, common_steps}
use Rattle.json.specs.Json as json
use Rattle.json.specs.Text.{content}
use Rattle.json.specs.Token as kind
use Rattle.json.specs.Tree.{members_depth}
use Rattle.json.specs.Lex.{token, comma, colon, lex, between, punctuate, fresh, after_value, begins_colon}
use Rattle.json.proofs.Printed.Strings.{content-escape, lex-escape}
use Rattle.json.proofs.Printed.Numbers.{lex-number}
use Rattle.json.proofs.Printed.Plain.{escape_on_plain}
use Rattle.lsp_message.proofs.Grammar.{read_json}

-- ---- blanks

pub space_read : (rest : List ℕ) → lex between (codes " " ++ rest) ≡ lex between rest
unfolding lex
space_read rest = refl

pub line_feed_read : (rest : List ℕ) → lex between (codes "\n" ++ rest) ≡ lex between rest
unfolding lex
line_feed_read rest = refl

pub no_bytes : (rest : List ℕ) → (length rest == 0) ≡ true → lex between rest ≡ []
unfolding lex
no_bytes [] e = refl
no_bytes (x ∷ xs) e = let never : ⊥ = omega (arith, eqb-true (length (x ∷ xs)) 0 e) in absurd never

-- what is left after a blank means the same
pub blank_read : (text : List ℕ) (i : ℕ) → i < length text → (get_or text i 0 == 32 || get_or text i 0 == 10) ≡ true
    → lex between (drop (suc i) text) ≡ lex between (drop i text)
blank_read text i within blank =
    grind (arith, common_steps, or_cases, eqb-true, drop-cons, space_read, line_feed_read)

-- ---- texts and numbers

pub split_is : (text beginning rest : List ℕ) (at : ℕ) → beginning ≡ take at text → rest ≡ drop at text
    → text ≡ beginning ++ rest
split_is text beginning rest at front back = sym (take-append-drop at text) ∙ ap₂ (λ a b. a ++ b) (sym front) (sym back)

-- bytes before the first that stops a string's plain text are written as they are
pub escape_up_to : (text : List ℕ) (len : ℕ) → len ≤ length text
    → ((k : ℕ) → k < len → is_stop (get_or text k 0) ≡ false) → escape (take len text) ≡ take len text
escape_up_to text len within unstopped =
    let long = length-take-le len text within in
    escape_on_plain true (take len text) (λ k p q.
    let before : k < len = omega (arith, long, q) in
    ap (λ x. not (is_stop x)) (get_or-take len text k 0 before) ∙ ap not (unstopped k before))

-- ---- values

-- this begins with a string
abbrev pub BeginsWith : List ℕ → List ℕ → List ℕ → Type 0
BeginsWith old text new = lex between old ≡ token (kind.string text) ∷ lex between new

pub string_read : (old new text : List ℕ) → BeginsWith old text new → IsValueAt 0 old (string text) new
unfolding punctuate
string_read old new text is = record {
  json = json.string text;
  is = refl;
  within = omega arith;
  tokens = λ ends. rw (is, ends) refl;
}

pub plain_text_read : (old start content end rest text : List ℕ) → lex between old ≡ lex between start
    → start ≡ codes "\"" ++ content → content ≡ text ++ end → end ≡ codes "\"" ++ rest → escape text ≡ text
    → BeginsWith old text rest
unfolding lex
plain_text_read old start inside end rest text blanks opened split closed is =
    grind (arith, common_steps, ap₂, content-escape, lex-escape)

pub number_read : (old start digits rest : List ℕ) (n : ℕ) → lex between old ≡ lex between start
    → start ≡ digits ++ rest → IsNumber digits → ends_word rest ≡ true → number_of digits ≡ Some (unsigned n)
    → IsValueAt 0 old (number (unsigned n)) rest
unfolding punctuate
number_read old start digits rest n blanks split is ended value =
    let read : lex between old ≡ token (kind.number digits) ∷ lex between rest =
    blanks ∙ ap (lex between) split ∙ lex-number digits rest is ended in
    record {
      json = json.number digits;
      is = ap (option_map number) value;
      within = omega arith;
      tokens = λ ends. rw read refl;
    }

-- a piece is a member's name, with its colon
abbrev pub IsName : List ℕ → List ℕ → Type 0
IsName piece name = (rest : List ℕ) → lex between (piece ++ rest)
    ≡ token (kind.string name) ∷ colon ∷ lex between rest

-- a text goes on after a value with members that are put in, and with the brace that closes their object
pub record AreLaterAt (deep : ℕ) (old : List ℕ) (into : Members → Members) (new : List ℕ) : Type 0 where
  pub members : json.Members
  pub is : (found : Members) → of_members members found ≡ Some (into found)
  pub within : members_depth members ≤ deep
  pub ends : begins_colon (lex between old) ≡ false
  pub tokens : punctuate after_value (lex between old)
      ≡ members_tokens members ++ punctuate after_value (lex between new)

pub closed : {old new : List ℕ} → IsTaken old (codes "}") new → AreLaterAt 0 old (λ ms. ms) new
unfolding lex punctuate
closed t = record {
  members = json.no_members;
  is = λ found. refl;
  within = omega arith;
  ends = rw t.lexemes refl;
  tokens = rw t.lexemes refl;
}

-- the tokens of a member's value and of the members after it
value_tokens : {k l : ℕ} {a b c : List ℕ} {x : Data} {into : Members → Members} (v : IsValueAt k a x b)
    (rest : AreLaterAt l b into c)
    → punctuate fresh (lex between a)
    ≡ (json_tokens v.json ++ members_tokens rest.members) ++ punctuate after_value (lex between c)
value_tokens v rest =
    v.tokens rest.ends ∙ ap (λ ts. json_tokens v.json ++ ts) rest.tokens
    ∙ sym (append_assoc (json_tokens v.json) (members_tokens rest.members) _)

pub later : {k l : ℕ} {a b c d e piece : List ℕ} {x : Data} {into : Members → Members} (name : List ℕ)
    → IsTaken a (codes ",") b → IsTaken b piece c → IsName piece name → IsValueAt k c x d → AreLaterAt l d into e
    → AreLaterAt (max k l) a (λ ms. into (put name x ms)) e
unfolding lex punctuate
later {c = c} {x = x} name t u named v rest =
    let shallow = v.within in
    let below = rest.within in
    record {
      members = json.member name v.json rest.members;
      is = λ found. ap (option_and_then (λ y. of_members rest.members (put name y found))) v.is
          ∙ rest.is (put name x found);
      within = omega (arith, shallow, below);
      ends = rw t.lexemes refl;
      tokens = ap (punctuate after_value) (t.lexemes ∙ ap (λ ls. comma ∷ ls) (u.lexemes ∙ named c))
          ∙ ap (λ ts. kind.key name ∷ ts) (value_tokens v rest);
    }

pub opened : {k l : ℕ} {a b c d e piece : List ℕ} {x : Data} {into : Members → Members} (name : List ℕ)
    → IsTaken a (codes "{") b → IsTaken b piece c → IsName piece name → IsValueAt k c x d → AreLaterAt l d into e
    → IsValueAt (suc (max k l)) a (object (into (put name x no_members))) e
unfolding lex punctuate
opened {c = c} {x = x} name t u named v rest =
    let shallow = v.within in
    let below = rest.within in
    record {
      json = json.object (json.member name v.json rest.members);
      is = ap (option_map object)
          (ap (option_and_then (λ y. of_members rest.members (put name y no_members))) v.is
          ∙ rest.is (put name x no_members));
      within = omega (arith, shallow, below);
      tokens = λ ends. ap (punctuate fresh) (t.lexemes ∙ ap (λ ls. token kind.begin_object ∷ ls) (u.lexemes ∙ named c))
          ∙ ap (λ ts. kind.begin_object ∷ kind.key name ∷ ts) (value_tokens v rest);
    }

-- an array of one item
pub listed : {k : ℕ} {a b c d : List ℕ} {x : Data} → IsTaken a (codes "[") b → IsValueAt k b x c
    → IsTaken c (codes "]") d → IsValueAt (suc k) a (array (item x no_items)) d
unfolding lex punctuate
listed t v u =
    let shallow = v.within in
    record {
      json = json.array (json.item v.json json.no_items);
      is = ap (λ o. option_map array (option_and_then (λ y. option_map (item y) (Some no_items)) o)) v.is;
      within = omega (arith, shallow);
      tokens = λ ends. ap (punctuate fresh) t.lexemes ∙ ap (λ ts. kind.begin_array ∷ ts)
          (v.tokens (rw u.lexemes refl) ∙ ap (λ ls. json_tokens v.json ++ punctuate after_value ls) u.lexemes
          ∙ sym (append_assoc (json_tokens v.json) (kind.end_array ∷ []) _));
    }

pub body_read : (body rest : List ℕ) (d : Data) → IsValueAt 6 body d rest → lex between rest ≡ [] → read body ≡ Some d
unfolding punctuate
body_read body rest d v ends =
    let shallow = v.within in
    let text : tokens body ≡ json_tokens v.json ++ [] =
    v.tokens (ap begins_colon ends) ∙ ap (λ ls. json_tokens v.json ++ punctuate after_value ls) ends in
    read_json body v.json d text (omega (arith, shallow)) v.is

-- ---- the change

abbrev pub with_length : Option ℕ → Members → Members
with_length None ms = ms
with_length (Some n) ms = put (codes "rangeLength") (number (unsigned n)) ms

pub length_later : {a b c : List ℕ} {into : Members → Members} (old new text : List ℕ) (length : Option ℕ)
    → IsLengthAt old length new → IsTaken new (codes "\"text\":") a → IsValueAt 0 a (string text) b
    → AreLaterAt 0 b into c
    → AreLaterAt 0 old (λ ms. into (put (codes "text") (string text) (with_length length ms))) c
unfolding lex content
length_later old new text None t u v rest = later (codes "text") t u (λ r. refl) v rest
length_later old new text (Some n) (name, value, end, t, m, l, w) u v rest =
    later (codes "rangeLength") t m (λ r. refl) l (later (codes "text") w u (λ r. refl) v rest)

abbrev pub change_data : Option ℕ → Data → List ℕ → Data
change_data length range text =
    object (put (codes "text") (string text) (with_length length (put (codes "range") range no_members)))

pub change_is : (length : Option ℕ) (d : Data) (r : Range) (text : List ℕ) → range_of (Some d) ≡ Some (Some r)
    → content_change_in (change_data length d text) ≡ Some (record { range = Some r; text = text })
change_is None d r text is = rw is refl
change_is (Some n) d r text is = rw is refl

pub length_is : (length : Option ℕ) (d : Data) (text : List ℕ)
    → natural_in (member_at (codes "rangeLength") (Some (change_data length d text))) ≡ length
length_is None d text = refl
length_is (Some n) d text = refl

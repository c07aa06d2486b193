-- A number, `true`, `false` or `null` at the front of a text. No line break is in it.
use Rattle.log_session.proofs.Prelude.{⊎_elim, ◌≡◌, ℕ, suc, ◌+◌, ◌≤◌, Bool, true, false, cond, ◌&&◌, ◌||◌, ◌==◌, List, [], ◌∷◌, ◌++◌, length, drop, Option, Some, None, option_and_then, refl, sym, ap, subst, arith, length-append, take_at, nat_eq, is_ascii_digit, prefix_len, starts_with, and_parts, cases_Bool, cond_both, eqb-true, leb-true, or_cases, Decides-eqb, starts_is, IsPrintable, token_text, common_steps}
use Rattle.json.specs.Token.{Token, number, boolean, null, bad}
use Rattle.json.specs.Word.{after_digits, after_exponent, after_fraction, after_minus, after_number, after_sign, after_whole, ends_word, head, literal, number_before, word}
use Rattle.log_session.proofs.Json.StringLemmas.{are_visible, one_visible}

-- ---- a text before its end `rest`: no line break is in what stands before it

module _ (rest : List ℕ) where
  record Front (text : List ℕ) : Type 0 where
    front : List ℕ
    is : text ≡ front ++ rest
    visible : are_visible front ≡ true

  -- what is left of a text is such a one
  abbrev Left : Option (List ℕ) → Type 0
  Left None = ⊥
  Left (Some text) = Front text

  abbrev Back : List ℕ → Option (List ℕ) → Type 0
  Back text left = Left left → Front text

  one_more : (x : ℕ) (text : List ℕ) → 32 ≤ x → Front text → Front (x ∷ text)
  one_more x text l h = record {
    front = x ∷ h.front;
    is = ap (λ m. x ∷ m) h.is;
    visible = one_visible x h.front l h.visible;
  }

  -- a first byte that is no space
  first : (text : List ℕ) (c : ℕ) → 33 ≤ c → (head text == c) ≡ true → Front (drop 1 text) → Front text
  first [] c l e h = let same : 32 ≡ c = eqb-true 32 c e in absurd (omega arith)
  first (x ∷ xs) c l e h = let same : x ≡ c = eqb-true x c e in one_more x xs (omega arith) h

  first_of_two : (text : List ℕ) (a b : ℕ) → 33 ≤ a → 33 ≤ b → ((head text == a) || (head text == b)) ≡ true
      → Front (drop 1 text) → Front text
  first_of_two text a b l m e =
      ⊎_elim (first text a l) (first text b m) (or_cases (head text == a) (head text == b) e)

  optional : (text : List ℕ) (b : Bool) → (b ≡ true → Front (drop 1 text) → Front text)
      → Front (cond b (drop 1 text) text) → Front text
  optional text b h = cond_both b (drop 1 text) text (λ left. Front left → Front text) h (λ e f. f)

  digit_run : (text : List ℕ) → Front (drop (prefix_len is_ascii_digit text) text) → Front text
  digit_run [] = λ h. h
  digit_run (x ∷ xs) =
      let n = prefix_len is_ascii_digit xs in
      let next : 1 + n ≡ suc n = omega arith in
      cond_both (is_ascii_digit x) (1 + n) 0 (λ k. Front (drop k (x ∷ xs)) → Front (x ∷ xs))
      (λ e h.
      let low = leb-true 48 x (and_parts _ _ e).0 in
      one_more x xs (omega arith) (digit_run xs (subst (λ k. Front (drop k (x ∷ xs))) next h))) (λ e h. h)

  digits : (text : List ℕ) → Back text (after_digits text)
  digits text = cond_both (prefix_len is_ascii_digit text == 0) None (Some (drop (prefix_len is_ascii_digit text) text))
      (Back text) (λ e h. absurd h) (λ e. digit_run text)

  whole : (text : List ℕ) → Back text (after_whole text)
  whole text = cond_both (head text == 48) (Some (drop 1 text)) (after_digits text) (Back text)
      (first text 48 (omega arith)) (λ e. digits text)

  fraction : (text : List ℕ) → Back text (after_fraction text)
  fraction text = cond_both (head text == 46) (after_digits (drop 1 text)) (Some text) (Back text)
      (λ e h. first text 46 (omega arith) e (digits (drop 1 text) h)) (λ e h. h)

  exponent : (text : List ℕ) → Back text (after_exponent text)
  exponent text =
      let more = drop 1 text in
      cond_both ((head text == 101) || (head text == 69)) (after_digits (after_sign more)) (Some text) (Back text)
      (λ e h. first_of_two text 101 69 (omega arith) (omega arith) e
      (optional more ((head more == 45) || (head more == 43)) (first_of_two more 45 43 (omega arith) (omega arith))
      (digits (after_sign more) h))) (λ e h. h)

  next : (f : List ℕ → Option (List ℕ)) → ((text : List ℕ) → Back text (f text)) → (o : Option (List ℕ))
      → Left (option_and_then f o) → Left o
  next f g None h = h
  next f g (Some text) h = g text h

  whole_number : (text : List ℕ) → Back text (after_number text)
  unfolding after_number
  whole_number text h =
      optional text (head text == 45) (first text 45 (omega arith)) (whole (after_minus text)
      (next after_fraction fraction (after_whole (after_minus text)) (next after_exponent exponent
      (option_and_then after_fraction (after_whole (after_minus text))) h)))

-- ---- words

-- is a token a number, `true`, `false` or `null`?
abbrev pub is_word : Token → Bool
is_word (number s) = true
is_word (boolean b) = true
is_word null = true
is_word _ = false

-- a word at the front of a text
pub record Word (text : List ℕ) (t : Token) : Type 0 where
  pub word : is_word t ≡ true
  pub rest : List ℕ
  pub is : text ≡ token_text t ++ rest
  pub ended : ends_word rest ≡ true
  pub visible : are_visible (token_text t) ≡ true

abbrev IfPrintable : List ℕ → Token → Type 0
IfPrintable text t = IsPrintable t → Word text t

cut : (text : List ℕ) (o : Option (List ℕ)) → after_number text ≡ o → IfPrintable text (number_before text o)
cut text None e p = absurd p
cut text (Some rest) e p =
    let h = whole_number rest text (subst (Left rest) (sym e) (record { front = []; is = refl; visible = refl })) in
    grind (arith, common_steps, length-append, take_at, cases_Bool)

named : (text : List ℕ) (t : Token) → is_word t ≡ true → are_visible (token_text t) ≡ true
    → IfPrintable text (literal (token_text t) t text)
named text t is visible =
    let name : List ℕ = token_text t in
    cond_both (starts_with nat_eq text name && ends_word (drop (length name) text)) t bad (IfPrintable text)
    (λ e p.
    let both = and_parts (starts_with nat_eq text name) (ends_word (drop (length name) text)) e in
    record {
      word = is;
      rest = drop (length name) text;
      is = (starts_is Decides-eqb text name (starts_with nat_eq text name) refl).0 both.0;
      ended = both.1;
      visible = visible;
    }) (λ e p. absurd p)

one_of : (text : List ℕ) (b : Bool) (x y : Token) → IfPrintable text x → IfPrintable text y
    → IfPrintable text (cond b x y)
one_of text b x y p q = cond_both b x y (IfPrintable text) (λ e. p) (λ e. q)

pub word_is : (text : List ℕ) → IfPrintable text (word text)
unfolding word
word_is text =
    one_of text (head text == 116) _ _ (named text (boolean true) refl refl)
    (one_of text (head text == 102) _ _ (named text (boolean false) refl refl)
    (one_of text (head text == 110) _ _ (named text null refl refl) (cut text (after_number text) refl)))

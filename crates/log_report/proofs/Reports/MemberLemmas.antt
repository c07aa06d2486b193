-- The members of a line, as they are written one after another.
use Rattle.log_report.proofs.Prelude.{◌≡◌, ◌∷◌, ◌++◌, ℕ, List, [], Option, ap, ◌∙◌, append_assoc, Result, Ok, Err, OnOk, codes, decimal, option_map, IncomingData, Head, uri_of, first_members, id_json, id_of, json_string, last_members, member, method_of, side_word}

pub on_ok : {A E P Q : Type 0} (r : Result A E) → (P → Q) → OnOk r P → OnOk r Q
on_ok (Ok a) then p = then p
on_ok (Err e) then p = tt

-- a name and a value, as they are written one after the other
pub one_member : {A E : Type 0} (r : Result A E) (new old front value : List ℕ) → OnOk r (new ≡ (old ++ front) ++ value)
    → OnOk r (new ≡ old ++ (front ++ value))
one_member (Ok a) new old front value is = is ∙ append_assoc old front value
one_member (Err e) new old front value is = tt

-- three words
pub three_words : {A E : Type 0} (r : Result A E) (new old one two a b c : List ℕ) → one ≡ old ++ a → two ≡ one ++ b
    → OnOk r (new ≡ two ++ c) → OnOk r (new ≡ old ++ (a ++ b ++ c))
three_words (Ok x) new old one two a b c first second is =
    is ∙ ap (λ z. z ++ c) (second ∙ ap (λ z. z ++ b) first ∙ append_assoc old a b) ∙ append_assoc old (a ++ b) c
three_words (Err e) new old one two a b c first second is = tt

-- seven words
pub seven_words : {A E : Type 0} (r : Result A E) (new old a b c d e f g : List ℕ)
    → OnOk r (new ≡ old ++ a ++ b ++ c ++ d ++ e ++ f ++ g) → OnOk r (new ≡ old ++ (a ++ b ++ c ++ d ++ e ++ f ++ g))
seven_words (Ok x) new old a b c d e f g is = is ∙ simp append_assoc
seven_words (Err x) new old a b c d e f g is = tt

-- eight words
pub eight_words : {A E : Type 0} (r : Result A E) (new old a b c d e f g h : List ℕ)
    → OnOk r (new ≡ old ++ a ++ b ++ c ++ d ++ e ++ f ++ g ++ h)
    → OnOk r (new ≡ old ++ (a ++ b ++ c ++ d ++ e ++ f ++ g ++ h))
eight_words (Ok x) new old a b c d e f g h is = is ∙ simp append_assoc
eight_words (Err x) new old a b c d e f g h is = tt

-- ---- the first members

pub first_is : (number : ℕ) (head : Head) (m : IncomingData) (old one two three four : List ℕ)
    → one ≡ old ++ codes "{\"number\":" ++ decimal number ++ codes ",\"offset\":" ++ decimal head.place
    ++ codes ",\"from\":\"" ++ side_word head.side ++ codes "\""
    → two ≡ one ++ member (codes ",\"method\":") (option_map json_string (method_of m))
    → three ≡ two ++ member (codes ",\"id\":") (option_map id_json (id_of m))
    → four ≡ three ++ member (codes ",\"uri\":") (option_map json_string (uri_of head.side m))
    → four ≡ old ++ first_members number head m
first_is number head m old one two three four a b c d = rw (d, c, b, a) (simp append_assoc)

-- ---- the others

pub last_is : (word : List ℕ) (reason last notes version canonical shown body : Option (List ℕ))
    (old one two three four five six seven eight nine : List ℕ)
    → one ≡ old ++ codes ",\"word\":\"" ++ word ++ codes "\"" → two ≡ one ++ member (codes ",\"reason\":") reason
    → three ≡ two ++ member (codes ",\"last\":") last → four ≡ three ++ member (codes ",\"notes\":") notes
    → five ≡ four ++ member (codes ",\"version\":") version → six ≡ five ++ member (codes ",\"canonical\":") canonical
    → seven ≡ six ++ member (codes ",\"text\":") shown → eight ≡ seven ++ member (codes ",\"body\":") body
    → nine ≡ eight ++ codes "}\n" → nine ≡ old ++ (codes ",\"word\":\"" ++ word ++ codes "\"" ++ last_members (
    (codes ",\"reason\":", reason) ∷ (codes ",\"last\":", last) ∷ (codes ",\"notes\":", notes)
    ∷ (codes ",\"version\":", version) ∷ (codes ",\"canonical\":", canonical) ∷ (codes ",\"text\":", shown)
    ∷ (codes ",\"body\":", body) ∷ []))
last_is word reason last notes version canonical shown body old one two three four five six seven eight nine a b c d e f
    g h i =
    rw (i, h, g, f, e, d, c, b, a) (simp append_assoc)

-- ---- a whole line: the members between those that other commands have too

pub line_parts : (a d o p f s q m i u w k z r l n v c t b e : List ℕ) → (a ++ d ++ o ++ p ++ f ++ s ++ q ++ m ++ i ++ u)
    ++ (w ++ k ++ z ++ (r ++ (l ++ (n ++ (v ++ (c ++ (t ++ (b ++ e))))))))
    ≡ a ++ d ++ (o ++ p ++ f ++ s ++ q ++ m ++ i) ++ u ++ w ++ k ++ z ++ (r ++ l ++ n ++ v ++ c) ++ t ++ (b ++ e)
line_parts a d o p f s q m i u w k z r l n v c t b e = simp append_assoc

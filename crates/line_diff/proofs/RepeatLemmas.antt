-- Numbers of repeats, removed from the front and moved between two stacks.
use Rattle.line_diff.proofs.Prelude.{◌≡◌, ℕ, suc, zero, ◌+◌, ◌-◌, ◌<◌, ◌≤◌, List, [], ◌∷◌, ◌++◌, Option, Some, None, length, drop, refl, sym, ap, ◌∙◌, arith, append_assoc, replicate-append-replicate, slice_get, numbers_in, numbers_of, stacked}
use Rattle.std.proofs.lemmas.List.{append-nil, drop-append-le, drop-replicate, drop_all, drop_at, length-append, length-replicate, length-reverse, replicate_more, reverse-append, reverse-reverse, set_at}
use Rattle.std.proofs.Math.Seq.{drop-append-add}
use Rattle.std.proofs.Common.{set}
use Rattle.std.specs.Prelude.{replicate, reverse}
use Rattle.line_diff.specs.declared.repeats.Repeat.{Repeat}

pub length-numbers_of : (r : Repeat) → length (numbers_of r) ≡ suc r.more
length-numbers_of r = length-replicate (suc r.more) r.number

-- ---- so many numbers less

pub drop_within : (m x n : ℕ) (rest : List ℕ) → n ≤ m
    → drop n (replicate m x ++ rest) ≡ replicate (m - n) x ++ rest
drop_within m x n rest within =
    drop-append-le n (replicate m x) rest (omega (arith, length-replicate m x))
    ∙ ap (λ (xs : List ℕ). xs ++ rest) (drop-replicate n m x)

pub drop_past : (m x n : ℕ) (rest : List ℕ) → m ≤ n
    → drop n (replicate m x ++ rest) ≡ drop (n - m) rest
drop_past m x n rest past =
    let all : n ≡ length (replicate m x) + (n - m) = omega (arith, length-replicate m x) in
    ap (λ (k : ℕ). drop k (replicate m x ++ rest)) all ∙ drop-append-add (replicate m x) rest (n - m)

-- the same of a repeat

pub repeat_within : (m x n : ℕ) (rest : List ℕ) → 0 < n → n - 1 ≤ m
    → drop n (x ∷ (replicate m x ++ rest)) ≡ replicate (m - (n - 1)) x ++ rest
repeat_within m x n rest some within =
    let left : suc m - n ≡ m - (n - 1) = omega arith in
    drop_within (suc m) x n rest (omega arith) ∙ ap (λ (k : ℕ). replicate k x ++ rest) left

pub repeat_past : (m x n : ℕ) (rest : List ℕ) → m < n
    → drop n (x ∷ (replicate m x ++ rest)) ≡ drop (n - (m + 1)) rest
repeat_past m x n rest past =
    let left : n - suc m ≡ n - (m + 1) = omega arith in
    drop_past (suc m) x n rest (omega arith) ∙ ap (λ (k : ℕ). drop k rest) left

pub empty_numbers : (n : ℕ) (rs : List Repeat) → length rs ≡ 0 → drop n (numbers_in rs) ≡ numbers_in rs
empty_numbers n [] none = drop_all n [] (omega arith)
empty_numbers n (r ∷ rs) none = absurd (omega arith)

-- ---- the first number

pub first_repeated : (m x : ℕ) (rest : List ℕ) → 0 < m → slice_get (replicate m x ++ rest) 0 ≡ Some x
first_repeated zero x rest some = absurd (omega arith)
first_repeated (suc m) x rest some = refl

pub first_later : (m x : ℕ) (rest : List ℕ) → m ≤ 0 → slice_get (replicate m x ++ rest) 0 ≡ slice_get rest 0
first_later zero x rest none = refl
first_later (suc m) x rest none = absurd (omega arith)

abbrev pub number_in : Option Repeat → Option ℕ
number_in None = None
number_in (Some r) = Some r.number

pub first_in : (rs : List Repeat) → slice_get (numbers_in rs) 0 ≡ number_in (slice_get rs 0)
first_in [] = refl
first_in (r ∷ rs) = refl

-- ---- the other way round

pub reverse-replicate : (n x : ℕ) → reverse (replicate n x) ≡ replicate n x
reverse-replicate zero x = refl
reverse-replicate (suc n) x =
    let all : n + 1 ≡ suc n = omega arith in
    reverse-append (x ∷ []) (replicate n x) ∙ (ap (λ (xs : List ℕ). xs ++ x ∷ []) (reverse-replicate n x)
    ∙ (replicate_more n x ∙ ap (λ (k : ℕ). replicate k x) all))

pub reverse-numbers_of : (r : Repeat) → reverse (numbers_of r) ≡ numbers_of r
reverse-numbers_of r = reverse-replicate (suc r.more) r.number

pub stacked-append : (xs ys : List Repeat) → stacked (xs ++ ys) ≡ stacked ys ++ stacked xs
stacked-append [] ys = sym (append-nil (stacked ys))
stacked-append (x ∷ xs) ys =
    ap (λ (ns : List ℕ). ns ++ numbers_of x) (stacked-append xs ys)
    ∙ append_assoc (stacked ys) (stacked xs) (numbers_of x)

pub stacked-push : (xs : List Repeat) (r : Repeat) → stacked (xs ++ r ∷ []) ≡ numbers_of r ++ stacked xs
stacked-push xs r = stacked-append xs (r ∷ [])

pub numbers_in-append : (xs ys : List Repeat) → numbers_in (xs ++ ys) ≡ numbers_in xs ++ numbers_in ys
numbers_in-append [] ys = refl
numbers_in-append (x ∷ xs) ys =
    ap (λ (ns : List ℕ). numbers_of x ++ ns) (numbers_in-append xs ys)
    ∙ sym (append_assoc (numbers_of x) (numbers_in xs) (numbers_in ys))

pub numbers_in-reverse : (xs : List Repeat) → numbers_in (reverse xs) ≡ stacked xs
numbers_in-reverse [] = refl
numbers_in-reverse (x ∷ xs) =
    ap numbers_in (reverse-append (x ∷ []) xs) ∙ (numbers_in-append (reverse xs) (x ∷ [])
    ∙ (ap (λ (ns : List ℕ). ns ++ (numbers_of x ++ [])) (numbers_in-reverse xs)
    ∙ ap (λ (ns : List ℕ). stacked xs ++ ns) (append-nil (numbers_of x))))

pub reverse-stacked : (xs : List Repeat) → reverse (stacked xs) ≡ numbers_in xs
reverse-stacked [] = refl
reverse-stacked (x ∷ xs) =
    reverse-append (stacked xs) (numbers_of x)
    ∙ (ap (λ (ns : List ℕ). ns ++ reverse (stacked xs)) (reverse-numbers_of x)
    ∙ ap (λ (ns : List ℕ). numbers_of x ++ ns) (reverse-stacked xs))

-- ---- a stack

module _ (items rest : List Repeat) (r : Repeat) (is : items ≡ rest ++ r ∷ []) where
  pub stack_is : stacked items ≡ numbers_of r ++ stacked rest
  stack_is = ap stacked is ∙ stacked-push rest r

  pub stack_first : stacked items ≡ numbers_of r ++ drop (suc r.more) (stacked items)
  stack_first =
      let after : drop (suc r.more) (stacked items) ≡ stacked rest =
      ap (λ (ns : List ℕ). drop (suc r.more) ns) stack_is
      ∙ drop_at (numbers_of r) (stacked rest) (suc r.more) (length-numbers_of r) in
      stack_is ∙ ap (λ (ns : List ℕ). numbers_of r ++ ns) (sym after)

  -- a part of the last repeat is removed
  removed_part : (n : ℕ) (new : List Repeat) (kept : Repeat) → n ≤ r.more → new ≡ rest ++ kept ∷ []
      → kept.number ≡ r.number → kept.more ≡ r.more - n → stacked new ≡ drop n (stacked items)
  removed_part n new kept within new_is number more =
      let all : suc r.more - n ≡ suc kept.more = omega arith in
      let kept_is : replicate (suc r.more - n) r.number ≡ numbers_of kept =
      ap (λ (k : ℕ). replicate k r.number) all ∙ ap (λ (x : ℕ). replicate (suc kept.more) x) (sym number) in
      ap stacked new_is ∙ (stacked-push rest kept
      ∙ (ap (λ (ns : List ℕ). ns ++ stacked rest) (sym kept_is)
      ∙ (sym (drop_within (suc r.more) r.number n (stacked rest) (omega arith))
      ∙ ap (λ (ns : List ℕ). drop n ns) (sym stack_is))))

  pub removed_set : (n i : ℕ) (kept : Repeat) → n ≤ r.more → length rest ≡ i → kept.number ≡ r.number
      → kept.more ≡ r.more - n → stacked (set items i kept) ≡ drop n (stacked items)
  removed_set n i kept within last number more =
      removed_part n (set items i kept) kept within
      (ap (λ (rs : List Repeat). set rs i kept) is ∙ set_at rest r [] kept i last) number more

  -- all of it is
  pub removed_all : (n : ℕ) → r.more < n → drop (n - (r.more + 1)) (stacked rest) ≡ drop n (stacked items)
  removed_all n past =
      let same : n - suc r.more ≡ n - (r.more + 1) = omega arith in
      ap (λ (k : ℕ). drop k (stacked rest)) (sym same)
      ∙ (sym (drop_past (suc r.more) r.number n (stacked rest) (omega arith))
      ∙ ap (λ (ns : List ℕ). drop n ns) (sym stack_is))

pub stack_added : (items : List Repeat) (number count : ℕ) (r : Repeat) → 0 < count → r.number ≡ number
    → r.more ≡ count - 1 → stacked (items ++ r ∷ []) ≡ replicate count number ++ stacked items
stack_added items number count r some number_is more =
    let all : suc r.more ≡ count = omega arith in
    let same : numbers_of r ≡ replicate count number =
    ap (λ (k : ℕ). replicate k r.number) all ∙ ap (λ (x : ℕ). replicate count x) number_is in
    stacked-push items r ∙ ap (λ (ns : List ℕ). ns ++ stacked items) same

-- ---- from one stack to another

-- what was moved is read back
moved_part : (m x n : ℕ) (rest to : List ℕ) → n ≤ m
    → reverse (drop n (replicate m x ++ rest)) ++ (replicate n x ++ to) ≡ reverse (replicate m x ++ rest) ++ to
moved_part m x n rest to within =
    let all : (m - n) + n ≡ m = omega arith in
    let joined : replicate (m - n) x ++ replicate n x ≡ replicate m x =
    replicate-append-replicate (m - n) n x ∙ ap (λ (k : ℕ). replicate k x) all in
    let left : reverse (drop n (replicate m x ++ rest)) ≡ reverse rest ++ replicate (m - n) x =
    ap reverse (drop_within m x n rest within) ∙ (reverse-append (replicate (m - n) x) rest
    ∙ ap (λ (ns : List ℕ). reverse rest ++ ns) (reverse-replicate (m - n) x)) in
    let right : reverse (replicate m x ++ rest) ≡ reverse rest ++ replicate m x =
    reverse-append (replicate m x) rest ∙ ap (λ (ns : List ℕ). reverse rest ++ ns) (reverse-replicate m x) in
    rw (
      left,
      right,
      append_assoc (reverse rest) (replicate (m - n) x) (replicate n x ++ to),
      ← append_assoc (replicate (m - n) x) (replicate n x) to,
      joined,
      append_assoc (reverse rest) (replicate m x) to,
    ) refl

pub moved : (r : Repeat) (n : ℕ) (old rest to : List ℕ) → old ≡ numbers_of r ++ rest → n ≤ r.more + 1
    → reverse (drop n old) ++ (replicate n r.number ++ to) ≡ reverse old ++ to
moved r n old rest to is within =
    let here = moved_part (suc r.more) r.number n rest to (omega arith) in
    rw is here

flipped : (a b : List ℕ) → reverse (reverse a ++ b) ≡ reverse b ++ a
flipped a b = reverse-append (reverse a) b ∙ ap (λ (ns : List ℕ). reverse b ++ ns) (reverse-reverse a)

-- both stacks, from the other side
pub turned : (a b c d : List ℕ) → reverse a ++ b ≡ reverse c ++ d → reverse b ++ a ≡ reverse d ++ c
turned a b c d same = sym (flipped a b) ∙ (ap reverse same ∙ flipped c d)

pub same_length : (a b c d : List ℕ) → reverse a ++ b ≡ reverse c ++ d → length a + length b ≡ length c + length d
same_length a b c d same =
    let lengths = ap (λ (ns : List ℕ). length ns) same in
    omega (arith, lengths, length-append (reverse a) b, length-append (reverse c) d, length-reverse a, length-reverse c)

-- Messages that wait, and the tables before and after them.
use Rattle.lsp_pair.proofs.Prelude.{ℕ, zero, suc, ◌≡◌, ◌≤◌, ◌<◌, ◌+◌, List, [], ◌∷◌, ◌++◌, length, map, take, drop, add-one, Some, None, refl, sym, ap, ◌∙◌, arith, slice_get, length-append, take-append-drop, SyncKind, OutgoingData, DocumentItem, Command, table_after, table_from, message_frame, ClientMessage, commands, lifecycle, commands_in, frame_of, table_with, frames_from, common_steps}

-- ---- what is at an index of a list

-- the first of what is dropped to
pub record IsNext {X : Type 0} (xs : List X) (n : ℕ) (x : X) (rest : List X) : Type 0 where
  pub there : slice_get xs n ≡ Some x
  pub after : drop (n + 1) xs ≡ rest
  pub before : take (n + 1) xs ≡ take n xs ++ x ∷ []
  pub within : n + 1 ≤ length xs

next_suc : {X : Type 0} (xs : List X) (n : ℕ) (x : X) (rest : List X) → drop n xs ≡ x ∷ rest
    → (slice_get xs n ≡ Some x) × (drop (suc n) xs ≡ rest) × (take (suc n) xs ≡ take n xs ++ x ∷ []) × (n < length xs)
next_suc [] zero x rest e = absurd (cc)
next_suc [] (suc n) x rest e = absurd (cc)
next_suc (y ∷ ys) zero x rest e = grind (arith, common_steps)
next_suc (y ∷ ys) (suc n) x rest e = grind (arith, common_steps, (next_suc ys n x rest e))

pub next_is : {X : Type 0} (xs : List X) (n : ℕ) (x : X) (rest : List X) → drop n xs ≡ x ∷ rest → IsNext xs n x rest
next_is xs n x rest e = grind (arith, common_steps, next_suc, add-one)

pub none_next : {X : Type 0} (xs : List X) (n : ℕ) → drop n xs ≡ [] → slice_get xs n ≡ None
none_next [] zero e = refl
none_next [] (suc n) e = refl
none_next (y ∷ ys) zero e = absurd (cc)
none_next (y ∷ ys) (suc n) e = none_next ys n e

-- ---- commands and tables

pub commands-append : (xs ys : List ClientMessage) → commands_in (xs ++ ys) ≡ commands_in xs ++ commands_in ys
commands-append [] ys = refl
commands-append (commands command ∷ xs) ys = ap (λ cs. command ∷ cs) (commands-append xs ys)
commands-append (lifecycle m ∷ xs) ys = commands-append xs ys

pub from-append : (table : List DocumentItem) (xs ys : List Command) → table_from table (xs ++ ys)
    ≡ table_from (table_from table xs) ys
from-append table [] ys = refl
from-append table (command ∷ xs) ys = from-append (table_after table command) xs ys

-- the table after messages, on a table
abbrev pub table_after_all : List DocumentItem → List ClientMessage → List DocumentItem
table_after_all table said = table_from table (commands_in said)

pub after-append : (table : List DocumentItem) (xs ys : List ClientMessage) → table_after_all table (xs ++ ys)
    ≡ table_after_all (table_after_all table xs) ys
after-append table xs ys = ap (table_from table) (commands-append xs ys) ∙ from-append table (commands_in xs)
    (commands_in ys)

pub after_one : (table : List DocumentItem) (said : ClientMessage) → table_after_all table (said ∷ [])
    ≡ table_with table said
after_one table (commands command) = refl
after_one table (lifecycle m) = refl

pub after-last : (table : List DocumentItem) (xs : List ClientMessage) (said : ClientMessage)
    → table_after_all table (xs ++ said ∷ []) ≡ table_with (table_after_all table xs) said
after-last table xs said = after-append table xs (said ∷ []) ∙ after_one (table_after_all table xs) said

-- messages of the lifecycle change no table
pub quiet : (table : List DocumentItem) (xs : List ClientMessage) (ms : List OutgoingData)
    → table_after_all table (xs ++ map lifecycle ms) ≡ table_after_all table xs
quiet table xs ms = after-append table xs (map lifecycle ms) ∙ none (table_after_all table xs) ms
  where
    none : (table : List DocumentItem) (ms : List OutgoingData) → table_after_all table (map lifecycle ms) ≡ table
    none table [] = refl
    none table (m ∷ ms) = none table ms

-- the table after what was delivered, and after what waits
pub whole_after : (table : List DocumentItem) (n : ℕ) (xs : List ClientMessage)
    → table_after_all (table_after_all table (take n xs)) (drop n xs) ≡ table_after_all table xs
whole_after table n xs = sym (after-append table (take n xs) (drop n xs)) ∙ ap (table_after_all table)
    (take-append-drop n xs)

-- ---- frames

pub frames-append : (kind : SyncKind) (table : List DocumentItem) (xs ys : List ClientMessage)
    → frames_from kind table (xs ++ ys) ≡ frames_from kind table xs ++ frames_from kind (table_after_all table xs) ys
frames-append kind table [] ys = refl
frames-append kind table (commands command ∷ xs) ys =
    ap (λ fs. frame_of kind table (commands command) ∷ fs) (frames-append kind (table_after table command) xs ys)
frames-append kind table (lifecycle m ∷ xs) ys = ap (λ fs. message_frame m ∷ fs) (frames-append kind table xs ys)

pub frames_said : (kind : SyncKind) (table : List DocumentItem) (ms : List OutgoingData)
    → frames_from kind table (map lifecycle ms) ≡ map message_frame ms
frames_said kind table [] = refl
frames_said kind table (m ∷ ms) = ap (λ fs. message_frame m ∷ fs) (frames_said kind table ms)

-- ---- one message more

pub length_more : {X : Type 0} (n : ℕ) (xs ys : List X) → n ≤ length xs → n ≤ length (xs ++ ys)
length_more n xs ys h = omega (arith, length-append xs ys)

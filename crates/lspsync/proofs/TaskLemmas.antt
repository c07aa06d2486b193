-- A task more.
use Rattle.lspsync.proofs.Prelude.{◌≡◌, ◌<◌, ℕ, ◌+◌, List, [], ◌∷◌, ◌++◌, map, length, get_or, take, Bor, ap, sym, ◌∙◌, Option, map_push, file_named, file_of, Task}
use Rattle.std.proofs.lemmas.List.{map_more}

abbrev no_word : Bor (List ℕ)
no_word = record { ref_ptr = (0, 0); now = [] }

abbrev files_of_words : List (Bor (List ℕ)) → List (Option (List ℕ))
files_of_words words = map file_named (map (λ word. word.now) words)

more_files : (words : List (Bor (List ℕ))) (index : ℕ) → index < length words → files_of_words (take (index + 1) words)
    ≡ files_of_words (take index words) ++ file_named (get_or words index no_word).now ∷ []
more_files words index within =
    ap (map file_named) (map_more (λ word. word.now) words index no_word within)
    ∙ map_push file_named (map (λ word. word.now) (take index words)) (get_or words index no_word).now

-- It is that of the next word.
pub one_more : (tasks : List Task) (task : Task) (words : List (Bor (List ℕ))) (index : ℕ) → index < length words
    → map file_of tasks ≡ files_of_words (take index words) → file_of task ≡ file_named (get_or words index no_word).now
    → map file_of (tasks ++ task ∷ []) ≡ files_of_words (take (index + 1) words)
one_more tasks task words index within so_far is =
    map_push file_of tasks task
    ∙ (ap (λ z. z ++ file_of task ∷ []) so_far
    ∙ (ap (λ z. files_of_words (take index words) ++ z ∷ []) is ∙ sym (more_files words index within)))

-- Tasks one after another.
use Rattle.lspsync.proofs.Prelude.{◌≡◌, inl, inr, refl, subst, true, false, Bool, List, [], ◌∷◌, Streams, AreDone, IsTaskDone, KnownFiles, both_ends, Task, Ending}

-- The first task was done, and so are the others after it.
pub one_more : (known : KnownFiles) (is_headed : Bool) (so_far one next ending : Ending) (tasks rest : List Task)
    (task : Task) (before between after : Streams) → tasks ≡ task ∷ rest
    → IsTaskDone known is_headed task before between one → one.output_failed ≡ false → next ≡ both_ends so_far one
    → AreDone known is_headed next rest between after ending → AreDone known is_headed so_far tasks before after ending
one_more known is_headed so_far one next ending tasks rest task before between after are done succeeded is more =
    rw are (
      between,
      one,
      done,
      inr (succeeded, subst (λ (z : Ending). AreDone known is_headed z rest between after ending) is more),
    )

-- The first task was done, and its output failed.
pub stopped : (known : KnownFiles) (is_headed : Bool) (so_far one ending : Ending) (tasks rest : List Task)
    (task : Task) (before after : Streams) → tasks ≡ task ∷ rest → IsTaskDone known is_headed task before after one
    → one.output_failed ≡ true → ending ≡ both_ends so_far one
    → AreDone known is_headed so_far tasks before after ending
stopped known is_headed so_far one ending tasks rest task before after are done failed is =
    rw are (after, one, done, inl (failed, refl, is))

-- There was no task.
pub none_left : (known : KnownFiles) (is_headed : Bool) (so_far : Ending) (tasks : List Task) (here : Streams)
    → tasks ≡ [] → AreDone known is_headed so_far tasks here here so_far
none_left known is_headed so_far tasks here are = rw are (refl, refl)

-- What is left where no whole record is buffered.
use Rattle.lsp_log.proofs.Prelude.{◌≡◌, ◌≢◌, ◌⊎◌, ℕ, List, [], ◌∷◌, ◌++◌, length, drop, Option, refl, ◌∙◌, ap, subst, arith, append-nil, inl, inr, length-append, IsFrameOf, Version, One, Two, Sender, Client, Server, Splitter, LogRules, Record, HasNoRecord, mark_of, IsReady, IsAfter, log_at, buffered_of, mark_part, BufferedLaw, RestLaw, common_steps}
use Rattle.lsp_log.proofs.SplitLemmas.{known_reads, known_side, some_side, some_or}

-- Two marks of one version have one length.
behind_mark : (version : Version) (side other : Sender) (a b : List ℕ) → mark_of version side ++ a ≡ mark_of version other
    ++ b → a ≡ b
behind_mark One side other a b e = e
behind_mark Two Client Client a b e = ap (drop 1) e
behind_mark Two Server Server a b e = ap (drop 1) e
behind_mark Two _ _ a b e = ap (drop 1) e

-- At the end of the input no whole record is held.
no_record : (log_rules : LogRules) (input : List ℕ) (records : List Record) (s : Splitter) → IsReady s
    → IsAfter log_rules input [] records s → HasNoRecord log_rules.max_body (log_at s records [])
no_record log_rules input records s ready at other raw body more is_frame_of e =
    grind (arith, common_steps, append-nil, some_or, inl, behind_mark, inr, length-append)

nothing_or_some : (xs : List ℕ) → (xs ≡ []) ⊎ (xs ≢ [])
nothing_or_some [] = inl refl
nothing_or_some (x ∷ xs) = inr (λ e. omega (arith, ap length e))

pub rest_law : RestLaw
rest_law log_rules input records s ready at =
    elim (nothing_or_some (buffered_of s ++ [])) [
      | inl nothing ↦ inl nothing
      | inr some ↦ elim (some_or s.side) [
        | inl known ↦ inr (grind (arith, common_steps, append-nil, no_record))
        | inr unknown ↦ inl (append-nil (buffered_of s)
            ∙ ap (λ (o : Option Sender). mark_part s.version o ++ s.framer.buffered) unknown ∙ ready.fed.between unknown)
      ]
    ]

pub buffered_law : BufferedLaw
buffered_law log_rules input more body records s fed is_frame_of at =
    let known = known_side s.side (some_side s fed (record { body = body; is_frame_of = is_frame_of })) in
    known_reads log_rules input more body records s known.0 known.1
    (subst (λ (m : ℕ). IsFrameOf m s.framer.buffered body) at.limit is_frame_of) at

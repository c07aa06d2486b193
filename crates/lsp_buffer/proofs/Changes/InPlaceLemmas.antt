-- What a change of a range makes of the bytes of a text, and of its lines.
use Rattle.lsp_buffer.proofs.Prelude.{ℕ, ◌≡◌, ◌+◌, ◌-◌, ◌<◌, ◌≤◌, true, List, ◌++◌, length, take, drop, sym, ap, ap₂, ◌∙◌, subst, arith, Result, Ok, Err, OnOk, OnErr, is_err, length-append, length-drop, length-take, length-take-le, append_assoc, take_at, drop_at, drop-drop, take-append-drop, IsCharBoundary-at_seam, IsUtf8-append, IsUtf8-drop, slice_range, replace_range, IsCharBoundary, IsUtf8, common_steps}
use Rattle.std.specs.String.Boundary.{IsSplitPoint}

assoc : (a b c : List ℕ) → a ++ b ++ c ≡ a ++ (b ++ c)
assoc a b c = simp append_assoc

-- ---- the bytes and the lines after it

split : (bytes : List ℕ) (place : ℕ) → IsCharBoundary bytes place → IsSplitPoint bytes place
split bytes place b = (b.0, λ _. b.1)

module _ (old : List ℕ) (utf8 : IsUtf8 old) (start stop : ℕ) (new : List ℕ) (new_utf8 : IsUtf8 new)
    (order : start ≤ stop) (at_start : IsCharBoundary old start) (at_end : IsCharBoundary old stop) where
  front_len : length (take start old) ≡ start
  front_len = length-take-le start old at_start.0

  front_at : take start (replace_range old start stop new) ≡ take start old
  front_at = ap (take start) (assoc (take start old) new (drop stop old))
      ∙ take_at (take start old) (new ++ drop stop old) start front_len

  both_len : length (take start old ++ new) ≡ start + length new
  both_len = omega (arith, length-append (take start old) new, front_len)

  back_at : drop (start + length new) (replace_range old start stop new) ≡ drop stop old
  back_at = drop_at (take start old ++ new) (drop stop old) (start + length new) both_len

  pub replaced_len : length (replace_range old start stop new) ≡ start + length new + (length old - stop)
  replaced_len = omega (arith, length-append (take start old ++ new) (drop stop old), both_len, length-drop stop old)

  rest_utf8 : IsUtf8 (drop stop old)
  rest_utf8 = IsUtf8-drop old stop utf8 at_end

  pub start_again : IsSplitPoint (replace_range old start stop new) start
  start_again =
      split (replace_range old start stop new) start
      (subst (IsCharBoundary (replace_range old start stop new)) front_len
      (IsCharBoundary-at_seam (replace_range old start stop new) (take start old) (new ++ drop stop old)
      (assoc (take start old) new (drop stop old)) (IsUtf8-append new (drop stop old) new_utf8 rest_utf8)))

  pub undone : replace_range (replace_range old start stop new) start (start + length new) (slice_range old start stop)
      ≡ old
  undone =
      ap₂ (λ (x y : List ℕ). x ++ slice_range old start stop ++ y) front_at back_at
      ∙ (grind (arith, common_steps, assoc, rest_after, take-append-drop))
    where
      rest_after : drop stop old ≡ drop (stop - start) (drop start old)
      rest_after = let n : stop ≡ start + (stop - start) = omega (arith, order) in
          ap (λ (k : ℕ). drop k old) n ∙ sym (drop-drop (stop - start) start old)

-- What was removed fits where it was.
pub put_back : {A E : Type 0} (r : Result A E) (now wanted : List ℕ) (capacity needed : ℕ) → OnOk r (now ≡ wanted)
    → OnErr r (capacity < needed) → needed ≤ capacity → now ≡ wanted
put_back (Ok a) now wanted capacity needed ok err room = ok
put_back (Err e) now wanted capacity needed ok err room = absurd (omega (arith, err, room))

pub removed_len : (old : List ℕ) (start stop : ℕ) → length (slice_range old start stop) ≤ stop - start
removed_len old start stop = omega (arith, length-take (stop - start) (drop start old))

-- what holds where there is an error
pub at_err : {A E : Type 0} (P : Type 0) (r : Result A E) → is_err r ≡ true → OnErr r P → P
at_err P (Ok a) is p = absurd (cc)
at_err P (Err e) is p = p

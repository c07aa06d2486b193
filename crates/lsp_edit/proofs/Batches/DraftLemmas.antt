-- The text that a batch leaves, made change by change in a copy of the text.
use Rattle.lsp_edit.proofs.Prelude.{IsUtf8-string_bytes, ℕ, suc, ◌≡◌, ◌+◌, ◌≤◌, ◌⊎◌, List, [], ◌∷◌, ◌++◌, length, map, refl, sym, ap, ◌∙◌, subst, arith, encode_utf8_all, inl, inr, Option, Some, None, Result, Ok, Err, string_bytes, string_len, append_assoc, append-nil, sum_by-cons, encodes-chars, chars_from_encodes, replace_range, Range, Change, EditFault, NoMemory, Item, New, plain, text_of, ContentChange, Fault, changed_in, put_items, items_after, after_changes, continue_with, meaning, ends_of, AreEndsIn, AreEndsOf, IsFaultOfChange, fault_at, ⊎_elim, BeginsAnew, IsAfter, places_at, content_change, bytes_left, then_items, text_within, batch_fault_of, common_steps}
use Rattle.std.specs.Str.{IsUtf8, chars}
use Rattle.lsp_edit.specs.Batch.{put_between}
use Rattle.lsp_edit.specs.declared.indexed.fault.BatchFault.TheVariants.{NoMemory as OutOfMemory}
use Rattle.lsp_edit.specs.declared.indexed.fault.BatchFault.{BatchFault}
use Rattle.lsp_edit.proofs.Batches.ComposeLemmas.{text_of-then, then-changed, then-plain}
use Rattle.lsp_edit.proofs.Composing.AppliedLemmas.{edit_is, ends_in, places_any, places_told}
use Rattle.lsp_edit.proofs.Composing.EditedLemmas.{plain_text}
use Rattle.lsp_edit.proofs.Composing.RoomLemmas.{texts_len}
use Rattle.lsp_edit.proofs.Deltas.InPlaceLemmas.{IsInPlace, fault_edit, in_place}
use Rattle.lsp_edit.proofs.Deltas.WholeLemmas.{whole_left}

-- ---- one change

pub change_in_place : (units : ℕ → ℕ) (number : ℕ) (before : List ℕ) (range : Range) (change : Change) (start stop : ℕ)
    → IsUtf8 before → Ok (start, stop) ≡ places_at number (chars before) (ends_of units (chars before) range)
    → IsInPlace units before range (string_bytes change.text) start stop
change_in_place units number before range change start stop utf8 found =
    in_place units before utf8 range (string_bytes change.text) (IsUtf8-string_bytes change.text) start stop
    (places_any number (chars before) (start, stop) (ends_of units (chars before) range) found)

pub is_ranged : (units : ℕ → ℕ) (number : ℕ) (before left : List ℕ) (range : Range) (change : Change) (start stop : ℕ)
    → IsUtf8 before → change.range ≡ Some range
    → Ok (start, stop) ≡ places_at number (chars before) (ends_of units (chars before) range)
    → left ≡ replace_range before start stop (string_bytes change.text)
    → IsAfter units before (content_change change) left (start, stop)
is_ranged units number before left range change start stop utf8 is found left_is =
    let r = change_in_place units number before range change start stop utf8 found in
    record {
      items = put_items before start stop (string_bytes change.text);
      made = subst (λ (c : ContentChange). items_after units (chars before) (plain (chars before)) c
          ≡ Ok (put_items before start stop (string_bytes change.text)))
          (edit_is change (Some range) (string_bytes change.text) is refl) r.made;
      is = left_is ∙ sym r.bytes;
      ends_are = ends_in units number (chars before) (content_change change) range (start, stop) is found;
    }

pub is_whole : (units : ℕ → ℕ) (before : List ℕ) (change : Change) (left : List ℕ) (ends : ℕ × ℕ)
    → IsUtf8 (string_bytes change.text) → change.range ≡ None → left ≡ string_bytes change.text
    → IsAfter units before (content_change change) left ends
is_whole units before change left ends utf8 is same = record {
  items = map New (chars (string_bytes change.text));
  made = rw is refl;
  is = same ∙ sym (whole_left before (string_bytes change.text) utf8);
  ends_are = λ range e. absurd (cc);
}

pub range_faulted : (units : ℕ → ℕ) (number : ℕ) (before : List ℕ) (range : Range) (change : Change) (fault : EditFault)
    → change.range ≡ Some range → Err fault ≡ places_at number (chars before) (ends_of units (chars before) range)
    → IsFaultOfChange number (items_after units (chars before) (plain (chars before)) (content_change change)) fault
range_faulted units number before range change fault is found =
    places_told units (content_change change) range (Err fault)
    (record { before = chars before; items = plain (chars before); changes = number }) (chars before) number is refl
    (plain_text (chars before)) found

-- ---- a batch, change by change

-- A change has no result on any items of one text.
same_fault : (units : ℕ → ℕ) (old other : List ℕ) (items others : List Item) (change : ContentChange) (why : Fault)
    → text_of old items ≡ text_of other others → items_after units old items change ≡ Err why
    → items_after units other others change ≡ Err why
same_fault units old other items others change why same fault = by_range change.range fault
  where
    by_ends : (ends : Result (ℕ × ℕ) Fault) → put_between items change.text ends ≡ Err why
        → put_between others change.text ends ≡ Err why
    by_ends (Ok ends) f = absurd (cc)
    by_ends (Err w) f = cc

    by_range : (range : Option Range) → changed_in units old items change.text range ≡ Err why
        → changed_in units other others change.text range ≡ Err why
    by_range None f = absurd (cc)
    by_range (Some range) f =
        subst (λ (t : List ℕ). put_between others change.text (ends_of units t range) ≡ Err why) same
        (by_ends (ends_of units (text_of old items) range) f)

-- How far a batch was applied: the rest of it makes its meaning, and there is room for it. With the ends of the others
-- those that were found are those of the batch.
pub record Drafting (units : ℕ → ℕ) (before : List ℕ) (batch : List ContentChange) (number : ℕ) (rest : List Change)
    (draft : List ℕ) (found : List (ℕ × ℕ)) : Type 0 where
  pub items : List Item
  pub is : draft ≡ bytes_left before items
  pub same : after_changes units (chars before) number items (map content_change rest)
      ≡ meaning units (chars before) batch
  pub ends : (more : List (ℕ × ℕ)) → AreEndsOf units (chars before) items (map content_change rest) more
      → AreEndsOf units (chars before) (plain (chars before)) batch (found ++ more)
  pub room : length draft + texts_len rest ≤ 2147483648

-- The ends of a batch that begins with a whole text are those over any items.
any_ends : (units : ℕ → ℕ) (old : List ℕ) (items others : List Item) (batch : List ContentChange) (ends : List (ℕ × ℕ))
    → BeginsAnew batch → AreEndsOf units old items batch ends → AreEndsOf units old others batch ends
any_ends units old items others [] ends anew are = tt
any_ends units old items others (change ∷ batch) [] anew are = are
any_ends units old items others (change ∷ batch) (end ∷ ends) anew are =
    let same : items_after units old items change ≡ items_after units old others change = rw anew refl in
    (λ range e. absurd (cc), λ next made. are.1 next (same ∙ made))

any_items : (units : ℕ → ℕ) (old : List ℕ) (items others : List Item) (batch : List ContentChange)
    → BeginsAnew batch → after_changes units old 0 items batch ≡ after_changes units old 0 others batch
any_items units old items others [] anew = absurd anew
any_items units old items others (change ∷ batch) anew = rw anew refl

pub drafting_begins : (units : ℕ → ℕ) (before : List ℕ) (changes : List Change) (draft : List ℕ) → IsUtf8 before
    → (draft ≡ before) ⊎ ((draft ≡ []) × BeginsAnew (map content_change changes)) → length before ≤ 1073741824
    → texts_len changes ≤ 1073741824 → Drafting units before (map content_change changes) 0 changes draft []
drafting_begins units before changes draft utf8 begun size fits =
    ⊎_elim
    (λ (same : draft ≡ before).
    record {
      items = plain (chars before);
      is = same ∙ sym (ap encode_utf8_all (plain_text (chars before)) ∙ encodes-chars before utf8);
      same = refl;
      ends = λ more are. are;
      room = omega (arith, ap length same);
    })
    (λ (anew : (draft ≡ []) × BeginsAnew (map content_change changes)).
    record {
      items = [];
      is = anew.0;
      same = any_items units (chars before) [] (plain (chars before)) (map content_change changes) anew.1;
      ends = λ more are. any_ends units (chars before) [] (plain (chars before)) (map content_change changes) more
          anew.1 are;
      room = omega (arith, ap length anew.0);
    })
    begun

module _ (units : ℕ → ℕ) (before : List ℕ) (batch : List ContentChange) (number : ℕ) (change : Change)
    (rest more : List Change) (draft : List ℕ) (found : List (ℕ × ℕ)) (is : rest ≡ change ∷ more)
    (drafting : Drafting units before batch number rest draft found) (utf8 : IsUtf8 draft) where
  text_is : chars draft ≡ text_of (chars before) drafting.items
  text_is = sym (chars_from_encodes (text_of (chars before) drafting.items) draft utf8 (sym drafting.is))

  same_here : continue_with (λ next. after_changes units (chars before) (suc number) next (map content_change more))
      number (items_after units (chars before) drafting.items (content_change change))
      ≡ meaning units (chars before) batch
  same_here = subst (λ (r : List Change). after_changes units (chars before) number drafting.items
      (map content_change r) ≡ meaning units (chars before) batch) is drafting.same

  pub drafting_on : (next : List ℕ) (end : ℕ × ℕ) (all : List (ℕ × ℕ))
      → IsAfter units draft (content_change change) next end → all ≡ found ++ end ∷ []
      → length next ≤ length draft + string_len change.text
      → Drafting units before batch (number + 1) more next all
  drafting_on next end all after all_is longer =
      let old : List ℕ = chars before in
      let now : List Item = then_items drafting.items after.items in
      let there : items_after units (text_of old drafting.items) (plain (text_of old drafting.items))
      (content_change change) ≡ Ok after.items = subst (λ (t : List ℕ). items_after units t (plain t)
      (content_change change) ≡ Ok after.items) text_is after.made in
      let made : items_after units old drafting.items (content_change change) ≡ Ok now =
      rw (then-plain old drafting.items) at
      (then-changed units old drafting.items (plain (text_of old drafting.items)) after.items (content_change change)
      there) in
      let text : text_of (chars draft) after.items ≡ text_of old now =
      ap (λ (t : List ℕ). text_of t after.items) text_is ∙ sym (text_of-then old drafting.items after.items) in
      let at : AreEndsIn units (text_of old drafting.items) (content_change change) end =
      subst (λ (t : List ℕ). AreEndsIn units t (content_change change) end) text_is after.ends_are in
      record {
        items = now;
        is = after.is ∙ ap encode_utf8_all text;
        same = grind (arith, common_steps, same_here);
        ends = λ others are.
            let here : AreEndsOf units old drafting.items (content_change change ∷ map content_change more)
            (end ∷ others) = (
              at,
              λ made_items e. subst (λ (i : List Item). AreEndsOf units old i
                  (map content_change more) others) (let same : now ≡ made_items = cc in same) are,
            ) in
            subst (AreEndsOf units old (plain old) batch)
            (sym (ap (λ (ends : List (ℕ × ℕ)). ends ++ others) all_is ∙ append_assoc found (end ∷ []) others))
            (drafting.ends (end ∷ others) (subst (λ (r : List Change). AreEndsOf units old drafting.items
            (map content_change r) (end ∷ others)) (sym is) here));
        room = grind (arith, common_steps, texts_len, sum_by-cons, string_len, drafting.room);
      }

  pub draft_faulted : (max_len : ℕ) (fault : EditFault)
      → IsFaultOfChange number (items_after units (chars draft) (plain (chars draft)) (content_change change)) fault
      → (batch_fault_of fault ≡ OutOfMemory)
      ⊎ (text_within max_len before (meaning units (chars before) batch) ≡ Err (batch_fault_of fault))
  draft_faulted max_len fault error =
      let text = plain_text (chars draft) ∙ text_is in
      ⊎_elim
      (λ (memory : fault ≡ NoMemory). inl (ap batch_fault_of memory))
      (λ (t : (why : Fault) × (items_after units (chars draft) (plain (chars draft)) (content_change change) ≡ Err why)
      × (fault ≡ fault_at number why)).
      let gone : items_after units (chars before) drafting.items (content_change change) ≡ Err t.0 =
      same_fault units (chars draft) (chars before) (plain (chars draft)) drafting.items (content_change change) t.0
      text t.1 in
      let meant : Err (number, t.0) ≡ meaning units (chars before) batch = rw gone at same_here in
      inr (ap (text_within max_len before) (sym meant)
      ∙ ap (λ (f : BatchFault). Err f) (fault_edit number t.0 ∙ ap batch_fault_of (sym t.2))))
      error

pub drafted_ends : (units : ℕ → ℕ) (before : List ℕ) (batch : List ContentChange) (number : ℕ) (rest : List Change)
    (draft : List ℕ) (found : List (ℕ × ℕ)) → rest ≡ [] → Drafting units before batch number rest draft found
    → AreEndsOf units (chars before) (plain (chars before)) batch found
drafted_ends units before batch number rest draft found none drafting =
    subst (AreEndsOf units (chars before) (plain (chars before)) batch) (append-nil found)
    (drafting.ends [] (subst (λ (r : List Change). AreEndsOf units (chars before) drafting.items (map content_change r)
    []) (sym none) tt))

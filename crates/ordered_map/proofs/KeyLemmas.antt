-- Keys of slots, and the entries that they find.
use Rattle.ordered_map.proofs.Prelude.{◌≡◌, ◌≤◌, ◌<◌, ℕ, zero, suc, Bool, true, false, List, [], ◌∷◌, ◌++◌, length, map, filter, set, slice_index_or as get_or, slice_get, position, is_some, option_map, Option, Some, None, String, string_bytes, string_eq, refl, sym, ap, ◌∙◌, arith, true≢false, ⊎_elim, cases_Bool, cases_eq, cases_lt, get_or_push, length-map, length-set, length_push, map-append, map-set, set-append_left, set-get_or, position-Some, none-some, slice_get-get_or, slice_get_within, IsDistinct, swap_remove, keys_of, lookup, values_of, Global, is_key, slot_entry, IsOnly, has_key, vacated, with_value_in, common_steps}
use Rattle.std.proofs.Common.{IfSome}
use Rattle.std.proofs.Math.Seq.{take-append_seam}
use Rattle.std.proofs.lemmas.Map.Keys.{apart_from_distinct}
use Rattle.std.specs.Cmp.Lexicographic.{nat_list_eq_equiv}
use Rattle.indexmap.specs.IndexMap.{set_value_at}
use Rattle.ordered_map.proofs.PositionLemmas.{none_within, position_is, position_none}
use Rattle.std.proofs.lemmas.Grind.{common_steps}

-- the last item takes the place of another
swap_removed : {X : Type 0} (slots : List X) (slot : ℕ) (last default : X) → slot < length slots
    → swap_remove (slots ++ last ∷ []) slot default ≡ set slots slot last
swap_removed slots slot last default within =
    grind (arith, common_steps, length_push, get_or_push, set-append_left, length-set, take-append_seam)

module _ {V : Type 0} where
  -- ---- what is in a slot

  entry_at : (slots : List (String Global × Option V)) (slot : ℕ) (content : String Global × Option V)
      → slice_get slots slot ≡ Some content → get_or (map slot_entry slots) slot None ≡ slot_entry content
  entry_at [] slot content at = absurd (cc)
  entry_at (first ∷ slots) zero content at = let same : first ≡ content = cc in ap slot_entry same
  entry_at (first ∷ slots) (suc slot) content at = entry_at slots slot content at

  entry_past : (slots : List (String Global × Option V)) (slot : ℕ) → slice_get slots slot ≡ None
      → get_or (map slot_entry slots) slot None ≡ None
  entry_past [] slot past = refl
  entry_past (first ∷ slots) zero past = absurd (cc)
  entry_past (first ∷ slots) (suc slot) past = entry_past slots slot past

  key_at : (slots : List (String Global × Option V)) (slot : ℕ) (content : String Global × Option V)
      (default : String Global) → slice_get slots slot ≡ Some content → get_or (keys_of slots) slot default ≡ content.0
  key_at [] slot content default at = absurd (cc)
  key_at (first ∷ slots) zero content default at = let same : first ≡ content = cc in
      ap (λ (pair : String Global × Option V). pair.0) same
  key_at (first ∷ slots) (suc slot) content default at = key_at slots slot content default at

  fails : (bytes : List ℕ) (content : String Global × Option V) → is_key bytes content.0 ≡ false
      → has_key bytes (slot_entry content) ≡ false
  fails bytes (key, Some value) lacks = lacks
  fails bytes (key, None) lacks = refl

  -- ---- what a key finds

  module _ (bytes : List ℕ) (slots : List (String Global × Option V)) where
    within_slots : (slot : ℕ) (content : String Global × Option V) → slice_get slots slot ≡ Some content
        → slot < length (keys_of slots)
    within_slots slot content at = grind (arith, common_steps, slice_get_within, length-map)

    pub only_slot : (found : Option ℕ) → IsDistinct string_eq (keys_of slots)
        → found ≡ position (is_key bytes) (keys_of slots) → IfSome found (IsOnly bytes slots)
    only_slot None distinct is = tt
    only_slot (Some slot) distinct is =
        record {
          only = λ other content at has.
              let key = content.0 in
              let first = position-Some (is_key bytes) (keys_of slots) slot key (sym is) in
              let here : get_or (keys_of slots) other key ≡ key = key_at slots other content key at in
              ⊎_elim
              (λ (same : other ≡ slot). same)
              (λ (differ : other ≡ slot → ⊥).
              absurd
              (⊎_elim
              (λ (before : other < slot). true≢false (sym has ∙ (ap (is_key bytes) (sym here) ∙ first.2 other before)))
              (λ (after : slot ≤ other).
              true≢false (sym (grind (arith, common_steps, string_bytes, nat_list_eq_equiv.congr))
              ∙ (ap (string_eq (get_or (keys_of slots) slot key)) (sym here)
              ∙ apart_from_distinct string_eq (keys_of slots) slot other key distinct (omega (arith, after, differ))
              (within_slots other content at))))
              (cases_lt other slot)))
              (cases_eq other slot);
        }

    all_fail : ((slot : ℕ) (content : String Global × Option V) → slice_get slots slot ≡ Some content
        → has_key bytes (slot_entry content) ≡ false) → position (has_key bytes) (map slot_entry slots) ≡ None
    all_fail none = position_none (has_key bytes) (map slot_entry slots) None
        (λ slot. by slot (slice_get slots slot) refl)
      where
        by : (slot : ℕ) (content : Option (String Global × Option V)) → slice_get slots slot ≡ content
            → has_key bytes (get_or (map slot_entry slots) slot None) ≡ false
        by slot None past = ap (has_key bytes) (entry_past slots slot past)
        by slot (Some content) at = ap (has_key bytes) (entry_at slots slot content at) ∙ none slot content at

    pub key_fails : position (is_key bytes) (keys_of slots) ≡ None → (slot : ℕ) (content : String Global × Option V)
        → slice_get slots slot ≡ Some content → is_key bytes content.0 ≡ false
    key_fails none slot content at =
        ap (is_key bytes) (sym (key_at slots slot content content.0 at))
        ∙ none_within (is_key bytes) (keys_of slots) content.0 none slot (within_slots slot content at)

    pub no_entry : position (is_key bytes) (keys_of slots) ≡ None
        → position (has_key bytes) (map slot_entry slots) ≡ None
    no_entry none = all_fail (λ slot content at. fails bytes content (key_fails none slot content at))

    pub dead_entry : (slot : ℕ) → IsOnly bytes slots slot → get_or (map slot_entry slots) slot None ≡ None
        → position (has_key bytes) (map slot_entry slots) ≡ None
    dead_entry slot alone dead = grind (arith, common_steps, all_fail, entry_at, cases_Bool)

    pub live_entry : (slot : ℕ) (entry : String Global × V) → position (is_key bytes) (keys_of slots) ≡ Some slot
        → get_or (map slot_entry slots) slot None ≡ Some entry
        → position (has_key bytes) (map slot_entry slots) ≡ Some slot
    live_entry slot entry is live =
        let first = position-Some (is_key bytes) (keys_of slots) slot entry.0 is in
        let within : slot < length slots =
        omega (arith, first.0, length-map slots (λ (pair : String Global × Option V). pair.0)) in
        let at = slice_get-get_or slots slot (entry.0, None) within in
        position_is (has_key bytes) (map slot_entry slots) slot None
        (omega (arith, within, length-map slots slot_entry))
        (λ other before.
        let earlier = slice_get-get_or slots other (entry.0, None) (omega (arith, before, within)) in
        ap (has_key bytes) (entry_at slots other (get_or slots other (entry.0, None)) earlier)
        ∙ fails bytes (get_or slots other (entry.0, None))
        (grind (arith, common_steps, (key_at slots other (get_or slots other (entry.0, None)) entry.0 earlier))))
        (grind (arith, common_steps, key_at))

  -- ---- a value that is taken or written

  pub value_at : (slots : List (String Global × Option V)) (slot : ℕ) (value : Option V)
      → slice_get (values_of slots) slot ≡ Some value
      → value ≡ option_map (λ (entry : String Global × V). entry.1) (get_or (map slot_entry slots) slot None)
  value_at [] slot value at = absurd (cc)
  value_at ((key, Some there) ∷ slots) zero value at = cc
  value_at ((key, None) ∷ slots) zero value at = cc
  value_at (first ∷ slots) (suc slot) value at = value_at slots slot value at

  pub live_value : (slots : List (String Global × Option V)) (slot : ℕ) (value : Option V)
      → slice_get (values_of slots) slot ≡ Some value → is_some (get_or (map slot_entry slots) slot None) ≡ true
      → is_some value ≡ true
  live_value [] slot value at live = absurd (cc)
  live_value ((key, Some there) ∷ slots) zero value at live = let same : value ≡ Some there = cc in ap is_some same
  live_value ((key, None) ∷ slots) zero value at live = absurd (let bad : false ≡ true = live in cc)
  live_value (first ∷ slots) (suc slot) value at live = live_value slots slot value at live

  pub taken : (slots : List (String Global × Option V)) (slot : ℕ) → map slot_entry (set_value_at slots slot None)
      ≡ set (map slot_entry slots) slot None
  taken (first ∷ slots) (suc slot) = ap (λ rest. slot_entry first ∷ rest) (taken slots slot)
  taken _ _ = refl

  pub written : (slots : List (String Global × Option V)) (slot : ℕ) (value : V)
      → is_some (get_or (map slot_entry slots) slot None) ≡ true
      → map slot_entry (set_value_at slots slot (Some value)) ≡ with_value_in (map slot_entry slots) slot value
  written ((key, None) ∷ slots) zero value live = absurd (let bad : false ≡ true = live in cc)
  written (first ∷ slots) (suc slot) value live = ap (λ rest. slot_entry first ∷ rest) (written slots slot value live)
  written _ _ value live = refl

  -- ---- slots that are packed

  abbrev pub packed : List (String Global × Option V) → List (String Global × Option V)
  packed slots = filter (λ slot. is_some slot.1) slots

  pub packed_entries : (slots : List (String Global × Option V)) → map slot_entry (packed slots)
      ≡ filter is_some (map slot_entry slots)
  packed_entries [] = refl
  packed_entries ((key, Some value) ∷ slots) = ap (λ rest. Some (key, value) ∷ rest) (packed_entries slots)
  packed_entries ((key, None) ∷ slots) = packed_entries slots

  -- ---- a text in place of a key

  pub absent : (test : String Global → Bool) (slots : List (String Global × Option V))
      → ((slot : ℕ) (content : String Global × Option V) → slice_get slots slot ≡ Some content
      → test content.0 ≡ false) → lookup test slots ≡ None
  absent test [] none = refl
  absent test (first ∷ slots) none = rw (none 0 first refl)
      (absent test slots (λ slot content at. none (suc slot) content at))

  -- what is left once a text was put in last and the slot of a key was removed
  pub replaced : (slots pushed after : List (String Global × Option V)) (slot : ℕ) (text : String Global)
      (out : Option (String Global × Option V)) → slot < length slots → pushed ≡ slots ++ (text, None) ∷ []
      → out ≡ slice_get pushed slot → IfSome out (λ last. after ≡ swap_remove pushed slot last)
      → after ≡ set slots slot (text, None)
  replaced slots pushed after slot text None within put out removed =
      absurd (none-some (get_or pushed slot (text, None)) (grind (arith, common_steps, slice_get-get_or)))
  replaced slots pushed after slot text (Some last) within put out removed =
      removed ∙ (ap (λ items. swap_remove items slot last) put ∙ swap_removed slots slot (text, None) last within)

  set_at : (slots : List (String Global × Option V)) (slot : ℕ) (put : String Global × Option V) (other : ℕ)
      (content : String Global × Option V) → slice_get (set slots slot put) other ≡ Some content
      → (other ≡ slot → ⊥) → slice_get slots other ≡ Some content
  set_at (first ∷ slots) zero put zero content at differ = absurd (differ refl)
  set_at (first ∷ slots) (suc slot) put (suc other) content at differ =
      set_at slots slot put other content at (λ same. differ (ap suc same))
  set_at _ _ put _ content at differ = at

  set_here : (slots : List (String Global × Option V)) (slot : ℕ) (put content : String Global × Option V)
      → slice_get (set slots slot put) slot ≡ Some content → content ≡ put
  set_here [] slot put content at = absurd (cc)
  set_here (first ∷ slots) zero put content at = cc
  set_here (first ∷ slots) (suc slot) put content at = set_here slots slot put content at

  module _ (bytes : List ℕ) (slots : List (String Global × Option V)) (slot : ℕ)
      (found : position (is_key bytes) (keys_of slots) ≡ Some slot) where
    pub found_within : slot < length slots
    found_within = grind (arith, common_steps, position-Some, length-map)

    -- no slot has the key any more
    pub key_gone : (text : String Global) → IsOnly bytes slots slot
        → position (is_key (string_bytes text)) (keys_of slots) ≡ None → (other : ℕ)
        (content : String Global × Option V) → slice_get (set slots slot (text, None)) other ≡ Some content
        → is_key bytes content.0 ≡ false
    key_gone text alone free other content at =
        let first = position-Some (is_key bytes) (keys_of slots) slot text found in
        let there = slice_get-get_or slots slot (text, None) found_within in
        let unlike : is_key bytes text ≡ false =
        grind (arith, common_steps, string_bytes, key_at, key_fails, cases_Bool, nat_list_eq_equiv.congr) in
        ⊎_elim
        (λ (same : other ≡ slot).
        let put : content ≡ (text, None) = grind (arith, common_steps, set_here, slice_get) in
        ap (λ (pair : String Global × Option V). is_key bytes pair.0) put ∙ unlike)
        (λ (differ : other ≡ slot → ⊥).
        ⊎_elim
        (λ (has : is_key bytes content.0 ≡ true).
        absurd (differ (alone.only other content (set_at slots slot (text, None) other content at differ) has)))
        (λ (lacks : is_key bytes content.0 ≡ false). lacks)
        (cases_Bool (is_key bytes content.0)))
        (cases_eq other slot)

    -- the entries without that of the key
    pub vacated_entries : (text : String Global) (was : Option ℕ) → IsOnly bytes slots slot
        → was ≡ position (has_key bytes) (map slot_entry slots)
        → map slot_entry (set slots slot (text, None)) ≡ vacated (map slot_entry slots) was
    vacated_entries text was alone is =
        map-set slot_entry slots slot (text, None) ∙ by (get_or (map slot_entry slots) slot None) refl
      where
        by : (entry : Option (String Global × V)) → get_or (map slot_entry slots) slot None ≡ entry
            → set (map slot_entry slots) slot None ≡ vacated (map slot_entry slots) was
        by None dead = grind (arith, common_steps, set-get_or, dead_entry)
        by (Some entry) live =
            ap (vacated (map slot_entry slots)) (sym (is ∙ live_entry bytes slots slot entry found live))

  -- an entry in a new last slot
  pub put_entries : (slots : List (String Global × Option V)) (items : List (Option (String Global × V)))
      (key : String Global) (value : V) → map slot_entry slots ≡ items
      → map slot_entry (slots ++ (key, Some value) ∷ []) ≡ items ++ Some (key, value) ∷ []
  put_entries slots items key value are =
      map-append slot_entry slots ((key, Some value) ∷ []) ∙ ap (λ these. these ++ Some (key, value) ∷ []) are

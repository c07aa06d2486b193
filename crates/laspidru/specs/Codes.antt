-- What a call was asked for, or the code of its refusal; and the code that it returns.
use Rattle.std.specs.Option.{ok_or}
use Rattle.std.specs.Prelude.{ℕ, ◌≡◌, ◌⊎◌, Option, Some, None, Result, Ok, Err, List, map, slice_get}
use Rattle.laspidru.specs.declared.codes.TheConstants.{OK, OUT_OF_MEMORY, OUT_OF_RANGE}
use Rattle.laspidru.specs.declared.texts.TheConstants.{TEXTS}

-- The next thing asked for, unless this was refused.
abbrev pub and_then : {X Y : Type 0} → Result X ℕ → (X → Result Y ℕ) → Result Y ℕ
and_then (Ok taken) next = next taken
and_then (Err refusal) next = Err refusal

-- What is asked for, unless this is refused first.
abbrev pub unless : {X : Type 0} → Option ℕ → Result X ℕ → Result X ℕ
unless (Some refusal) taken = Err refusal
unless None taken = taken

-- Both, or the first refusal.
abbrev pub both : {X Y : Type 0} → Result X ℕ → Result Y ℕ → Result (X × Y) ℕ
both (Ok first) (Ok second) = Ok (first, second)
both (Ok first) (Err refusal) = Err refusal
both (Err refusal) second = Err refusal

-- The code is that of the refusal. If nothing is refused, `fact` holds of what was asked for.
abbrev pub IsRefusedOr : {X : Type 0} → Result X ℕ → ℕ → (X → Type 0) → Type 0
IsRefusedOr (Err refusal) code fact = code ≡ refusal
IsRefusedOr (Ok taken) code fact = fact taken

-- The code is that of the refusal, or the call is done: `OK`, and `fact` holds.
abbrev pub IsAnswer : {X : Type 0} → Result X ℕ → ℕ → (X → Type 0) → Type 0
IsAnswer asked code fact = IsRefusedOr asked code (λ taken. (code ≡ OK) × fact taken)

-- The code is that of the refusal, or out of memory, or `fact` holds.
abbrev pub IsAnswerOrNoMemory : {X : Type 0} → Result X ℕ → ℕ → (X → Type 0) → Type 0
IsAnswerOrNoMemory asked code fact =
    IsRefusedOr asked code (λ taken. (code ≡ OUT_OF_MEMORY) ⊎ fact taken)

-- If the call is refused, `fact` holds.
abbrev pub OnRefused : {X : Type 0} → Result X ℕ → Type 0 → Type 0
OnRefused (Err refusal) fact = fact
OnRefused (Ok taken) fact = Unit {0}

-- The name of each code and what it means, by its number: the table of src/texts.rt.
abbrev pub code_texts : List (List ℕ)
code_texts = map (λ text. text.now) TEXTS

-- The text of a code, or the code of its refusal.
abbrev pub text_asked_of : ℕ → Result (List ℕ) ℕ
text_asked_of code = ok_or (slice_get code_texts code) OUT_OF_RANGE

-- Records one after another.
use Rattle.lsp_log.proofs.Prelude.{◌≡◌, ℕ, ◌+◌, Bool, false, List, [], ◌∷◌, ◌++◌, length, refl, ap, arith, drop, Some, None, slice_get, length-append, Version, One, Two, Record, IsRecord, AreRecords, LogRules, Log, IsReadAs, together, record_bytes, line_of, is_line_due, common_steps}

pub together_push : (version : Version) (rs : List Record) (r : Record) (rest : List ℕ)
    → together version (rs ++ r ∷ []) rest ≡ together version rs (record_bytes version r ++ rest)
together_push version [] r rest = refl
together_push version (q ∷ rs) r rest = ap (λ z. record_bytes version q ++ z) (together_push version rs r rest)

pub together_len : (version : Version) (rs : List Record) (rest : List ℕ) → length (together version rs rest)
    ≡ length (together version rs []) + length rest
together_len version [] rest = omega arith
together_len version (q ∷ rs) rest = grind (arith, common_steps, length-append, (together_len version rs rest))

-- how long the input is
pub input_len : (log_rules : LogRules) (input : List ℕ) (log : Log) → IsReadAs log_rules input log
    → length input ≡ length (line_of log.version) + length (together log.version log.records []) + length log.rest
input_len log_rules input log reads = grind (arith, common_steps, length-append, together_len)

-- whether a record behind these has the line
abbrev pub due_after : Bool → List Record → Bool
due_after due [] = due
due_after due (q ∷ rs) = false

due_later : (rs : List Record) → due_after false rs ≡ false
due_later [] = refl
due_later (q ∷ rs) = refl

pub due_now : (version : Version) (rs : List Record) → due_after (is_line_due version []) rs ≡ is_line_due version rs
due_now One [] = refl
due_now Two (q ∷ rs) = refl
due_now _ _ = refl

pub not_due : (version : Version) (rs : List Record) (r : Record) → is_line_due version (rs ++ r ∷ []) ≡ false
not_due Two [] r = refl
not_due _ _ r = refl

-- one record more
pub are_push : (max_body : ℕ) (version : Version) (place : ℕ) (due : Bool) (rs : List Record) (r : Record)
    → AreRecords max_body version place due rs
    → IsRecord max_body version (place + length (together version rs [])) (due_after due rs) r
    → AreRecords max_body version place due (rs ++ r ∷ [])
are_push max_body version place due [] r each is = grind (arith, common_steps)
are_push max_body version place due (q ∷ rs) r each is =
    let len : place + length (together version (q ∷ rs) []) ≡ place + length (record_bytes version q)
    + length (together version rs []) =
    omega (arith, length-append (record_bytes version q) (together version rs [])) in
    let later : IsRecord max_body version (place + length (record_bytes version q) + length (together version rs []))
    (due_after false rs) r =
    grind (arith, common_steps, due_later) in
    (each.0, are_push max_body version (place + length (record_bytes version q)) false rs r each.1 later)

-- the first of some bytes
pub first_is : (bytes : List ℕ) (byte : ℕ) → Some byte ≡ slice_get bytes 0 → bytes ≡ byte ∷ drop 1 bytes
first_is [] byte e = let other : Some byte ≡ None = e in cc
first_is (b ∷ bytes) byte e = let same : Some byte ≡ Some b = e in let is : b ≡ byte = cc in ap (λ z. z ∷ bytes) is

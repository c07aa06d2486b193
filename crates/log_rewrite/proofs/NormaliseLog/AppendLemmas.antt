-- What is written of a record, by what was appended for it.
use Rattle.log_rewrite.proofs.Prelude.{List, None, Option, Some, [], ap, append_assoc, arith, drop, inl, inr, le-ltb, length, lt-ltb, ltb-true, refl, sym, ℕ, ◌++◌, ◌<◌, ◌∙◌, ◌≡◌, ◌≢◌, ◌≤◌, cases_Bool, ltb-false, common_steps, drop_at, Err, frame, LimitsData, Record, ends, writes, written, Body, TooLong, IsAppended, IsRefusal, body_refusal, else_refused, Refusal, StoreFault}
use Rattle.lsp_store.specs.declared.fault.StoreFault.TheVariants.{BodyTooLong, NoMemory}
use Rattle.lsp_stream.specs.declared.fault.EngineFault.TheVariants as fault

-- ---- what is written, where a message is told

pub appended_none : (max_body : ℕ) (r : Record) (front : List ℕ) (canonical_log : Option (List ℕ)) (old new : List ℕ)
    → IsAppended max_body canonical_log None old new → written max_body r front canonical_log ≡ writes (front ++ r.raw)
appended_none max_body r front None old new error = refl
appended_none max_body r front (Some body) old new error = absurd error

pub appended_framed : (max_body : ℕ) (r : Record) (line mark : List ℕ) (canonical_log : Option (List ℕ))
    (old new bytes : List ℕ) (room : ℕ) → length old ≡ room → IsAppended max_body canonical_log (Some Body) old new
    → bytes ≡ line ++ (mark ++ frame (drop room new)) → written max_body r (line ++ mark) canonical_log ≡ writes bytes
appended_framed max_body r line mark None old new bytes room len error is = cc
appended_framed max_body r line mark (Some body) old new bytes room len error is =
    let rest_after : drop room new ≡ body = ap (drop room) error.0 ∙ drop_at old body room len in
    let whole : bytes ≡ (line ++ mark) ++ frame body = is ∙ ap (λ rest. line ++ (mark ++ frame rest)) rest_after
    ∙ sym (append_assoc line mark (frame body)) in
    rw (le-ltb max_body (length body) error.1, whole) refl

pub appended_too_long : (max_body : ℕ) (r : Record) (front : List ℕ) (canonical_log : Option (List ℕ))
    (old new : List ℕ) → IsAppended max_body canonical_log (Some TooLong) old new
    → written max_body r front canonical_log ≡ ends [] (Err (fault.BodyTooLong r.head.place))
appended_too_long max_body r front None old new error = cc
appended_too_long max_body r front (Some body) old new error = rw (lt-ltb max_body (length body) error) refl

-- ---- what the store answers, where the change is not refused

pub within : (limits : LimitsData) (refusal : Option Refusal) (body : List ℕ) → refusal ≡ None
    → else_refused refusal (body_refusal limits body) ≡ None → length body ≤ limits.max_body
within limits None body none e = grind (arith, common_steps, cases_Bool, ltb-false)
within limits (Some refusal) body none e = cc

pub over : (limits : LimitsData) (refusal : Option Refusal) (body : List ℕ) (fault : StoreFault) → refusal ≡ None
    → fault ≢ NoMemory
    → IsRefusal (else_refused refusal (body_refusal limits body)) fault → (limits.max_body < length body)
    × (fault ≡ BodyTooLong (length body))
over limits (Some refusal) body fault none other error = cc
over limits None body fault none other (inl e) = absurd (other e)
over limits None body fault none other (inr e) = grind (arith, common_steps, cases_Bool, ltb-true)

-- What both ends make of the messages of the lifecycle, and how long these are.
use Rattle.lsp_pair.proofs.Prelude.{ℕ, ◌≡◌, ◌≤◌, Bool, true, List, [], ◌++◌, length, refl, sym, ◌∙◌, subst, arith, pos, append-nil, frame, IsFrameOf, one_frame_law, written_is_frame, Encoding, Utf8, SyncKind, Off, whole, OutgoingData, IsProper, IsUsual, Happened, lifecycle, initialize, initialized, shutdown, exit, initialize_result, shutdown_result, body_of, leb-true, Setting, IsFitting}
use Rattle.json.specs.Print.{escape_byte}
use Rattle.std.specs.Fmt.{digits}

initialize_len : (utf8 utf32 : Bool) → length (body_of (initialize (record { utf8 = utf8; utf32 = utf32 }))) ≤ 4096
unfolding escape_byte digits
initialize_len true true = leb-true (length (body_of (initialize (record { utf8 = true; utf32 = true })))) 4096 refl
initialize_len utf8 true = leb-true (length (body_of (initialize (record { utf8 = utf8; utf32 = true })))) 4096 refl
initialize_len utf8 utf32 = leb-true (length (body_of (initialize (record { utf8 = utf8; utf32 = utf32 })))) 4096 refl

-- a message beside commands that a client sends
pub short_usual : (m : OutgoingData) (happened : Happened) → IsUsual (lifecycle m) happened
    → IsProper m × (length (body_of m) ≤ 4096)
unfolding escape_byte digits
short_usual (initialize offers) happened is = (tt, initialize_len offers.utf8 offers.utf32)
short_usual initialized happened is = (tt, leb-true (length (body_of initialized)) 4096 refl)
short_usual shutdown happened is = (tt, leb-true (length (body_of shutdown)) 4096 refl)
short_usual exit happened is = (tt, leb-true (length (body_of exit)) 4096 refl)
short_usual _ happened is = absurd is

-- the id that `initialize` has, and the one that `shutdown` has
abbrev pub first_result : Encoding → SyncKind → OutgoingData
first_result encoding kind = initialize_result (whole (pos 1)) encoding kind

abbrev pub last_result : OutgoingData
last_result = shutdown_result (whole (pos 2))

pub short_first : (encoding : Encoding) (kind : SyncKind) → length (body_of (first_result encoding kind)) ≤ 4096
unfolding escape_byte digits
short_first Utf8 Off = leb-true (length (body_of (first_result Utf8 Off))) 4096 refl
short_first encoding Off = leb-true (length (body_of (first_result encoding Off))) 4096 refl
short_first encoding kind = leb-true (length (body_of (first_result encoding kind))) 4096 refl

pub short_last : length (body_of last_result) ≤ 4096
unfolding escape_byte digits
short_last = leb-true (length (body_of last_result)) 4096 refl

pub least : (setting : Setting) (n : ℕ) → IsFitting setting → n ≤ 4096 → n ≤ setting.limits.max_body
least setting n sound few = let r = sound.ranges in omega (arith, r.least_body, few)

-- ---- frames

-- A written frame within the limit has one body, its own.
pub one_body : (max_body : ℕ) (bytes body other : List ℕ) → bytes ≡ frame body → length body ≤ max_body
    → max_body ≤ 1073741824 → IsFrameOf max_body bytes other → other ≡ body
one_body max_body bytes body other is short small is_frame_of =
    let own : IsFrameOf max_body (frame body) body =
    written_is_frame max_body body short (omega (arith, short, small)) in
    let here : IsFrameOf max_body (frame body ++ []) other =
    subst (λ (b : List ℕ). IsFrameOf max_body b other) (is ∙ sym (append-nil (frame body))) is_frame_of in
    sym (one_frame_law max_body (frame body) [] body other own here).1

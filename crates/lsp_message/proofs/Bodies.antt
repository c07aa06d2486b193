-- The value of each written message: it is not deep, and its text is read back as it.
use Rattle.lsp_message.proofs.Prelude.{◌≡◌, ℕ, ◌^◌, ◌<◌, ◌≤◌, suc, List, [], ◌∷◌, map, true, Option, Some, None, FitsSigned, IsUtf8, IfSome, All, refl, sym, ap, ◌∙◌, subst, arith, rules, ℤ, IsUtf8-are_ascii, Data, number, unsigned, string, no_members, depth, items_depth, of_integer, read, max_depth, items_of, Encoding, Utf8, Range, Offers, SyncKind, Off, ErrorCode, ParseError, IdData, whole, text, DocumentItem, ContentChangeData, ChangeData, CloseData, OutgoingData, IsProper, IsProperId, IsProperDocument, IsProperChange, IsProperEdit, IsProperRange}
use Rattle.std.specs.Int.{w32}
use Rattle.lsp_text.specs.Units.{name_of}
use Rattle.lsp_message.proofs.BodyLemmas.{body_is}
use Rattle.lsp_message.proofs.Sound.{Sound, SoundItems, sound_null, sound_boolean, sound_string, sound_unsigned, sound_integer, sound_array, sound_object, sound_item, sound_no_items, read-compact_text}
use Rattle.lsp_message.specs.Outgoing as spec
use Rattle.lsp_message.specs.Written as values

-- ---- the depth

items_depth-strings : {X : Type 0} (f : X → List ℕ) (xs : List X) → items_depth (items_of (map (λ x. string (f x)) xs))
    ≡ 0
items_depth-strings f [] = refl
items_depth-strings f (x ∷ xs) = omega (arith, items_depth-strings f xs)

depth-content_change_value : (r : Option Range) (s : List ℕ) → depth (values.content_change_value
    (record { range = r; text = s })) ≤ 3
depth-content_change_value None s = omega arith
depth-content_change_value (Some r) s = omega arith

items_depth-edits : (es : List ContentChangeData) → items_depth (items_of (map values.content_change_value es)) ≤ 3
items_depth-edits [] = omega arith
items_depth-edits (e ∷ es) = omega (arith, depth-content_change_value e.range e.text, items_depth-edits es)

depth-id_value : (id : IdData) → depth (values.id_value id) ≡ 0
depth-id_value (whole n) = refl
depth-id_value (text s) = refl

depth-id_or_null : (id : Option IdData) → depth (values.id_or_null id) ≡ 0
depth-id_or_null None = refl
depth-id_or_null (Some id) = depth-id_value id

pub depth-value_of : (m : OutgoingData) → depth (values.value_of m) ≤ max_depth
depth-value_of (spec.initialize offers) = omega (arith, items_depth-strings name_of)
depth-value_of (spec.did_change p) = omega (arith, items_depth-edits p.changes)
depth-value_of (spec.initialize_result id encoding kind) = omega (arith, depth-id_value id)
depth-value_of (spec.shutdown_result id) = omega (arith, depth-id_value id)
depth-value_of (spec.error_reply id error) = omega (arith, depth-id_or_null id)
depth-value_of _ = omega arith

-- ---- what is read back

utf8-name_of : (e : Encoding) → IsUtf8 (name_of e)
utf8-name_of Utf8 = IsUtf8-are_ascii _ refl
utf8-name_of _ = IsUtf8-are_ascii _ refl

sound_names : (es : List Encoding) → SoundItems (items_of (map (λ e. string (name_of e)) es))
sound_names [] = sound_no_items
sound_names (e ∷ es) = sound_item _ _ (sound_string (name_of e) (utf8-name_of e)) (sound_names es)

sound_small : (n : ℕ) → n < 2 ^ 32 → Sound (number (unsigned n))
sound_small n h = sound_unsigned n (omega arith)

sound_version : (z : ℤ) → FitsSigned w32 z → Sound (number (of_integer z))
sound_version z h = let small = h.sfits in sound_integer z (record { sfits = omega arith })

ruleset soundness = (sound_object, sound_array, sound_string, sound_small, sound_version, sound_null, IsUtf8-are_ascii)

sound_edit : (r : Option Range) (s : List ℕ) → IfSome r IsProperRange → IsUtf8 s
    → Sound (values.content_change_value (record { range = r; text = s }))
sound_edit None s h u = search (rules, soundness) depth 12
sound_edit (Some r) s h u = search (rules, soundness) depth 20

sound_edits : (es : List ContentChangeData) → All IsProperEdit es → SoundItems (items_of
    (map values.content_change_value es))
sound_edits [] h = sound_no_items
sound_edits (e ∷ es) h =
    let first = h 0 e (omega arith) in
    sound_item _ _ (sound_edit e.range e.text first.range first.text)
    (sound_edits es (λ k d l. h (suc k) d (omega arith)))

sound_id : (id : IdData) → IsProperId id → Sound (values.id_value id)
sound_id (whole n) h = sound_integer n h
sound_id (text s) h = sound_string s h

sound_id_or_null : (id : Option IdData) → IfSome id IsProperId → Sound (values.id_or_null id)
sound_id_or_null None h = sound_null
sound_id_or_null (Some id) h = sound_id id h

sound_code : (e : ErrorCode) → Sound (number (of_integer (spec.code_of e)))
sound_code ParseError = sound_integer (spec.code_of ParseError) (record { sfits = omega arith })
sound_code e = sound_integer (spec.code_of e) (record { sfits = omega arith })

utf8-error_message : (e : ErrorCode) → IsUtf8 (spec.error_message e)
utf8-error_message ParseError = IsUtf8-are_ascii _ refl
utf8-error_message _ = IsUtf8-are_ascii _ refl

sound_error : (e : ErrorCode) → Sound (values.error_value e)
sound_error e = search (rules, soundness, sound_code e, utf8-error_message e) depth 12

sound_kind : (kind : SyncKind) → Sound (values.sync_value kind)
sound_kind Off = sound_object _ refl (refl, sound_unsigned _ (omega arith), (refl, sound_boolean true, tt))
sound_kind _ = sound_object _ refl (refl, sound_unsigned _ (omega arith), (refl, sound_boolean true, tt))

sound_notification : (method : List ℕ) (params : Data) → IsUtf8 method → Sound params
    → Sound (values.notification_value method (Some params))
sound_notification method params u h = search (rules, soundness) depth 12

sound_result : (id : IdData) (d : Data) → IsProperId id → Sound d → Sound (values.result_value id d)
sound_result id d proper h = search (rules, soundness, sound_id id proper) depth 12

sound_initialize_params : (offers : Offers) → Sound (values.initialize_params offers)
sound_initialize_params offers = search (rules, soundness, sound_names) depth 20

sound_open_params : (p : DocumentItem) → IsProperDocument p → Sound (values.open_params p)
sound_open_params p h = search (rules, soundness) depth 12

sound_change_params : (p : ChangeData) → IsProperChange p → Sound (values.change_params p)
sound_change_params p h = search (rules, soundness, sound_edits p.changes h.changes) depth 12

sound_close_params : (p : CloseData) → IsUtf8 p.uri → Sound (values.close_params p)
sound_close_params p u = search (rules, soundness) depth 12

sound_initialize_value : (encoding : Encoding) (kind : SyncKind) → Sound (values.initialize_value encoding kind)
sound_initialize_value encoding kind =
    search (rules, soundness, utf8-name_of encoding, sound_kind kind) depth 12

pub sound-value_of : (m : OutgoingData) → IsProper m → Sound (values.value_of m)
sound-value_of (spec.initialize offers) h =
    let small : 1 < 2 ^ 32 = omega arith in search (rules, soundness, sound_initialize_params offers) depth 12
sound-value_of spec.initialized h = sound_notification _ _ (IsUtf8-are_ascii _ refl) (sound_object no_members refl tt)
sound-value_of (spec.did_open p) h = sound_notification _ _ (IsUtf8-are_ascii _ refl) (sound_open_params p h)
sound-value_of (spec.did_change p) h = sound_notification _ _ (IsUtf8-are_ascii _ refl) (sound_change_params p h)
sound-value_of (spec.did_close p) h = sound_notification _ _ (IsUtf8-are_ascii _ refl) (sound_close_params p h)
sound-value_of spec.shutdown h = let small : 2 < 2 ^ 32 = omega arith in search (rules, soundness) depth 12
sound-value_of spec.exit h = search (rules, soundness) depth 12
sound-value_of (spec.initialize_result id encoding kind) h = sound_result id _ h (sound_initialize_value encoding kind)
sound-value_of (spec.shutdown_result id) h = sound_result id _ h sound_null
sound-value_of (spec.error_reply id error) h =
    search (rules, soundness, sound_error error, sound_id_or_null id h) depth 12

-- the body of a message is read as its value
pub read-body_of : (m : OutgoingData) → IsProper m → read (spec.body_of m) ≡ Some (values.value_of m)
read-body_of m h = ap read (body_is m) ∙ read-compact_text (values.value_of m) (sound-value_of m h) (depth-value_of m)

pub utf8-body_of : (m : OutgoingData) → IsProper m → IsUtf8 (spec.body_of m)
utf8-body_of m h = let sound = sound-value_of m h in subst IsUtf8 (sym (body_is m)) sound.utf8

-- Values whose compact text is read back as themselves.
use Rattle.lsp_message.proofs.Prelude.{◌≡◌, ℕ, ◌^◌, ◌<◌, ◌≤◌, max, suc, pos, negsuc, List, [], ◌∷◌, Bool, true, false, Some, option_map, option_and_then, FitsSigned, IsUtf8, refl, sym, ap, ap₂, ◌∙◌, arith, append-nil, w64, ℤ, ⊤, IsUtf8-append, IsUtf8-nil, IsUtf8-from_ascii, tokens, quoted, json_tokens, HasNumbers, ItemsHaveNumbers, MembersHaveNumbers, are_ascii, IsUtf8-are_ascii, IsUtf8-quoted, IsUtf8-boolean, Data, null, boolean, number, unsigned, string, array, object, Items, no_items, item, Members, no_members, member, put, depth, items_depth, members_depth, of_integer, read, max_depth, of_json, of_items, of_members, compact_text, members_text, items_text, comma_if, outline, items_outline, members_outline, print-outline, common_steps}
use Rattle.std.proofs.lemmas.Fmt.{IsAscii-decimal, IsAscii-signed}
use Rattle.json.proofs.Printed.Decimals.{IsNumber-decimal, IsNumber-signed_decimal}
use Rattle.json.proofs.Printed.Tokens.{tokens-print}
use Rattle.json.proofs.Printed.Trees.{ArePrintable-json_tokens}
use Rattle.lsp_message.proofs.Grammar.{read_json}
use Rattle.serde_json.proofs.Numbers.{number_of-decimal, number_of-negative}
use Rattle.json.specs.Tree as tree

pub record Sound (d : Data) : Type 0 where
  pub reads : of_json (outline d) ≡ Some d
  pub numbers : HasNumbers (outline d)
  pub utf8 : IsUtf8 (compact_text d)

-- ---- the text of a sound value reads as the value

mutual
  depth-outline : (d : Data) → tree.depth (outline d) ≡ depth d
  depth-outline (array ds) = ap suc (depth-items_outline ds)
  depth-outline (object ms) = ap suc (depth-members_outline ms)
  depth-outline _ = refl

  depth-items_outline : (ds : Items) → tree.items_depth (items_outline ds) ≡ items_depth ds
  depth-items_outline no_items = refl
  depth-items_outline (item d ds) = ap₂ max (depth-outline d) (depth-items_outline ds)

  depth-members_outline : (ms : Members) → tree.members_depth (members_outline ms) ≡ members_depth ms
  depth-members_outline no_members = refl
  depth-members_outline (member k d ms) = ap₂ max (depth-outline d) (depth-members_outline ms)

pub read-compact_text : (d : Data) → Sound d → depth d ≤ max_depth → read (compact_text d) ≡ Some d
read-compact_text d h shallow =
    let ts = json_tokens (outline d) in
    let text : tokens (compact_text d) ≡ ts =
    ap tokens (sym (print-outline d)) ∙ tokens-print ts (ArePrintable-json_tokens (outline d) h.numbers) in
    read_json _ (outline d) d (text ∙ sym (append-nil ts)) (omega (arith, depth-outline d)) h.reads

-- ---- what is sound

pub sound_null : Sound null
sound_null = record { reads = refl; numbers = tt; utf8 = IsUtf8-are_ascii _ refl }

pub sound_boolean : (b : Bool) → Sound (boolean b)
sound_boolean b = record { reads = refl; numbers = tt; utf8 = IsUtf8-boolean b }

pub sound_string : (s : List ℕ) → IsUtf8 s → Sound (string s)
sound_string s u = record { reads = refl; numbers = tt; utf8 = IsUtf8-quoted s u }

pub sound_unsigned : (n : ℕ) → n < 2 ^ 64 → Sound (number (unsigned n))
sound_unsigned n h = record {
  reads = ap (option_map number) (number_of-decimal n h);
  numbers = IsNumber-decimal n h;
  utf8 = IsUtf8-from_ascii _ (IsAscii-decimal n h);
}

sound_negative : (n : ℕ) → n < 2 ^ 63 → Sound (number (of_integer (negsuc n)))
sound_negative n h = record {
  reads = ap (option_map number) (number_of-negative n h);
  numbers = IsNumber-signed_decimal (negsuc n) h;
  utf8 = IsUtf8-from_ascii _ (IsAscii-signed (negsuc n) h);
}

pub sound_integer : (z : ℤ) → FitsSigned w64 z → Sound (number (of_integer z))
sound_integer (pos n) h = let small = h.sfits in sound_unsigned n (omega arith)
sound_integer (negsuc n) h = sound_negative n h.sfits

-- ---- arrays

pub record SoundItems (ds : Items) : Type 0 where
  pub reads : of_items (items_outline ds) ≡ Some ds
  pub numbers : ItemsHaveNumbers (items_outline ds)
  pub utf8 : (later : Bool) → IsUtf8 (items_text later ds)

utf8_comma_if : (later : Bool) → IsUtf8 (comma_if later)
utf8_comma_if true = IsUtf8-are_ascii (44 ∷ []) refl
utf8_comma_if false = IsUtf8-nil

pub sound_no_items : SoundItems no_items
sound_no_items = record { reads = refl; numbers = tt; utf8 = λ later. IsUtf8-are_ascii (93 ∷ []) refl }

pub sound_item : (d : Data) (ds : Items) → Sound d → SoundItems ds → SoundItems (item d ds)
sound_item d ds h hs = record {
  reads = ap (option_and_then (λ e. option_map (item e) (of_items (items_outline ds)))) h.reads
      ∙ ap (option_map (item d)) hs.reads;
  numbers = (h.numbers, hs.numbers);
  utf8 = λ later. IsUtf8-append (comma_if later) _ (utf8_comma_if later)
      (IsUtf8-append (compact_text d) _ h.utf8 (hs.utf8 true));
}

pub sound_array : (ds : Items) → SoundItems ds → Sound (array ds)
sound_array ds h = record {
  reads = ap (option_map array) h.reads;
  numbers = h.numbers;
  utf8 = IsUtf8-append (91 ∷ []) (items_text false ds) (IsUtf8-are_ascii (91 ∷ []) refl) (h.utf8 false);
}

-- ---- objects

-- each name is ASCII, and each value is sound
abbrev pub AllSound : Members → Type 0
AllSound no_members = ⊤
AllSound (member k d ms) = (are_ascii k ≡ true) × Sound d × AllSound ms

-- members put one after another
abbrev pub put_all : Members → Members → Members
put_all no_members found = found
put_all (member k d ms) found = put_all ms (put k d found)

of_members-put_all : (ms found : Members) → AllSound ms → of_members (members_outline ms) found
    ≡ Some (put_all ms found)
of_members-put_all no_members found h = refl
of_members-put_all (member k d ms) found h =
    grind (arith, common_steps, option_and_then, (of_members-put_all ms (put k d found) h.2))

numbers_of : (ms : Members) → AllSound ms → MembersHaveNumbers (members_outline ms)
numbers_of no_members h = tt
numbers_of (member k d ms) h = (h.1.numbers, numbers_of ms h.2)

utf8_of : (ms : Members) (later : Bool) → AllSound ms → IsUtf8 (members_text later ms)
utf8_of no_members later h = IsUtf8-are_ascii (125 ∷ []) refl
utf8_of (member k d ms) later h =
    let value = IsUtf8-append (compact_text d) _ h.1.utf8 (utf8_of ms true h.2) in
    IsUtf8-append (comma_if later) _ (utf8_comma_if later)
    (IsUtf8-append (quoted k) _ (IsUtf8-quoted k (IsUtf8-are_ascii k h.0))
    (IsUtf8-append (58 ∷ []) _ (IsUtf8-are_ascii (58 ∷ []) refl) value))

-- an object whose names are in order
pub sound_object : (ms : Members) → put_all ms no_members ≡ ms → AllSound ms → Sound (object ms)
sound_object ms in_order h = record {
  reads = ap (option_map object) (of_members-put_all ms no_members h ∙ ap Some in_order);
  numbers = numbers_of ms h;
  utf8 = IsUtf8-append (123 ∷ []) (members_text false ms) (IsUtf8-are_ascii (123 ∷ []) refl) (utf8_of ms false h);
}

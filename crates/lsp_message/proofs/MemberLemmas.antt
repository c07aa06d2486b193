-- What a value is read as, one member of it after another: the reading of `message_of`.
use Rattle.lsp_message.proofs.Prelude.{◌≡◌, ℕ, Bool, true, false, List, Option, Some, None, option_map, codes, refl, if◌then◌else◌, option_map_or, arith, common_steps, Data, null, number, string, object, Members, get, as_object, as_str, IdData, MessageData, Reading, not_a_message, message, id_found, is_version_two, message_by, message_of, reading_with, reading_by, reading_of_members}
use Rattle.std.proofs.lemmas.Bool.{cases_Bool}

-- a message, or an object that is none and has this id
abbrev pub read_as : Option MessageData → Option IdData → Reading
read_as found id = option_map_or message found (not_a_message id)

rows_same : (two : Bool) (method id : Option Data) (value : Data) →
    read_as (if two then message_by method id value else None) (id_found id)
    ≡ (if two then reading_with (option_map as_str method) id (get (codes "params") value) (get (codes "error") value)
    (get (codes "result") value) else not_a_message (id_found id))
rows_same true (Some (string name)) (Some id) value = grind (arith, common_steps)
rows_same true None (Some null) value = grind (arith, common_steps, cases_Bool)
rows_same true None (Some (number n)) value = grind (arith, common_steps, cases_Bool)
rows_same true None (Some (string s)) value = grind (arith, common_steps, cases_Bool)
rows_same true _ _ value = refl
rows_same false method id value = refl

-- What a value that is no object is read as.
pub message_of_other : (value : Data) → as_object value ≡ None → message_of value ≡ not_a_message None
message_of_other (object ms) none = cc
message_of_other value none = refl

-- What an object is read as, one member after another.
pub message_of_object : (ms : Members) → message_of (object ms) ≡ reading_of_members ms
message_of_object ms =
    rows_same (is_version_two (get (codes "jsonrpc") (object ms))) (get (codes "method") (object ms))
    (get (codes "id") (object ms)) (object ms)

pub by_method : (v m i p e r : Option Data) (method : Option (Option (List ℕ))) → is_version_two v ≡ true
    → method ≡ option_map as_str m → reading_by v m i p e r ≡ reading_with method i p e r
by_method v m i p e r method two is = rw (two, is) refl

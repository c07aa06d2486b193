-- The rows of the table of messages, over the six members that make an object a message.
use Rattle.lsp_message.proofs.Prelude.{◌≡◌, ℕ, false, false_from_ne_true, List, Option, Some, None, option_map, codes, refl, ap, ◌∙◌, arith, common_steps, bytes_eq-Decides, Data, number, string, as_str, text_in, IdData, whole, text, request, message, id_in, id_found, is_version_two, call_of, outcome_of, answer_of, NamesRequest, RefusedRows, MessageRows, IsIdOf, IdLaw, version_of, method_of, id_of, params_of, error_of, result_of}
use Rattle.lsp_message.proofs.MemberLemmas.{message_of_object, message_of_other}

-- ---- the members

not_two : (version : Option Data) → (text_in version ≡ Some (codes "2.0") → ⊥) → is_version_two version ≡ false
not_two version other = grind (arith, common_steps, bytes_eq-Decides, false_from_ne_true)

named_is : (m : Option Data) (name : List ℕ) → text_in m ≡ Some name → option_map as_str m ≡ Some (Some name)
named_is None name is = cc
named_is (Some method) name is = ap Some is

called : (i p : Option Data) (name : List ℕ) (id : IdData) → id_found i ≡ Some id → call_of i name p
    ≡ message (request id name p)
called i p name id is = grind (arith, common_steps)

answer_to : (i e r : Option Data) (id : Option IdData) → NamesRequest i id → answer_of i e r ≡ outcome_of id e r
answer_to i e r id is = grind (arith, common_steps)

-- ---- the rows

pub refused_rows : RefusedRows
refused_rows = record {
  no_object = message_of_other;
  version = λ ms other. rw (message_of_object ms, not_two (version_of ms) other) refl;
  method = λ ms method is there none. rw (message_of_object ms, is, there, none) refl;
  call_id = λ ms name id is named there none.
      rw (message_of_object ms, is, named_is (method_of ms) name named, there, none) refl;
  no_id = λ ms is none lost. rw (message_of_object ms, is, none, lost) refl;
  answer_id = λ ms id is none there not_null lost.
      rw (message_of_object ms, is, none, there, not_null, lost) refl;
  no_outcome = λ ms id is none names missing lost.
      rw (message_of_object ms, is, none, answer_to (id_of ms) (error_of ms) (result_of ms) id names, missing, lost)
      refl;
}

pub message_rows : MessageRows
message_rows = record {
  notifications = λ ms name is named none.
      rw (message_of_object ms, is, named_is (method_of ms) name named, none) refl;
  requests = λ ms name id is named found.
      rw (message_of_object ms, is, named_is (method_of ms) name named) (called (id_of ms) (params_of ms) name id
      found);
  failures = λ ms id is none names there.
      rw (message_of_object ms, is, none, answer_to (id_of ms) (error_of ms) (result_of ms) id names, there) refl;
  results = λ ms id result is none names missing there.
      rw (message_of_object ms, is, none, answer_to (id_of ms) (error_of ms) (result_of ms) id names, missing, there)
      refl;
}

-- ---- ids

id_from : (value : Data) (id : IdData) → id_in value ≡ Some id → IsIdOf id value
id_from (number n) (whole z) is = grind (arith, common_steps)
id_from (number n) (text s) is = grind (arith, common_steps)
id_from (string s) id is = grind (arith, common_steps)
id_from value id is = absurd (cc)

id_to : (value : Data) (id : IdData) → IsIdOf id value → id_in value ≡ Some id
id_to value (whole z) is = ap id_in is.1 ∙ ap (option_map whole) is.2
id_to value (text s) is = ap id_in is

pub id_law : IdLaw
id_law value id = (id_from value id, id_to value id)

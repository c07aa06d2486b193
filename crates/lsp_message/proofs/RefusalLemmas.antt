-- What an id that was told, or none, says of the object; and what is looked at.
use Rattle.lsp_message.proofs.Prelude.{◌≡◌, ℕ, Bool, true, List, Option, Some, None, option_map, refl, sym, ◌∙◌, if◌then◌else◌, arith, common_steps, Data, object, as_str, IdData, MessageData, notification, not_a_message, message, id_found, is_version_two, message_in, reading_with, NotificationLaw, RefusalLaw, NamedLaw, version_of, method_of, id_of, params_of, error_of, result_of}
use Rattle.std.proofs.lemmas.Bool.{cases_Bool}
use Rattle.lsp_message.proofs.MemberLemmas.{read_as, message_of_object}

-- ---- no notification

notified : (two : Bool) (method : Option (Option (List ℕ))) (id params error result : Option Data) (name : List ℕ)
    (given : Option Data)
    → (if two then reading_with method id params error result else not_a_message (id_found id))
    ≡ message (notification name given) → id ≡ None
notified two method None params error result name given is = refl
notified true None (Some id) params error result name given is = grind (arith, common_steps, cases_Bool)
notified true (Some (Some called)) (Some id) params error result name given is = grind (arith, common_steps)
notified two method (Some id) params error result name given is = cc

pub notification_law : NotificationLaw
notification_law ms name params is =
    notified (is_version_two (version_of ms)) (option_map as_str (method_of ms)) (id_of ms) (params_of ms) (error_of ms)
    (result_of ms) name params (sym (message_of_object ms) ∙ is)

-- ---- the id of a refused object

refused_by : (found : Option MessageData) (id : Option IdData) (named : IdData)
    → read_as found id ≡ not_a_message (Some named) → id ≡ Some named
refused_by None id named is = cc
refused_by (Some m) id named is = cc

pub refusal_law : RefusalLaw
refusal_law ms id is = refused_by (message_in (object ms)) (id_found (id_of ms)) id is

-- ---- what is looked at

pub named_law : NamedLaw
named_law = record {
  messages = λ ms others same. message_of_object ms
      ∙ (rw (same.0, same.1.0, same.1.1.0, same.1.1.1.0, same.1.1.1.1.0, same.1.1.1.1.1.0) refl)
      ∙ sym (message_of_object others);
  opened = λ ms others same. rw (same.0, same.1.0, same.1.1.0, same.1.1.1.0) refl;
  changed = λ ms others changes same. rw (same.0, same.1.0) refl;
  closed = λ ms others same. rw same.0 refl;
  edits = λ ms others same. rw (same.0, same.1.0) refl;
}

use Rattle.log_report.proofs.Prelude.{◌≡◌, ◌++◌, ℕ, Bool, true, false, List, [], Option, Some, None, option_and_then, option_map, refl, rules, ap, ap₂, ◌∙◌, if◌then◌else◌, Reading, reading, IncomingData, did_change, did_close, did_open, other_notification, ServerData, Client, is_save, lengths_of, named_in, notification_params, notes_on}
use Rattle.serde_json.specs.Data.{Data}
use Rattle.serde_json.specs.View.{view}
use Rattle.lsp_message.specs.Lengths.{lengths_noted, params_noted}
use Rattle.lsp_server.specs.Seen.{incoming_view}
use Rattle.lsp_store.specs.Table.{entry_at}
use Rattle.log_report.specs.Habits.{odd_with}
use Rattle.log_report.specs.Lacks.{lack_in}
use Rattle.log_report.specs.Notes.{saved_notes, saved_text, saved_uri}
use Rattle.log_report.specs.inside.Lacks.{is_broken}
use Rattle.log_report.proofs.facts.noting.about_of.Goals as goal

-- what is there only under a condition is enough under this condition
kept_same : {P A : Type 0} (b : Bool) (f : P → A) (kept none : P) (other : A)
    → (if b then f (if b then kept else none) else other) ≡ (if b then f kept else other)
kept_same true f kept none other = refl
kept_same false f kept none other = refl

notes_same : (s : ServerData) (ranged : Bool) (m : IncomingData) (body : Reading)
    → notes_on s ranged (lengths_noted m body) (params_noted m body) m
    ≡ notes_on s ranged (lengths_of body) (notification_params body) m
notes_same s ranged (did_open (Some p)) body = refl
notes_same s ranged (did_open None) body = refl
notes_same s ranged (did_change (Some p)) body = refl
notes_same s ranged (did_change None) body = refl
notes_same s ranged (other_notification method) body =
    kept_same (is_save method) (λ (p : Option Data). saved_notes (option_and_then (entry_at s.table) (saved_uri p))
    (saved_text p)) (notification_params body) None []
notes_same s ranged _ body = refl

-- the params that were read again, where they can't be read
abbrev broken : IncomingData → Reading → Option Data
broken m body = if is_broken m then notification_params body else None

named_same : (m : IncomingData) (body : Reading)
    → named_in Client m (if is_broken m then broken m body else params_noted m body)
    ≡ named_in Client m (notification_params body)
named_same (did_open None) body = refl
named_same (did_open (Some p)) body = refl
named_same (did_change None) body = refl
named_same (did_change (Some p)) body = refl
named_same (did_close None) body = refl
named_same (did_close (Some p)) body = refl
named_same (other_notification method) body =
    kept_same (is_save method) saved_uri (notification_params body) None None
named_same _ body = refl

lack_same : (m : IncomingData) (body : Reading)
    → lack_in Client m (broken m body) ≡ lack_in Client m (notification_params body)
lack_same (did_open None) body = refl
lack_same (did_open (Some p)) body = refl
lack_same (did_change None) body = refl
lack_same (did_change (Some p)) body = refl
lack_same (did_close None) body = refl
lack_same (did_close (Some p)) body = refl
lack_same _ body = refl

pub returns : goal.returns
returns c = λ given.
    let body = c.args.body.now in
    let read = rw c.in-Client.is at given in
    let m = incoming_view c.in-Client.incoming in
    let first : option_map (λ params. view params.now) c.as_ref.result ≡ broken m (reading body) =
    search rules ∙ c.in_ok-params.ensures in
    let second : option_map (λ params. view params.now) c.as_ref-2.result ≡ broken m (reading body) =
    search rules ∙ c.in_ok-params.ensures in
    rw c.in-Client.is (record {
      uri = c.in_ok-copied_text.ensures ∙ c.uri_of.ensures;
      named = c.in_ok-copied_text-2.ensures ∙ c.named_in.ensures
          ∙ ap₂ (λ (again noted : Option Data). named_in Client m (if is_broken m then again else noted))
          first read.params
          ∙ named_same m (reading body);
      notes = c.in_ok-push_odd_note.ensures ∙ ap₂ ◌++◌ (c.in_ok-notes.ensures
          ∙ ap₂ (λ (lengths : List (Option ℕ)) (params : Option Data). notes_on c.args.server.now c.args.ranged lengths
          params m) read.lengths read.params
          ∙ notes_same c.args.server.now c.args.ranged m (reading body))
          (ap (odd_with c.args.documents.now.newest.items m) c.grown_in-grown.ensures);
      lack = c.lack_in.ensures ∙ ap (lack_in Client m) second ∙ lack_same m (reading body);
      grown = c.grown_in-grown.ensures;
    })

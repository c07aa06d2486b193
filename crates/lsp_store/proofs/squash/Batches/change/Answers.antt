use Rattle.lsp_store.proofs.Prelude.{map, string_bytes, w32, to_z-of_z, units_in, content_change, entry_under}
use Rattle.lsp_store.proofs.Messages.MessageLemmas.{accepted_left}
use Rattle.lsp_store.proofs.SquashLemmas.{joins_after, left_to_meaning, refusal_is}
use Rattle.lsp_store.proofs.squash.Batches.change.Goals as goal

pub change-requires-clause-reached : goal.change-requires-clause-reached
change-requires-clause-reached c = record {
  utf8 = c.len.ensures.utf8;
  text_is = (rw (← c.self.view_is) at (c.requires.reached (string_bytes c.self.inside.uri))).text;
}

pub returns-in_err-change-in-Ok-clause-memory : goal.returns-in_err-change-in-Ok-clause-memory
returns-in_err-change-in-Ok-clause-memory c = λ e.
    let uri = string_bytes c.self.inside.uri in
    left_to_meaning _ (entry_under uri c.args.reached.now) _ _ c.len.ensures.utf8 (c.requires.reached uri)
    (rw (← c.self.view_is) (accepted_left c.self.inside.limits (units_in c.self.inside.encoding)
    (entry_under uri c.args.reached.now) c.args.version (map content_change c.args.changes.now)
    (rw (to_z-of_z w32 _ c.ranges.version) at (c.in-Ok.ensures.accepted uri))))

pub returns-in_ok-change-in-Ok-clause-ok : goal.returns-in_ok-change-in-Ok-clause-ok
returns-in_ok-change-in-Ok-clause-ok c =
    let version = to_z-of_z w32 c.args.version c.ranges.version in
    let uri = string_bytes c.self.inside.uri in
    let batch = map content_change c.args.changes.now in
    let at = rw (← c.self.view_is) at (c.requires.reached uri) in
    rw (← c.self.view_is) (joins_after uri c.self.inside.limits c.self.inside.encoding c.self.inside.joined
    c.change.new.self c.self.inside.version c.args.version _ batch
    (rw (refusal_is _ (entry_under uri c.args.reached.now) c.args.version batch c.len.ensures.utf8 at)
    (rw version at (c.in-Ok.ensures.accepted uri)))
    (c.in_ok-change-in-Ok.ensures.ok (units_in c.self.inside.encoding) batch c.in-Ok.ensures.delta.means) version)

pub returns-in-Err-clause-error : goal.returns-in-Err-clause-error
returns-in-Err-clause-error c =
    let uri = string_bytes c.self.inside.uri in
    let at = rw (← c.self.view_is) at (c.requires.reached uri) in
    rw (← c.self.view_is, refusal_is _ (entry_under uri c.args.reached.now) _ _ c.len.ensures.utf8 at)
    (rw (to_z-of_z w32 _ c.ranges.version) at (c.in-Err.ensures.error uri))

pub returns-in-Err-clause-memory : goal.returns-in-Err-clause-memory
returns-in-Err-clause-memory c = λ e.
    let uri = string_bytes c.self.inside.uri in
    left_to_meaning _ (entry_under uri c.args.reached.now) _ _ c.len.ensures.utf8 (c.requires.reached uri)
    (rw (← c.self.view_is) (rw (to_z-of_z w32 _ c.ranges.version) at (c.in-Err.ensures.memory (cc) uri)))

pub returns-in_err-change-in-Ok-clause-one : goal.returns-in_err-change-in-Ok-clause-one
returns-in_err-change-in-Ok-clause-one c = λ e range text is.
    let uri = string_bytes c.self.inside.uri in
    let at = rw (← c.self.view_is) at (c.requires.reached uri) in
    rw (← c.self.view_is, refusal_is _ (entry_under uri c.args.reached.now) _ _ c.len.ensures.utf8 at)
    (rw (to_z-of_z w32 _ c.ranges.version) at (c.in-Ok.ensures.accepted uri))

pub returns-in-Err-clause-one : goal.returns-in-Err-clause-one
returns-in-Err-clause-one c = λ e range text is.
    let uri = string_bytes c.self.inside.uri in
    let at = rw (← c.self.view_is) at (c.requires.reached uri) in
    rw (← c.self.view_is, refusal_is _ (entry_under uri c.args.reached.now) _ _ c.len.ensures.utf8 at)
    (rw (to_z-of_z w32 _ c.ranges.version) at (c.in-Err.ensures.one (cc) uri range text is))

use Rattle.lsp_message.proofs.Prelude.{rules, ◌<◌, length, codes, arith, IsSome, get_member, members_view, items_view, text_in, version_in, content_changes_in}
use Rattle.lsp_message.proofs.Memory.{has_edits, has_changes}
use Rattle.lsp_message.proofs.params.change_by.Goals as goal

pub returns-in_err-changes-clause-memory : goal.returns-in_err-changes-clause-memory
returns-in_err-changes-clause-memory c = λ e.
    let uri : IsSome (text_in (get_member (codes "uri") (members_view c.args.document.entries))) = search rules in
    let version : IsSome (version_in (get_member (codes "version") (members_view c.args.document.entries))) =
    search rules in
    let some : 0 < length c.args.changes.items =
    omega (arith, c.args.changes.ok, c.in_err-changes.ensures.memory (search rules)) in
    has_changes _ _ (content_changes_in (items_view c.args.changes.items)) uri version
    (has_edits c.args.changes.items some (c.in_err-changes.ensures.good (search rules)))

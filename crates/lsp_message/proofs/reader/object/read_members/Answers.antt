use Rattle.lsp_message.proofs.Prelude.{◌≡◌, Some, None, arith, read_key, no_members, put, members_at}
use Rattle.lsp_message.proofs.Grammar.{left_first, members_next, members_refused, key_refused, members_last}
use Rattle.lsp_message.proofs.reader.object.read_members.Goals as goal

pub members-init : goal.members-init
members-init g c = (no_members, left_first (members_at c.args.depth) no_members c.args.reader.now, c.requires)

pub returns-in_err-name-clause-error : goal.returns-in_err-name-clause-error
returns-in_err-name-clause-error g c = λ e. key_refused c.args.depth c.members.invariant.1 c.in_err-name.ensures.value

pub members-preserved : goal.members-preserved
members-preserved g c =
    let found = c.members.invariant.0 in
    let k = c.in-Some.name.now in
    let named : read_key c.members.reader ≡ Some (Some k, c.next_key.new.self) = grind arith in
    let done = c.in_ok-read_member.ensures in (
      put k done.ok.0 found,
      members_next c.args.depth c.members.invariant.1 named done.ok.1 done.shorter,
      done.ok.2 found c.members.invariant.2,
    )

pub returns-in_err-read_member-clause-error : goal.returns-in_err-read_member-clause-error
returns-in_err-read_member-clause-error g c = λ e.
    let named : read_key c.members.reader ≡ Some (Some c.in-Some.name.now, c.next_key.new.self) = grind arith in
    members_refused c.args.depth c.members.invariant.1 named (c.in_err-read_member.ensures.error (grind arith))

pub returns-clause-ok : goal.returns-clause-ok
returns-clause-ok g c =
    let ends : read_key c.members.reader ≡ Some (None, c.next_key.new.self) = grind arith in
    (c.members.invariant.0, members_last c.args.depth c.members.invariant.1 ends, c.members.invariant.2)

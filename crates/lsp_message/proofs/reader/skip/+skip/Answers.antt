use Rattle.lsp_message.proofs.Prelude.{◌≡◌, ◌∷◌, Some, None, ap, ◌∙◌, arith, after_end_array, read_key, token_of, parse_map, null, boolean, number, string, array, object, no_items, no_members, put, number_of, value_is, common_steps, value_at, items_at, members_at, on_ok_weaker}
use Rattle.lsp_message.proofs.Grammar.{on_err, parsed, left_first, one_more, value_at-array, value_at-object, items_next, items_refused, items_last, members_next, members_refused, key_refused, members_last}
use Rattle.lsp_message.proofs.reader.skip.+skip.Goals as goal

pub skip_value_from-returns-else-depth-eq0-clause-ok : goal.skip_value_from-returns-else-depth-eq0-clause-ok
skip_value_from-returns-else-depth-eq0-clause-ok t c =
    let depth = c.args.depth in
    let ts = c.args.reader.now in
    let opened = ap (λ k. value_at depth (token_of k ∷ ts)) c.in-BeginArray.is ∙ value_at-array depth ts (omega
    arith) in
    on_ok_weaker c.skip_items.result (λ read. (array read.0, opened ∙ ap (parse_map array) read.1))
    c.skip_items.ensures.ok

pub skip_value_from-returns-else-depth-eq0-2-clause-ok : goal.skip_value_from-returns-else-depth-eq0-2-clause-ok
skip_value_from-returns-else-depth-eq0-2-clause-ok t c =
    let depth = c.args.depth in
    let ts = c.args.reader.now in
    let opened = ap (λ k. value_at depth (token_of k ∷ ts)) c.in-BeginObject.is
    ∙ value_at-object depth ts (omega arith) in
    on_ok_weaker c.skip_members.result (λ read. (object read.0, opened ∙ ap (parse_map object) read.1))
    c.skip_members.ensures.ok

pub skip_value_from-returns-in-String-clause-ok : goal.skip_value_from-returns-in-String-clause-ok
skip_value_from-returns-in-String-clause-ok t c =
    (string c.in-String.field-0.now, grind (arith, common_steps, value_is, c.in-String.is))

pub skip_value_from-returns-in-Bool-clause-ok : goal.skip_value_from-returns-in-Bool-clause-ok
skip_value_from-returns-in-Bool-clause-ok t c =
    (boolean c.in-Bool.field-0, grind (arith, common_steps, value_is, c.in-Bool.is))

pub skip_value_from-returns-in-Null-clause-ok : goal.skip_value_from-returns-in-Null-clause-ok
skip_value_from-returns-in-Null-clause-ok t c = (null, grind (arith, common_steps, value_is, c.in-Null.is))

pub skip_value_from-returns-in-Some-clause-ok : goal.skip_value_from-returns-in-Some-clause-ok
skip_value_from-returns-in-Some-clause-ok t c =
    let kept = parsed _ (number_of c.in-Number.text.now) c.in-Some.ensures in
    (number kept.0, grind (arith, common_steps, value_is, kept.1, c.in-Number.is))

pub skip_items-items-init : goal.skip_items-items-init
skip_items-items-init t c = (no_items, left_first (items_at c.args.depth) no_items c.args.reader.now)

pub skip_items-items-preserved : goal.skip_items-items-preserved
skip_items-items-preserved t c =
    let going : (after_end_array c.items.reader ≡ None) × (c.take_end_array.new.self ≡ c.items.reader) = grind arith in
    let done = c.in_ok-skip_value.ensures in
    (one_more c.items.invariant.0 done.ok.0, items_next c.args.depth c.items.invariant.1 going done.ok.1 done.shorter)

pub skip_items-returns-in_err-skip_value-clause-error : goal.skip_items-returns-in_err-skip_value-clause-error
skip_items-returns-in_err-skip_value-clause-error t c =
    let going : (after_end_array c.items.reader ≡ None) × (c.take_end_array.new.self ≡ c.items.reader) = grind arith in
    on_err _ (items_refused c.args.depth c.items.invariant.1 going c.in_err-skip_value.ensures.error)

pub skip_items-returns-clause-ok : goal.skip_items-returns-clause-ok
skip_items-returns-clause-ok t c =
    let ends : after_end_array c.items.reader ≡ Some c.take_end_array.new.self = grind arith in
    (c.items.invariant.0, items_last c.args.depth c.items.invariant.1 ends)

pub skip_members-members-init : goal.skip_members-members-init
skip_members-members-init t c = (no_members, left_first (members_at c.args.depth) no_members c.args.reader.now)

pub skip_members-returns-in_err-next_key-clause-error : goal.skip_members-returns-in_err-next_key-clause-error
skip_members-returns-in_err-next_key-clause-error t c =
    on_err _ (key_refused c.args.depth c.members.invariant.1 c.in_err-next_key.ensures.value)

pub skip_members-members-preserved : goal.skip_members-members-preserved
skip_members-members-preserved t c =
    let named : read_key c.members.reader ≡ Some (Some c.in-Some.field-0.now, c.next_key.new.self) = grind arith in
    let done = c.in_ok-skip_value.ensures in (
      put c.in-Some.field-0.now done.ok.0 c.members.invariant.0,
      members_next c.args.depth c.members.invariant.1 named done.ok.1 done.shorter,
    )

pub skip_members-returns-in_err-skip_value-clause-error : goal.skip_members-returns-in_err-skip_value-clause-error
skip_members-returns-in_err-skip_value-clause-error t c =
    let named : read_key c.members.reader ≡ Some (Some c.in-Some.field-0.now, c.next_key.new.self) = grind arith in
    on_err _ (members_refused c.args.depth c.members.invariant.1 named c.in_err-skip_value.ensures.error)

pub skip_members-returns-clause-ok : goal.skip_members-returns-clause-ok
skip_members-returns-clause-ok t c =
    let ends : read_key c.members.reader ≡ Some (None, c.next_key.new.self) = grind arith in
    (c.members.invariant.0, members_last c.args.depth c.members.invariant.1 ends)

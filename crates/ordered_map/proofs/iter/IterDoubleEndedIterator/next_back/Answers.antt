use Rattle.ordered_map.proofs.Prelude.{◌∙◌, ap, length, option_map, rules, sym, deref_pair}
use Rattle.ordered_map.proofs.MapLemmas.{last_live, last_vacant}
use Rattle.ordered_map.proofs.iter.IterDoubleEndedIterator.next_back.Goals as goal

pub overflow_sub-self : goal.overflow_sub-self
overflow_sub-self g c =
    (last_live c.loop-key.self-inside.slots c.next_back.new.self c.loop-key.self-inside.left c.args.self.now
    c.loop-key.invariant.left c.loop-key.invariant.rest _ c.in-Some.ensures.steps _
    (sym c.in-Some-slot_entry.ensures)).some

pub invariant_of-self : goal.invariant_of-self
invariant_of-self g c =
    (last_live c.loop-key.self-inside.slots c.next_back.new.self c.loop-key.self-inside.left c.args.self.now
    c.loop-key.invariant.left c.loop-key.invariant.rest _ c.in-Some.ensures.steps _
    (sym c.in-Some-slot_entry.ensures)).counted

pub returns-in-Some-slot_entry-clause-steps : goal.returns-in-Some-slot_entry-clause-steps
returns-in-Some-slot_entry-clause-steps g c =
    (last_live c.loop-key.self-inside.slots c.next_back.new.self c.loop-key.self-inside.left c.args.self.now
    c.loop-key.invariant.left c.loop-key.invariant.rest _ c.in-Some.ensures.steps _
    (sym c.in-Some-slot_entry.ensures)).steps

pub returns-in-Some-slot_entry-clause-goes : goal.returns-in-Some-slot_entry-clause-goes
returns-in-Some-slot_entry-clause-goes g c =
    let gave = last_live c.loop-key.self-inside.slots c.next_back.new.self c.loop-key.self-inside.left c.args.self.now
    c.loop-key.invariant.left c.loop-key.invariant.rest _ c.in-Some.ensures.steps _
    (sym c.in-Some-slot_entry.ensures) in
    search rules

pub loop-key-preserved : goal.loop-key-preserved
loop-key-preserved g c =
    let rest = last_vacant c.loop-key.self-inside.slots c.next_back.new.self c.loop-key.self-inside.left
    c.args.self.now c.loop-key.invariant.left c.loop-key.invariant.rest _ c.in-Some.ensures.steps
    (sym c.slot_entry.ensures ∙ ap (option_map deref_pair) c.in_default-slot_entry.is) in
    record { left = c.loop-key.invariant.left ∙ ap length (c.loop-key.invariant.rest ∙ sym rest); rest = rest }

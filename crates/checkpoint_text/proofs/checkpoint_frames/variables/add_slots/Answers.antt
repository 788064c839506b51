use Rattle.std.proofs.Common.{◌-◌, ◌≤◌, ◌⊎◌, inl, inr, ⊎_elim, arith, length, option_map, Bor}
use Rattle.std.proofs.lemmas.Bool.{cases_lt}
use Rattle.spec_value.specs.Datum.{Datum}
use Rattle.moo_program.specs.Names.{known}
use Rattle.checkpoint_text.specs.CheckpointFramesLines.{lent_variables}
use Rattle.checkpoint_text.proofs.Entries.{slot_more, none_left}
use Rattle.checkpoint_text.proofs.checkpoint_frames.variables.add_slots.Goals as goal

pub loop-left-init : goal.loop-left-init
loop-left-init c =
    let names = known c.args.own.now in
    let slots = c.args.slots.now in
    let n = c.min-left.result in
    let some : (length names ≤ n) ⊎ (length slots ≤ n) = ⊎_elim (λ l. inl (omega arith)) (λ g. inr (omega arith)) (cases_lt (length names) (length slots)) in
    (omega arith, omega arith, none_left (lent_variables c.args.found.now.items) names slots n some)

pub loop-left-preserved : goal.loop-left-preserved
loop-left-preserved c = (
  omega arith,
  omega arith,
  slot_more (lent_variables c.args.found.now.items) (known c.args.own.now) c.args.slots.now (c.loop-left.left - 1) c.loop-left.left
      (option_map (λ (v : Bor Datum). v.now) c.value_in.result) (lent_variables c.loop-left.found.items) (lent_variables c.put_slot.new.found.items)
      (omega arith) (omega arith) (omega arith) c.value_in.ensures c.in_ok-put_slot.ensures c.loop-left.invariant.2,
)

use Rattle.std.proofs.Common.{◌∙◌, sym, ap}
use Rattle.spec_value.specs.Operators.{alike}
use Rattle.moo_arith.proofs.Finding.{found_here, found_further, found_first}
use Rattle.moo_arith.proofs.binary.first_alike.Goals as goal

pub loop-i-init : goal.loop-i-init
loop-i-init c = found_first (alike c.args.value.now) c.args.items.now

pub loop-i-preserved : goal.loop-i-preserved
loop-i-preserved c =
    sym (found_further (alike c.args.value.now) c.args.items.now c.loop-i.i c.index-items-i.result c.loop-i-test.true (ap (alike c.args.value.now) (sym c.index-items-i.is) ∙ sym c.if-is_alike.ensures))
    ∙ c.loop-i.invariant

pub returns-then-is_alike-clause-place : goal.returns-then-is_alike-clause-place
returns-then-is_alike-clause-place c =
    sym (found_here (alike c.args.value.now) c.args.items.now c.loop-i.i c.index-items-i.result c.loop-i-test.true (ap (alike c.args.value.now) (sym c.index-items-i.is) ∙ sym c.if-is_alike.ensures))
    ∙ c.loop-i.invariant

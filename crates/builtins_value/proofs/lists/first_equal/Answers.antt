use Rattle.std.proofs.Common.{◌∙◌, sym, ap}
use Rattle.spec_value.specs.Datum.{same}
use Rattle.moo_arith.proofs.Finding.{found_here, found_further, found_first}
use Rattle.builtins_value.proofs.lists.first_equal.Goals as goal

pub loop-i-init : goal.loop-i-init
loop-i-init c = found_first (same c.args.value.now) c.args.items.now

pub loop-i-preserved : goal.loop-i-preserved
loop-i-preserved c =
    sym (found_further (same c.args.value.now) c.args.items.now c.loop-i.i c.index-items-i.result c.loop-i-test.true (ap (same c.args.value.now) (sym c.index-items-i.is) ∙ sym c.if-is_equal.ensures))
    ∙ c.loop-i.invariant

pub returns-then-is_equal-clause-place : goal.returns-then-is_equal-clause-place
returns-then-is_equal-clause-place c =
    sym (found_here (same c.args.value.now) c.args.items.now c.loop-i.i c.index-items-i.result c.loop-i-test.true (ap (same c.args.value.now) (sym c.index-items-i.is) ∙ sym c.if-is_equal.ensures))
    ∙ c.loop-i.invariant

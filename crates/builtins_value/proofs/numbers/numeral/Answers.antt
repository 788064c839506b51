use Rattle.std.proofs.Common.{sym, arith}
use Rattle.builtins_value.proofs.Rows.{digits_on}
use Rattle.builtins_value.proofs.numbers.numeral.Goals as goal

pub digits-preserved : goal.digits-preserved
digits-preserved c =
    let result = rw c.from.ensures at c.min-number.ensures in
    record {
      small = omega arith;
      left = digits_on c.digits.rest.now c.in-Some.more.now c.args.bytes.now c.in-Some.first.now c.digits.number c.min-number.result c.in-Some.ensures.cases.0 (sym c.if-not-is_digit.ensures) result c.digits.invariant.left;
    }

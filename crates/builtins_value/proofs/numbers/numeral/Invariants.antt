use Rattle.std.proofs.Common.{◌≡◌, ◌≤◌, ◌^◌, length}
use Rattle.spec_value.specs.PureBuiltins.{digits_value}
use Rattle.builtins_value.proofs.Rows.{capped}
use Rattle.builtins_value.proofs.numbers.numeral.Given as goal

abbrev pub invariant-digits : goal.invariant-digits
invariant-digits l = record {
  small : l.number ≤ 2 ^ 32;
  left : capped (digits_value l.number l.rest) ≡ capped (digits_value 0 l.bytes);
}

abbrev pub decreases-digits : goal.decreases-digits
decreases-digits l = length l.rest

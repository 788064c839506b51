use Rattle.std.proofs.Common.{◌≡◌, ◌++◌, drop, IsTrue, string_bytes}
use Rattle.spec_value.specs.Datum.{is_text}
use Rattle.spec_value.specs.PureBuiltins.{joined_texts}
use Rattle.builtins_value.proofs.values.tostr.Given as goal

abbrev pub invariant-loop-value : goal.invariant-loop-value
invariant-loop-value l = record {
  allowed : IsTrue (is_text (string_bytes l.text));
  left : string_bytes l.text ++ joined_texts (drop l.value-index l.arguments) ≡ joined_texts l.arguments;
}

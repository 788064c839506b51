use Rattle.std.proofs.Common.{Some, ap, sym}
use Rattle.spec_value.specs.Datum.{is_value}
use Rattle.spec_value.proofs.Entries.{first_holds, second_holds}
use Rattle.moo_value.proofs.Reading.{none_found, rest_found, not_empty}
use Rattle.line_fields.specs.Values.{nests_no_deeper}
use Rattle.line_fields.proofs.Literals.{no_deeper}
use Rattle.line_fields.proofs.ValuesTold.{no_value_found, more_found, whole_found}
use Rattle.line_fields.proofs.held.literal.Goals as goal

pub returns-in_default : goal.returns-in_default
returns-in_default c = record {
  reads = λ v h e.
      let f = rw c.in_default.is at c.in_ok-value.ensures.finds in
      absurd (none_found v c.args.text.now _ (first_holds (is_value v) (nests_no_deeper v) h) (no_deeper v (second_holds (is_value v) (nests_no_deeper v) h)) e f);
  fault = let f = rw c.in_default.is at c.in_ok-value.ensures.finds in sym (no_value_found c.args.text.now f);
}

pub returns-then-is_empty : goal.returns-then-is_empty
returns-then-is_empty c = record {
  reads = λ v h e.
      let f = rw c.in-Some.is at c.in_ok-value.ensures.finds in
      let all = rest_found v c.in-Some.value c.args.text.now c.in-Some.rest _ (first_holds (is_value v) (nests_no_deeper v) h) (no_deeper v (second_holds (is_value v) (nests_no_deeper v) h)) e f in
      ap Some all.0;
  fault =
      let f = rw c.in-Some.is at c.in_ok-value.ensures.tells in
      whole_found c.args.text.now c.in-Some.value c.in-Some.rest c.is_empty.result f c.is_empty.ensures c.if-is_empty.true c.know.ensures;
}

pub returns-else-is_empty : goal.returns-else-is_empty
returns-else-is_empty c = record {
  reads = λ v h e.
      let f = rw c.in-Some.is at c.in_ok-value.ensures.finds in
      let all = rest_found v c.in-Some.value c.args.text.now c.in-Some.rest _ (first_holds (is_value v) (nests_no_deeper v) h) (no_deeper v (second_holds (is_value v) (nests_no_deeper v) h)) e f in
      absurd (not_empty c.in-Some.rest.now c.is_empty.result c.is_empty.ensures all.1 c.if-is_empty.false);
  fault =
      let f = rw c.in-Some.is at c.in_ok-value.ensures.finds in
      sym (more_found c.args.text.now c.in-Some.value c.in-Some.rest c.is_empty.result f c.is_empty.ensures c.if-is_empty.false);
}

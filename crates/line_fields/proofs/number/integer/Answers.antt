use Rattle.std.proofs.Common.{◌≡◌, Some, false, IsTrue, ap, subst, sym, ◌∙◌}
use Rattle.spec_value.specs.Datum.{in_number_range}
use Rattle.line_fields.specs.Numbers.{is_signed}
use Rattle.line_fields.proofs.Numbers.{unsigned_of}
use Rattle.line_fields.proofs.PlainNumbers.{integer_is}
use Rattle.line_fields.proofs.number.integer.Goals as goal

pub returns-then-has_sign-clause-fault : goal.returns-then-has_sign-clause-fault
returns-then-has_sign-clause-fault c = integer_is c.args.text.now c.signed.result c.signed.ensures.reads c.signed.ensures.tells

pub returns-else-has_sign : goal.returns-else-has_sign
returns-else-has_sign c = record {
  reads = λ z h e.
      let no_sign : is_signed c.args.text.now ≡ false = sym c.has_sign.ensures ∙ c.if-has_sign.false in
      let u = unsigned_of z c.args.text.now no_sign e in
      c.unsigned.ensures.reads u.0 (subst (λ y. IsTrue (in_number_range y)) u.1 h) u.2 ∙ ap Some (sym u.1);
  fault = integer_is c.args.text.now c.unsigned.result (λ z h e.
      let no_sign : is_signed c.args.text.now ≡ false = sym c.has_sign.ensures ∙ c.if-has_sign.false in
      let u = unsigned_of z c.args.text.now no_sign e in
      c.unsigned.ensures.reads u.0 (subst (λ y. IsTrue (in_number_range y)) u.1 h) u.2 ∙ ap Some (sym u.1)) c.unsigned.ensures.tells;
}

use Rattle.std.proofs.Common.{◌≡◌, pos, Some, true, IsTrue, ap, subst, sym, ◌∙◌}
use Rattle.spec_value.specs.Datum.{in_number_range}
use Rattle.spec_checkpoint.proofs.Numbers.{small}
use Rattle.line_fields.specs.Numbers.{is_plain_number, magnitude_behind}
use Rattle.line_fields.proofs.Numbers.{plain_decimal, magnitude_is}
use Rattle.line_fields.proofs.PlainNumbers.{unsigned_told}
use Rattle.line_fields.proofs.number.unsigned.Goals as goal

pub returns-then-not-is_plain : goal.returns-then-not-is_plain
returns-then-not-is_plain c = record {
  reads = λ n h e.
      let plain : c.is_plain.result ≡ true = c.is_plain.ensures ∙ ap is_plain_number e ∙ plain_decimal n (small n h) in
      absurd (cc (plain, c.if-not-is_plain.true));
  tells = tt;
}

pub returns : goal.returns
returns c = record {
  reads = λ n h e.
      let is : c.magnitude.result ≡ n = c.magnitude.ensures ∙ ap (magnitude_behind 0) e ∙ magnitude_is n (small n h) in
      c.positive.ensures.reads (subst (λ m. IsTrue (in_number_range (pos m))) (sym is) h) ∙ ap (λ m. Some (pos m)) is;
  tells = unsigned_told c.args.text.now c.positive.result c.magnitude.result (sym c.is_plain.ensures ∙ c.if-not-is_plain.false) c.magnitude.ensures c.positive.ensures.tells;
}

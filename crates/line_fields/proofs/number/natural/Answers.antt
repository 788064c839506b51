use Rattle.std.proofs.Common.{◌≡◌, ◌<◌, ◌^◌, true, Some, ap, sym, ◌∙◌, arith}
use Rattle.std.specs.Fmt.{decimal}
use Rattle.std.proofs.lemmas.Fmt.{parse-decimal, IsAscii-decimal}
use Rattle.std.proofs.lemmas.Str.{IsUtf8-from_ascii}
use Rattle.line_fields.specs.Numbers.{is_plain_number}
use Rattle.line_fields.proofs.Numbers.{plain_decimal}
use Rattle.line_fields.proofs.PlainNumbers.{none_said, some_said, parsed_spelled}
use Rattle.line_fields.proofs.number.natural.Goals as goal

pub returns-then-not-is_plain : goal.returns-then-not-is_plain
returns-then-not-is_plain c = record {
  reads = λ n l m e.
      let small : n < 2 ^ 64 = omega arith in
      let plain : c.is_plain.result ≡ true = c.is_plain.ensures ∙ ap is_plain_number e ∙ plain_decimal n small in
      absurd (cc (plain, c.if-not-is_plain.true));
  fault = none_said c.args.least c.args.most c.args.text.now (λ n l m e.
      let small : n < 2 ^ 64 = omega arith in
      let plain : c.is_plain.result ≡ true = c.is_plain.ensures ∙ ap is_plain_number e ∙ plain_decimal n small in
      absurd (cc (plain, c.if-not-is_plain.true)));
}

pub returns-in_default : goal.returns-in_default
returns-in_default c = record {
  reads = λ n l m e. let small : n < 2 ^ 64 = omega arith in absurd (c.in_default.ensures.cases.0 (rw e (IsUtf8-from_ascii (decimal n) (IsAscii-decimal n small))));
  fault = none_said c.args.least c.args.most c.args.text.now (λ n l m e. let small : n < 2 ^ 64 = omega arith in absurd (c.in_default.ensures.cases.0 (rw e (IsUtf8-from_ascii (decimal n) (IsAscii-decimal n small)))));
}

pub returns-in-Ok-parse : goal.returns-in-Ok-parse
returns-in-Ok-parse c = record {
  reads = λ n l m e.
      let small : n < 2 ^ 64 = omega arith in
      let read = parse-decimal 64 n c.in-Ok.digits.now c.parse.result small small (c.in-Ok.ensures.cases.0 ∙ e) c.parse.ensures.value.0 in
      let same : c.in-Ok-parse.number ≡ n = cc (read, c.in-Ok-parse.is) in ap Some same;
  fault =
      let told = parsed_spelled c.args.text.now c.in-Ok.digits.now c.parse.result c.in-Ok-parse.number (sym c.is_plain.ensures ∙ c.if-not-is_plain.false) c.in-Ok.ensures.cases.0 c.parse.ensures.value.0 c.in-Ok-parse.is in
      some_said c.args.least c.args.most c.in-Ok-parse.number c.args.text.now told.1 (omega arith) (omega arith) told.0;
}

pub returns-in_default-parse : goal.returns-in_default-parse
returns-in_default-parse c = record {
  reads = λ n l m e.
      let small : n < 2 ^ 64 = omega arith in
      let read = parse-decimal 64 n c.in-Ok.digits.now c.parse.result small small (c.in-Ok.ensures.cases.0 ∙ e) c.parse.ensures.value.0 in
      let same : c.in-Ok-parse.number ≡ n = cc (read, c.in-Ok-parse.is) in absurd (omega arith);
  fault = none_said c.args.least c.args.most c.args.text.now (λ n l m e.
      let small : n < 2 ^ 64 = omega arith in
      let read = parse-decimal 64 n c.in-Ok.digits.now c.parse.result small small (c.in-Ok.ensures.cases.0 ∙ e) c.parse.ensures.value.0 in
      let same : c.in-Ok-parse.number ≡ n = cc (read, c.in-Ok-parse.is) in absurd (omega arith));
}

pub returns-in_default-parse-2 : goal.returns-in_default-parse-2
returns-in_default-parse-2 c = record {
  reads = λ n l m e.
      let small : n < 2 ^ 64 = omega arith in
      let read = parse-decimal 64 n c.in-Ok.digits.now c.parse.result small small (c.in-Ok.ensures.cases.0 ∙ e) c.parse.ensures.value.0 in
      let same : c.in-Ok-parse.number ≡ n = cc (read, c.in-Ok-parse.is) in absurd (omega arith);
  fault = none_said c.args.least c.args.most c.args.text.now (λ n l m e.
      let small : n < 2 ^ 64 = omega arith in
      let read = parse-decimal 64 n c.in-Ok.digits.now c.parse.result small small (c.in-Ok.ensures.cases.0 ∙ e) c.parse.ensures.value.0 in
      let same : c.in-Ok-parse.number ≡ n = cc (read, c.in-Ok-parse.is) in absurd (omega arith));
}

pub returns-in_default-parse-3 : goal.returns-in_default-parse-3
returns-in_default-parse-3 c = record {
  reads = λ n l m e.
      let small : n < 2 ^ 64 = omega arith in
      let read = parse-decimal 64 n c.in-Ok.digits.now c.parse.result small small (c.in-Ok.ensures.cases.0 ∙ e) c.parse.ensures.value.0 in
      absurd (cc (read, c.in_default-parse.is));
  fault = none_said c.args.least c.args.most c.args.text.now (λ n l m e.
      let small : n < 2 ^ 64 = omega arith in
      let read = parse-decimal 64 n c.in-Ok.digits.now c.parse.result small small (c.in-Ok.ensures.cases.0 ∙ e) c.parse.ensures.value.0 in
      absurd (cc (read, c.in_default-parse.is)));
}

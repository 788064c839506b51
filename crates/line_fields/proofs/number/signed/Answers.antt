use Rattle.std.proofs.Common.{◌≡◌, [], ◌∷◌, true, ap, ◌∙◌, sym, w32}
use Rattle.std.specs.Fmt.{signed_decimal}
use Rattle.std.proofs.lemmas.Fmt.{parse-signed_decimal, IsAscii-signed}
use Rattle.std.proofs.lemmas.Str.{IsUtf8-from_ascii}
use Rattle.std.proofs.lemmas.Int.{to_z-of_z}
use Rattle.moo_value.proofs.Numbers.{small_magnitude, fits_number}
use Rattle.line_fields.specs.Numbers.{is_plain_number, behind_sign}
use Rattle.line_fields.proofs.Numbers.{plain_signed, no_minus_zero}
use Rattle.line_fields.proofs.PlainNumbers.{signed_both, parsed_fits, not_so}
use Rattle.line_fields.proofs.number.signed.Goals as goal

pub returns-then-not-is_plain : goal.returns-then-not-is_plain
returns-then-not-is_plain c = record {
  reads = λ z h e.
      let plain : c.is_plain.result ≡ true = c.is_plain.ensures ∙ ap is_plain_number (c.digits_behind_sign.ensures ∙ ap behind_sign e) ∙ plain_signed z h in
      absurd (cc (plain, c.if-not-is_plain.true));
  tells = tt;
}

pub returns-then-is_minus_zero : goal.returns-then-is_minus_zero
returns-then-is_minus_zero c = record { reads = λ z h e. absurd (no_minus_zero z h (sym e ∙ c.is_minus_zero.ensures.0 c.if-is_minus_zero.true)); tells = tt }

pub returns-in_default : goal.returns-in_default
returns-in_default c = record { reads = λ z h e. absurd (c.in_default.ensures.cases.0 (rw e (IsUtf8-from_ascii (signed_decimal z) (IsAscii-signed z (small_magnitude z h))))); tells = tt }

pub returns-in-Ok-parse : goal.returns-in-Ok-parse
returns-in-Ok-parse c = record {
  reads = λ z h e.
      let read = parse-signed_decimal w32 z c.in-Ok.number.now c.parse.result (fits_number z h) (small_magnitude z h) (c.in-Ok.ensures.cases.0 ∙ e) c.parse.ensures.value.0 in
      let same : c.in-Ok-parse.number ≡ z = cc (read, c.in-Ok-parse.is) in rw (same, to_z-of_z w32 z (fits_number z h));
  tells =
      let told = signed_both c.args.text.now c.in-Ok.number.now c.parse.result c.in-Ok-parse.number
      (ap is_plain_number (sym c.digits_behind_sign.ensures) ∙ sym c.is_plain.ensures ∙ c.if-not-is_plain.false)
      (not_so c.is_minus_zero.result (c.args.text.now ≡ 45 ∷ 48 ∷ []) c.is_minus_zero.ensures.1 c.if-is_minus_zero.false) c.in-Ok.ensures.cases.0 c.parse.ensures.value.0 c.in-Ok-parse.is in
      rw (to_z-of_z w32 c.in-Ok-parse.number (parsed_fits c.in-Ok.number.now c.parse.result c.in-Ok-parse.number c.parse.ensures.value.0 c.in-Ok-parse.is)) told;
}

pub returns-in-Err : goal.returns-in-Err
returns-in-Err c = record {
  reads = λ z h e.
      let read = parse-signed_decimal w32 z c.in-Ok.number.now c.parse.result (fits_number z h) (small_magnitude z h) (c.in-Ok.ensures.cases.0 ∙ e) c.parse.ensures.value.0 in
      absurd (cc (read, c.in-Err.is));
  tells = tt;
}

use Rattle.std.proofs.Common.{◌≡◌, ◌∙◌, w32}
use Rattle.std.specs.Fmt.{signed_decimal}
use Rattle.std.proofs.lemmas.Fmt.{parse-signed_decimal, IsAscii-signed}
use Rattle.std.proofs.lemmas.Str.{IsUtf8-from_ascii}
use Rattle.std.proofs.lemmas.Int.{to_z-of_z}
use Rattle.moo_value.proofs.Numbers.{number_split, small_magnitude, fits_number}
use Rattle.moo_value.proofs.read.read_number.Goals as goal

pub returns-in-Err-clause-finds : goal.returns-in-Err-clause-finds
returns-in-Err-clause-finds c n r h e split =
    let at = number_split c.args.bytes.now n r c.numeral_end.result h e split c.numeral_end.ensures.value in
    absurd (c.in-Err.ensures.cases.0 (rw (c.split_at.ensures.front, at.0) (IsUtf8-from_ascii (signed_decimal n) (IsAscii-signed n (small_magnitude n h)))))

pub returns-in-Err-parse-clause-finds : goal.returns-in-Err-parse-clause-finds
returns-in-Err-parse-clause-finds c n r h e split =
    let at = number_split c.args.bytes.now n r c.numeral_end.result h e split c.numeral_end.ensures.value in
    let text = c.in-Ok.ensures.cases.0 ∙ c.split_at.ensures.front ∙ at.0 in
    let read = parse-signed_decimal w32 n c.in-Ok.text.now c.parse.result (fits_number n h) (small_magnitude n h) text c.parse.ensures.value.0 in
    absurd (cc (read, c.in-Err-parse.is))

pub returns-in-Ok-parse-clause-finds : goal.returns-in-Ok-parse-clause-finds
returns-in-Ok-parse-clause-finds c n r h e split =
    let at = number_split c.args.bytes.now n r c.numeral_end.result h e split c.numeral_end.ensures.value in
    let text = c.in-Ok.ensures.cases.0 ∙ c.split_at.ensures.front ∙ at.0 in
    let read = parse-signed_decimal w32 n c.in-Ok.text.now c.parse.result (fits_number n h) (small_magnitude n h) text c.parse.ensures.value.0 in
    let same : c.in-Ok-parse.n ≡ n = cc (read, c.in-Ok-parse.is) in
    rw (same, to_z-of_z w32 n (fits_number n h), c.split_at.ensures.back, at.1)

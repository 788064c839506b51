use Rattle.std.proofs.Common.{◌≡◌, ◌∙◌, ◌++◌, Some, None, w32}
use Rattle.std.proofs.lemmas.Int.{to_z-of_z}
use Rattle.std.proofs.lemmas.List.{take-append-drop}
use Rattle.std.specs.Prelude.{Option, ℤ}
use Rattle.moo_value.proofs.Numbers.{number_split, fits_number}
use Rattle.line_fields.proofs.ValuesTold.{number_there}
use Rattle.line_fields.proofs.number.front_integer.Goals as goal

pub returns-in-Some-clause-finds : goal.returns-in-Some-clause-finds
returns-in-Some-clause-finds c n r h e split =
    let at = number_split c.args.bytes.now n r c.numeral_end.result h e split c.numeral_end.ensures.value in
    let read : ◌≡◌ {A = Option ℤ} (Some c.in-Some.number) (Some n) = c.in-Some.ensures.reads n h (c.split_at.ensures.front ∙ at.0) in
    let same : c.in-Some.number ≡ n = cc in
    rw (same, to_z-of_z w32 n (fits_number n h), c.split_at.ensures.back, at.1)

pub returns-in-None-clause-finds : goal.returns-in-None-clause-finds
returns-in-None-clause-finds c n r h e split =
    let at = number_split c.args.bytes.now n r c.numeral_end.result h e split c.numeral_end.ensures.value in
    let read : ◌≡◌ {A = Option ℤ} None (Some n) = c.in-None.ensures.reads n h (c.split_at.ensures.front ∙ at.0) in
    absurd (cc)

pub returns-in-Some-clause-tells : goal.returns-in-Some-clause-tells
returns-in-Some-clause-tells c =
    let whole = (λ i. c.split_at.ensures.front i ++ c.split_at.ensures.back i) ∙ take-append-drop c.numeral_end.result c.args.bytes.now in
    let told = number_there c.args.bytes.now c.split_at.result.0.now c.split_at.result.1.now c.in-Some.number whole c.in-Some.ensures.fault in
    rw (to_z-of_z w32 c.in-Some.number (fits_number c.in-Some.number told.1)) told

use Rattle.moo_script.proofs.Forms.{input_says, input_number, input_long, input_text}
use Rattle.moo_script.proofs.script.read_input.Goals as goal

pub returns-in_default-read_number-clause-refused : goal.returns-in_default-read_number-clause-refused
returns-in_default-read_number-clause-refused c = input_number c.args.rest.now c.in-Some.field.now c.in-Some.text.now c.in-Some.ensures.0 c.in-Some.ensures.1 c.in_default-read_number.ensures

pub returns-then-text-gt-LONGEST_LINE-clause-refused : goal.returns-then-text-gt-LONGEST_LINE-clause-refused
returns-then-text-gt-LONGEST_LINE-clause-refused c = input_long c.args.rest.now c.in-Some.field.now c.in-Some.text.now c.in-Some.ensures.0 c.in-Some.ensures.1 c.in-Some-read_number.ensures.0 c.if-text-gt-LONGEST_LINE.true

pub returns-in-Ok-Some-clause-says : goal.returns-in-Ok-Some-clause-says
returns-in-Ok-Some-clause-says c =
    let text = rw c.in-Ok-Some.field-0-is at c.in-Ok-Some.ensures in
    input_says c.args.rest.now c.in-Some.field.now c.in-Some.text.now c.in-Ok-Some.text c.in-Some-read_number.connection c.in-Some.ensures.0 c.in-Some.ensures.1 c.in-Some-read_number.ensures.0 c.in-Some-read_number.ensures.1 c.if-text-gt-LONGEST_LINE.false text.0 text.1

pub returns-in-Ok-None-clause-refused : goal.returns-in-Ok-None-clause-refused
returns-in-Ok-None-clause-refused c =
    let no_text = rw c.in-Ok-None.field-0-is at c.in-Ok-None.ensures in
    input_text c.args.rest.now c.in-Some.field.now c.in-Some.text.now c.in-Some.ensures.0 c.in-Some.ensures.1 c.in-Some-read_number.ensures.0 c.if-text-gt-LONGEST_LINE.false no_text

use Rattle.std.proofs.Common.{◌<◌, ◌^◌, length, Some, None, sym, ◌∙◌, arith}
use Rattle.line_fields.proofs.Places.{field_between, field_last, ends_here, ends_nowhere}
use Rattle.line_fields.proofs.FieldEnds.{is_end}
use Rattle.line_fields.proofs.fields.field_end.Goals as goal

pub returns-then-ends_field-clause-between : goal.returns-then-ends_field-clause-between
returns-then-ends_field-clause-between c f r h e =
    let small : length c.args.line.now < 2 ^ 64 = omega arith in
    let here = ends_here c.loop-index.index c.loop-index.place c.args.line.now _ c.loop-index-test.true (sym c.ends_field.ensures ∙ c.if-ends_field.true) in
    sym here ∙ sym c.loop-index.invariant ∙ field_between f r c.args.line.now h small e

pub returns-then-ends_field-clause-last : goal.returns-then-ends_field-clause-last
returns-then-ends_field-clause-last c f h e =
    let small : length c.args.line.now < 2 ^ 64 = omega arith in
    let here = ends_here c.loop-index.index c.loop-index.place c.args.line.now _ c.loop-index-test.true (sym c.ends_field.ensures ∙ c.if-ends_field.true) in
    sym here ∙ sym c.loop-index.invariant ∙ field_last f c.args.line.now h small e

pub returns-clause-between : goal.returns-clause-between
returns-clause-between c f r h e =
    let small : length c.args.line.now < 2 ^ 64 = omega arith in
    sym (ends_nowhere c.loop-index.index c.loop-index.place c.args.line.now c.loop-index-test.false) ∙ sym c.loop-index.invariant ∙ field_between f r c.args.line.now h small e

pub returns-then-ends_field-clause-cuts : goal.returns-then-ends_field-clause-cuts
returns-then-ends_field-clause-cuts c =
    let small : length c.args.line.now < 2 ^ 64 = omega arith in
    let here = ends_here c.loop-index.index c.loop-index.place c.args.line.now _ c.loop-index-test.true (sym c.ends_field.ensures ∙ c.if-ends_field.true) in
    is_end c.args.line.now (Some c.loop-index.index) small (sym here ∙ sym c.loop-index.invariant)

pub returns-clause-cuts : goal.returns-clause-cuts
returns-clause-cuts c =
    let small : length c.args.line.now < 2 ^ 64 = omega arith in
    is_end c.args.line.now None small (sym (ends_nowhere c.loop-index.index c.loop-index.place c.args.line.now c.loop-index-test.false) ∙ sym c.loop-index.invariant)

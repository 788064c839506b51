use Rattle.std.proofs.Common.{◌++◌, sym, ◌∙◌, ap}
use Rattle.moo_value.specs.Read.{after_name}
use Rattle.moo_value.proofs.Names.{not_named}
use Rattle.moo_value.proofs.Reading.{all_errors}
use Rattle.line_fields.proofs.ValuesTold.{name_there}
use Rattle.line_fields.proofs.spelled.front_error.Goals as goal

pub loop-error-preserved : goal.loop-error-preserved
loop-error-preserved c =
    let bytes = c.args.bytes.now in
    let none = c.in_default.ensures.value in
    sym (not_named all_errors c.loop-error.error-index _ bytes c.loop-error-test.true (ap (λ n. after_name n bytes) (sym c.name.ensures ∙ sym c.as_bytes.ensures.value) ∙ sym none)) ∙ c.loop-error.invariant

pub returns-in-Some-clause-tells : goal.returns-in-Some-clause-tells
returns-in-Some-clause-tells c =
    let name = c.as_bytes.ensures.value ∙ c.name.ensures in
    name_there c.as_bytes.result.now c.args.bytes.now c.in-Some.rest.now (sym c.in-Some.ensures.value) ∙ ap (λ t. t ++ c.in-Some.rest.now) name

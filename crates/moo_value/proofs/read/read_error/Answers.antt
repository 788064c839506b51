use Rattle.std.proofs.Common.{sym, ◌∙◌, ap}
use Rattle.moo_value.specs.Read.{after_name}
use Rattle.moo_value.proofs.Names.{not_named}
use Rattle.moo_value.proofs.Reading.{all_errors}
use Rattle.moo_value.proofs.read.read_error.Goals as goal

pub loop-error-preserved : goal.loop-error-preserved
loop-error-preserved c =
    let bytes = c.args.bytes.now in
    let none = c.in_default.ensures.value in
    sym (not_named all_errors c.loop-error.error-index _ bytes c.loop-error-test.true (ap (λ n. after_name n bytes) (sym c.name.ensures ∙ sym c.as_bytes.ensures.value) ∙ sym none)) ∙ c.loop-error.invariant

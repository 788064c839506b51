use Rattle.std.proofs.Common.{◌∙◌, ap, sym}
use Rattle.spec_value.specs.Datum.{variable_not_found}
use Rattle.local_code.specs.Targets.{part_answer}
use Rattle.local_code.proofs.Puts.{none_behind}
use Rattle.local_code.proofs.moo_stores.slots.part_in_slot.Goals as goal

pub returns-in_default : goal.returns-in_default
returns-in_default c =
    sym (ap (λ r. part_answer r c.args.brackets.now c.args.values.now) c.in_default.ensures ∙ none_behind variable_not_found c.args.brackets.now c.args.values.now)

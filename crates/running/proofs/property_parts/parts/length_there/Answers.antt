use Rattle.std.proofs.Common.{◌≡◌, ◌∷◌, sym, subst, arith, rules, ◌-◌, length, take, drop, List, w32, to_z, of_z}
use Rattle.spec_value.specs.Datum.{Datum}
use Rattle.spec_moo.specs.Effects.Lists.{length_in}
use Rattle.moo_value.specs.Answers.{answer_of}
use Rattle.view.specs.Law.{Tells}
use Rattle.running.specs.Parts.{part_there}
use Rattle.running.proofs.Writing.{parted, others, none_told, length_told}
use Rattle.running.proofs.property_parts.parts.length_there.Goals as goal

pub returns-in_default-clause-left : goal.returns-in_default-clause-left
returns-in_default-clause-left g c = none_told g.V.View.holds g.V.View.now c.args.programmer c.args.brackets.now c.args.view.now c.args.values.now (omega (arith, c.in_default.len_below))

pub returns-clause-left : goal.returns-clause-left
returns-clause-left g c =
    let whole : to_z w32 (of_z w32 c.args.programmer) ≡ c.args.programmer = search rules in
    let vs = c.args.values.now in
    let o = c.object-item.result in
    let name = c.name-item.result in
    let inner = take (length vs - 2) (drop 2 vs) in
    let is : vs ≡ o ∷ name ∷ inner = parted vs inner o name c.in-len2-up.len_at_least c.object-item.is c.name-item.is (others vs) in
    subst (λ (us : List Datum). Tells g.V.View.holds g.V.View.now c.args.view.now c.read_property.new.view
    (λ w. length_in (part_there w c.args.programmer c.args.brackets.now us) ≡ answer_of c.in_ok-answer.answer)) (sym is)
    (length_told g.V.View.holds g.V.View.now c.args.programmer c.args.brackets.now o name inner c.args.view.now c.read_property.new.view
    (answer_of c.in_ok-whole.whole) (answer_of c.in_ok-answer.answer) (rw whole at c.in_ok-whole.ensures.left) c.in_ok-answer.ensures)

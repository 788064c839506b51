use Rattle.std.proofs.Common.{◌≡◌, ◌∙◌, ◌∷◌, ap, sym, subst, arith, rules, ◌-◌, length, take, drop, List, w32, to_z, of_z}
use Rattle.std.specs.Prelude.{Err}
use Rattle.spec_value.specs.Datum.{Datum}
use Rattle.spec_moo.specs.Properties.{read}
use Rattle.moo_value.specs.Answers.{answer_of}
use Rattle.view.specs.Law.{Goes}
use Rattle.rules.proofs.Tellings.{known_on}
use Rattle.rules.specs.Writing.{IsWritten}
use Rattle.running.specs.Parts.{part_written}
use Rattle.running.proofs.Writing.{parted, others, none_written, part_refused, part_put}
use Rattle.running.proofs.property_parts.parts.write_part.Goals as goal

pub returns-in_default-clause-left : goal.returns-in_default-clause-left
returns-in_default-clause-left g c = none_written g.V.View.holds g.V.View.now c.args.programmer c.args.brackets.now (Unit {0}) c.args.view.now c.args.values.now c.args.value (omega (arith, c.in_default.len_below))

pub returns-in_ok-written-in-Ok-clause-left : goal.returns-in_ok-written-in-Ok-clause-left
returns-in_ok-written-in-Ok-clause-left g c =
    let whole : to_z w32 (of_z w32 c.args.programmer) ≡ c.args.programmer = search rules in
    let vs = c.args.values.now in
    let o = c.object-item.result in
    let name = c.name-item.result in
    let inner = take (length vs - 2) (drop 2 vs) in
    let is : vs ≡ o ∷ name ∷ inner = parted vs inner o name c.in-len2-up.len_at_least c.object-item.is c.name-item.is (others vs) in
    subst (λ (us : List Datum). Goes g.V.View.holds g.V.View.now c.args.view.now c.write_property.new.view
    (λ before after. IsWritten before after (part_written before c.args.programmer c.args.brackets.now us c.args.value) c.in_ok-written-in-Ok.written)) (sym is)
    (part_put g.V.View.holds g.V.View.now c.args.programmer c.args.brackets.now o name inner c.args.view.now c.read_property.new.view c.write_property.new.view
    (answer_of c.in_ok-whole.whole) c.args.value c.in-Ok.whole c.in_ok-written-in-Ok.written (rw whole at c.in_ok-whole.ensures.left) (c.in_ok-changed.ensures ∙ ap answer_of c.in-Ok.is)
    (rw whole at c.in_ok-written-in-Ok.ensures.left))

pub returns-in-Err-clause-left : goal.returns-in-Err-clause-left
returns-in-Err-clause-left g c =
    let whole : to_z w32 (of_z w32 c.args.programmer) ≡ c.args.programmer = search rules in
    let vs = c.args.values.now in
    let o = c.object-item.result in
    let name = c.name-item.result in
    let inner = take (length vs - 2) (drop 2 vs) in
    let is : vs ≡ o ∷ name ∷ inner = parted vs inner o name c.in-len2-up.len_at_least c.object-item.is c.name-item.is (others vs) in
    subst (λ (us : List Datum). Goes g.V.View.holds g.V.View.now c.args.view.now c.read_property.new.view
    (λ before after. IsWritten {A = Unit {0}} before after (part_written before c.args.programmer c.args.brackets.now us c.args.value) (Err c.in-Err.error))) (sym is)
    (part_refused g.V.View.holds g.V.View.now c.args.programmer c.args.brackets.now o name inner (Unit {0}) c.args.view.now c.read_property.new.view
    (answer_of c.in_ok-whole.whole) c.args.value c.in-Err.error (rw whole at c.in_ok-whole.ensures.left) (c.in_ok-changed.ensures ∙ ap answer_of c.in-Err.is))

pub returns-in_ok-written-in-Ok-clause-well_formed : goal.returns-in_ok-written-in-Ok-clause-well_formed
returns-in_ok-written-in-Ok-clause-well_formed g c =
    let whole : to_z w32 (of_z w32 c.args.programmer) ≡ c.args.programmer = search rules in
    c.in_ok-written-in-Ok.ensures.well_formed
    (known_on g.V.View.holds g.V.View.now c.args.view.now c.read_property.new.view
    (λ w. read w c.args.programmer c.object-item.result c.name-item.result ≡ answer_of c.in_ok-whole.whole) c.requires.well_formed (rw whole at c.in_ok-whole.ensures.left))

pub returns-in-Err-clause-well_formed : goal.returns-in-Err-clause-well_formed
returns-in-Err-clause-well_formed g c =
    let whole : to_z w32 (of_z w32 c.args.programmer) ≡ c.args.programmer = search rules in
    known_on g.V.View.holds g.V.View.now c.args.view.now c.read_property.new.view
    (λ w. read w c.args.programmer c.object-item.result c.name-item.result ≡ answer_of c.in_ok-whole.whole) c.requires.well_formed (rw whole at c.in_ok-whole.ensures.left)

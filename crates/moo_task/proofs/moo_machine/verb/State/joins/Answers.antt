use Rattle.std.proofs.Common.{◌≡◌, ◌∙◌, ap, sym, arith, suc, ◌∷◌, length}
use Rattle.spec_value.specs.Datum.{list, of_list, joined, type_mismatch}
use Rattle.moo_value.specs.Parts.{list_with_part}
use Rattle.moo_program.specs.Drafting.{unraised_of}
use Rattle.moo_task.specs.Shown.{fails_of}
use Rattle.moo_task.proofs.Counted.{items_counted}
use Rattle.moo_task.proofs.Next.{next_place}
use Rattle.moo_task.proofs.Received.{spliced_received, spliced_refused, joined_at_end}
use Rattle.moo_task.proofs.moo_machine.verb.State.joins.Goals as goal

pub returns-in_default-items_in : goal.returns-in_default-items_in
returns-in_default-items_in c a =
    let sized : length c.args.self.now.operands ≡ suc (length c.pop.new.self) = ap (λ st. length st) c.in-Some.ensures in
    spliced_refused a c.args.call.now (record (c.args.self.now) { operands = list (of_list c.args.between.now) ∷ c.args.self.now.operands }) (unraised_of c.args.unraised) c.args.end
    (of_list c.args.between.now) c.in-Some.list c.pop.new.self c.args.held (ap (λ st. list (of_list c.args.between.now) ∷ st) c.in-Some.ensures)
    c.in_default-items_in.ensures (omega arith) (omega (arith, sized, c.requires.held))
    ∙ ap (λ st. fails_of a c.args.call.now (unraised_of c.args.unraised) c.args.end type_mismatch (record (c.args.self.now) { operands = st })) (sym c.forget.ensures)
    ∙ c.in_ok-did-2.ensures a

pub returns : goal.returns
returns c a =
    let sized : length c.args.self.now.operands ≡ suc (length c.pop.new.self) = ap (λ st. length st) c.in-Some.ensures in
    let put : c.replace_part.new.self ≡ list (joined (of_list c.in-Some-items_in.items.now) (of_list c.args.between.now)) =
    c.in_ok-replace_part.ensures
    ∙ ap (λ v. list_with_part v (length c.in-Some-items_in.items.now) (length c.in-Some-items_in.items.now) (of_list c.args.between.now)) c.in-Some-items_in.ensures
    ∙ joined_at_end (of_list c.in-Some-items_in.items.now) (of_list c.args.between.now) (length c.in-Some-items_in.items.now) (sym (items_counted c.in-Some-items_in.items.now)) in
    rw (c.in_ok-push.ensures.ok, put, next_place c.args.self.now.place)
    (spliced_received a c.args.call.now (record (c.args.self.now) { operands = list (of_list c.args.between.now) ∷ c.args.self.now.operands }) (unraised_of c.args.unraised) c.args.end
    (of_list c.args.between.now) (of_list c.in-Some-items_in.items.now) c.pop.new.self c.args.held
    (ap (λ st. list (of_list c.args.between.now) ∷ st) c.in-Some.ensures ∙ ap (λ v. list (of_list c.args.between.now) ∷ v ∷ c.pop.new.self) c.in-Some-items_in.ensures)
    (omega arith) (omega (arith, sized, c.requires.held)))

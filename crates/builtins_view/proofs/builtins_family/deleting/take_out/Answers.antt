use Rattle.std.proofs.Common.{not, filter, refl, w32}
use Rattle.std.proofs.lemmas.Int.{to_z-of_z}
use Rattle.spec_value.specs.Datum.{fold_case, same_text}
use Rattle.rules.specs.Losing.{losing}
use Rattle.builtins_view.proofs.OneChange.{family_told}
use Rattle.rules.proofs.OneByOne.{losing_again}
use Rattle.builtins_view.proofs.Slots.{deleted_told}
use Rattle.builtins_view.proofs.builtins_family.deleting.take_out.Goals as goal

pub returns-clause-left : goal.returns-clause-left
returns-clause-left g c =
    let object = to_z-of_z w32 c.args.object c.ranges.object in
    deleted_told g.V.View.holds g.V.View.now c.args.view.now c.lose_slots.new.view c.lose_slots.result c.args.object c.args.family.now c.args.names.now c.args.name.now
    (family_told g.V.View.holds g.V.View.now c.args.view.now c.write_part.new.view c.lose_slots.new.view c.lose_slots.result c.args.object c.args.family.now c.args.names.now c.in_ok-others.others
    (filter (λ q. not (same_text (fold_case c.args.name.now) (fold_case q)))) (losing c.args.name.now) (losing c.args.name.now c.args.object) (losing c.args.name.now) (losing_again c.args.name.now)
    (λ x. refl) (λ d x e. refl) c.in_ok-others.ensures (rw object at c.in_ok-write_part.ensures.left) c.lose_slots.ensures.left)

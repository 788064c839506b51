use Rattle.std.proofs.Common.{◌≡◌, ◌∙◌, Some, Option, map, ap, sym, rules, w32, to_z, of_z}
use Rattle.spec_value.specs.Datum.{Datum}
use Rattle.view.specs.Meanings.{change_of}
use Rattle.world.specs.Late.{with_later}
use Rattle.world.specs.Near.{value_given}
use Rattle.world.proofs.AtHand.{near_slot}
use Rattle.world.proofs.late.value_after.Goals as goal

pub returns-in-None : goal.returns-in-None
returns-in-None c = λ w s is.
    let number : to_z w32 (of_z w32 c.args.object) ≡ c.args.object = search rules in
    near_slot (map change_of c.args.changes.now) w c.args.object c.args.name.now s c.requires is
    ∙ ap (λ m. Some (Some (with_later s (value_given (map change_of c.args.changes.now) m)))) (sym (rw number at c.last_place-place.ensures) ∙ c.in-None.is)

pub returns-in-Some : goal.returns-in-Some
returns-in-Some c = λ w s is.
    let number : to_z w32 (of_z w32 c.args.object) ≡ c.args.object = search rules in
    near_slot (map change_of c.args.changes.now) w c.args.object c.args.name.now s c.requires is
    ∙ ap (λ m. Some (Some (with_later s (value_given (map change_of c.args.changes.now) m)))) (sym (rw number at c.last_place-place.ensures) ∙ c.in-Some.is)
    ∙ ap (λ (m : Option Datum). Some (Some (with_later s m))) (sym c.value_at.ensures)

use Rattle.std.proofs.Common.{◌≡◌, ◌∙◌, map, ap, sym, rules, w32, to_z, of_z}
use Rattle.spec_value.specs.Datum.{Text}
use Rattle.view.specs.Meanings.{change_of}
use Rattle.world.specs.Near.{last_given}
use Rattle.world.proofs.overlay.near_of.Goals as goal

pub returns : goal.returns
returns c =
    let number : to_z w32 (of_z w32 c.args.object) ≡ c.args.object = search rules in
    let e = c.in_ok-stored.ensures in (
      number,
      e.0,
      record {
        asked = c.args.name.now;
        spelled = e.0;
        there = e.1;
        last = ap (λ (t : Text). last_given (to_z w32 (of_z w32 c.args.object)) t (map change_of c.args.changes.now)) (sym e.0) ∙ sym c.last_place-place.ensures;
      },
    )

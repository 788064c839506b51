use Rattle.std.proofs.Common.{w32}
use Rattle.std.proofs.lemmas.Int.{to_z-of_z}
use Rattle.spec_world.specs.World.{Header, Object}
use Rattle.rules.proofs.Changes.{part_told}
use Rattle.builtins.proofs.builtins_objects.players.put_flag.Goals as goal

pub returns-clause-left : goal.returns-clause-left
returns-clause-left g c =
    let object = to_z-of_z w32 c.args.object c.ranges.object in
    part_told (λ (x : Object). x.header) (λ h y. record y { header = h }) g.V.View.holds g.V.View.now c.args.view.now c.read_header.new.view c.write_part.new.view c.write_part.result c.args.object
    c.in-Some.header c.with_flag-flagged.result (λ (h : Header). record h { is_player = c.args.flag }) c.with_flag-flagged.ensures
    (rw (object, c.in-Some.is) at c.in_ok-header.ensures.left) (rw object at c.write_part.ensures.left)

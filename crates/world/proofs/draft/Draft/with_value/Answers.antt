use Rattle.std.proofs.Common.{sym, w32}
use Rattle.std.proofs.lemmas.Int.{to_z-of_z}
use Rattle.world.proofs.Applied.{changed_one}
use Rattle.world.proofs.draft.Draft.with_value.Goals as goal

pub returns : goal.returns
returns c =
    changed_one c.args.self.now c.args.number c.args.name.now c.args.value c.in-Some.object.now c.with_value.result
    (sym (rw (to_z-of_z w32 c.args.number c.ranges.number) at c.in-Some.ensures)) c.with_value.ensures

use Rattle.std.proofs.Common.{◌≡◌, subst, w32}
use Rattle.std.proofs.lemmas.Int.{to_z-of_z}
use Rattle.spec_world.specs.World.{World}
use Rattle.spec_world.specs.Questions.{apply, new_value}
use Rattle.view.specs.Writing.{MayWrite}
use Rattle.world.specs.Numbered.{numbered}
use Rattle.world.proofs.Applied.{value_written}
use Rattle.world.proofs.draft.Draft.write.Goals as goal

pub returns-clause-done : goal.returns-clause-done
returns-clause-done c = λ yes.
    let told = rw (to_z-of_z w32 c.args.number c.ranges.number, to_z-of_z w32 c.args.programmer c.ranges.programmer) at (c.in_ok-done.ensures.done yes) in
    let before : World = record {
      objects = numbered c.self.inside.objects.entries;
      tasks = c.self.inside.tasks;
      links = c.self.inside.links;
      greatest = c.self.inside.greatest;
      next = c.self.inside.next;
      ending = c.self.inside.ending;
    } in
    let after : World = record before { objects = numbered c.revise_record.new.records.entries } in
    subst (λ (w : World). MayWrite c.args.programmer c.args.number c.args.name.now w × (after ≡ apply (new_value c.args.number c.args.name.now c.args.value.now) w)) c.self.view_is
    (value_written before c.args.programmer c.args.number c.args.name.now c.args.value.now (numbered c.revise_record.new.records.entries) told)

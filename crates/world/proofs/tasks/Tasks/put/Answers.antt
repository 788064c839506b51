use Rattle.std.proofs.Common.{◌≡◌, ◌∙◌, ℕ, Option, ap}
use Rattle.std.specs.Ordering.{nat_cmp}
use Rattle.spec_world.specs.World.{Task}
use Rattle.moo_task.specs.Waits.{due_at}
use Rattle.world.specs.Due.{by_moment}
use Rattle.world.specs.Picked.{changed}
use Rattle.world.proofs.PairsKept.{number_of, pairs_kept}
use Rattle.world.proofs.TasksKept.{tasks_kept}
use Rattle.world.proofs.tasks.Tasks.put.Goals as goal

abbrev due : Task → Option ℕ
due t = due_at t.waiting

pub invariant_of-self-2 : goal.invariant_of-self-2
invariant_of-self-2 c =
    let es = c.self.inside.tasks.entries in
    let moments : c.replace.new.pairs ≡ by_moment (changed nat_cmp c.key_of-key.result c.args.task es) =
    pairs_kept due es c.self.inside.moments c.replace.new.pairs c.key_of-key.result c.args.task c.moment_of-old.result c.moment_of-new.result c.in_ok-moments.moments c.len-sorted.ensures.sorted c.self.invariant.moments
    (c.moment_of-old.ensures ∙ ap (number_of due) c.get.ensures) (c.moment_of-new.ensures ∙ ap (number_of due) c.as_ref.ensures.value) c.in_ok-moments.ensures c.replace.ensures in
    tasks_kept es c.change_record.new.records.entries c.self.inside.readers.entries c.in_ok-readers.readers.entries c.self.inside.moments c.replace.new.pairs c.key_of-key.result c.args.task
    c.key_of-key.ensures.within c.len-sorted.ensures.sorted c.self.invariant c.in_ok-change_record.ensures.ok c.in_ok-readers.ensures moments

use Rattle.std.proofs.Common.{◌<◌, ◌≤◌, ◌∙◌, ℕ, ℤ, ap, arith, rules, w32}
use Rattle.std.proofs.lemmas.Int.{to_z-of_z}
use Rattle.std.specs.Prelude.{map, filter}
use Rattle.std.specs.List.{AllByRecursion}
use Rattle.spec_value.specs.Table.{Numbered}
use Rattle.spec_world.specs.World.{Task}
use Rattle.spec_world.specs.Links.{reads_on}
use Rattle.world.proofs.Listed.{known_ids, known_readers}
use Rattle.world.proofs.tasks.Tasks.readers_on.Goals as goal

pub gather-requires : goal.gather-requires
gather-requires c =
    let keys : AllByRecursion (λ (e : ℕ × ℤ). e.0 < 4294967296) c.self.inside.readers.entries = known_ids c.self.inside.tasks.entries c.self.inside.readers.entries c.self.inside.moments c.self.invariant in
    let bound : 4294967296 ≤ 4294967296 = omega arith in
    search (rules, keys, bound)

pub returns : goal.returns
returns c =
    let told = rw (to_z-of_z w32 c.args.connection c.ranges.connection) at c.in_ok-ids.ensures in
    told ∙ known_readers c.args.connection c.self.inside.tasks.entries c.self.inside.readers.entries c.self.inside.moments c.self.invariant ∙ ap (λ (ts : Numbered Task). map (λ e. e.0) (filter (λ e. reads_on c.args.connection (e.1).waiting) ts)) c.self.view_is

use Rattle.std.proofs.Common.{◌<◌, ◌≤◌, ◌∙◌, ℕ, ap, arith, rules}
use Rattle.std.specs.Prelude.{map}
use Rattle.std.specs.List.{AllByRecursion}
use Rattle.spec_value.specs.Table.{Numbered}
use Rattle.spec_world.specs.World.{Task}
use Rattle.world.proofs.Listed.{all_ids}
use Rattle.world.proofs.tasks.Tasks.ids.Goals as goal

pub gather-requires : goal.gather-requires
gather-requires c =
    let keys : AllByRecursion (λ (e : ℕ × Task). e.0 < 4294967296) c.self.inside.tasks.entries = c.self.invariant.ids in
    let bound : 4294967296 ≤ 4294967296 = omega arith in
    search (rules, keys, bound)

pub returns : goal.returns
returns c = c.in_ok-ids.ensures ∙ all_ids c.self.inside.tasks.entries ∙ ap (λ (ts : Numbered Task). map (λ e. e.0) ts) c.self.view_is

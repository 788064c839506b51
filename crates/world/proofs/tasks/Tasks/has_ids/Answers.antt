use Rattle.std.proofs.Common.{◌<◌, ◌≤◌, ◌∙◌, ℕ, sym, ap, arith, rules}
use Rattle.std.specs.Prelude.{map}
use Rattle.std.specs.List.{AllByRecursion}
use Rattle.spec_value.specs.Table.{Numbered}
use Rattle.spec_world.specs.World.{Task}
use Rattle.world.proofs.Listed.{all_ids}
use Rattle.world.proofs.tasks.Tasks.has_ids.Goals as goal

pub is_gathered-requires : goal.is_gathered-requires
is_gathered-requires c =
    let keys : AllByRecursion (λ (e : ℕ × Task). e.0 < 4294967296) c.self.inside.tasks.entries = c.self.invariant.ids in
    let bound : 4294967296 ≤ 4294967296 = omega arith in
    search (rules, keys, bound)

pub returns : goal.returns
returns c =
    let listed = all_ids c.self.inside.tasks.entries ∙ ap (λ (ts : Numbered Task). map (λ e. e.0) ts) c.self.view_is in
    (λ h. sym listed ∙ c.is_gathered.ensures.0 h, λ e. c.is_gathered.ensures.1 (listed ∙ e))

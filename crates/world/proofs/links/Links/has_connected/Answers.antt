use Rattle.std.proofs.Common.{◌<◌, ◌≤◌, ◌∙◌, ℕ, pos, int_le, sym, ap, arith, rules, map, filter}
use Rattle.std.specs.List.{AllByRecursion}
use Rattle.spec_value.specs.Table.{Numbered}
use Rattle.spec_world.specs.World.{Link}
use Rattle.world.proofs.Listed.{logged_in, within}
use Rattle.world.proofs.links.Links.has_connected.Goals as goal

pub is_gathered-requires : goal.is_gathered-requires
is_gathered-requires c =
    let keys : AllByRecursion (λ (e : ℕ × Link). e.0 < 1048576) c.self.inside.links.entries = within 1048576 1048576 c.self.inside.links.entries (omega arith) c.len-within.ensures.within in
    let bound : 1048576 ≤ 4294967296 = omega arith in
    search (rules, keys, bound)

pub returns : goal.returns
returns c =
    let listed = logged_in c.self.inside.links.entries ∙ ap (λ (ls : Numbered Link). map (λ e. (e.0, (e.1).person)) (filter (λ e. int_le (pos 0) (e.1).person) ls)) c.self.view_is in
    (λ h. sym listed ∙ c.is_gathered.ensures.0 h, λ e. c.is_gathered.ensures.1 (listed ∙ e))

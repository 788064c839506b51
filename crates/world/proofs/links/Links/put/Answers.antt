use Rattle.std.proofs.Common.{◌≡◌, ◌∙◌, ℕ, negsuc, sym, ap, rules}
use Rattle.spec_value.specs.Table.{Numbered}
use Rattle.spec_world.specs.World.{Link}
use Rattle.spec_world.specs.Questions.{put_record}
use Rattle.world.proofs.Maps.{any_below}
use Rattle.world.proofs.links.Links.put.Goals as goal

pub returns-in-None-default-clause-ok : goal.returns-in-None-default-clause-ok
returns-in-None-default-clause-ok c =
    let below : (n : ℕ) × (c.args.number ≡ negsuc n) = search rules in
    let same = any_below c.self.inside.links.entries c.args.number below.0 c.args.link below.1 in
    sym c.self.view_is ∙ sym same ∙ ap (λ (ls : Numbered Link). put_record ls c.args.number c.args.link) c.self.view_is

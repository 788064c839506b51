use Rattle.std.proofs.Common.{◌≡◌, w32}
use Rattle.std.specs.Prelude.{option_map}
use Rattle.std.proofs.lemmas.Int.{to_z-of_z}
use Rattle.spec_world.specs.Questions.{header_at}
use Rattle.rules.specs.Lines.{IsAbove}
use Rattle.rules.proofs.Walks.{above_named}
use Rattle.rules.proofs.Tellings.{told_as}
use Rattle.rules.proofs.inherit.line.parent.Goals as goal

pub returns-clause-left : goal.returns-clause-left
returns-clause-left g c =
    told_as g.V.View.holds g.V.View.now c.args.view.now c.read_parent.new.view (λ w. option_map (λ h. h.parent) (header_at w c.args.object) ≡ c.in_ok-named.named) (λ w. IsAbove w c.args.object c.parent_named.result)
    c.requires (rw (to_z-of_z w32 c.args.object c.ranges.object) at c.in_ok-named.ensures.left)
    (λ w sound is. above_named w c.args.object c.in_ok-named.named c.parent_named.result sound is c.parent_named.ensures)

use Rattle.std.proofs.Common.{◌≡◌, ◌+◌, ◌-◌, length, sym, ◌∙◌, ap, arith, ℕ}
use Rattle.std.specs.declared.cmp.Ordering.TheVariants.{Greater}
use Rattle.spec_value.specs.Datum.{Text, fold_case}
use Rattle.spec_world.specs.World.{Slot}
use Rattle.view.proofs.Named.{R}
use Rattle.view.proofs.Placed.{put_at_end}
use Rattle.view.proofs.slots.is_behind.Goals as goal

pub returns-in-Greater : goal.returns-in-Greater
returns-in-Greater c =
    let k = fold_case c.args.name.now in
    let es = c.args.entries.now in
    let e = c.index-entries-count.result in
    let last : ℕ = length es - 1 in
    let is_last : last + 1 ≡ length es = omega arith in
    let order : R k e.0 ≡ Greater = ap (λ (p : Text × Slot). R k p.0) c.index-entries-count.is ∙ sym c.order.ensures ∙ c.in-Greater.is in
    λ yes s. put_at_end k s es last e c.requires is_last c.index-entries-count.is order

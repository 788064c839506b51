use Rattle.std.proofs.Common.{◌≡◌, ℤ, pos, List, get_or, All, subst, refl, w32, to_z, of_z, rules}
use Rattle.std.proofs.lemmas.List.{take_all}
use Rattle.std.proofs.lemmas.List.Elements.{All-more}
use Rattle.world_checks.proofs.Linked.{FitsThere}
use Rattle.world_checks.proofs.object_checks.links.all_fit.Goals as goal

pub loop-number-preserved : goal.loop-number-preserved
loop-number-preserved c =
    let item : to_z w32 (of_z w32 (get_or c.args.numbers.now c.loop-number.number-index (pos 0))) ≡ get_or c.args.numbers.now c.loop-number.number-index (pos 0) = search rules in
    All-more (FitsThere c.args.draft.now) c.args.numbers.now c.loop-number.number-index (pos 0) c.loop-number-test.true c.loop-number.invariant
    (rw item at (c.if-not-fits_at.ensures.tells refl))

pub returns-clause-tells : goal.returns-clause-tells
returns-clause-tells c h =
    subst (λ (xs : List ℤ). All (FitsThere c.args.draft.now) xs) (take_all c.loop-number.number-index c.args.numbers.now c.loop-number-test.false) c.loop-number.invariant

pub returns-then-not-fits_at-clause-finds : goal.returns-then-not-fits_at-clause-finds
returns-then-not-fits_at-clause-finds c fit = c.if-not-fits_at.ensures.finds (λ k e. fit _ k e)

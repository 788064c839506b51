use Rattle.std.proofs.Common.{◌≡◌, ℤ, pos, List, get_or, All, IsTrue, ◌∙◌, sym, true, false, subst, w32, to_z, of_z, rules, arith}
use Rattle.std.proofs.lemmas.List.{take_all}
use Rattle.std.proofs.lemmas.List.Elements.{All-more}
use Rattle.world_checks.specs.DraftChecksTasks.{TaskFitsAt}
use Rattle.world_checks.proofs.draft_checks.tasks.all_fit.Goals as goal

pub loop-id-preserved : goal.loop-id-preserved
loop-id-preserved c =
    let item : to_z w32 (of_z w32 (get_or c.args.ids.now c.loop-id.id-index (pos 0))) ≡ get_or c.args.ids.now c.loop-id.id-index (pos 0) = search rules in
    let fits : IsTrue c.in_ok-fits.fits = first_of (cc, search rules) in
    All-more (TaskFitsAt c.args.draft.now) c.args.ids.now c.loop-id.id-index (pos 0) c.loop-id-test.true c.loop-id.invariant (rw item at (c.in_ok-fits.ensures.tells fits))

pub returns-clause-tells : goal.returns-clause-tells
returns-clause-tells c h = subst (λ (xs : List ℤ). All (TaskFitsAt c.args.draft.now) xs) (take_all c.loop-id.id-index c.args.ids.now c.loop-id-test.false) c.loop-id.invariant

pub returns-then-not-fits-clause-finds : goal.returns-then-not-fits-clause-finds
returns-then-not-fits-clause-finds c each =
    let yes : c.in_ok-fits.fits ≡ true = c.in_ok-fits.ensures.finds (each _) in
    let no : c.in_ok-fits.fits ≡ false = first_of (search rules, grind arith) in
    sym no ∙ yes

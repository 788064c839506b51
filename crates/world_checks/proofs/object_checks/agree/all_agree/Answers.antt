use Rattle.std.proofs.Common.{◌≡◌, ℤ, pos, List, get_or, All, sym, ◌∙◌, subst, true, false, w32, to_z, of_z, arith, rules}
use Rattle.std.proofs.lemmas.List.{take_all}
use Rattle.std.proofs.lemmas.List.Elements.{All-more}
use Rattle.world_checks.proofs.Agreed.{AgreesThere}
use Rattle.world_checks.proofs.object_checks.agree.all_agree.Goals as goal

pub loop-number-preserved : goal.loop-number-preserved
loop-number-preserved c =
    let item : to_z w32 (of_z w32 (get_or c.args.numbers.now c.loop-number.number-index (pos 0))) ≡ get_or c.args.numbers.now c.loop-number.number-index (pos 0) = search rules in
    let yes : c.in_ok-agrees.agrees ≡ true = first_of (search rules, grind arith) in
    All-more (AgreesThere c.args.family.now.ranks c.args.whereabouts.now.ranks c.args.draft.now) c.args.numbers.now c.loop-number.number-index (pos 0) c.loop-number-test.true
    c.loop-number.invariant (rw item at (c.in_ok-agrees.ensures.tells yes))

pub returns-clause-tells : goal.returns-clause-tells
returns-clause-tells c h =
    subst (λ (xs : List ℤ). All (AgreesThere c.args.family.now.ranks c.args.whereabouts.now.ranks c.args.draft.now) xs)
    (take_all c.loop-number.number-index c.args.numbers.now c.loop-number-test.false) c.loop-number.invariant

pub returns-then-not-agrees-clause-finds : goal.returns-then-not-agrees-clause-finds
returns-then-not-agrees-clause-finds c a b each =
    let yes : c.in_ok-agrees.agrees ≡ true = c.in_ok-agrees.ensures.finds a b (λ x e. each _ x e) in
    let no : c.in_ok-agrees.agrees ≡ false = first_of (search rules, grind arith) in
    sym no ∙ yes

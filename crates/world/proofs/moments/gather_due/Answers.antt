use Rattle.std.proofs.Common.{◌≡◌, ◌∙◌, ◌+◌, ◌≤◌, ◌++◌, ◌∷◌, [], ap, sym, subst, w32, FitsSigned, arith, rules}
use Rattle.std.proofs.lemmas.Int.{to_z-of_z}
use Rattle.world.specs.Numbered.{signed_key}
use Rattle.world.proofs.DueWalks.{IsGathered, none_gathered, one_gathered, fewer_left, all_gathered, rest_later}
use Rattle.world.proofs.moments.gather_due.Goals as goal

pub loop-found-init : goal.loop-found-init
loop-found-init c = subst (λ ids. IsGathered signed_key c.args.now c.args.moments.now 0 0 ids) (sym c.new-ids.ensures.items) (none_gathered signed_key c.args.now c.args.moments.now)

pub returns-then-found-now : goal.returns-then-found-now
returns-then-found-now c =
    rest_later signed_key c.args.now c.args.moments.now c.loop-found.moment c.loop-found.key (c.in-Some.found, c.in-Some.found_key) c.loop-found.ids.items c.is_empty-sorted.ensures.sorted c.in-Some.ensures.value
    c.if-found-now.true c.loop-found.invariant

pub loop-found-smaller : goal.loop-found-smaller
loop-found-smaller c =
    fewer_left signed_key c.args.now c.args.moments.now c.loop-found.moment c.loop-found.key (c.in-Some.found, c.in-Some.found_key) c.is_empty-sorted.ensures.sorted c.in-Some.ensures.value

pub loop-found-preserved : goal.loop-found-preserved
loop-found-preserved c =
    let fits : FitsSigned w32 c.id_of.result = search rules in
    let le : c.in-Some.found ≤ c.args.now = omega arith in
    let is : c.push.new.self.items ≡ c.loop-found.ids.items ++ signed_key c.in-Some.found_key ∷ [] =
    c.in_ok-push.ensures.items ∙ ap (λ i. c.loop-found.ids.items ++ i ∷ []) (to_z-of_z w32 c.id_of.result fits ∙ c.id_of.ensures) in
    subst (λ ids. IsGathered signed_key c.args.now c.args.moments.now c.in-Some.found (c.in-Some.found_key + 1) ids) (sym is)
    (one_gathered signed_key c.args.now c.args.moments.now c.loop-found.moment c.loop-found.key (c.in-Some.found, c.in-Some.found_key) c.loop-found.ids.items c.is_empty-sorted.ensures.sorted c.in-Some.ensures.value le c.loop-found.invariant)

pub returns : goal.returns
returns c = all_gathered signed_key c.args.now c.args.moments.now c.loop-found.moment c.loop-found.key c.loop-found.ids.items c.in_default.ensures.value c.loop-found.invariant

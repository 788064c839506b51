use Rattle.std.proofs.Common.{◌≡◌, ◌+◌, ◌<◌, ◌≤◌, ◌++◌, ◌∷◌, [], ℕ, ℤ, Option, Some, pos, refl, ap, subst, sym, ◌∙◌, w32, FitsSigned, arith, rules}
use Rattle.std.proofs.lemmas.Int.{to_z-of_z}
use Rattle.world.specs.Paired.{keys_of}
use Rattle.world.proofs.Gathered.{Gathered, left, all_left, one_gathered, all_gathered}
use Rattle.world.proofs.Listed.{all_numbers}
use Rattle.world.proofs.PairsWalks.{of_sorted}
use Rattle.world.proofs.Walks.{found_within, found_reaches}
use Rattle.world.proofs.pairs.gather_of.Goals as goal

abbrev number : ℕ → ℕ → Option ℤ
number k _ = Some (pos k)

pub loop-found-init : goal.loop-found-init
loop-found-init c =
    let es = keys_of c.args.number c.args.pairs.now in
    record { within = omega arith; gathered = ap (λ ts. ts ++ left number es 0) c.new-keys.ensures.items ∙ all_left number es }

pub number_of-requires : goal.number_of-requires
number_of-requires c = found_within 1048576 c.loop-found.key (keys_of c.args.number c.args.pairs.now) (c.in-Some.found, c.args.number) c.requires c.in-Some.ensures

pub overflow_add-key : goal.overflow_add-key
overflow_add-key c =
    let below : c.in-Some.found < 1048576 = found_within 1048576 c.loop-found.key (keys_of c.args.number c.args.pairs.now) (c.in-Some.found, c.args.number) c.requires c.in-Some.ensures in
    omega arith

pub loop-found-smaller : goal.loop-found-smaller
loop-found-smaller c =
    let es = keys_of c.args.number c.args.pairs.now in
    let below : c.in-Some.found < 1048576 = found_within 1048576 c.loop-found.key es (c.in-Some.found, c.args.number) c.requires c.in-Some.ensures in
    let above : c.loop-found.key ≤ c.in-Some.found = found_reaches c.loop-found.key es (c.in-Some.found, c.args.number) c.in-Some.ensures in
    omega arith

pub loop-found-preserved : goal.loop-found-preserved
loop-found-preserved c =
    let es = keys_of c.args.number c.args.pairs.now in
    let below : c.in-Some.found < 1048576 = found_within 1048576 c.loop-found.key es (c.in-Some.found, c.args.number) c.requires c.in-Some.ensures in
    let fits : FitsSigned w32 c.number_of.result = search rules in
    let is : c.push.new.self.items ≡ c.loop-found.keys.items ++ pos c.in-Some.found ∷ [] =
    c.in_ok-push.ensures.items ∙ ap (λ i. c.loop-found.keys.items ++ i ∷ []) (to_z-of_z w32 c.number_of.result fits ∙ c.number_of.ensures) in
    let gathered : Gathered number es (c.in-Some.found + 1) c.push.new.self.items =
    subst (λ ts. Gathered number es (c.in-Some.found + 1) ts) (sym is)
    (one_gathered number es c.loop-found.key (c.in-Some.found, c.args.number) (pos c.in-Some.found) c.loop-found.keys.items (of_sorted c.args.number c.args.pairs.now c.is_empty-sorted.ensures.sorted) c.in-Some.ensures refl c.loop-found.invariant.gathered) in
    record { within = omega arith; gathered = gathered }

pub returns : goal.returns
returns c =
    let es = keys_of c.args.number c.args.pairs.now in
    all_gathered number es c.loop-found.key c.loop-found.keys.items c.in_default.ensures c.loop-found.invariant.gathered ∙ all_numbers es

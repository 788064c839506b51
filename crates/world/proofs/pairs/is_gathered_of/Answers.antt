use Rattle.std.proofs.Common.{◌≡◌, ◌+◌, ◌<◌, ◌≤◌, ℕ, ℤ, Option, Some, pos, length, refl, sym, ◌∙◌, ap, w32, FitsSigned, arith, rules}
use Rattle.std.specs.Prelude.{slice_get}
use Rattle.std.proofs.lemmas.Bool.Decides.{nat_tests}
use Rattle.std.proofs.lemmas.Int.{to_z-of_z}
use Rattle.world.specs.Paired.{keys_of}
use Rattle.world.proofs.Gathered.{Matches, first_matches, one_matches, one_there, there_is, all_match}
use Rattle.world.proofs.Listed.{all_numbers}
use Rattle.world.proofs.PairsWalks.{of_sorted}
use Rattle.world.proofs.Walks.{found_within, found_reaches}
use Rattle.world.proofs.pairs.is_gathered_of.Goals as goal

abbrev number : ℕ → ℕ → Option ℤ
number k _ = Some (pos k)

pub loop-found-init : goal.loop-found-init
loop-found-init c =
    record { within = omega arith; few = omega arith; count = omega arith; same = first_matches number (keys_of c.args.number c.args.pairs.now) c.args.keys.now }

pub number_of-requires : goal.number_of-requires
number_of-requires c = found_within 1048576 c.loop-found.key (keys_of c.args.number c.args.pairs.now) (c.in-Some.found, c.args.number) c.requires c.in-Some.ensures

pub returns-then-not-is_at : goal.returns-then-not-is_at
returns-then-not-is_at c =
    let es = keys_of c.args.number c.args.pairs.now in
    let fits : FitsSigned w32 c.number_of.result = search rules in (
      λ h. absurd (cc),
      λ e.
          c.if-not-is_at.ensures.1
          (one_there number es c.loop-found.key c.loop-found.count (c.in-Some.found, c.args.number) (pos c.in-Some.found) c.args.keys.now (of_sorted c.args.number c.args.pairs.now c.is_empty-sorted.ensures.sorted) c.in-Some.ensures refl c.loop-found.invariant.same (all_numbers es ∙ e)
          ∙ ap Some (sym (to_z-of_z w32 c.number_of.result fits ∙ c.number_of.ensures))),
    )

pub overflow_add-count : goal.overflow_add-count
overflow_add-count c =
    let few : c.loop-found.count ≤ c.loop-found.key = c.loop-found.invariant.few in
    let within : c.loop-found.key ≤ 1048576 = c.loop-found.invariant.within in
    omega arith

pub overflow_add-key : goal.overflow_add-key
overflow_add-key c =
    let below : c.in-Some.found < 1048576 = found_within 1048576 c.loop-found.key (keys_of c.args.number c.args.pairs.now) (c.in-Some.found, c.args.number) c.requires c.in-Some.ensures in
    omega arith

pub loop-found-smaller : goal.loop-found-smaller
loop-found-smaller c =
    let es = keys_of c.args.number c.args.pairs.now in
    let below : c.in-Some.found < 1048576 = found_within 1048576 c.loop-found.key es (c.in-Some.found, c.args.number) c.requires c.in-Some.ensures in
    let above : c.loop-found.key ≤ c.in-Some.found = found_reaches c.loop-found.key es (c.in-Some.found, c.args.number) c.in-Some.ensures in
    omega arith

pub loop-found-preserved : goal.loop-found-preserved
loop-found-preserved c =
    let es = keys_of c.args.number c.args.pairs.now in
    let below : c.in-Some.found < 1048576 = found_within 1048576 c.loop-found.key es (c.in-Some.found, c.args.number) c.requires c.in-Some.ensures in
    let above : c.loop-found.key ≤ c.in-Some.found = found_reaches c.loop-found.key es (c.in-Some.found, c.args.number) c.in-Some.ensures in
    let few : c.loop-found.count ≤ c.loop-found.key = c.loop-found.invariant.few in
    let fits : FitsSigned w32 c.number_of.result = search rules in
    let there : slice_get c.args.keys.now c.loop-found.count ≡ Some (pos c.in-Some.found) =
    c.if-not-is_at.ensures.0 refl ∙ ap Some (to_z-of_z w32 c.number_of.result fits ∙ c.number_of.ensures) in
    let count : c.loop-found.count + 1 ≤ length c.args.keys.now = there_is number es c.loop-found.count (pos c.in-Some.found) c.args.keys.now there in
    let same : Matches number es (c.in-Some.found + 1) (c.loop-found.count + 1) c.args.keys.now =
    one_matches number es c.loop-found.key c.loop-found.count (c.in-Some.found, c.args.number) (pos c.in-Some.found) c.args.keys.now (of_sorted c.args.number c.args.pairs.now c.is_empty-sorted.ensures.sorted) c.in-Some.ensures refl there c.loop-found.invariant.same in
    record { within = omega arith; few = omega arith; count = count; same = same }

pub returns : goal.returns
returns c =
    let es = keys_of c.args.number c.args.pairs.now in
    let end = all_match number es c.loop-found.key c.loop-found.count c.args.keys.now c.in_default.ensures c.loop-found.invariant.count c.loop-found.invariant.same in (
      λ h. sym (all_numbers es) ∙ end.0 (let is : c.loop-found.count ≡ length c.args.keys.now = grind (arith, nat_tests) in is),
      λ e. let is : c.loop-found.count ≡ length c.args.keys.now = end.1 (all_numbers es ∙ e) in grind (arith, nat_tests),
    )

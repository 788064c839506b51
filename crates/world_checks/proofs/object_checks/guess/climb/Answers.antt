use Rattle.std.proofs.Common.{◌≡◌, ◌≤◌, ◌++◌, ◌∷◌, [], Some, None, sym, subst, w32, to_z, of_z, rules, arith}
use Rattle.std.proofs.lemmas.Int.{to_z-of_z}
use Rattle.spec_world.specs.World.{object_at}
use Rattle.world_checks.specs.Marks.{mark_of}
use Rattle.world_checks.specs.Guessed.{Climbed}
use Rattle.world_checks.specs.Ways.{up_of}
use Rattle.world_checks.proofs.Climbing.{climb_step, climbed_out, climbed_to, climbed_all}
use Rattle.world_checks.proofs.object_checks.guess.climb.Goals as goal

pub returns-in_default : goal.returns-in_default
returns-in_default c may depth deep ranked empty le =
    let from : to_z w32 (of_z w32 c.args.from) ≡ c.args.from = to_z-of_z w32 c.args.from c.ranges.from in
    let none : object_at c.args.draft.now (to_z w32 c.loop.here-bits) ≡ None = first_of (cc, search rules) in
    let climbing = rw from at c.loop.invariant in
    climbed_out c.args.way c.args.draft.now depth deep c.args.ranks.now c.loop.ranks c.args.from (to_z w32 c.loop.here-bits) c.loop.line.items c.loop.counter none (climbing may depth deep ranked empty le)

pub returns-then-rank-gt0 : goal.returns-then-rank-gt0
returns-then-rank-gt0 c may depth deep ranked empty le =
    let from : to_z w32 (of_z w32 c.args.from) ≡ c.args.from = to_z-of_z w32 c.args.from c.ranges.from in
    let at : object_at c.args.draft.now (to_z w32 c.loop.here-bits) ≡ Some c.in-Some.object.now = first_of (cc, search rules) in
    let rank : c.get-rank.result ≡ mark_of c.loop.ranks (to_z w32 c.loop.here-bits) = first_of (cc, search rules) in
    let some : 1 ≤ mark_of c.loop.ranks (to_z w32 c.loop.here-bits) = omega (arith, rank, c.if-rank-gt0.true) in
    let climbing = rw from at c.loop.invariant in
    subst (λ n. Climbed depth c.args.draft.now c.args.ranks.now c.loop.ranks c.args.from c.loop.line.items n) (sym rank)
    (climbed_to c.args.way c.args.draft.now depth deep c.args.ranks.now c.loop.ranks c.args.from (to_z w32 c.loop.here-bits) c.loop.line.items c.loop.counter c.in-Some.object.now ranked at some (climbing may depth deep ranked empty le))

pub loop-preserved : goal.loop-preserved
loop-preserved c may depth deep ranked empty le =
    let at : object_at c.args.draft.now (to_z w32 c.loop.here-bits) ≡ Some c.in-Some.object.now = first_of (cc, search rules) in
    let up : to_z w32 (of_z w32 c.up-here.result) ≡ up_of c.args.way c.in-Some.object.now = first_of (cc, search rules) in
    let given = c.in_ok-put.ensures in
    let pushed : c.push.new.self.items ≡ c.loop.line.items ++ (to_z w32 c.loop.here-bits) ∷ [] = first_of (cc, search rules) in
    rw (up, pushed)
    (climb_step c.args.way c.args.draft.now depth deep c.args.ranks.now c.loop.ranks c.put.new.self (to_z w32 (of_z w32 c.args.from)) (to_z w32 c.loop.here-bits) c.loop.line.items c.loop.counter c.in-Some.object.now may at given
    (c.loop.invariant may depth deep ranked empty le))

pub returns : goal.returns
returns c may depth deep ranked empty le =
    let from : to_z w32 (of_z w32 c.args.from) ≡ c.args.from = to_z-of_z w32 c.args.from c.ranges.from in
    let climbing = rw from at c.loop.invariant in
    climbed_all c.args.way c.args.draft.now depth deep c.args.ranks.now c.loop.ranks c.args.from (to_z w32 c.loop.here-bits) c.loop.line.items c.loop.counter (omega (arith, le, c.loop-test.false)) (climbing may depth deep ranked empty le)

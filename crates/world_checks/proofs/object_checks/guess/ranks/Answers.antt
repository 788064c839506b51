use Rattle.std.proofs.Common.{◌≡◌, ◌<◌, ◌^◌, length, pos, get_or, w32, to_z, of_z, rules, arith}
use Rattle.std.proofs.lemmas.Option.{slice_get-get_or}
use Rattle.world_checks.proofs.Climbing.{more_ranked, all_ranked}
use Rattle.world_checks.proofs.Depths.{depth_bound}
use Rattle.world_checks.proofs.object_checks.guess.ranks.Goals as goal

pub loop-number-preserved : goal.loop-number-preserved
loop-number-preserved c =
    let numbers = c.args.numbers.now in
    let i = c.loop-number.number-index in
    let from = get_or numbers i (pos 0) in
    let item : to_z w32 (of_z w32 from) ≡ from = search rules in
    let at = slice_get-get_or numbers i (pos 0) c.loop-number-test.true in
    let climb = rw item at c.in_ok-above.ensures in
    let few : length numbers < 2 ^ 64 = search rules in
    record {
      empty = c.in_ok-settle.ensures.line;
      ranked = λ may all depth deep.
          let before = c.loop-number.invariant.ranked may all depth deep in
          let bound = depth_bound c.args.way c.args.draft.now depth deep numbers all from in
          let climbed = climb may depth deep before.may_be c.loop-number.invariant.empty bound in
          let settled = c.in_ok-settle.ensures.ranks depth (depth from) climbed.falls climbed.rest (omega (arith, few, bound)) climbed.marked in
          more_ranked depth c.args.draft.now numbers c.climb.new.line.items c.loop-number.ranks c.climb.new.ranks c.settle.new.ranks i c.in_ok-above.above from at climbed settled before;
    }

pub returns : goal.returns
returns c may all depth deep =
    all_ranked depth c.args.draft.now c.args.numbers.now c.loop-number.ranks c.loop-number.number-index all c.loop-number-test.false (c.loop-number.invariant.ranked may all depth deep)

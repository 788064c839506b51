use Rattle.std.proofs.Common.{◌-◌, ◌≤◌, drop, arith, length-take}
use Rattle.speculate.proofs.Parts.{part_runs_on}
use Rattle.moo_server.proofs.Plays.{none_played, part_played, only_memory, ended_in_part}
use Rattle.moo_server.proofs.parts.play_steps.Goals as goal

pub part-init : goal.part-init
part-init g c = record { inside = omega arith; played = none_played c.args.world.plain c.args.steps.now _ }

pub end_in_part-requires-clause-memory : goal.end_in_part-requires-clause-memory
end_in_part-requires-clause-memory g c =
    let (outcomes, played, wrote) = c.part.invariant.played in
    let runs = part_runs_on c.args.world.plain c.part.world.plain c.args.steps.now outcomes c.part.first c.end_of_part-end.result c.know.ensures c.part.invariant.inside c.requires.numbers.0 c.requires.numbers.1 played in
    only_memory c.in-Err.partial.refusal c.args.workers _ c.requires.workers.0 c.requires.workers.1 runs c.in-Err.ensures.workers.0 c.in-Err.ensures.numbers.0

pub returns-in-Err : goal.returns-in-Err
returns-in-Err g c =
    let ss = c.args.steps.now in
    let first = c.part.first in
    let end = c.end_of_part-end.result in
    let fits : c.in-Err.partial.count ≤ end - first = omega (arith, c.in-Err.ensures.err.1, length-take (end - first) (drop first ss)) in
    ended_in_part c.args.world.plain c.part.world.plain ss first end c.in-Err.partial _ _ _ c.end_in_part.result (omega arith) (omega arith) fits c.part.invariant.played c.in-Err.ensures.part c.end_in_part.ensures

pub part-preserved : goal.part-preserved
part-preserved g c = record {
  inside = omega arith;
  played =
      let wrote = rw c.deref.ensures.value at c.in-Ok-print_steps.ensures in
      part_played c.args.world.plain c.part.world.plain c.in-Ok.report.world.plain c.args.steps.now _ _ _ _ c.part.first c.end_of_part-end.result (omega arith) c.part.invariant.played c.in-Ok.ensures.ok wrote;
}

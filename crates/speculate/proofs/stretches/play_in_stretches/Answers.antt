use Rattle.std.proofs.Common.{◌≡◌, ℕ, ◌+◌, ◌-◌, ◌≤◌, List, length, take, drop, slice_range, vec_items, sym, ap, ◌∙◌, subst, arith, length-take, length-drop, rules}
use Rattle.spec_world.specs.Outcome.{Outcome}
use Rattle.spec_moo.specs.Steps.{play}
use Rattle.speculate.specs.BoardState.{runs}
use Rattle.speculate.proofs.Plays.{play_none, nothing_played}
use Rattle.speculate.proofs.Parts.{part_runs_on, played_part, played_in_part}
use Rattle.speculate.proofs.stretches.play_in_stretches.Goals as goal

pub returns-in-Err-clause-part : goal.returns-in-Err-clause-part
returns-in-Err-clause-part g c =
    let r = c.refused.result in
    nothing_played c.args.world r.world c.args.steps.now r.count r.outcomes.items c.refused.ensures.3 c.refused.ensures.1 c.refused.ensures.2

pub stretch-init : goal.stretch-init
stretch-init g c =
    let none : runs (vec_items c.in-Ok.places.1) ≡ 0 = ap runs c.in-Ok.ensures.empty.1 in record {
      inside = omega arith;
      played = play_none c.args.world.plain c.args.steps.now ∙ ap (λ (os : List Outcome). (c.args.world.plain, os)) (sym c.in-Ok.ensures.empty.0);
      outcomes = c.in-Ok.ensures.none.0;
      marks = c.in-Ok.ensures.none.1;
      outcomes_room = c.in-Ok.ensures.room.0;
      marks_room = c.in-Ok.ensures.room.1;
      views = omega (arith, none);
    }

pub go_on-requires-clause-runs : goal.go_on-requires-clause-runs
go_on-requires-clause-runs g c =
    let runs_on =
    part_runs_on c.args.world.plain c.stretch.report.world.plain c.args.steps.now (vec_items c.stretch.report.outcomes) c.stretch.at (c.stretch.at + c.count-count.result) c.know.ensures
    c.stretch.invariant.inside c.requires.runs.0 c.requires.runs.1 c.stretch.invariant.played
    in search (rules, runs_on)

pub returns-in-Err-go_on-clause-part : goal.returns-in-Err-go_on-clause-part
returns-in-Err-go_on-clause-part g c =
    let ss = c.args.steps.now in
    let at = c.stretch.at in
    let end = at + c.count-count.result in
    let p = c.in-Err-go_on.partial in
    let (n, few, counted, behind) = c.in-Err-go_on.ensures.part in
    let inside : n ≤ end - at = omega (arith, few, length-take (end - at) (drop at ss)) in
    let is : p.count ≡ at + n = omega (arith, counted, c.stretch.invariant.outcomes) in
    let P : ℕ → Type 0 = λ k. play c.args.world.plain (take k ss) ≡ (p.world.plain, p.outcomes.items) in
    subst P (sym is) (played_in_part c.args.world.plain c.stretch.report.world.plain p.world.plain ss at end n _ _ inside c.stretch.invariant.played behind)

pub stretch-preserved : goal.stretch-preserved
stretch-preserved g c =
    let ss = c.args.steps.now in
    let at = c.stretch.at in
    let end = at + c.count-count.result in
    let long : length (slice_range ss at end) ≡ c.count-count.result = omega (arith, length-take (end - at) (drop at ss), length-drop at ss) in record {
      inside = omega arith;
      played = played_part c.args.world.plain c.stretch.report.world.plain c.in-Ok-go_on.longer.world.plain ss at end _ _ (omega arith) c.stretch.invariant.played c.in-Ok-go_on.ensures.ok;
      outcomes = omega (arith, long, c.in-Ok-go_on.ensures.count.0, c.stretch.invariant.outcomes);
      marks = omega (arith, long, c.in-Ok-go_on.ensures.count.1, c.stretch.invariant.marks);
      outcomes_room = omega (arith, c.in-Ok-go_on.ensures.room.0, c.stretch.invariant.outcomes_room);
      marks_room = omega (arith, c.in-Ok-go_on.ensures.room.1, c.stretch.invariant.marks_room);
      views = omega (arith, c.in-Ok-go_on.ensures.views, c.stretch.invariant.views);
    }

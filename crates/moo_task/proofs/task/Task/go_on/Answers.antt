use Rattle.std.proofs.Common.{◌≡◌, ◌∙◌, ap, sym, refl, to_z, of_z, w32, rules}
use Rattle.std.specs.Arc.{arc_value}
use Rattle.moo_task.specs.Effects.{waiting_of}
use Rattle.moo_task.specs.Frames.{kept_of}
use Rattle.moo_task.specs.Outcomes.{running_kept}
use Rattle.moo_task.proofs.Going.{fork_goes_on, other_goes_on, goes_pending, goes_under_way}
use Rattle.moo_task.proofs.task.Task.go_on.Goals as goal

pub returns-in-Forked-clause-pending : goal.returns-in-Forked-clause-pending
returns-in-Forked-clause-pending c =
    let player : to_z w32 (of_z w32 c.self.inside.player) ≡ c.self.inside.player = search rules in
    (fork_goes_on c.args.self.now c.self.inside.player (waiting_of c.self.inside.waiting) _ c.args.value (kept_of c.in_ok-frame.frame)
    (running_kept c.begun.result) (arc_value c.self.inside.verbs) c.in_ok-frame.outer c.begun.result.outer c.begun.result.player
    c.self.view_is c.self.invariant (ap waiting_of c.in-Forked.is) (sym c.deref.ensures ∙ c.in_ok-frame.ensures)
    (c.begun.ensures.player ∙ player) c.begun.ensures.kept c.begun.ensures.outer).0

pub returns-in-Forked-clause-under_way : goal.returns-in-Forked-clause-under_way
returns-in-Forked-clause-under_way c =
    let player : to_z w32 (of_z w32 c.self.inside.player) ≡ c.self.inside.player = search rules in
    (fork_goes_on c.args.self.now c.self.inside.player (waiting_of c.self.inside.waiting) _ c.args.value (kept_of c.in_ok-frame.frame)
    (running_kept c.begun.result) (arc_value c.self.inside.verbs) c.in_ok-frame.outer c.begun.result.outer c.begun.result.player
    c.self.view_is c.self.invariant (ap waiting_of c.in-Forked.is) (sym c.deref.ensures ∙ c.in_ok-frame.ensures)
    (c.begun.ensures.player ∙ player) c.begun.ensures.kept c.begun.ensures.outer).1

pub returns-in_ok-value-in-Timed-clause-pending : goal.returns-in_ok-value-in-Timed-clause-pending
returns-in_ok-value-in-Timed-clause-pending c =
    let player : to_z w32 (of_z w32 c.self.inside.player) ≡ c.self.inside.player = search rules in
    goes_pending c.args.self.now c.args.value c.go_on.result
    (other_goes_on c.args.self.now c.self.inside.player _ (waiting_of c.self.inside.waiting) _ c.args.value c.in_ok-value-in-Timed.value
    (kept_of c.in_ok-frame.frame) (arc_value c.self.inside.verbs) c.in_ok-frame.outer c.go_on.result
    c.self.view_is c.self.invariant (ap waiting_of c.in-Timed.is) tt c.in_ok-value-in-Timed.ensures.cases
    (sym c.deref.ensures ∙ c.in_ok-frame.ensures) player
    c.go_on.ensures.kept c.go_on.ensures.player c.go_on.ensures.outer)

pub returns-in_ok-value-in-Timed-clause-under_way : goal.returns-in_ok-value-in-Timed-clause-under_way
returns-in_ok-value-in-Timed-clause-under_way c =
    let player : to_z w32 (of_z w32 c.self.inside.player) ≡ c.self.inside.player = search rules in
    goes_under_way c.args.self.now c.args.value c.go_on.result
    (other_goes_on c.args.self.now c.self.inside.player _ (waiting_of c.self.inside.waiting) _ c.args.value c.in_ok-value-in-Timed.value
    (kept_of c.in_ok-frame.frame) (arc_value c.self.inside.verbs) c.in_ok-frame.outer c.go_on.result
    c.self.view_is c.self.invariant (ap waiting_of c.in-Timed.is) tt c.in_ok-value-in-Timed.ensures.cases
    (sym c.deref.ensures ∙ c.in_ok-frame.ensures) player
    c.go_on.ensures.kept c.go_on.ensures.player c.go_on.ensures.outer)

pub returns-in-Idle-clause-pending : goal.returns-in-Idle-clause-pending
returns-in-Idle-clause-pending c =
    let player : to_z w32 (of_z w32 c.self.inside.player) ≡ c.self.inside.player = search rules in
    goes_pending c.args.self.now c.args.value c.go_on-in-Idle.result
    (other_goes_on c.args.self.now c.self.inside.player _ (waiting_of c.self.inside.waiting) _ c.args.value c.args.value
    (kept_of c.in_ok-frame.frame) (arc_value c.self.inside.verbs) c.in_ok-frame.outer c.go_on-in-Idle.result
    c.self.view_is c.self.invariant (ap waiting_of c.in-Idle.is) tt refl (sym c.deref.ensures ∙ c.in_ok-frame.ensures) player
    c.go_on-in-Idle.ensures.kept c.go_on-in-Idle.ensures.player c.go_on-in-Idle.ensures.outer)

pub returns-in-Idle-clause-under_way : goal.returns-in-Idle-clause-under_way
returns-in-Idle-clause-under_way c =
    let player : to_z w32 (of_z w32 c.self.inside.player) ≡ c.self.inside.player = search rules in
    goes_under_way c.args.self.now c.args.value c.go_on-in-Idle.result
    (other_goes_on c.args.self.now c.self.inside.player _ (waiting_of c.self.inside.waiting) _ c.args.value c.args.value
    (kept_of c.in_ok-frame.frame) (arc_value c.self.inside.verbs) c.in_ok-frame.outer c.go_on-in-Idle.result
    c.self.view_is c.self.invariant (ap waiting_of c.in-Idle.is) tt refl (sym c.deref.ensures ∙ c.in_ok-frame.ensures) player
    c.go_on-in-Idle.ensures.kept c.go_on-in-Idle.ensures.player c.go_on-in-Idle.ensures.outer)

pub returns-in-ReadingOn-clause-pending : goal.returns-in-ReadingOn-clause-pending
returns-in-ReadingOn-clause-pending c =
    let player : to_z w32 (of_z w32 c.self.inside.player) ≡ c.self.inside.player = search rules in
    goes_pending c.args.self.now c.args.value c.go_on-in-ReadingOn.result
    (other_goes_on c.args.self.now c.self.inside.player _ (waiting_of c.self.inside.waiting) _ c.args.value c.args.value
    (kept_of c.in_ok-frame.frame) (arc_value c.self.inside.verbs) c.in_ok-frame.outer c.go_on-in-ReadingOn.result
    c.self.view_is c.self.invariant (ap waiting_of c.in-ReadingOn.is) tt refl (sym c.deref.ensures ∙ c.in_ok-frame.ensures) player
    c.go_on-in-ReadingOn.ensures.kept c.go_on-in-ReadingOn.ensures.player c.go_on-in-ReadingOn.ensures.outer)

pub returns-in-ReadingOn-clause-under_way : goal.returns-in-ReadingOn-clause-under_way
returns-in-ReadingOn-clause-under_way c =
    let player : to_z w32 (of_z w32 c.self.inside.player) ≡ c.self.inside.player = search rules in
    goes_under_way c.args.self.now c.args.value c.go_on-in-ReadingOn.result
    (other_goes_on c.args.self.now c.self.inside.player _ (waiting_of c.self.inside.waiting) _ c.args.value c.args.value
    (kept_of c.in_ok-frame.frame) (arc_value c.self.inside.verbs) c.in_ok-frame.outer c.go_on-in-ReadingOn.result
    c.self.view_is c.self.invariant (ap waiting_of c.in-ReadingOn.is) tt refl (sym c.deref.ensures ∙ c.in_ok-frame.ensures) player
    c.go_on-in-ReadingOn.ensures.kept c.go_on-in-ReadingOn.ensures.player c.go_on-in-ReadingOn.ensures.outer)

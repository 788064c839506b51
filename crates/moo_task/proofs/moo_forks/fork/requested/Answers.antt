use mir.Syntax.{w32}
use mir.Val.{SFits, to_z, of_z}
use Rattle.std.proofs.Common.{◌≡◌, ◌∙◌, ◌<◌, ap, sym, subst, arith, rules, suc, ◌-◌, pos, ◌<ℤ◌, ◌≤ℤ◌}
use Rattle.std.proofs.lemmas.Int.{ints, to_z-of_z}
use Rattle.std.specs.Prelude.{IfSome, unsigned_abs}
use Rattle.spec_value.specs.Datum.{type_mismatch, invalid_argument, limit_exceeded}
use Rattle.spec_moo.specs.Scene.{moment_after}
use Rattle.moo_code.specs.Instruction.{skipped}
use Rattle.moo_task.specs.Shown.{fails_of}
use Rattle.moo_task.proofs.Next.{next_place}
use Rattle.moo_task.specs.Deeds.{scene_of}
use Rattle.moo_task.specs.Queueing.{IsNextId}
use Rattle.moo_task.specs.Forking.{in_scene}
use Rattle.moo_task.proofs.Forks.{fork_of_no_integer, fork_in_past, fork_without_id, fork_granted}
use Rattle.moo_task.proofs.moo_forks.fork.requested.Goals as goal

pub returns-in_default-seconds_in-clause-shown : goal.returns-in_default-seconds_in-clause-shown
returns-in_default-seconds_in-clause-shown c a w x body =
    let s = c.args.state.now in
    let paid : s.ticks ≡ suc (s.ticks - 1) = omega arith in
    fork_of_no_integer a c.args.call.now s c.args.deeds.now w x body c.in-Some.value c.pop.new.self (s.ticks - 1) c.in-Some.ensures paid c.in_default-seconds_in.ensures
    ∙ ap (λ n. fails_of (in_scene a c.args.deeds.now w) c.args.call.now skipped n type_mismatch (record s { operands = c.pop.new.self; ticks = s.ticks - 1 })) (sym (next_place s.place))
    ∙ c.skips-did.ensures (in_scene a c.args.deeds.now w)

pub returns-then-seconds-lt0-clause-shown : goal.returns-then-seconds-lt0-clause-shown
returns-then-seconds-lt0-clause-shown c a w x body =
    let s = c.args.state.now in
    let paid : s.ticks ≡ suc (s.ticks - 1) = omega arith in
    let fits : SFits w32 c.in-Some-seconds_in.seconds = search rules in
    let past : c.in-Some-seconds_in.seconds <ℤ pos 0 = grind (arith, ints) in
    fork_in_past a c.args.call.now s c.args.deeds.now w x body c.in-Some.value c.pop.new.self (s.ticks - 1) c.in-Some.ensures paid
    c.in-Some-seconds_in.seconds c.in-Some-seconds_in.ensures past
    ∙ ap (λ n. fails_of (in_scene a c.args.deeds.now w) c.args.call.now skipped n invalid_argument (record s { operands = c.pop.new.self; ticks = s.ticks - 1 })) (sym (next_place s.place))
    ∙ c.skips-did-then-seconds-lt0.ensures (in_scene a c.args.deeds.now w)

pub returns-in_default-2-clause-shown : goal.returns-in_default-2-clause-shown
returns-in_default-2-clause-shown c a w x body =
    let s = c.args.state.now in
    let paid : s.ticks ≡ suc (s.ticks - 1) = omega arith in
    let fits : SFits w32 c.in-Some-seconds_in.seconds = search rules in
    let later : pos 0 ≤ℤ c.in-Some-seconds_in.seconds = grind (arith, ints) in
    fork_without_id a c.args.call.now s c.args.deeds.now w x body c.in-Some.value c.pop.new.self (s.ticks - 1) c.in-Some.ensures paid
    c.in-Some-seconds_in.seconds c.in-Some-seconds_in.ensures later
    (subst (λ o. IsNextId o (scene_of c.args.deeds.now w (s.ticks - 1))) c.in_default-2.is (c.in_ok-id.ensures.next w (s.ticks - 1)))
    ∙ ap (λ n. fails_of (in_scene a c.args.deeds.now w) c.args.call.now skipped n limit_exceeded (record s { operands = c.pop.new.self; ticks = s.ticks - 1 })) (sym (next_place s.place))
    ∙ c.skips-did-in_default-2.ensures (in_scene a c.args.deeds.now w)

pub returns-clause-shown : goal.returns-clause-shown
returns-clause-shown c a w x body =
    let s = c.args.state.now in
    let u = s.ticks - 1 in
    let paid : s.ticks ≡ suc u = omega arith in
    let fits : SFits w32 c.in-Some-seconds_in.seconds = search rules in
    let later : pos 0 ≤ℤ c.in-Some-seconds_in.seconds = grind (arith, ints) in
    let distance : c.unsigned_abs.result ≡ unsigned_abs c.in-Some-seconds_in.seconds = grind (arith, to_z-of_z) in
    let known = subst (λ o. IsNextId o (scene_of c.args.deeds.now w u)) c.in-Some-2.is (c.in_ok-id.ensures.next w u) in
    let whole : to_z w32 (of_z w32 c.in-Some-2.id) ≡ c.in-Some-2.id = search rules in
    rw whole
    (fork_granted a c.args.call.now s c.args.deeds.now w x body c.in-Some.value c.pop.new.self u c.in-Some.ensures paid
    c.in-Some-seconds_in.seconds c.in-Some-2.id c.moment_after-due.result c.in-Some-seconds_in.ensures later
    known.0 known.1 (c.moment_after-due.ensures w u ∙ ap (moment_after (scene_of c.args.deeds.now w u)) distance))

pub returns-clause-id : goal.returns-clause-id
returns-clause-id c = subst (λ o. IfSome o (λ i. c.args.deeds.now.ids_used < 64)) c.in-Some-2.is c.in_ok-id.ensures.left

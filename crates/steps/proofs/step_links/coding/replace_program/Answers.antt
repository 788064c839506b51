use Rattle.std.proofs.Common.{◌≡◌, None, w32, rules}
use Rattle.std.proofs.lemmas.Int.{to_z-of_z}
use Rattle.builtins_view.specs.Programs.{with_program}
use Rattle.steps.proofs.Codings.{none_less, program_given}
use Rattle.steps.proofs.step_links.coding.replace_program.Goals as goal

pub unreachable-requires-in_default-verb_at : goal.unreachable-requires-in_default-verb_at
unreachable-requires-in_default-verb_at g c =
    let view = g.V.View in
    let home = view.home c.read_verbs.new.view in
    let none : c.verb_at.result ≡ None = first_of (search rules, cc) in
    let told = (rw (to_z-of_z w32 c.args.object c.ranges.object, c.in-Some.is) at c.in_ok-verbs.ensures.left) home c.in_ok-verbs.ensures.lasts.home_is_left in
    none_less (view.now c.args.view.now home) c.args.object c.args.place c.in-Some.verbs (c.requires.there home told.0) told.1.1 (rw c.as_slice.ensures at (rw none at c.verb_at.ensures))

pub put_program-requires : goal.put_program-requires
put_program-requires g c = record { there = cc (c.in-Some-verb_at.ensures, c.as_slice.ensures, c.as_slice-2.ensures) }

pub returns-clause-left : goal.returns-clause-left
returns-clause-left g c =
    let view = g.V.View in
    let object = to_z-of_z w32 c.args.object c.ranges.object in
    program_given view.holds view.now c.args.view.now c.read_verbs.new.view c.put_program.new.view c.args.object c.args.place (with_program c.args.program) c.in-Some.verbs c.put_program.result
    (rw (object, c.in-Some.is) at c.in_ok-verbs.ensures.left) (rw (object, c.as_slice-2.ensures) at c.put_program.ensures.left)

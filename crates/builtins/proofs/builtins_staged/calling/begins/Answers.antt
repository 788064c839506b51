use Rattle.std.proofs.Common.{◌≡◌, sym, w32}
use Rattle.std.proofs.lemmas.Int.{to_z-of_z}
use Rattle.spec_value.specs.Datum.{of_list}
use Rattle.spec_moo.specs.Calling.{verb_call}
use Rattle.spec_moo.specs.NativeEffect as N
use Rattle.moo_task.specs.Frames.{native_of}
use Rattle.moo_task.specs.declared.effect.NativeEffect.TheVariants.{Begins}
use Rattle.builtins.proofs.Beginning.{begun_not, begun_so}
use Rattle.builtins.proofs.builtins_staged.calling.begins.Goals as goal

pub returns-in_default-clause-left : goal.returns-in_default-clause-left
returns-in_default-clause-left g c =
    let object = to_z-of_z w32 c.args.object c.ranges.object in
    begun_not g.V.View.holds g.V.View.now c.args.call.now (native_of c.args.native) c.args.object c.args.word (of_list c.args.arguments.items) c.args.view.now c.find_verb.new.view
    (rw (object, c.as_str.ensures, c.in_default.is) at c.in_ok-found.ensures.left)

pub returns-clause-left : goal.returns-clause-left
returns-clause-left g c =
    let object = to_z-of_z w32 c.args.object c.ranges.object in
    let program : c.in_ok-program.program ≡ (c.in-Some.found.verb).program = c.in_ok-program.ensures in
    let call : c.callee-call.result ≡ verb_call c.args.call.now c.args.object c.args.word c.in-Some.found = rw object at c.callee-call.ensures in
    begun_so g.V.View.holds g.V.View.now c.args.call.now (native_of c.args.native) c.args.object c.args.word (of_list c.args.arguments.items) c.args.view.now c.find_verb.new.view c.in-Some.found
    (Begins c.args.native c.callee-call.result c.in_ok-program.program c.args.arguments)
    (λ s i. N.begins s (native_of c.args.native) (sym call i) (sym program i) (of_list c.args.arguments.items))
    (rw (object, c.as_str.ensures, c.in-Some.is) at c.in_ok-found.ensures.left)

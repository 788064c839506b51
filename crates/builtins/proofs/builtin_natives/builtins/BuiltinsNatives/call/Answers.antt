use Rattle.std.proofs.Common.{◌∙◌}
use Rattle.local_code.specs.Scenes.{scene_at, caller_of}
use Rattle.builtins.proofs.builtin_natives.builtins.BuiltinsNatives.call.Goals as goal

pub returns-clause-does : goal.returns-clause-does
returns-clause-does g c w left =
    let e = c.in_ok-effect.ensures.does w left in
    (e.0, c.named-function.ensures (scene_at c.args.deeds.now (g.V.View.now c.args.view.now w) c.args.task.now) (caller_of c.args.task.now) c.args.arguments.items ∙ e.1)

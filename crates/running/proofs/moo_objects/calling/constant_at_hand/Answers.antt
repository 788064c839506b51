use Rattle.std.proofs.Common.{◌∙◌, ap, subst}
use Rattle.std.specs.Prelude.{IfOk, IfSome}
use Rattle.spec_program.specs.Tree.{Program}
use Rattle.spec_world.specs.World.{Verb}
use Rattle.local_code.specs.Constants.{IsConstant}
use Rattle.running.proofs.moo_objects.calling.constant_at_hand.Goals as goal

pub returns-in-Some : goal.returns-in-Some
returns-in-Some c =
    subst (λ (p : Program). IfOk c.constant_of.result (λ o. IfSome o (λ g. IsConstant p g.value g.ticks))) (c.in-Some.ensures ∙ ap (λ (v : Verb). v.program) c.verb.view_is) c.constant_of.ensures

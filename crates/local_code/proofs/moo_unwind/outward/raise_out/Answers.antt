use Rattle.std.proofs.Common.{◌∙◌, ap, ◌∷◌, length, arith}
use Rattle.spec_moo.specs.Leaving.{failed}
use Rattle.moo_code.specs.Machine.{out_of}
use Rattle.moo_task.specs.Meant.{failure_meant}
use Rattle.moo_task.specs.Frames.{outer_of}
use Rattle.moo_task.specs.Outcomes.{ticks_of, scene_in}
use Rattle.moo_task.specs.declared.frame.Outer.{Outer}
use Rattle.local_code.proofs.Oks.{if_ok}
use Rattle.local_code.proofs.moo_unwind.outward.raise_out.Goals as goal

pub returns-in-Verb-clause-out : goal.returns-in-Verb-clause-out
returns-in-Verb-clause-out c =
    if_ok _ _ c.raise_into.result
    (λ o h s. c.out.invariant.same s
    ∙ ap (λ ks. out_of c.out.task.player (ticks_of c.out.task) ks (scene_in c.out.task s) (failed (failure_meant c.args.failure)))
    (c.in-Some.ensures ∙ ap (λ (x : Outer). outer_of x ∷ c.pop.new.self) c.in-Verb.is)
    ∙ h s) c.raise_into.ensures.out

pub out-preserved-in_default-outer : goal.out-preserved-in_default-outer
out-preserved-in_default-outer c =
    record {
      player = c.out.invariant.player;
      few = omega (arith, ap length c.in-Some.ensures);
      same = λ s. c.out.invariant.same s
          ∙ ap (λ ks. out_of c.out.task.player (ticks_of c.out.task) ks (scene_in c.out.task s) (failed (failure_meant c.args.failure)))
          (c.in-Some.ensures ∙ ap (λ (x : Outer). outer_of x ∷ c.pop.new.self) c.in_default-outer.is);
    }

pub returns-clause-out : goal.returns-clause-out
returns-clause-out c s =
    c.out.invariant.same s ∙ ap (λ ks. out_of c.out.task.player (ticks_of c.out.task) ks (scene_in c.out.task s) (failed (failure_meant c.args.failure))) c.in_default.ensures.0

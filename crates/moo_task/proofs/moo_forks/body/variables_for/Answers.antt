use Rattle.std.proofs.Common.{◌∙◌, ap, map}
use Rattle.spec_value.specs.Table.{named}
use Rattle.spec_world.specs.WellFormed.{has_name}
use Rattle.moo_program.specs.Names.{known}
use Rattle.moo_task.specs.Frames.{kept_of}
use Rattle.moo_task.specs.declared.frame.Frame.{Frame}
use Rattle.moo_task.proofs.moo_forks.body.variables_for.Goals as goal

pub returns : goal.returns
returns c =
    let same = c.in_ok-variables.ensures in
    record {
      slots = c.in_ok-slots.ensures ∙ ap (λ (f : Frame). map (named (kept_of f).variables) (known c.args.own.now)) same;
      further = λ x absent. c.in_ok-further.ensures x (ap (λ ns. has_name (known ns) x) c.in_ok-named.ensures ∙ absent) ∙ ap (λ (f : Frame). named (kept_of f).variables x) same;
    }

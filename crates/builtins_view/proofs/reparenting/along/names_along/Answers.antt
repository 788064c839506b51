use Rattle.std.proofs.Common.{◌≡◌, ◌+◌, ◌++◌, drop, get_or, pos, ◌∙◌, rules, w32, to_z, of_z}
use Rattle.spec_world.specs.Questions.{defines_at}
use Rattle.builtins_view.specs.Along.{given, names_on}
use Rattle.builtins_view.proofs.Steps.{names_step, both_told}
use Rattle.builtins_view.proofs.reparenting.along.names_along.Goals as goal

pub loop-object-preserved : goal.loop-object-preserved
loop-object-preserved g c =
    let item : to_z w32 (of_z w32 (get_or c.args.line.now c.loop-object.object-index (pos 0))) ≡ get_or c.args.line.now c.loop-object.object-index (pos 0) = search rules in
    record {
      anchor = c.in_ok-add_names.ensures.lasts.anchor_stays ∙ c.loop-object.invariant.anchor;
      home = c.in_ok-add_names.ensures.lasts.home_stays ∙ c.loop-object.invariant.home;
      there = c.in_ok-add_names.ensures.lasts.home_is_left;
      left =
          both_told g.V.View.holds g.V.View.now c.args.view.now c.loop-object.view c.add_names.new.view
          (λ w. c.loop-object.names.items ++ names_on w (drop c.loop-object.object-index c.args.line.now) ≡ names_on w c.args.line.now)
          (λ w. c.add_names.new.names.items ≡ c.loop-object.names.items ++ given (defines_at w (get_or c.args.line.now c.loop-object.object-index (pos 0))))
          (λ w. c.add_names.new.names.items ++ names_on w (drop (c.loop-object.object-index + 1) c.args.line.now) ≡ names_on w c.args.line.now)
          c.loop-object.invariant.left (rw item at c.in_ok-add_names.ensures.left)
          (λ w so grown. names_step w c.args.line.now c.loop-object.object-index c.loop-object.names.items c.add_names.new.names.items c.loop-object-test.true so grown);
    }

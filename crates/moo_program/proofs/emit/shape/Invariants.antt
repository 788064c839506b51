use Rattle.std.proofs.Common.{◌≡◌}
use Rattle.moo_tree.specs.Depth.{target_depth}
use Rattle.moo_code.specs.Layout.{shape_of}
use Rattle.moo_program.specs.Meaning.{bracketed}
use Rattle.moo_program.proofs.emit.shape.Given as goal

abbrev pub invariant-loop-inner : goal.invariant-loop-inner
invariant-loop-inner l = bracketed l.brackets.items (shape_of l.inner) ≡ shape_of l.target

abbrev pub decreases-loop-inner : goal.decreases-loop-inner
decreases-loop-inner l = target_depth l.inner

use Rattle.std.proofs.Common.{◌≡◌, ◌<◌, length, get_or}
use Rattle.spec_program.specs.Tree.{the_end}
use Rattle.moo_program.specs.Compiled.{AreCoded}
use Rattle.moo_program.proofs.compiled.Compiled.new.Given as goal

abbrev pub invariant-next : goal.invariant-next
invariant-next o l =
    record {
      coded : AreCoded l.compiled;
      first : get_or l.compiled.trees.items 0 the_end ≡ l.fn.tree;
      some : 0 < length l.compiled.trees.items;
    }

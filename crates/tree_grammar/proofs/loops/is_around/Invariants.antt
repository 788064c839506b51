use Rattle.std.proofs.Common.{◌≡◌, ◌||◌, drop}
use Rattle.std.specs.List.{list_any}
use Rattle.spec_program.specs.ReadPrograms.{names_none, same_name}
use Rattle.tree_grammar.proofs.loops.is_around.Given as goal

abbrev pub invariant-loop-own : goal.invariant-loop-own
invariant-loop-own l =
    list_any (λ own. names_none l.name || same_name l.name own) l.loops ≡ list_any (λ own. names_none l.name || same_name l.name own) (drop l.own-index l.loops)

use Rattle.std.proofs.Common.{◌≡◌, ◌++◌, drop}
use Rattle.spec_world.specs.Checkpoint.{each_verb, with_line_ends}
use Rattle.checkpoint_text.proofs.checkpoint_objects.verb.put_each_verb.Given as goal

abbrev pub invariant-loop-verb : goal.invariant-loop-verb
invariant-loop-verb l = l.page ++ with_line_ends (each_verb (drop l.verb-index l.verbs)) ≡ l.fn.page ++ with_line_ends (each_verb l.verbs)

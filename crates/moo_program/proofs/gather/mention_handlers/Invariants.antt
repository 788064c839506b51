use Rattle.std.proofs.Common.{◌≡◌, drop, map}
use Rattle.moo_program.specs.Drafting.{item_of}
use Rattle.moo_program.specs.Gathering.{draft_handled}
use Rattle.moo_program.specs.Names.{known}
use Rattle.moo_program.proofs.gather.mention_handlers.Given as goal

abbrev pub invariant-loop-i : goal.invariant-loop-i
invariant-loop-i l = draft_handled (known l.names) (map item_of (drop l.i l.items)) ≡ draft_handled (known l.initial.names) (map item_of l.items)

use Rattle.std.proofs.Common.{◌≡◌, map, drop}
use Rattle.moo_code.specs.Performing.{onto}
use Rattle.moo_program.specs.Drafting.{known_of}
use Rattle.moo_task.proofs.moo_machine.operands.Operands.push_codes.Given as goal

abbrev pub invariant-loop-code : goal.invariant-loop-code
invariant-loop-code l = onto (map known_of (drop l.code-index l.codes)) l.self ≡ onto (map known_of l.codes) l.initial.self

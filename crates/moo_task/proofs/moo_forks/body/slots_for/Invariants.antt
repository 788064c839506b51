use Rattle.std.proofs.Common.{◌≡◌, ◌++◌, map, take}
use Rattle.spec_value.specs.Table.{named}
use Rattle.moo_code.specs.Names.{starting_names}
use Rattle.moo_task.specs.Frames.{kept_of}
use Rattle.moo_task.proofs.moo_forks.body.slots_for.Given as goal

abbrev pub invariant-loop-name : goal.invariant-loop-name
invariant-loop-name l =
    let value = named (kept_of l.variables.frame.now).variables in
    l.slots.items ≡ map value starting_names ++ map value (take l.name-index l.own)

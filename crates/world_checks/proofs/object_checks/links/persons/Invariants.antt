use Rattle.std.proofs.Common.{◌≡◌, map, take}
use Rattle.spec_value.specs.Table.{at}
use Rattle.world_checks.specs.Persons.{person_of}
use Rattle.world_checks.proofs.object_checks.links.persons.Given as goal

abbrev pub invariant-loop-number : goal.invariant-loop-number
invariant-loop-number l = l.persons.items ≡ map (λ c. person_of (at l.draft.links c)) (take l.number-index l.numbers)

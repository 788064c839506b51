use Rattle.std.proofs.Common.{◌≡◌, ◌+◌, drop}
use Rattle.moo_code.specs.Slots.{slot_of}
use Rattle.moo_program.proofs.names.own_place.Given as goal

abbrev pub invariant-loop-place : goal.invariant-loop-place
invariant-loop-place l = slot_of l.names l.name ≡ l.place + slot_of (drop l.place l.names) l.name

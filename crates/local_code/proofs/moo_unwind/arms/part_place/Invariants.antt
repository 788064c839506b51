use Rattle.std.proofs.Common.{◌≡◌, drop, map}
use Rattle.moo_code.specs.Machine.{place_for}
use Rattle.moo_program.specs.Meaning.{arm_place}
use Rattle.local_code.proofs.moo_unwind.arms.part_place.Given as goal

abbrev pub invariant-loop-arm : goal.invariant-loop-arm
invariant-loop-arm l = place_for 0 (map arm_place l.arms) l.part ≡ place_for 0 (map arm_place (drop l.arm-index l.arms)) l.part

use Rattle.std.proofs.Common.{◌≡◌, drop, map}
use Rattle.moo_code.specs.Machine.{place_for}
use Rattle.moo_program.specs.Meaning.{part_meant}
use Rattle.local_code.proofs.moo_stores.scatter.part_place.Given as goal

abbrev pub invariant-loop-part : goal.invariant-loop-part
invariant-loop-part l = place_for l.behind (map part_meant l.parts) l.number ≡ place_for l.behind (map part_meant (drop l.part-index l.parts)) l.number

-- The lines of an object, part by part.
use Rattle.std.proofs.Common.{◌≡◌, ℤ, ◌++◌}
use Rattle.spec_value.specs.Datum.{Text}
use Rattle.spec_world.specs.World.{World, Object}
use Rattle.spec_world.specs.Checkpoint.{object_lines, slot_lines, verb_lines, with_line_ends}
use Rattle.checkpoint_text.proofs.Joined.{lines_more}
use Rattle.checkpoint_text.specs.CheckpointObjectsLines.{name_lines, owner_lines, location_lines, family_lines, own_lines}

pub object_written : (w : World) (o : ℤ) (x : Object) (p0 p1 p2 p3 p4 p5 p6 p7 : Text)
    → p1 ≡ p0 ++ with_line_ends (name_lines o x.header) → p2 ≡ p1 ++ with_line_ends (owner_lines x.header) → p3 ≡ p2 ++ with_line_ends (location_lines x.header)
    → p4 ≡ p3 ++ with_line_ends (family_lines x) → p5 ≡ p4 ++ with_line_ends (own_lines x) → p6 ≡ p5 ++ with_line_ends (slot_lines w o)
    → p7 ≡ p6 ++ with_line_ends (verb_lines x.verbs) → p7 ≡ p0 ++ with_line_ends (object_lines w o x)
object_written w o x p0 p1 p2 p3 p4 p5 p6 p7 e1 e2 e3 e4 e5 e6 e7 =
    lines_more p0 p1 p7 (name_lines o x.header) (owner_lines x.header ++ (location_lines x.header ++ (family_lines x ++ (own_lines x ++ (slot_lines w o ++ verb_lines x.verbs))))) e1
    (lines_more p1 p2 p7 (owner_lines x.header) (location_lines x.header ++ (family_lines x ++ (own_lines x ++ (slot_lines w o ++ verb_lines x.verbs)))) e2
    (lines_more p2 p3 p7 (location_lines x.header) (family_lines x ++ (own_lines x ++ (slot_lines w o ++ verb_lines x.verbs))) e3
    (lines_more p3 p4 p7 (family_lines x) (own_lines x ++ (slot_lines w o ++ verb_lines x.verbs)) e4
    (lines_more p4 p5 p7 (own_lines x) (slot_lines w o ++ verb_lines x.verbs) e5 (lines_more p5 p6 p7 (slot_lines w o) (verb_lines x.verbs) e6 e7)))))

-- Objects that stand one behind another in a text.
use Rattle.std.specs.Prelude.{◌≡◌, ◌≤◌, ◌+◌, ℕ, List, [], ◌∷◌, ◌++◌, length, map, drop, IsTrue, refl}
use Rattle.std.specs.Coded.{Coded, code_by, coded×, coded_list, coded_ℕ}
use Rattle.std.specs.List.{list_all}
use Rattle.spec_value.specs.Datum.{Text}
use Rattle.spec_world.specs.World.{World}
use Rattle.spec_world.specs.WellFormed.{IsWellFormed}
use Rattle.spec_world.specs.Checkpoint.{each_object}
use Rattle.spec_faults.specs.Awaited.{again}
use Rattle.spec_faults.specs.Awaited as awaited
use Rattle.checkpoint_lines.specs.declared.lines.Lines.{Lines}
use Rattle.checkpoint_lines.specs.Rows.{Left}
use Rattle.checkpoint_lines.specs.Told.{HasRoom, GoesOn}
use Rattle.named_objects.specs.declared.record.ObjectRecord.{ObjectRecord}
use Rattle.named_objects.specs.Told.{told, shown_object}
use Rattle.object_lines.specs.Readable.{is_object_read}

-- they are read between two places of it, however many follow: no line there has a fault, and of a world whose next objects stand there they are these
pub record AreBetween (l m : Lines) (rs : List ObjectRecord) : Type 0 where
  pub goes : (n : ℕ) → HasRoom l → GoesOn l m (again (length rs + n) awaited.each_object ∷ []) (again n awaited.each_object ∷ [])
  pub reads : (w : World) (i : ℕ) (rest : List Text)
      → IsWellFormed w → IsTrue (list_all is_object_read w.objects) → i + length rs ≤ length w.objects → Left l (each_object w (drop i w.objects) ++ rest)
      → Left m (each_object w (drop (i + length rs) w.objects) ++ rest)
      × (map told rs ++ map (shown_object w) (drop (i + length rs) w.objects) ≡ map (shown_object w) (drop i w.objects))

-- what is left of a text before them, how many lines stand before that, and how many they are
pub record Ahead : Type 0 where
  pub left : Text
  pub lines : ℕ
  pub many : ℕ

abbrev pub ahead_code : Coded Ahead
ahead_code =
    code_by (Text × (ℕ × ℕ)) (coded× (coded_list coded_ℕ) (coded× coded_ℕ coded_ℕ)) (λ a. (a.left, (a.lines, a.many)))
    (λ p. record { left = p.0; lines = p.1.0; many = p.1.1 }) (λ a. refl)

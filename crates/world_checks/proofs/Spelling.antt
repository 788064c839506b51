-- Texts spell all programs of a world where they spell those of each object and each task that is listed.
use Rattle.std.proofs.Common.{◌≡◌, subst, ℤ, List, map, All}
use Rattle.spec_world.specs.World.{World}
use Rattle.spec_holding.specs.Whole.{TextsSpell}
use Rattle.spec_world.specs.Listings.{waiting_ids}
use Rattle.world_checks.proofs.Numbered.{of_each}
use Rattle.world_checks.specs.Spelled.{ObjectSpelledAt, TaskSpelledAt}

pub texts_spell : (w : World) (numbers ids : List ℤ) → numbers ≡ map (λ e. e.0) w.objects → ids ≡ waiting_ids w
    → All (ObjectSpelledAt w) numbers → All (TaskSpelledAt w) ids → TextsSpell w
texts_spell w numbers ids numbers_are ids_are objects tasks = (
  λ o x is. of_each (ObjectSpelledAt w) w.objects (subst (All (ObjectSpelledAt w)) numbers_are objects) o x is x is,
  λ i t is. of_each (TaskSpelledAt w) w.tasks (subst (All (TaskSpelledAt w)) ids_are tasks) i t is t is,
)

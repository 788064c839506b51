-- Slots that programmers write.
use Rattle.std.proofs.Common.{◌≡◌, ◌∙◌, ℤ, true, Some, sym, ap}
use Rattle.spec_value.specs.Datum.{Datum, Text}
use Rattle.spec_world.specs.World.{Slot}
use Rattle.spec_world.specs.Inherit.{slot_at}
use Rattle.spec_world.specs.Permissions.{owns_or}
use Rattle.spec_world.specs.Questions.{apply_all, new_value}
use Rattle.view.specs.Facets.{DoesLast}
use Rattle.view.specs.Writing.{MayWrite, IsWrittenBy, GoesFurther}
use Rattle.world.specs.Amended.{Amended, amended_now}
use Rattle.world.proofs.History.{amended_last}

-- records that a programmer wrote
pub further_written : (who o : ℤ) (p : Text) (v : Datum) (old new : Amended) → new.home ≡ old.home → MayWrite who o p (amended_now old) × GoesFurther o p v old.changes new.changes
    → IsWrittenBy who o p v true (amended_now old) (amended_now new)
further_written who o p v old new stays h = (h.0, ap (apply_all new.changes) stays ∙ h.1 old.home)

-- a slot that a programmer may write, and one change more
pub anew_written : (who o : ℤ) (p : Text) (v : Datum) (old new : Amended) (s : Slot) → owns_or who s.owner s.writable ≡ true → Some s ≡ slot_at (amended_now old) o p
    → new.home ≡ old.home → DoesLast (new_value o p v) old.changes new.changes → IsWrittenBy who o p v true (amended_now old) (amended_now new)
anew_written who o p v old new s allowed there stays changes =
    (record { slot = s; there = sym there; allowed = allowed }, amended_last (new_value o p v) old new stays changes)

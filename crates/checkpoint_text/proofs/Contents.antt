-- What is lent of what a slot holds.
use Rattle.std.proofs.Common.{◌≡◌, ℕ, List, Option, Some, None, sym}
use Rattle.std.specs.Borrow.{Bor}
use Rattle.spec_value.specs.Datum.{Datum}
use Rattle.spec_world.specs.Checkpoint.{content_text}
use Rattle.slot_content.specs.Content.{shown_content}
use Rattle.slot_content.specs.declared.content.Shown.TheVariants.{Literal}

pub literal_told : (t : Bor (List ℕ)) (o : Option Datum) → shown_content (Literal t) o → content_text o ≡ t.now
literal_told t None told = absurd told
literal_told t (Some v) told = sym told.0

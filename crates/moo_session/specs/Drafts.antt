-- Lists of steps in the making.
use Rattle.std.specs.Prelude.{◌≡◌, ℕ, ◌+◌, List, [], ◌++◌, length, true, false}
use Rattle.spec_world.specs.Step.{Event, AllInRange}
use Rattle.moo_session.specs.declared.draft.Draft.{Draft}
use Rattle.moo_session.specs.Sessions.{steps_from}

abbrev pub Begun : ℕ → ℕ → List ℕ → Draft → Type 0
Begun n moment key d = (d.next ≡ n) × (d.moment ≡ moment) × (d.key ≡ key) × (d.steps.items ≡ []) × (d.fits ≡ true)

-- steps were added, one for each event
pub record Grows (events : List Event) (old new : Draft) : Type 0 where
  pub fits : old.fits ≡ true
  pub steps : new.steps.items ≡ old.steps.items ++ steps_from old.next old.moment old.key events
  pub next : new.next ≡ old.next + length events
  pub moment : new.moment ≡ old.moment
  pub key : new.key ≡ old.key

-- the same, unless one of the steps is out of its range; then the list does not fit any more
pub record Adds (events : List Event) (old new : Draft) : Type 0 where
  pub kept : new.fits ≡ true → Grows events old new
  pub lost : new.fits ≡ false → old.fits ≡ true → AllInRange (steps_from old.next old.moment old.key events) → ⊥

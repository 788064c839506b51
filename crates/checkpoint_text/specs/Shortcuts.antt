-- Shortcuts along parents, past objects that define no property.
use Rattle.std.specs.Prelude.{◌≡◌, ◌⊎◌, ℕ, zero, suc, ℤ, List, [], Some, slice_get}
use Rattle.std.specs.List.{All}
use Rattle.spec_world.specs.World.{World, Object, object_at}
use Rattle.checkpoint_text.specs.declared.checkpoint_objects.shortcut.Shortcut.{Shortcut}

-- so many objects, from one upwards, define no property, and behind them comes another number
abbrev pub Passes : World → ℤ → ℕ → ℤ → Type 0
Passes w o zero to = to ≡ o
Passes w o (suc k) to = (x : Object) × (object_at w o ≡ Some x) × (x.defines ≡ []) × Passes w x.header.parent k to

-- a shortcut that is listed, or none
abbrev pub Leads : List Shortcut → ℤ → ℕ → ℤ → Type 0
Leads es o k to =
    ((k ≡ 0) × (to ≡ o)) ⊎ ((i : ℕ) × (e : Shortcut) × (slice_get es i ≡ Some e) × (e.from ≡ o) × (e.over ≡ k) × (e.to ≡ to))

-- past one object a shortcut goes on as the one from its parent does
abbrev pub GoesOn : World → List Shortcut → ℤ → ℕ → ℤ → Type 0
GoesOn w es o zero to = to ≡ o
GoesOn w es o (suc k) to = (x : Object) × (object_at w o ≡ Some x) × (x.defines ≡ []) × Leads es x.header.parent k to

abbrev pub AllGoOn : World → List Shortcut → List Shortcut → Type 0
AllGoOn w all es = All (λ e. GoesOn w all e.from e.over e.to) es

-- each shortcut is one
abbrev pub ArePassed : World → List Shortcut → Type 0
ArePassed w es = All (λ e. Passes w e.from e.over e.to) es

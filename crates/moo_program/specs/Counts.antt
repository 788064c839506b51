-- What the items of a scattering assignment ask for, and how many optional ones stand before each.
use Rattle.std.specs.Prelude.{ℕ, suc, List, [], ◌∷◌, map, Bool, ◌==◌}
use Rattle.std.specs.List.{list_all}
use Rattle.spec_value.specs.Scatter.{TargetKind, required_target, optional_target, rest_target}
use Rattle.moo_code.specs.Machine.{place_for}
use Rattle.moo_program.specs.declared.instruction.Part.{Part}
use Rattle.moo_program.specs.declared.instruction.Slot.{Slot}
use Rattle.moo_program.specs.declared.instruction.Slot.TheVariants.{Required, Optional, Rest, Default}

abbrev pub kind_meant : Slot → TargetKind
kind_meant (Required n) = required_target
kind_meant (Optional n) = optional_target
kind_meant (Rest n) = rest_target
kind_meant (Default n) = optional_target

-- with an item behind so many optional ones
abbrev pub optional_past : ℕ → TargetKind → ℕ
optional_past n required_target = n
optional_past n optional_target = suc n
optional_past n rest_target = n

-- for each item, where there are so many before the first
abbrev pub optional_before : ℕ → List TargetKind → List ℕ
optional_before n [] = []
optional_before n (k ∷ ks) = n ∷ optional_before (optional_past n k) ks

-- whether each part is found by its number
abbrev pub are_placed : List Part → Bool
are_placed ps = list_all (λ p. place_for 0 (map (λ q. (q.number, q.place)) ps) p.number == p.place) ps

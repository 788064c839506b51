-- What the value of a link's last field says.
use Rattle.std.proofs.Common.{◌≡◌, pos, List, [], ◌∷◌, Option, Some, None, refl, sym, ◌∙◌}
use Rattle.spec_value.specs.Datum.{Datum, integer, object, text, list, of_list}
use Rattle.spec_world.specs.World as meant
use Rattle.spec_world.specs.Checkpoint.{lines_held, programming_held}
use Rattle.line_fields.proofs.Lists.{items_same}
use Rattle.object_lines.specs.declared.link.Held.TheVariants.{Nothing, Programming, Other}
use Rattle.object_lines.specs.Held.{held_of}

pub of_items : (g : Option meant.Programming) (v : Datum) (items : List Datum) → v ≡ programming_held g → v ≡ list (of_list items) → (v ≡ integer (pos 0) → ⊥)
    → (p : meant.Programming) × (g ≡ Some p) × (items ≡ object p.object ∷ text p.verb ∷ lines_held p.lines ∷ [])
of_items None v items e f never = absurd (never e)
of_items (Some p) v items e f never = (p, refl, items_same items (object p.object ∷ text p.verb ∷ lines_held p.lines ∷ []) (sym f ∙ e))

pub nothing_is : (g : Option meant.Programming) → Nothing ≡ held_of g → g ≡ None
nothing_is None e = refl
nothing_is (Some p) e = cc

pub programming_is : (g : Option meant.Programming) (p : meant.Programming) → Programming p ≡ held_of g → g ≡ Some p
programming_is None p e = cc
programming_is (Some q) p e = let same : p ≡ q = cc in λ i. Some (sym same i)

pub never_other : (g : Option meant.Programming) → Other ≡ held_of g → ⊥
never_other None e = cc
never_other (Some p) e = cc

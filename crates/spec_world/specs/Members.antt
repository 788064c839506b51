-- Properties and verbs that come and go (Programmer's Manual, "Operations on Properties" and "Operations Involving Verbs").
use Rattle.std.specs.Prelude.{ℕ, zero, suc, ℤ, not, List, [], ◌∷◌, ◌++◌, filter, if◌then◌else◌}
use Rattle.std.specs.Ordering.{int_eq}
use Rattle.spec_value.specs.Datum.{Text, fold_case, same_text}
use Rattle.spec_value.specs.Table.{with_name, without_name}
use Rattle.spec_world.specs.World.{World, Object, Slot, Verb}
use Rattle.spec_world.specs.Families.{change_object, change_each, is_below, heir_slot}

-- ---- properties

abbrev pub with_own_slot : Object → Text → Slot → Object
with_own_slot x p s = record x { slots = with_name x.slots (fold_case p) s }

abbrev pub defining : Object → Text → Slot → Object
defining x p s = with_own_slot (record x { defines = x.defines ++ p ∷ [] }) p s

-- on the object with its value, on each object below clear
unfoldable pub property_added : World → ℤ → Text → Slot → World
property_added w o p s =
    change_each w (λ d x. if int_eq d o then defining x p s else if is_below w o d then with_own_slot x p (heir_slot x.header.owner s) else x)

abbrev pub not_defining : Object → Text → Object
not_defining x p = record x { defines = filter (λ q. not (same_text (fold_case p) (fold_case q))) x.defines }

abbrev pub lose_slot : Object → Text → Object
lose_slot x p = record x { slots = without_name x.slots (fold_case p) }

-- from the object and from each object below
unfoldable pub property_deleted : World → ℤ → Text → World
property_deleted w o p =
    change_each w (λ d x. if int_eq d o then lose_slot (not_defining x p) p else if is_below w o d then lose_slot x p else x)

-- ---- verbs, by their places from 0

abbrev pub without_verb : List Verb → ℕ → List Verb
without_verb [] n = []
without_verb (v ∷ vs) zero = vs
without_verb (v ∷ vs) (suc n) = v ∷ without_verb vs n

abbrev pub with_verb : List Verb → ℕ → (Verb → Verb) → List Verb
with_verb [] n f = []
with_verb (v ∷ vs) zero f = f v ∷ vs
with_verb (v ∷ vs) (suc n) f = v ∷ with_verb vs n f

-- a new verb is the last one
unfoldable pub verb_added : World → ℤ → Verb → World
verb_added w o v = change_object w o (λ x. record x { verbs = x.verbs ++ v ∷ [] })

unfoldable pub verb_deleted : World → ℤ → ℕ → World
verb_deleted w o n = change_object w o (λ x. record x { verbs = without_verb x.verbs n })

unfoldable pub verb_changed : World → ℤ → ℕ → (Verb → Verb) → World
verb_changed w o n f = change_object w o (λ x. record x { verbs = with_verb x.verbs n f })

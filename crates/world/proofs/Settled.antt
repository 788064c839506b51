-- The empty world, and a world with another ending flag.
use Rattle.std.proofs.Common.{◌≡◌, ℕ, zero, suc, ℤ, negsuc, List, [], ◌∷◌, ◌++◌, Option, Some, None, Bool, false, ◌&&◌, refl, ◌∙◌, ap}
use Rattle.std.specs.List.{list_all}
use Rattle.spec_value.specs.Datum.{Text}
use Rattle.spec_world.specs.World.{World, Object, object_at}
use Rattle.spec_world.specs.Inherit.{line, line_onto, line_bound, ancestors}
use Rattle.spec_world.specs.WellFormed.{IsWellFormed, once, comes_out, ends_above, defined_on, folded_names, names_once, has_name, slot_names, links_read}
use Rattle.view.specs.Sound.{IsSound}

abbrev pub empty_world : World
empty_world = record { objects = []; tasks = []; links = []; greatest = negsuc 0; next = 1; ending = false }

pub empty_is_well_formed : IsWellFormed empty_world
unfolding once links_read
empty_is_well_formed = record {
  objects_in_order = refl;
  tasks_in_order = refl;
  links_in_order = refl;
  greatest_in_range = refl;
  next_in_range = refl;
  numbers = λ o x e. cc;
  parents_end = λ o x e. cc;
  locations_end = λ o x e. cc;
  children = λ o x e. cc;
  parents = λ o x e. cc;
  contents = λ o x e. cc;
  locations = λ o x e. cc;
  names_on_a_line = λ o x e. cc;
  slot_order = λ o x e. cc;
  slots = λ o x e. cc;
  definers = λ o x e. cc;
  links = λ o x e. cc;
  persons = refl;
  task_ids = λ o x e. cc;
  task_entries = λ o x e. cc;
  task_waits = λ o x e. cc;
  task_places = λ o x e. cc;
  readers = refl;
}

pub empty_is_sound : IsSound empty_world
empty_is_sound = record { well_formed = empty_is_well_formed; spelled = (λ o x e. cc, λ i t e. cc) }

-- ---- another ending flag

abbrev pub settled : World → Bool → World
settled w b = record w { ending = b }

same_end : (f g : ℤ → Bool) (up : Object → ℤ) (x : Option Object) → ((o : ℤ) → f o ≡ g o) → ends_above f up x ≡ ends_above g up x
same_end f g up None same = refl
same_end f g up (Some x) same = same (up x)

comes_out_settled : (up : Object → ℤ) (k : ℕ) (w : World) (b : Bool) (o : ℤ) → comes_out up k (settled w b) o ≡ comes_out up k w o
unfolding comes_out
comes_out_settled up zero w b o = refl
comes_out_settled up (suc k) w b o = same_end _ _ up (object_at w o) (comes_out_settled up k w b)

same_line : (f g : ℤ → List ℤ) (o : ℤ) (x : Option Object) → ((p : ℤ) → f p ≡ g p) → line_onto f o x ≡ line_onto g o x
same_line f g o None same = refl
same_line f g o (Some x) same = ap (λ os. o ∷ os) (same x.header.parent)

line_settled : (k : ℕ) (w : World) (b : Bool) (o : ℤ) → line k (settled w b) o ≡ line k w o
unfolding line
line_settled zero w b o = refl
line_settled (suc k) w b o = same_line _ _ o (object_at w o) (line_settled k w b)

defined_settled : (w : World) (b : Bool) (os : List ℤ) → defined_on (settled w b) os ≡ defined_on w os
unfolding defined_on
defined_settled w b [] = refl
defined_settled w b (o ∷ os) = ap (λ ts. folded_names (object_at w o) ++ ts) (defined_settled w b os)

names_settled : (w : World) (b : Bool) (o : ℤ) → defined_on (settled w b) (ancestors (settled w b) o) ≡ defined_on w (ancestors w o)
unfolding ancestors
names_settled w b o = ap (defined_on (settled w b)) (line_settled (line_bound w) w b o) ∙ defined_settled w b (line (line_bound w) w o)

pub settled_is_well_formed : (w : World) (b : Bool) → IsWellFormed w → IsWellFormed (settled w b)
settled_is_well_formed w b h = record {
  objects_in_order = h.objects_in_order;
  tasks_in_order = h.tasks_in_order;
  links_in_order = h.links_in_order;
  greatest_in_range = h.greatest_in_range;
  next_in_range = h.next_in_range;
  numbers = h.numbers;
  parents_end = λ o x e. comes_out_settled (λ y. y.header.parent) (line_bound w) w b o ∙ h.parents_end o x e;
  locations_end = λ o x e. comes_out_settled (λ y. y.header.location) (line_bound w) w b o ∙ h.locations_end o x e;
  children = h.children;
  parents = h.parents;
  contents = h.contents;
  locations = h.locations;
  names_on_a_line = λ o x e. ap names_once (names_settled w b o) ∙ h.names_on_a_line o x e;
  slot_order = h.slot_order;
  slots = λ o x e. ap (λ (names : List Text). slots_of names x) (names_settled w b o) ∙ h.slots o x e;
  definers = h.definers;
  links = h.links;
  persons = h.persons;
  task_ids = h.task_ids;
  task_entries = h.task_entries;
  task_waits = h.task_waits;
  task_places = h.task_places;
  readers = h.readers;
}
  where
    slots_of : List Text → Object → Bool
    slots_of names x = list_all (has_name names) (slot_names x) && list_all (has_name (slot_names x)) names

pub settled_is_sound : (w : World) (b : Bool) → IsSound w → IsSound (settled w b)
settled_is_sound w b h = record { well_formed = settled_is_well_formed w b h.well_formed; spelled = (h.spelled.0, h.spelled.1) }

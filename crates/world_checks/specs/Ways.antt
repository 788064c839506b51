-- An object beside its neighbours: those above and below it along parent and location, and the slots of its parent.
use Rattle.std.specs.Prelude.{ℕ, ℤ, ◌<◌, ◌||◌, ◌⊎◌, List, IsTrue, is_none, is_some}
use Rattle.std.specs.Ordering.{int_eq}
use Rattle.std.specs.List.{list_all}
use Rattle.spec_value.specs.Datum.{fold_case}
use Rattle.spec_value.specs.Table.{named}
use Rattle.spec_world.specs.World.{World, Object, object_at}
use Rattle.spec_world.specs.Inherit.{content_of}
use Rattle.spec_world.specs.WellFormed.{lists, once, on_object, is_nowhere, number_fits, slots_in_order}
use Rattle.spec_world.specs.Locally.{slots_follow}
use Rattle.world_checks.specs.Marks.{mark_of}
use Rattle.world_checks.specs.declared.object_checks.way.Way.{Way}
use Rattle.world_checks.specs.declared.object_checks.way.Way.TheVariants.{Parent, Location}

abbrev pub up_of : Way → Object → ℤ
up_of Parent x = x.header.parent
up_of Location x = x.header.location

abbrev pub down_of : Way → Object → List ℤ
down_of Parent x = x.children
down_of Location x = x.contents

-- there is no object above, or one of a lower rank; those below stand once in its list, and it is above each; the one above lists it
pub record AgreesAlong (way : Way) (ranks : List ℕ × List ℕ) (w : World) (o : ℤ) (x : Object) : Type 0 where
  pub falls : IsTrue (is_none (object_at w (up_of way x))) ⊎ (mark_of ranks (up_of way x) < mark_of ranks o)
  pub single : IsTrue (once (down_of way x))
  pub below : IsTrue (list_all (λ c. on_object w c (λ y. int_eq (up_of way y) o)) (down_of way x))
  pub above : IsTrue (is_nowhere (up_of way x) || on_object w (up_of way x) (λ y. lists (down_of way y) o))

pub record ObjectAgrees (family whereabouts : List ℕ × List ℕ) (w : World) (o : ℤ) (x : Object) : Type 0 where
  pub number : IsTrue (number_fits w o x)
  pub along_parent : AgreesAlong Parent family w o x
  pub along_location : AgreesAlong Location whereabouts w o x
  pub order : IsTrue (slots_in_order w o x)
  pub filled : IsTrue (list_all (λ t. is_some (content_of (named x.slots (fold_case t)))) x.defines)
  pub follow : IsTrue (slots_follow w o x)

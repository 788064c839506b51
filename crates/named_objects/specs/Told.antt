-- What the lines of an object tell of it, and how its slots get their names.
use Rattle.std.specs.Prelude.{◌≡◌, ℤ, List, [], ◌∷◌, ◌++◌, map, Option, Some, None}
use Rattle.spec_value.specs.Datum.{Text, fold_case}
use Rattle.spec_value.specs.Table.{Named, with_name}
use Rattle.spec_world.specs.World.{World, Header, Object, Slot, Verb, object_at}
use Rattle.spec_world.specs.Inherit.{ancestors, slot_at}
use Rattle.spec_world.specs.WellFormed.{IsWellFormed}
use Rattle.spec_world.specs.Checkpoint.{names_defined}
use Rattle.named_objects.specs.declared.record.ObjectRecord.{ObjectRecord}

-- the names of the properties that are defined along a line
abbrev pub names_along : World → List ℤ → List Text
names_along w [] = []
names_along w (p ∷ ps) = names_defined (object_at w p) ++ names_along w ps

abbrev pub with_found : Option Slot → List Slot → List Slot
with_found None ss = ss
with_found (Some s) ss = s ∷ ss

-- the slots of an object that have these names
abbrev pub slots_found : World → ℤ → List Text → List Slot
slots_found w o [] = []
slots_found w o (t ∷ ts) = with_found (slot_at w o t) (slots_found w o ts)

abbrev pub object_names : World → ℤ → List Text
object_names w o = names_along w (ancestors w o)

-- slots with their names, as long as there are both
abbrev pub all_named : Named Slot → List Text → List Slot → Named Slot
all_named es [] ss = es
all_named es (t ∷ ts) [] = es
all_named es (t ∷ ts) (s ∷ ss) = all_named (with_name es (fold_case t) s) ts ss

-- ---- records

-- an object by its number, and its slots in the order of their names
pub record Told : Type 0 where
  pub number : ℤ
  pub header : Header
  pub children : List ℤ
  pub contents : List ℤ
  pub defines : List Text
  pub slots : List Slot
  pub verbs : List Verb

abbrev pub told : ObjectRecord → Told
told r =
    record {
      number = r.number;
      header = r.header;
      children = r.lists.children.items;
      contents = r.lists.contents.items;
      defines = r.lists.defines.items;
      slots = r.slots.items;
      verbs = r.verbs.items;
    }

abbrev pub shown_object : World → ℤ × Object → Told
shown_object w e =
    record {
      number = e.0;
      header = (e.1).header;
      children = (e.1).children;
      contents = (e.1).contents;
      defines = (e.1).defines;
      slots = slots_found w e.0 (object_names w e.0);
      verbs = (e.1).verbs;
    }

-- records of all objects of a well-formed world, in their order
pub record AreObjects (w : World) (records : List ObjectRecord) : Type 0 where
  pub well_formed : IsWellFormed w
  pub all : map told records ≡ map (shown_object w) w.objects

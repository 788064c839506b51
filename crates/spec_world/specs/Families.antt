-- Parents and children (Programmer's Manual, "Operations on Objects": `create()`, `chparent()`, `recycle()`), and what their changes do to properties.
use Rattle.std.specs.Prelude.{ℤ, pos, neg_ℤ, ◌+ℤ◌, Bool, false, not, ◌&&◌, List, [], ◌∷◌, ◌++◌, filter, if◌then◌else◌, Option, Some, None}
use Rattle.std.specs.Ordering.{int_eq}
use Rattle.std.specs.List.{list_any}
use Rattle.spec_value.specs.Datum.{Text}
use Rattle.spec_value.specs.Table.{Named, Numbered, named, with_name, without}
use Rattle.spec_world.specs.World.{World, Object, Slot, object_at, with_object}
use Rattle.spec_world.specs.Inherit.{ancestors}
use Rattle.spec_world.specs.WellFormed.{lists, folded_names, defined_on, has_name}

-- ---- changes of objects

abbrev pub nowhere : ℤ
nowhere = neg_ℤ (pos 1)

abbrev pub change_at : World → ℤ → (Object → Object) → Option Object → World
change_at w o f None = w
change_at w o f (Some x) = with_object w o (f x)

-- one object, if it is there
abbrev pub change_object : World → ℤ → (Object → Object) → World
change_object w o f = change_at w o f (object_at w o)

abbrev pub changed_each : (ℤ → Object → Object) → Numbered Object → Numbered Object
changed_each f [] = []
changed_each f (e ∷ es) = (e.0, f e.0 e.1) ∷ changed_each f es

-- every object
abbrev pub change_each : World → (ℤ → Object → Object) → World
change_each w f = record w { objects = changed_each f w.objects }

abbrev pub leave_out : ℤ → List ℤ → List ℤ
leave_out o os = filter (λ p. not (int_eq o p)) os

-- ---- the slots of an heir

-- a slot that is newly inherited is clear; it has the bits of the parent's slot, and the heir's owner if the bit c is set, else the slot's
abbrev pub heir_slot : ℤ → Slot → Slot
heir_slot owner s = record s { content = None; owner = if s.changeable then owner else s.owner }

abbrev pub heir_slots : ℤ → Named Slot → Named Slot
heir_slots owner [] = []
heir_slots owner (e ∷ es) = (e.0, heir_slot owner e.1) ∷ heir_slots owner es

abbrev pub slots_at : Option Object → Named Slot
slots_at None = []
slots_at (Some x) = x.slots

-- those whose names pass a test
abbrev pub slots_named : (Text → Bool) → Named Slot → Named Slot
slots_named test [] = []
slots_named test (e ∷ es) = if test e.0 then e ∷ slots_named test es else slots_named test es

abbrev pub added_slot : Named Slot → Text → Slot → Option Slot → Named Slot
added_slot slots p s None = with_name slots p s
added_slot slots p s (Some t) = slots

-- those slots, and each of the others whose name is new to them
abbrev pub with_slots : Named Slot → Named Slot → Named Slot
with_slots slots [] = slots
with_slots slots (e ∷ es) = with_slots (added_slot slots e.0 e.1 (named slots e.0)) es

-- ---- a new object

abbrev pub child_of : World → ℤ → ℤ → Object
child_of w parent owner =
    record {
      header =
          record {
            name = [];
            owner = owner;
            parent = parent;
            location = nowhere;
            is_player = false;
            is_programmer = false;
            is_wizard = false;
            readable = false;
            writable = false;
            fertile = false;
          };
      children = [];
      contents = [];
      defines = [];
      slots = heir_slots owner (slots_at (object_at w parent));
      verbs = [];
    }

-- a number is never given again
abbrev pub next_object : World → ℤ
next_object w = w.greatest +ℤ pos 1

abbrev pub add_child : World → ℤ → ℤ → World
add_child w parent o = change_object w parent (λ x. record x { children = x.children ++ o ∷ [] })

abbrev pub lose_child : World → ℤ → ℤ → World
lose_child w parent o = change_object w parent (λ x. record x { children = leave_out o x.children })

-- last among its parent's children
unfoldable pub created : World → ℤ → ℤ → World
created w parent owner =
    add_child (with_object (record w { greatest = next_object w }) (next_object w) (child_of w parent owner)) parent (next_object w)

-- ---- another parent

abbrev pub is_below : World → ℤ → ℤ → Bool
is_below w o d = lists (ancestors w d) o

abbrev pub up_to : ℤ → List ℤ → List ℤ
up_to o [] = []
up_to o (p ∷ ps) = if int_eq o p then p ∷ [] else p ∷ up_to o ps

abbrev pub parent_of : Option Object → ℤ
parent_of None = nowhere
parent_of (Some x) = x.header.parent

-- the ancestors that an object has with its present parent and with the new one
abbrev pub common_ancestors : World → ℤ → ℤ → List ℤ
common_ancestors w o parent = filter (lists (ancestors w parent)) (ancestors w (parent_of (object_at w o)))

-- the properties that an heir of the object goes on having: those defined on the line up to the object, and on common ancestors
abbrev pub kept_names : World → ℤ → ℤ → ℤ → List Text
kept_names w o parent d = defined_on w (up_to o (ancestors w d)) ++ defined_on w (common_ancestors w o parent)

abbrev pub heir_of : World → ℤ → ℤ → ℤ → Object → Object
heir_of w o parent d x =
    record x { slots = with_slots (slots_named (has_name (kept_names w o parent d)) x.slots) (heir_slots x.header.owner (slots_at (object_at w parent))) }

-- the slots of the object and of those below it
abbrev pub with_heirs : World → ℤ → ℤ → World
with_heirs w o parent = change_each w (λ d x. if is_below w o d then heir_of w o parent d x else x)

abbrev pub put_below : World → ℤ → ℤ → ℤ → World
put_below w o before parent = add_child (change_object (lose_child w before o) o (λ x. record x { header = record (x.header) { parent = parent } })) parent o

-- last among the children of the new parent; slots still inherited keep their content
unfoldable pub reparented : World → ℤ → ℤ → World
reparented w o parent = put_below (with_heirs w o parent) o (parent_of (object_at w o)) parent

abbrev pub shares_name : List Text → List Text → Bool
shares_name ts us = list_any (has_name us) ts

-- a property that the object or one below it defines is also on the new parent's line
unfoldable pub clashes : World → ℤ → ℤ → Bool
clashes w o parent = list_any (λ e. is_below w o e.0 && shares_name (folded_names (Some e.1)) (defined_on w (ancestors w parent))) w.objects

-- ---- an object that goes

abbrev pub reparented_each : World → List ℤ → ℤ → World
reparented_each w [] parent = w
reparented_each w (c ∷ cs) parent = reparented_each (reparented w c parent) cs parent

abbrev pub to_nowhere : World → List ℤ → World
to_nowhere w [] = w
to_nowhere w (c ∷ cs) = to_nowhere (change_object w c (λ x. record x { header = record (x.header) { location = nowhere } })) cs

abbrev pub out_of_place : World → ℤ → ℤ → World
out_of_place w place o = change_object w place (λ x. record x { contents = leave_out o x.contents })

abbrev pub recycled_object : World → ℤ → Option Object → World
recycled_object w o None = w
recycled_object w o (Some x) =
    let u : World = out_of_place (lose_child (to_nowhere (reparented_each w x.children x.header.parent) x.contents) x.header.parent o) x.header.location o in
    record u { objects = without u.objects o }

-- its contents go to #-1, and its children to its parent
unfoldable pub recycled : World → ℤ → World
recycled w o = recycled_object w o (object_at w o)

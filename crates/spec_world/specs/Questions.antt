-- What a world is asked and told while a step runs: questions, answers, agreement and changes.
use Rattle.std.specs.Prelude.{◌≡◌, ℕ, max, min, ℤ, pos, int_le, Bool, ◌&&◌, List, [], ◌∷◌, Option, Some, None, option_map, if◌then◌else◌}
use Rattle.spec_value.specs.Datum.{Datum, Text, fold_case}
use Rattle.spec_value.specs.Table.{Numbered, Named, at, with, without, named, with_name, without_name}
use Rattle.spec_world.specs.World.{World, Header, Object, Slot, Verb, Task, Link, object_at}
use Rattle.spec_world.specs.Inherit.{slot_at, with_slot}
use Rattle.spec_world.specs.Families.{change_object}
use Rattle.spec_world.specs.Listings.{waiting_ids, readers_on, connections_of, connected}

-- ---- questions and answers

-- one facet of a world: of an object its header, its children, its contents, the names of the properties that it defines, a property's slot on it, its verbs;
-- a task that waits, and the ids of them all; a link, the tasks that read on it, the links of a person, and those on which players have logged in;
-- the greatest number of an object so far; whether the server is about to end
pub data Question : Type 0 where
  about_header about_children about_contents about_defines : ℤ → Question
  about_slot : ℤ → Text → Question
  about_verbs : ℤ → Question
  about_task : ℤ → Question
  about_waiting : Question
  about_link about_readers about_connections : ℤ → Question
  about_connected : Question
  about_greatest : Question
  about_ending : Question

-- that it is not there is an answer too; of a slot, that the object is not there, or that it has none
pub data Answer : Type 0 where
  the_header : Option Header → Answer
  the_children the_contents : Option (List ℤ) → Answer
  the_defines : Option (List Text) → Answer
  the_slot : Option (Option Slot) → Answer
  the_verbs : Option (List Verb) → Answer
  the_task : Option Task → Answer
  the_waiting : List ℤ → Answer
  the_link : Option Link → Answer
  the_readers the_connections : List ℤ → Answer
  the_connected : List (ℤ × ℤ) → Answer
  the_greatest : ℤ → Answer
  the_ending : Bool → Answer

abbrev pub header_at : World → ℤ → Option Header
header_at w o = option_map (λ x. x.header) (object_at w o)

abbrev pub children_at : World → ℤ → Option (List ℤ)
children_at w o = option_map (λ x. x.children) (object_at w o)

abbrev pub contents_at : World → ℤ → Option (List ℤ)
contents_at w o = option_map (λ x. x.contents) (object_at w o)

abbrev pub defines_at : World → ℤ → Option (List Text)
defines_at w o = option_map (λ x. x.defines) (object_at w o)

-- the slot of a property, or that there is none, on an object that is there
abbrev pub slot_on : World → ℤ → Text → Option (Option Slot)
slot_on w o p = option_map (λ x. named x.slots (fold_case p)) (object_at w o)

abbrev pub verbs_at : World → ℤ → Option (List Verb)
verbs_at w o = option_map (λ x. x.verbs) (object_at w o)

abbrev pub ask : World → Question → Answer
ask w (about_header o) = the_header (header_at w o)
ask w (about_children o) = the_children (children_at w o)
ask w (about_contents o) = the_contents (contents_at w o)
ask w (about_defines o) = the_defines (defines_at w o)
ask w (about_slot o p) = the_slot (slot_on w o p)
ask w (about_verbs o) = the_verbs (verbs_at w o)
ask w (about_task i) = the_task (at w.tasks i)
ask w about_waiting = the_waiting (waiting_ids w)
ask w (about_link c) = the_link (at w.links c)
ask w (about_readers c) = the_readers (readers_on w c)
ask w (about_connections o) = the_connections (connections_of w o)
ask w about_connected = the_connected (connected w)
ask w about_greatest = the_greatest w.greatest
ask w about_ending = the_ending w.ending

pub record Read : Type 0 where
  pub question : Question
  pub answer : Answer

-- each answer that was read is the one that the world gives
abbrev pub Agrees : World → List Read → Type 0
Agrees w [] = Unit {0}
Agrees w (r ∷ rs) = (ask w r.question ≡ r.answer) × Agrees w rs

-- ---- changes

-- another content for one part of an object: its header, its children, its contents, the names of the properties that it defines,
-- its verbs, the slot of a property, or none
pub data Part : Type 0 where
  new_header : Header → Part
  new_children new_contents : List ℤ → Part
  new_defines : List Text → Part
  new_verbs : List Verb → Part
  new_slot : Text → Option Slot → Part

abbrev pub put_header : Part → Header → Header
put_header (new_header h) _ = h
put_header _ h = h

abbrev pub put_children : Part → List ℤ → List ℤ
put_children (new_children os) _ = os
put_children _ os = os

abbrev pub put_contents : Part → List ℤ → List ℤ
put_contents (new_contents os) _ = os
put_contents _ os = os

abbrev pub put_defines : Part → List Text → List Text
put_defines (new_defines ts) _ = ts
put_defines _ ts = ts

abbrev pub put_verbs : Part → List Verb → List Verb
put_verbs (new_verbs vs) _ = vs
put_verbs _ vs = vs

abbrev pub put_slots : Part → Named Slot → Named Slot
put_slots (new_slot p None) ss = without_name ss (fold_case p)
put_slots (new_slot p (Some s)) ss = with_name ss (fold_case p) s
put_slots _ ss = ss

abbrev pub put_part : Part → Object → Object
put_part a x =
    record {
      header = put_header a x.header;
      children = put_children a x.children;
      contents = put_contents a x.contents;
      defines = put_defines a x.defines;
      slots = put_slots a x.slots;
      verbs = put_verbs a x.verbs;
    }

-- an object that is there has another part; a slot that is there has another value; an object, a task that waits, and a link, is made, or is another one, or goes;
-- the greatest number; the ending flag; the next step has at least this number
pub data Change : Type 0 where
  new_part : ℤ → Part → Change
  new_value : ℤ → Text → Datum → Change
  new_object : ℤ → Option Object → Change
  new_task : ℤ → Option Task → Change
  new_link : ℤ → Option Link → Change
  new_greatest : ℤ → Change
  new_ending : Bool → Change
  new_next : ℕ → Change

-- the slot, where there is one, with another value
abbrev pub put_value : World → ℤ → Text → Datum → Option Slot → World
put_value w o p v None = w
put_value w o p v (Some s) = with_slot w o p (record s { content = Some v })

-- objects and links have numbers from 0 to 999,999
abbrev pub is_number : ℤ → Bool
is_number n = int_le (pos 0) n && int_le n (pos 999999)

-- under another number nothing is made
abbrev pub put_record : {X : Type 0} → Numbered X → ℤ → Option X → Numbered X
put_record m n None = without m n
put_record m n (Some x) = if is_number n then with m n x else m

-- a task may have any id
abbrev pub put_task : Numbered Task → ℤ → Option Task → Numbered Task
put_task m i None = without m i
put_task m i (Some t) = with m i t

-- no step has this number
abbrev pub last_next : ℕ
last_next = 33554432

abbrev pub apply : Change → World → World
apply (new_part o a) w = change_object w o (put_part a)
apply (new_value o p v) w = put_value w o p v (slot_at w o p)
apply (new_object o x) w = record w { objects = put_record w.objects o x }
apply (new_task i t) w = record w { tasks = put_task w.tasks i t }
apply (new_link c k) w = record w { links = put_record w.links c k }
apply (new_greatest o) w = record w { greatest = o }
apply (new_ending b) w = record w { ending = b }
apply (new_next n) w = record w { next = max (min n last_next) w.next }

-- the changes in turn
abbrev pub apply_all : List Change → World → World
apply_all [] w = w
apply_all (c ∷ cs) w = apply_all cs (apply c w)

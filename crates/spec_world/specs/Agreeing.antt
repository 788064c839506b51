-- The parts of a well-formed world: what its objects have to agree on, its links, and its queue of tasks.
use Rattle.std.specs.Prelude.{◌≡◌, ◌≤◌, List, Bool, true, ℤ, pos, neg_ℤ, nat_le, int_le, ◌&&◌, map, Some, IsTrue}
use Rattle.std.specs.List.{list_all}
use Rattle.spec_value.specs.Table.{at, is_numbered}
use Rattle.spec_world.specs.World.{World, Entry, frame_entry, native_entry, Task}
use Rattle.spec_world.specs.WellFormed.{begins_with_frame, frames, native_fits, OfEachObject, OfEachLink, OfEachTask, once, number_fits, has_no_cycle, is_in_no_cycle, children_agree, parent_agrees, contents_agree, location_agrees, line_names_once, slots_in_order, slots_agree, definers_filled, link_fits, id_fits, wait_fits, TaskStands, links_read, frame_fits, IsWellFormed}

-- numbers, families, whereabouts and properties
pub record ObjectsAgree (w : World) : Type 0 where
  pub objects_in_order : IsTrue (is_numbered w.objects)
  pub greatest_in_range : IsTrue (int_le (neg_ℤ (pos 1)) w.greatest && int_le w.greatest (pos 999999))
  pub numbers : OfEachObject w number_fits
  pub parents_end : OfEachObject w has_no_cycle
  pub locations_end : OfEachObject w is_in_no_cycle
  pub children : OfEachObject w children_agree
  pub parents : OfEachObject w parent_agrees
  pub contents : OfEachObject w contents_agree
  pub locations : OfEachObject w location_agrees
  pub names_on_a_line : OfEachObject w line_names_once
  pub slot_order : OfEachObject w slots_in_order
  pub slots : OfEachObject w slots_agree
  pub definers : OfEachObject w definers_filled

pub record LinksAgree (w : World) : Type 0 where
  pub links_in_order : IsTrue (is_numbered w.links)
  pub links : OfEachLink w link_fits
  pub persons : IsTrue (once (map (λ e. (e.1).person) w.links))

-- a built-in that waits has the arguments that its stage wants
abbrev pub native_holds : Entry → Bool
native_holds (frame_entry f) = true
native_holds (native_entry n) = native_fits n.name n.stage n.arguments

-- a frame first and last, no two built-ins together, at most 50 frames
abbrev pub EntriesHold : List Entry → Type 0
EntriesHold es = IsTrue (begins_with_frame es) × ((frames es ≤ 50) × IsTrue (list_all native_holds es))

-- ids, what tasks wait for, and where they stand in their programs
pub record QueueAgrees (w : World) : Type 0 where
  pub tasks_in_order : IsTrue (is_numbered w.tasks)
  pub next_in_range : IsTrue (nat_le 1 w.next && nat_le w.next 33554432)
  pub task_ids : OfEachTask w id_fits
  pub task_waits : OfEachTask w wait_fits
  pub task_places : (i : ℤ) (t : Task) → at w.tasks i ≡ Some t → TaskStands t t.waiting
  pub readers : IsTrue (once (links_read w.tasks))
  pub task_entries : (i : ℤ) (t : Task) → at w.tasks i ≡ Some t → EntriesHold t.entries

-- all but the variables of waiting frames, and what their pieces hold
pub record Agrees (w : World) : Type 0 where
  pub objects : ObjectsAgree w
  pub links : LinksAgree w
  pub queue : QueueAgrees w

-- and that: a frame's variables stand in their order under names that programs can write, and its pieces hold what belongs there
abbrev pub frame_holds : Entry → Bool
frame_holds (frame_entry f) = frame_fits f
frame_holds (native_entry n) = true

abbrev pub frames_hold : World → ℤ → Task → Bool
frames_hold w i t = list_all frame_holds t.entries

-- together they are all that a well-formed world has
abbrev pub WellFormedAgrees : Type 0
WellFormedAgrees = (w : World) → IsWellFormed w → Agrees w × OfEachTask w frames_hold

abbrev pub AgreesIsWellFormed : Type 0
AgreesIsWellFormed = (w : World) → Agrees w → OfEachTask w frames_hold → IsWellFormed w

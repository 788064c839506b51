-- A world whose objects, links and tasks are as they have to be is well formed.
use Rattle.std.proofs.Common.{◌&&◌, nat_le, IsTrue}
use Rattle.spec_world.specs.World.{World}
use Rattle.spec_world.specs.Agreeing.{ObjectsAgree, LinksAgree}
use Rattle.spec_world.specs.WellFormed.{IsWellFormed}
use Rattle.spec_holding.specs.Whole.{TextsSpell}
use Rattle.view.specs.Sound.{IsSound}
use Rattle.world_checks.specs.DraftChecksTasks.{TasksAreSound}

well_formed : (w : World) → IsTrue (nat_le 1 w.next && nat_le w.next 33554432) → ObjectsAgree w → LinksAgree w → TasksAreSound w → IsWellFormed w
well_formed w next objects links tasks =
    record {
      objects_in_order = objects.objects_in_order;
      tasks_in_order = tasks.tasks_in_order;
      links_in_order = links.links_in_order;
      greatest_in_range = objects.greatest_in_range;
      next_in_range = next;
      numbers = objects.numbers;
      parents_end = objects.parents_end;
      locations_end = objects.locations_end;
      children = objects.children;
      parents = objects.parents;
      contents = objects.contents;
      locations = objects.locations;
      names_on_a_line = objects.names_on_a_line;
      slot_order = objects.slot_order;
      slots = objects.slots;
      definers = objects.definers;
      links = links.links;
      persons = links.persons;
      task_ids = tasks.task_ids;
      task_entries = tasks.task_entries;
      task_waits = tasks.task_waits;
      task_places = tasks.task_places;
      readers = tasks.readers;
    }

pub all_sound : (w : World) → IsTrue (nat_le 1 w.next && nat_le w.next 33554432) → ObjectsAgree w → LinksAgree w → TasksAreSound w → TextsSpell w → IsSound w
all_sound w next objects links tasks spelled = record { well_formed = well_formed w next objects links tasks; spelled = spelled }

-- ---- and the other way round

pub next_of : (w : World) → IsSound w → IsTrue (nat_le 1 w.next && nat_le w.next 33554432)
next_of w h = h.well_formed.next_in_range

pub objects_of : (w : World) → IsSound w → ObjectsAgree w
objects_of w h =
    let f = h.well_formed in
    record {
      objects_in_order = f.objects_in_order;
      greatest_in_range = f.greatest_in_range;
      numbers = f.numbers;
      parents_end = f.parents_end;
      locations_end = f.locations_end;
      children = f.children;
      parents = f.parents;
      contents = f.contents;
      locations = f.locations;
      names_on_a_line = f.names_on_a_line;
      slot_order = f.slot_order;
      slots = f.slots;
      definers = f.definers;
    }

pub links_of : (w : World) → IsSound w → LinksAgree w
links_of w h = record { links_in_order = h.well_formed.links_in_order; links = h.well_formed.links; persons = h.well_formed.persons }

pub tasks_of : (w : World) → IsSound w → TasksAreSound w
tasks_of w h =
    let f = h.well_formed in
    record {
      tasks_in_order = f.tasks_in_order;
      task_ids = f.task_ids;
      task_entries = f.task_entries;
      task_waits = f.task_waits;
      task_places = f.task_places;
      readers = f.readers;
    }

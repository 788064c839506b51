-- The fixture is well formed: its tests come out true.
use Rattle.std.proofs.Common.{refl}
use Rattle.spec_world.specs.WellFormed.{IsWellFormed}
use Rattle.spec_fixture.specs.Opened.{opened}
use Rattle.spec_fixture.specs.Fixture.{fixture}
use Rattle.spec_value.proofs.Entries.{each_entry}

pub fixture_fits : IsWellFormed fixture
unfolding opened
fixture_fits =
    record {
      objects_in_order = refl;
      tasks_in_order = refl;
      links_in_order = refl;
      greatest_in_range = refl;
      next_in_range = refl;
      numbers = each_entry _ fixture.objects refl;
      parents_end = each_entry _ fixture.objects refl;
      locations_end = each_entry _ fixture.objects refl;
      children = each_entry _ fixture.objects refl;
      parents = each_entry _ fixture.objects refl;
      contents = each_entry _ fixture.objects refl;
      locations = each_entry _ fixture.objects refl;
      names_on_a_line = each_entry _ fixture.objects refl;
      slot_order = each_entry _ fixture.objects refl;
      slots = each_entry _ fixture.objects refl;
      definers = each_entry _ fixture.objects refl;
      links = each_entry _ fixture.links refl;
      persons = refl;
      task_ids = each_entry _ fixture.tasks refl;
      task_entries = each_entry _ fixture.tasks refl;
      task_waits = each_entry _ fixture.tasks refl;
      task_places = λ i t is. cc;
      readers = refl;
    }

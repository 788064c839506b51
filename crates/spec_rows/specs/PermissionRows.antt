-- Worked rows, true by computation: who may do what on the fixture, where #2 is the wizard, and #4 and #5 are players.
use Rattle.std.specs.Prelude.{◌≡◌, pos, neg_ℤ, [], ◌∷◌, Bool, true, false, codes}
use Rattle.spec_value.specs.Table.{with}
use Rattle.spec_world.specs.World.{World, Object}
use Rattle.spec_world.specs.Permissions.{Act, read_slot, write_slot, write_name, write_bits, write_standing, write_place, list_members, change_members, change_owner, read_verb, write_verb, program_verb, evaluate, have_child, change_object, act_as, control_task, administer, may}
use Rattle.spec_fixture.specs.Fixture.{fixture, box, count_verb, n_slot, person}

-- the box is Ann's, with a verb of Ann's and a slot of Ann's that others may neither read nor write
abbrev pub hers : Object
hers = record box {
  header = record (box.header) { owner = pos 4 };
  defines = codes "n" ∷ [];
  slots = (codes "n", record (n_slot (pos 0)) { owner = pos 4; readable = false }) ∷ [];
  verbs = record count_verb { owner = pos 4 } ∷ [];
}

abbrev pub with_hers : World
with_hers = record fixture { objects = with fixture.objects (pos 6) hers }

-- the same with every bit set
abbrev pub with_bits : World
with_bits = record fixture {
  objects = with fixture.objects (pos 6) (record hers {
    header = record (hers.header) { readable = true; writable = true; fertile = true };
    slots = (codes "n", record (n_slot (pos 0)) { owner = pos 4; readable = true; writable = true }) ∷ [];
    verbs = record count_verb { owner = pos 4; readable = true; writable = true } ∷ [];
  });
}

-- the owner, a stranger, a wizard, and a stranger where the bits allow it
abbrev pub Answers : Act → Bool → Bool → Bool → Bool → Type 0
Answers a owner stranger wizard by_bit =
    (may with_hers (pos 4) a ≡ owner) × (may with_hers (pos 5) a ≡ stranger) × (may with_hers (pos 2) a ≡ wizard) × (may with_bits (pos 5) a ≡ by_bit)

abbrev pub Slots : Type 0
Slots = Answers (read_slot (pos 6) (codes "N")) true false true true × Answers (write_slot (pos 6) (codes "N")) true false true true

abbrev pub NamesAndBits : Type 0
NamesAndBits = Answers (write_name (pos 6)) true false true false × Answers (write_bits (pos 6)) true false true false

-- a player's name is written by wizards alone
abbrev pub PlayersNames : Type 0
PlayersNames =
    let w : World = record fixture { objects = with fixture.objects (pos 4) (record (person (codes "Ann")) { header = record ((person (codes "Ann")).header) { owner = pos 4 } }) } in
    (may w (pos 4) (write_name (pos 4)) ≡ false) × (may w (pos 2) (write_name (pos 4)) ≡ true)

abbrev pub Standing : Type 0
Standing = Answers (write_standing (pos 6)) false false true false

-- not even wizards write a location or contents
abbrev pub Places : Type 0
Places = Answers (write_place (pos 6)) false false false false

abbrev pub Members : Type 0
Members = Answers (list_members (pos 6)) true false true true × Answers (change_members (pos 6)) true false true true

-- to a new owner wizards alone, to the same one everybody
abbrev pub Owners : Type 0
Owners = Answers (change_owner (pos 4) (pos 5)) false false true false × Answers (change_owner (pos 4) (pos 4)) true true true true

-- whoever sets code also wants the programmer's flag
abbrev pub Verbs : Type 0
Verbs =
    Answers (read_verb (pos 6) 0) true false true true × Answers (write_verb (pos 6) 0) true false true true
    × Answers (program_verb (pos 6) 0) false false true false

-- wizards want that flag too
abbrev pub Evaluating : Type 0
Evaluating =
    Answers evaluate false false true false
    × (may (record fixture { objects = with fixture.objects (pos 4) (record (person (codes "Ann")) { header = record ((person (codes "Ann")).header) { is_wizard = true } }) }) (pos 4) evaluate ≡ false)
    × (may (record fixture { objects = with fixture.objects (pos 4) (record (person (codes "Ann")) { header = record ((person (codes "Ann")).header) { is_programmer = true } }) }) (pos 4) evaluate ≡ true)

abbrev pub Children : Type 0
Children = Answers (have_child (pos 6)) true false true true × Answers (have_child (neg_ℤ (pos 1))) false false true false

abbrev pub Changes : Type 0
Changes = Answers (change_object (pos 6)) true false true false

abbrev pub OneselfAndTasks : Type 0
OneselfAndTasks = Answers (act_as (pos 4)) true false true false × Answers (control_task (pos 4)) true false true false

abbrev pub Administering : Type 0
Administering = Answers administer false false true false

-- the flag counts on a valid object alone
abbrev pub NobodyIsNoWizard : Type 0
NobodyIsNoWizard = may fixture (pos 99) administer ≡ false

-- The small world that worked rows begin with (in the manner of the minimal database of the Programmer's Manual), whole.
use Rattle.std.specs.Prelude.{ℕ, ℤ, pos, List, [], ◌∷◌, true, false, Some, None, codes}
use Rattle.spec_value.specs.Datum.{integer, Text}
use Rattle.spec_program.specs.Tree.{Program}
use Rattle.spec_world.specs.World.{Header, World, Object, Verb, Slot, no_object, any_object, this_object, no_preposition, any_preposition, preposition_set}
use Rattle.spec_world.specs.Families.{nowhere}
use Rattle.spec_fixture.specs.Programs.{login_program, accept_program, count_program, grow_program, call_program, plot_program, dice_program, sum_program, spin_program, look_program, hold_program, wake_program, storm_program, tell_program, eval_program, box_look_program, put_program}

-- owned by the wizard, a child of the root, nowhere
abbrev pub plain_header : Text → Header
plain_header name =
    record {
      name = name;
      owner = pos 2;
      parent = pos 1;
      location = nowhere;
      is_player = false;
      is_programmer = false;
      is_wizard = false;
      readable = false;
      writable = false;
      fertile = false;
    }

-- with no children, contents, properties and verbs
abbrev pub bare : Header → Object
bare h = record { header = h; children = []; contents = []; defines = []; slots = []; verbs = [] }

abbrev pub plain_object : Text → Object
plain_object name = bare (plain_header name)

-- owned by the wizard, with the bits x and d, for a command of one word
abbrev pub plain_verb : Text → Program → Verb
plain_verb names program =
    record {
      names = names;
      owner = pos 2;
      readable = false;
      writable = false;
      callable = true;
      debug = true;
      direct = no_object;
      preposition = no_preposition;
      indirect = no_object;
      program = program;
    }

-- on this, without a preposition, on this
abbrev pub this_none_this : Verb → Verb
this_none_this v = record v { direct = this_object; indirect = this_object }

abbrev pub login_verb : Verb
login_verb = this_none_this (plain_verb (codes "do_login_command") login_program)

abbrev pub system : Object
system = record (plain_object (codes "System")) { verbs = login_verb ∷ [] }

abbrev pub root : Object
root = record (bare (record (plain_header (codes "Root")) { parent = nowhere })) { children = pos 0 ∷ pos 2 ∷ pos 3 ∷ pos 4 ∷ pos 5 ∷ pos 7 ∷ [] }

abbrev pub wizard : Object
wizard = bare (record (plain_header (codes "Wizard")) { is_player = true; is_programmer = true; is_wizard = true })

abbrev pub n_slot : ℤ → Slot
n_slot n = record { content = Some (integer n); owner = pos 2; readable = true; writable = false; changeable = false }

abbrev pub accept_verb : Verb
accept_verb = this_none_this (plain_verb (codes "accept") accept_program)

abbrev pub count_verb : Verb
count_verb = plain_verb (codes "count") count_program

abbrev pub grow_verb : Verb
grow_verb = plain_verb (codes "grow") grow_program

abbrev pub call_verb : Verb
call_verb = plain_verb (codes "call") call_program

abbrev pub plot_verb : Verb
plot_verb = plain_verb (codes "plot") plot_program

abbrev pub dice_verb : Verb
dice_verb = plain_verb (codes "dice") dice_program

abbrev pub sum_verb : Verb
sum_verb = plain_verb (codes "sum") sum_program

abbrev pub spin_verb : Verb
spin_verb = plain_verb (codes "spin") spin_program

abbrev pub look_verb : Verb
look_verb = plain_verb (codes "l*ook") look_program

abbrev pub hold_verb : Verb
hold_verb = plain_verb (codes "hold") hold_program

abbrev pub wake_verb : Verb
wake_verb = plain_verb (codes "wake") wake_program

abbrev pub storm_verb : Verb
storm_verb = plain_verb (codes "storm") storm_program

abbrev pub tell_verb : Verb
tell_verb = plain_verb (codes "tell") tell_program

abbrev pub eval_verb : Verb
eval_verb = record (plain_verb (codes "eval") eval_program) { direct = any_object; preposition = any_preposition; indirect = any_object }

abbrev pub room_verbs : List Verb
room_verbs =
    accept_verb ∷ count_verb ∷ grow_verb ∷ call_verb ∷ plot_verb ∷ dice_verb ∷ sum_verb ∷ spin_verb ∷ look_verb ∷ hold_verb ∷ wake_verb ∷ storm_verb
    ∷ tell_verb ∷ eval_verb ∷ []

abbrev pub room : ℤ → List Verb → Object
room n verbs =
    record (plain_object (codes "Room")) { contents = pos 4 ∷ pos 5 ∷ pos 6 ∷ []; defines = codes "n" ∷ []; slots = (codes "n", n_slot n) ∷ []; verbs = verbs }

abbrev pub person : Text → Object
person name = bare (record (plain_header name) { is_player = true; location = pos 3 })

abbrev pub box_look_verb : Verb
box_look_verb = record (plain_verb (codes "l*ook") box_look_program) { preposition = preposition_set 2; indirect = this_object }

abbrev pub put_verb : Verb
put_verb = record (plain_verb (codes "put") put_program) { direct = any_object; preposition = preposition_set 3; indirect = this_object }

abbrev pub box_verbs : List Verb
box_verbs = box_look_verb ∷ put_verb ∷ []

abbrev pub box : Object
box = record (bare (record (plain_header (codes "box")) { parent = pos 7; location = pos 3 })) { verbs = box_verbs }

abbrev pub thing : Object
thing = record (plain_object (codes "Thing")) { children = pos 6 ∷ [] }

-- with n and these verbs in the room
abbrev pub fixture_with : ℤ → List Verb → ℕ → World
fixture_with n verbs next =
    record {
      objects =
          (pos 0, system) ∷ (pos 1, root) ∷ (pos 2, wizard) ∷ (pos 3, room n verbs) ∷ (pos 4, person (codes "Ann")) ∷ (pos 5, person (codes "Ben"))
          ∷ (pos 6, box) ∷ (pos 7, thing) ∷ [];
      tasks = [];
      links = (pos 1, record { person = pos 4; programming = None }) ∷ (pos 2, record { person = pos 5; programming = None }) ∷ [];
      greatest = pos 7;
      next = next;
      ending = false;
    }

abbrev pub fixture : World
fixture = fixture_with (pos 0) room_verbs 1

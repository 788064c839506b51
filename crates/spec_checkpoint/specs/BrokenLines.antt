-- Two worlds, the text of one of which begins that of the other: a name of the other's program has line ends in it.
use Rattle.std.specs.Prelude.{◌≡◌, ℤ, pos, neg_ℤ, [], ◌∷◌, ◌++◌, false}
use Rattle.spec_value.specs.Datum.{Text}
use Rattle.spec_program.specs.Tree.{variable, evaluate, the_end, seq}
use Rattle.spec_world.specs.World.{World, Verb, Header, Object, no_object, no_preposition}
use Rattle.spec_world.specs.Checkpoint.{checkpoint_text}

abbrev pub nowhere : ℤ
nowhere = neg_ℤ (pos 1)

-- one statement that names a variable
abbrev pub verb_naming : Text → Verb
verb_naming x =
    record {
      names = [];
      owner = pos 0;
      readable = false;
      writable = false;
      callable = false;
      debug = false;
      direct = no_object;
      preposition = no_preposition;
      indirect = no_object;
      program = seq (evaluate (variable x)) the_end;
    }

abbrev pub no_flags : Header
no_flags =
    record {
      name = [];
      owner = pos 0;
      parent = nowhere;
      location = nowhere;
      is_player = false;
      is_programmer = false;
      is_wizard = false;
      readable = false;
      writable = false;
      fertile = false;
    }

abbrev pub object_naming : Text → Object
object_naming x = record { header = no_flags; children = []; contents = []; defines = []; slots = []; verbs = verb_naming x ∷ [] }

abbrev pub world_naming : Text → World
world_naming x = record { objects = (pos 0, object_naming x) ∷ []; tasks = []; links = []; greatest = pos 0; next = 1; ending = false }

-- so a world's lines have to be lines
abbrev pub NeedsLines : Type 0
NeedsLines = ((v w : World) (rest : Text) → checkpoint_text v ++ rest ≡ checkpoint_text w → rest ≡ []) → ⊥

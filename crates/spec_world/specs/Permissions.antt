-- Who may do what (Programmer's Manual, "Fundamental Object Attributes", "Properties on Objects", "Verbs on Objects" and the permissions of each built-in).
use Rattle.std.specs.Prelude.{ℤ, ℕ, zero, suc, Bool, false, ◌&&◌, ◌||◌, not, Option, Some, None, List, [], ◌∷◌}
use Rattle.std.specs.Ordering.{int_eq}
use Rattle.spec_value.specs.Datum.{Text}
use Rattle.spec_world.specs.World.{World, Object, Slot, Verb, object_at}
use Rattle.spec_world.specs.Inherit.{slot_at}

-- what a programmer would do
pub data Act : Type 0 where
  -- a property's slot on an object; to ask for its owner, bits and whether it is clear is to read it, to set them or to clear it is to write it
  read_slot write_slot : ℤ → Text → Act
  write_name write_bits : ℤ → Act  -- of an object; the bits r, w, f
  write_standing : ℤ → Act  -- an object's owner and its flags programmer and wizard
  write_place : ℤ → Act  -- an object's location and contents, as a property
  list_members : ℤ → Act  -- the names of an object's verbs and of its properties
  change_members : ℤ → Act  -- to add or delete a verb or a property
  change_owner : ℤ → ℤ → Act  -- from an owner to another one; what is added or created is at first the programmer's own
  read_verb write_verb program_verb : ℤ → ℕ → Act  -- a verb of an object, by its place; to program it is to set its code
  evaluate : Act
  have_child : ℤ → Act  -- to make or move an object below a parent
  change_object : ℤ → Act  -- `chparent`, `recycle`, `move`
  act_as : ℤ → Act  -- `notify`, `boot_player`, `read` and `set_task_perms`
  control_task : ℤ → Act  -- `kill_task` and `resume`, by the programmer of the task's innermost frame
  administer : Act  -- `set_player_flag`, `dump_database` and `shutdown`

abbrev pub wizardly : Option Object → Bool
wizardly None = false
wizardly (Some x) = x.header.is_wizard

-- a valid object with the flag
abbrev pub is_wizard : World → ℤ → Bool
is_wizard w o = wizardly (object_at w o)

abbrev pub programs : Option Object → Bool
programs None = false
programs (Some x) = x.header.is_programmer

abbrev pub is_programmer : World → ℤ → Bool
is_programmer w o = programs (object_at w o)

abbrev pub owns_or : ℤ → ℤ → Bool → Bool
owns_or who owner bit = int_eq who owner || bit

abbrev pub on_slot : Option Slot → (Slot → Bool) → Bool
on_slot None test = false
on_slot (Some s) test = test s

abbrev pub of_object : Option Object → (Object → Bool) → Bool
of_object None test = false
of_object (Some x) test = test x

abbrev pub in_place : List Verb → ℕ → Option Verb
in_place [] n = None
in_place (v ∷ vs) zero = Some v
in_place (v ∷ vs) (suc n) = in_place vs n

-- a verb by its place, from 0
abbrev pub verb_in : Option Object → ℕ → Option Verb
verb_in None n = None
verb_in (Some x) n = in_place x.verbs n

abbrev pub of_verb : Option Verb → (Verb → Bool) → Bool
of_verb None test = false
of_verb (Some v) test = test v

-- what the table grants to those who are no wizards
abbrev pub granted : World → ℤ → Act → Bool
granted w who (read_slot o p) = on_slot (slot_at w o p) (λ s. owns_or who s.owner s.readable)
granted w who (write_slot o p) = on_slot (slot_at w o p) (λ s. owns_or who s.owner s.writable)
granted w who (write_name o) = of_object (object_at w o) (λ x. int_eq who x.header.owner && not x.header.is_player)
granted w who (write_bits o) = of_object (object_at w o) (λ x. int_eq who x.header.owner)
granted w who (list_members o) = of_object (object_at w o) (λ x. owns_or who x.header.owner x.header.readable)
granted w who (change_members o) = of_object (object_at w o) (λ x. owns_or who x.header.owner x.header.writable)
granted w who (change_owner before after) = int_eq before after
granted w who (read_verb o n) = of_verb (verb_in (object_at w o) n) (λ v. owns_or who v.owner v.readable)
granted w who (write_verb o n) = of_verb (verb_in (object_at w o) n) (λ v. owns_or who v.owner v.writable)
granted w who (program_verb o n) = is_programmer w who && of_verb (verb_in (object_at w o) n) (λ v. owns_or who v.owner v.writable)
granted w who (have_child p) = of_object (object_at w p) (λ x. owns_or who x.header.owner x.header.fertile)
granted w who (change_object o) = of_object (object_at w o) (λ x. int_eq who x.header.owner)
granted w who (act_as o) = int_eq who o
granted w who (control_task p) = int_eq who p
granted w who (write_standing o) = false
granted w who administer = false
granted w who (write_place o) = false
granted w who evaluate = false

-- a wizard may do all, but for what nobody may, and what wants the programmer's flag of wizards too
unfoldable pub may : World → ℤ → Act → Bool
may w who (write_place o) = false
may w who evaluate = is_programmer w who
may w who a = is_wizard w who || granted w who a

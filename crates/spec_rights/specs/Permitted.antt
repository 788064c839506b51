-- What one programmer may do to a world (Programmer's Manual, "Fundamental Object Attributes" and the permissions of each built-in): each facet of an object stays as it was, unless the permission table allows its change.
use Rattle.std.specs.Prelude.{◌≡◌, ◌⊎◌, ℕ, suc, ℤ, true, List, [], ◌∷◌, Option, Some, None}
use Rattle.spec_value.specs.Datum.{Datum, object, Text}
use Rattle.spec_value.specs.Table.{at}
use Rattle.spec_world.specs.World.{World, Header, Object, Slot, Verb, Link, Task, Waiting, reading_on, Native, NativeName, move_native, recycle_native, object_at}
use Rattle.spec_world.specs.Inherit.{slot_of}
use Rattle.spec_world.specs.Families.{nowhere, next_object, child_of, is_below}
use Rattle.spec_world.specs.Permissions.{Act, write_slot, write_name, write_bits, write_standing, change_members, change_owner, write_verb, program_verb, have_child, change_object, act_as, control_task, administer, may}
use Rattle.spec_moo.specs.Natives.Tasks.{task_programmer}

-- the table allows it to the programmer
abbrev pub Allows : World → ℤ → Act → Type 0
Allows w who a = may w who a ≡ true

-- ---- slots

-- its value and its bits; its owner
pub record SlotKept (w : World) (who o : ℤ) (p : Text) (s t : Slot) : Type 0 where
  pub rest : (t ≡ record s { owner = t.owner }) ⊎ Allows w who (write_slot o p)
  pub owner : (t.owner ≡ s.owner) ⊎ (Allows w who (write_slot o p) × Allows w who (change_owner s.owner t.owner))

-- one that is there stays there, and none comes
abbrev pub SlotStays : World → ℤ → ℤ → Text → Option Slot → Option Slot → Type 0
SlotStays w who o p None None = Unit {0}
SlotStays w who o p (Some s) (Some t) = SlotKept w who o p s t
SlotStays w who o p _ _ = ⊥

-- one comes, or goes, or is clear
abbrev pub SlotComesOrGoes : Option Slot → Option Slot → Type 0
SlotComesOrGoes (Some s) (Some t) = (t ≡ s) ⊎ (t.content ≡ None)
SlotComesOrGoes _ _ = Unit {0}

-- ---- verbs

-- its names, its bits and what it wants of a command; its owner; its program
pub record VerbKept (w : World) (who o : ℤ) (n : ℕ) (v u : Verb) : Type 0 where
  pub rest : (u ≡ record v { owner = u.owner; program = u.program }) ⊎ Allows w who (write_verb o n)
  pub owner : (u.owner ≡ v.owner) ⊎ (Allows w who (write_verb o n) × Allows w who (change_owner v.owner u.owner))
  pub program : (u.program ≡ v.program) ⊎ Allows w who (program_verb o n)

-- from the n-th verb on: each is kept, or is gone where the object's members may be changed; then others may be new at the end, and are the programmer's own
abbrev pub VerbsKept : World → ℤ → ℤ → ℕ → List Verb → List Verb → Type 0
VerbsKept w who o n [] [] = Unit {0}
VerbsKept w who o n [] (u ∷ us) = Allows w who (change_members o) × (Allows w who (change_owner who u.owner) × VerbsKept w who o n [] us)
VerbsKept w who o n (v ∷ vs) [] = Allows w who (change_members o) × VerbsKept w who o (suc n) vs []
VerbsKept w who o n (v ∷ vs) (u ∷ us) =
    (VerbKept w who o n v u × VerbsKept w who o (suc n) vs us) ⊎ (Allows w who (change_members o) × VerbsKept w who o (suc n) vs (u ∷ us))

-- ---- objects; `begun` are those that a built-in moves or recycles which began when that was allowed

-- the object may be moved, recycled or hung below another one
abbrev pub Taken : (ℤ → Type 0) → World → ℤ → ℤ → Type 0
Taken begun w who o = Allows w who (change_object o) ⊎ begun o

-- an object that was there is gone, since it may be recycled
abbrev pub IsRecycled : (ℤ → Type 0) → World → ℤ → World → ℤ → Type 0
IsRecycled begun w who u o = (x : Object) × (object_at w o ≡ Some x) × (object_at u o ≡ None) × Taken begun w who o

-- on the object itself or one above it members may be changed, or it may be moved, recycled or hung below another one
abbrev pub LineChanges : (ℤ → Type 0) → World → ℤ → ℤ → Type 0
LineChanges begun w who o = (a : ℤ) × (is_below w a o ≡ true) × (Allows w who (change_members a) ⊎ Taken begun w who a)

abbrev pub SameStanding : Header → Header → Type 0
SameStanding h k = (k.owner ≡ h.owner) × (k.is_programmer ≡ h.is_programmer) × (k.is_wizard ≡ h.is_wizard)

abbrev pub SameBits : Header → Header → Type 0
SameBits h k = (k.readable ≡ h.readable) × (k.writable ≡ h.writable) × (k.fertile ≡ h.fertile)

-- an object that is there before and after: with its parent gone it hangs below another one, and with its place gone it is nowhere;
-- where its line changes slots come and go, and no value is written; in a well-formed world children and contents follow parents and locations
pub record ObjectKept (begun : ℤ → Type 0) (w : World) (who : ℤ) (u : World) (o : ℤ) (x y : Object) : Type 0 where
  pub name : (y.header.name ≡ x.header.name) ⊎ Allows w who (write_name o)
  pub standing : SameStanding x.header y.header ⊎ Allows w who (write_standing o)
  pub player : (y.header.is_player ≡ x.header.is_player) ⊎ Allows w who administer
  pub bits : SameBits x.header y.header ⊎ Allows w who (write_bits o)
  pub parent :
      (y.header.parent ≡ x.header.parent) ⊎ ((Allows w who (change_object o) × Allows w who (have_child y.header.parent))
      ⊎ IsRecycled begun w who u x.header.parent)
  pub location :
      (y.header.location ≡ x.header.location) ⊎ (Taken begun w who o
      ⊎ ((y.header.location ≡ nowhere) × IsRecycled begun w who u x.header.location))
  pub defines : (y.defines ≡ x.defines) ⊎ Allows w who (change_members o)
  pub slots :
      (p : Text) → SlotStays w who o p (slot_of (Some x) p) (slot_of (Some y) p)
      ⊎ (LineChanges begun w who o × SlotComesOrGoes (slot_of (Some x) p) (slot_of (Some y) p))
  pub verbs : VerbsKept w who o 0 x.verbs y.verbs

-- a new object: its number is the next one, its owner the programmer unless a wizard names another one, and it has neither flags nor verbs
pub record Made (w : World) (who o : ℤ) (y : Object) : Type 0 where
  pub number : o ≡ next_object w
  pub owner : Allows w who (change_owner who y.header.owner)
  pub parent : Allows w who (have_child y.header.parent)
  pub header : y.header ≡ (child_of w y.header.parent y.header.owner).header
  pub verbs : y.verbs ≡ []

-- ---- from a world to another one: no number is given twice

pub record Permitted (begun : ℤ → Type 0) (w : World) (who : ℤ) (u : World) : Type 0 where
  pub kept : (o : ℤ) (x y : Object) → object_at w o ≡ Some x → object_at u o ≡ Some y → ObjectKept begun w who u o x y
  pub gone : (o : ℤ) (x : Object) → object_at w o ≡ Some x → object_at u o ≡ None → Taken begun w who o
  pub new : (o : ℤ) (y : Object) → object_at w o ≡ None → object_at u o ≡ Some y → Made w who o y
  pub greatest : (u.greatest ≡ w.greatest) ⊎ (u.greatest ≡ next_object w)
  pub ending : (u.ending ≡ w.ending) ⊎ Allows w who administer

-- ---- tasks and links, of a built-in function

-- its person's link may be closed: by that person, by wizards, or since the object may be recycled
abbrev pub MayClose : (ℤ → Type 0) → World → ℤ → ℤ → Type 0
MayClose begun w who o = Allows w who (act_as o) ⊎ (Allows w who administer ⊎ Taken begun w who o)

-- a task that waits for a line goes with its link
abbrev pub GoesWithLink : (ℤ → Type 0) → World → ℤ → Waiting → Type 0
GoesWithLink begun w who (reading_on c) = (k : Link) × (at w.links c ≡ Some k) × MayClose begun w who k.person
GoesWithLink begun w who why = ⊥

-- a task that waits is resumed or killed by its programmer or a wizard
pub record QueueKept (begun : ℤ → Type 0) (w : World) (who : ℤ) (u : World) : Type 0 where
  pub tasks :
      (i : ℤ) (t : Task) → at w.tasks i ≡ Some t
      → (at u.tasks i ≡ Some t) ⊎ (Allows w who (control_task (task_programmer t)) ⊎ GoesWithLink begun w who t.waiting)
  pub links : (c : ℤ) (k : Link) → at w.links c ≡ Some k → (at u.links c ≡ Some k) ⊎ MayClose begun w who k.person

-- ---- built-in functions

-- the object that a waiting built-in moves or recycles
abbrev pub concerned : NativeName → List Datum → Option ℤ
concerned move_native (object o ∷ args) = Some o
concerned recycle_native (object o ∷ args) = Some o
concerned name args = None

abbrev pub Concerns : Native → ℤ → Type 0
Concerns n o = concerned n.name n.arguments ≡ Some o

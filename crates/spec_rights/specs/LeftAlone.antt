-- What steps leave as it was, in the words of those who use a world: nobody becomes a wizard where no wizard's verb runs, and an object stays as it is while nobody runs who may change it.
use Rattle.std.specs.Prelude.{◌≡◌, ℕ, ℤ, Bool, true, false, not, ◌&&◌, List, [], Some, IsTrue}
use Rattle.std.specs.List.{list_all}
use Rattle.std.specs.Ordering.{int_eq}
use Rattle.spec_value.specs.Datum.{Text}
use Rattle.spec_world.specs.World.{World, Object, Slot, object_at}
use Rattle.spec_world.specs.Inherit.{slot_at, ancestors}
use Rattle.spec_world.specs.WellFormed.{lists}
use Rattle.spec_world.specs.Agreeing.{Agrees}
use Rattle.spec_world.specs.Permissions.{owns_or, of_object, is_wizard}
use Rattle.spec_world.specs.Step.{Step, in_range}
use Rattle.spec_moo.specs.Scene.{Scene}
use Rattle.spec_moo.specs.Pending.{Pending}
use Rattle.spec_moo.specs.Sizes.{begins_stage}
use Rattle.spec_moo.specs.Turn.{turn}
use Rattle.spec_moo.specs.Worlds.{SceneAgrees}
use Rattle.spec_moo.specs.Steps.{play}
use Rattle.spec_rights.specs.Permitted.{SameStanding, SameBits}
use Rattle.spec_rights.specs.Chains.{acting, Begun, world_after, Right, to_run_as, to_take, Holds, AllHold}

-- ---- without wizards

-- all owners and flags stay, and nobody becomes a wizard
pub record StandingStays (w u : World) : Type 0 where
  pub same : (o : ℤ) (x y : Object) → object_at w o ≡ Some x → object_at u o ≡ Some y → SameStanding x.header y.header × (y.header.is_player ≡ x.header.is_player)
  pub wizards : (o : ℤ) → is_wizard u o ≡ true → is_wizard w o ≡ true

-- a turn that does not act as a wizard leaves them, whoever else's verbs there are
abbrev pub TurnsLeaveStanding : Type 0
TurnsLeaveStanding =
    (k : ℕ) (s : Scene) (p : Pending) → SceneAgrees k s → is_wizard s.world (acting p) ≡ false → StandingStays s.world (world_after (turn s p))

-- no verb is a wizard's, nor a waiting task
abbrev pub no_wizard : World → Right → Bool
no_wizard w (to_run_as o) = not (is_wizard w o)
no_wizard w (to_take o) = true

-- then no list of steps changes them
abbrev pub NoWizardsArise : Type 0
NoWizardsArise =
    (w : World) (ss : List Step) → Agrees w → IsTrue (list_all in_range ss) → AllHold (Holds (no_wizard w) []) w → StandingStays w (play w ss).0

-- ---- one object

-- no wizard, and neither the object nor one of its verbs is its own or has the bit w
abbrev pub is_stranger : World → Object → ℤ → Bool
is_stranger w x who =
    not (is_wizard w who) && not (owns_or who x.header.owner x.header.writable) && list_all (λ v. not (owns_or who v.owner v.writable)) x.verbs

-- its name, owner, flags, bits and the names of its properties; its verbs
abbrev pub SameObject : Object → Object → Type 0
SameObject x y =
    (y.header.name ≡ x.header.name) × (SameStanding x.header y.header × ((y.header.is_player ≡ x.header.is_player)
    × (SameBits x.header y.header × ((y.defines ≡ x.defines) × (y.verbs ≡ x.verbs)))))

-- a turn that acts as a stranger leaves it so, and there
abbrev pub TurnsLeaveAlone : Type 0
TurnsLeaveAlone =
    (k : ℕ) (s : Scene) (p : Pending) (o : ℤ) (x : Object) → SceneAgrees k s → object_at s.world o ≡ Some x → IsTrue (is_stranger s.world x (acting p))
    → (Begun (begins_stage p) p.outer o → ⊥) → (y : Object) × ((object_at (world_after (turn s p)) o ≡ Some y) × SameObject x y)

-- all that runs is a stranger's, and no built-in waits to move or recycle the object
abbrev pub strange : World → ℤ → Object → Right → Bool
strange w o x (to_run_as who) = is_stranger w x who
strange w o x (to_take p) = not (int_eq p o)

-- then after each list of steps the object is there still, as it was, if each player is a stranger too, who might type a program
abbrev pub StrangersLeaveAlone : Type 0
StrangersLeaveAlone =
    (w : World) (ss : List Step) (o : ℤ) (x : Object) → Agrees w → IsTrue (list_all in_range ss) → object_at w o ≡ Some x
    → AllHold (Holds (strange w o x) []) w
    → ((who : ℤ) (y : Object) → object_at w who ≡ Some y → y.header.is_player ≡ true → IsTrue (is_stranger w x who))
    → (y : Object) × ((object_at (play w ss).0 o ≡ Some y) × SameObject x y)

-- ---- one property of an object

-- no wizard; the slot is not its own, nor has the bit w; nor is or has an object on the line upwards from this one
abbrev pub is_outsider : World → ℤ → Slot → ℤ → Bool
is_outsider w o s who =
    not (is_wizard w who) && not (owns_or who s.owner s.writable)
    && list_all (λ a. not (of_object (object_at w a) (λ y. owns_or who y.header.owner y.header.writable))) (ancestors w o)

-- a turn that acts as an outsider leaves the slot its value, its owner and its bits
abbrev pub TurnsLeaveSlots : Type 0
TurnsLeaveSlots =
    (k : ℕ) (s : Scene) (p : Pending) (o : ℤ) (q : Text) (t : Slot) → SceneAgrees k s → slot_at s.world o q ≡ Some t
    → IsTrue (is_outsider s.world o t (acting p)) → ((a : ℤ) → IsTrue (lists (ancestors s.world o) a) → Begun (begins_stage p) p.outer a → ⊥)
    → slot_at (world_after (turn s p)) o q ≡ Some t

-- all that runs is an outsider's, and no built-in waits to move or recycle an object on that line
abbrev pub outside : World → ℤ → Slot → Right → Bool
outside w o s (to_run_as who) = is_outsider w o s who
outside w o s (to_take q) = not (lists (ancestors w o) q)

-- then so does each list of steps
abbrev pub OutsidersLeaveSlots : Type 0
OutsidersLeaveSlots =
    (w : World) (ss : List Step) (o : ℤ) (p : Text) (s : Slot) → Agrees w → IsTrue (list_all in_range ss) → slot_at w o p ≡ Some s
    → AllHold (Holds (outside w o s) []) w → slot_at (play w ss).0 o p ≡ Some s

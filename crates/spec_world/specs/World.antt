-- The plain world (Programmer's Manual, "The LambdaMOO Database"): what each object, task and link holds.
use Rattle.std.specs.Prelude.{ℕ, ℤ, List, Option, Bool}
use Rattle.spec_value.specs.Datum.{Datum, Text}
use Rattle.spec_program.specs.Tree.{Program}
use Rattle.spec_program.specs.Construct.{Piece}
use Rattle.spec_value.specs.Table.{Numbered, Named, at, with}

-- ---- objects

-- a value, or clear; by the bit c (here `changeable`) an heir's owner owns the slot that it inherits
pub record Slot : Type 0 where
  pub content : Option Datum
  pub owner : ℤ
  pub readable : Bool
  pub writable : Bool
  pub changeable : Bool

-- which objects and prepositions a command's verb wants
pub data ObjectPart : Type 0 where
  no_object any_object this_object : ObjectPart

pub data PrepositionPart : Type 0 where
  no_preposition any_preposition : PrepositionPart
  preposition_set : ℕ → PrepositionPart

-- `callable` is the bit x
pub record Verb : Type 0 where
  pub names : Text
  pub owner : ℤ
  pub readable : Bool
  pub writable : Bool
  pub callable : Bool
  pub debug : Bool
  pub direct : ObjectPart
  pub preposition : PrepositionPart
  pub indirect : ObjectPart
  pub program : Program

-- what an object is besides its lists, its properties and its verbs
pub record Header : Type 0 where
  pub name : Text
  pub owner : ℤ
  pub parent : ℤ
  pub location : ℤ
  pub is_player : Bool
  pub is_programmer : Bool
  pub is_wizard : Bool
  pub readable : Bool
  pub writable : Bool
  pub fertile : Bool

-- slots by folded name, also those of inherited properties; the order of definition stands in `defines` alone
pub record Object : Type 0 where
  pub header : Header
  pub children : List ℤ
  pub contents : List ℤ
  pub defines : List Text
  pub slots : Named Slot
  pub verbs : List Verb

-- ---- tasks

-- who runs which verb for whom
pub record Call : Type 0 where
  pub this : ℤ
  pub caller : ℤ
  pub definer : ℤ
  pub programmer : ℤ
  pub verb : Text
  pub debug : Bool

-- what the command line gave: a called verb starts with its caller's
pub record Start : Type 0 where
  pub argstr : Text
  pub dobj : ℤ
  pub dobjstr : Text
  pub prepstr : Text
  pub iobj : ℤ
  pub iobjstr : Text

-- a verb that was called: what it has begun, the innermost piece first, stands at a call or at the beginning
pub record Frame : Type 0 where
  pub call : Call
  pub start : Start
  pub program : Program
  pub variables : Named Datum
  pub pieces : List Piece

pub data NativeName : Type 0 where
  move_native create_native recycle_native eval_native : NativeName

-- a built-in that waits for a verb which it called
pub record Native : Type 0 where
  pub name : NativeName
  pub stage : ℕ
  pub arguments : List Datum

pub data Entry : Type 0 where
  frame_entry : Frame → Entry
  native_entry : Native → Entry

-- why a task waits; a moment is the due one
pub data Waiting : Type 0 where
  forked : ℕ → Waiting
  timed : ℕ → Datum → Waiting  -- the value that `suspend` will give
  idle : Waiting
  reading_on : ℤ → Waiting

-- the innermost entry first
pub record Task : Type 0 where
  pub player : ℤ
  pub waiting : Waiting
  pub entries : List Entry

-- ---- links

-- the lines of a verb's new program so far, none once they are too long
pub record Programming : Type 0 where
  pub object : ℤ
  pub verb : Text
  pub lines : Option (List Text)

pub record Link : Type 0 where
  pub person : ℤ
  pub programming : Option Programming

-- ---- the world

pub record World : Type 0 where
  pub objects : Numbered Object
  pub tasks : Numbered Task
  pub links : Numbered Link
  pub greatest : ℤ
  pub next : ℕ
  pub ending : Bool

abbrev pub object_at : World → ℤ → Option Object
object_at w o = at w.objects o

abbrev pub with_object : World → ℤ → Object → World
with_object w o x = record w { objects = with w.objects o x }

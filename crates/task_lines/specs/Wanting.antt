-- What is wanted of a verb's held values where its path leads, and what the lines tell of it.
use Rattle.std.specs.Prelude.{◌≡◌, ℕ, Bool, List, [], ◌∷◌, ◌++◌, Option, Some, None, Result, Ok, Err, codes}
use Rattle.spec_value.specs.Datum.{Datum}
use Rattle.spec_program.specs.Tree.{Program}
use Rattle.spec_program.specs.Place.{Holds}
use Rattle.spec_faults.specs.Codes.{begins_held}
use Rattle.spec_faults.specs.Awaited.{place, counted, each_variable, held, holds_at}
use Rattle.held_values.specs.declared.fits.Wanted.{Wanted}
use Rattle.held_values.specs.Wanted.{wanted_fits, wanted_in}
use Rattle.checkpoint_lines.specs.declared.fault.DecodeError.{DecodeError}
use Rattle.checkpoint_lines.specs.declared.lines.Lines.{Lines}
use Rattle.checkpoint_lines.specs.Told.{HasRoom, GoesOn, TellsFault}
use Rattle.task_lines.specs.declared.stand.Stand.{Stand}

-- for what is held, each with so many loops around, the outermost first
abbrev pub wanted_for : List (ℕ × Holds) → List Wanted
wanted_for [] = []
wanted_for (h ∷ hs) = wanted_in h.0 h.1 ++ wanted_for hs

-- the wanted values are those that are held, in order
abbrev pub IsWantedBy : List (ℕ × Holds) → List Wanted → Type 0
IsWantedBy hs ws = ws ≡ wanted_for hs

-- a value is what is wanted just where those that are held can go on with it
abbrev pub GoesWith : ℕ → Holds → List Datum → Wanted → Option Datum → Type 0
GoesWith around h vs w before = (v : Datum) → begins_held around h (vs ++ v ∷ []) ≡ wanted_fits w before v

-- what is held on the way to where a verb stands, or that none stands there
abbrev pub StandsWith : Bool → Program → List ℕ → Option Stand → Type 0
StandsWith is_fork p path None = holds_at is_fork p path ≡ None
StandsWith is_fork p path (Some s) = (hs : List (ℕ × Holds)) × (holds_at is_fork p path ≡ Some hs) × IsWantedBy hs s.wanted.items

-- the line has no fault, and behind it come variables and values
pub record GoesOnHolding (is_fork : Bool) (p : Program) (s : Stand) (l m : Lines) : Type 0 where
  pub on_way : List (ℕ × Holds)
  pub wanted : IsWantedBy on_way s.wanted.items
  pub goes : GoesOn l m (place is_fork p ∷ []) (counted (codes "vars") each_variable ∷ held on_way ∷ [])

abbrev pub TellsStand : Bool → Program → Result Stand DecodeError → Lines → Lines → Type 0
TellsStand is_fork p (Ok s) l m = HasRoom l → GoesOnHolding is_fork p s l m
TellsStand is_fork p (Err e) l m = HasRoom l → TellsFault e l (place is_fork p ∷ [])

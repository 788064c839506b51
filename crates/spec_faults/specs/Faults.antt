-- The first faulty line of a text that is no world's, and the least of its faults.
use Rattle.std.specs.Prelude.{◌≡◌, ◌⊎◌, ℕ, suc, ◌-◌, List, [], ◌∷◌, ◌++◌, length, IsTrue, Option, Some, None}
use Rattle.spec_value.specs.Datum.{Text}
use Rattle.spec_world.specs.World.{World}
use Rattle.spec_world.specs.WellFormed.{IsWellFormed}
use Rattle.spec_world.specs.Checkpoint as fault
use Rattle.spec_world.specs.Checkpoint.{CheckpointFault, checkpoint_text}
use Rattle.spec_checkpoint.specs.Holding.{world_holds}
use Rattle.spec_faults.specs.Cutting.{Cut, lines_of}
use Rattle.spec_faults.specs.Awaited.{Awaited, Verdict, faulty, goes_on, told, opened, whole}

-- a line, counted from 1, and its fault
pub record LineFault : Type 0 where
  pub line : ℕ
  pub kind : CheckpointFault

abbrev pub fault_at : ℕ → CheckpointFault → Option LineFault
fault_at n k = Some (record { line = n; kind = k })

-- where all lines are read: nothing is awaited, and nothing stands behind them
abbrev pub at_last : List Awaited → Text → ℕ → Option LineFault
at_last [] [] n = None
at_last _ _ n = fault_at n fault.ended

abbrev pub behind_line : Verdict → List Awaited → ℕ → (List Awaited → Option LineFault) → Option LineFault
behind_line (faulty before k) more n next = fault_at (n - before) k
behind_line (goes_on awaited) more n next = next (awaited ++ more)

-- behind the last line that is awaited there is none
abbrev pub at_line : List Awaited → Text → ℕ → (List Awaited → Option LineFault) → Option LineFault
at_line [] t n next = fault_at n fault.line
at_line (a ∷ more) t n next = behind_line (told a t) more n next

-- of these lines and what stands behind them; the first has this number
abbrev pub fault_among : List Text → Text → ℕ → List Awaited → Option LineFault
fault_among [] rest n awaited = at_last (opened awaited) rest n
fault_among (t ∷ ts) rest n awaited = at_line (opened awaited) t n (λ more. fault_among ts rest (suc n) more)

abbrev pub fault_in : Cut → Option LineFault
fault_in k = fault_among k.lines k.rest 1 whole

-- but for World
unfoldable pub first_fault : Text → Option LineFault
first_fault t = fault_in (lines_of t)

-- ---- the fault of a text

abbrev pub IsNoWorlds : Text → Type 0
IsNoWorlds t = (w : World) → IsWellFormed w → IsTrue (world_holds w) → checkpoint_text w ≡ t → ⊥

-- its last line has the fault World where no line has another, and no well-formed world of values has the text
pub record IsWorldFault (t : Text) (f : LineFault) : Type 0 where
  pub none : first_fault t ≡ None
  pub kind : f.kind ≡ fault.world
  pub line : f.line ≡ length (lines_of t).lines
  pub no_world : IsNoWorlds t

abbrev pub IsFirstFault : Text → LineFault → Type 0
IsFirstFault t f = (first_fault t ≡ Some f) ⊎ IsWorldFault t f

-- Along an outline: what the instruction at an offset belongs to, and where what stands at a path has its last instruction.
use Rattle.std.specs.Prelude.{◌≡◌, ℕ, zero, suc, ◌+◌, List, [], ◌∷◌, Option, Some, None, Bool, if◌then◌else◌}
use Rattle.spec_program.specs.Tree.{Program}
use Rattle.spec_program.specs.Construct.{of_program}
use Rattle.moo_code.specs.Layout.{layout, outermost}
use Rattle.moo_code.specs.Paths.{below, past, in_or_past, find}
use Rattle.moo_program.specs.Outline.{outline_of}
use Rattle.moo_program.specs.declared.outline.Step.{Step}
use Rattle.moo_program.specs.declared.outline.Step.TheVariants.{Own, Part, Close, Gap}

abbrev pub one_if : Bool → ℕ
one_if b = if b then 1 else 0

-- behind the close of a part
abbrev pub behind : Step → (Bool → Option (List ℕ)) → Option (List ℕ)
behind (Close r) go = go r
behind s go = None

-- in the steps behind so many, where the next part has this number; not 0: the last of those that are passed over closes a part
abbrev pub seek : List Step → ℕ → ℕ → ℕ → Option (List ℕ)
seek [] k n o = None
seek (s ∷ ss) (suc (suc k)) n o = seek ss (suc k) n o
seek (s ∷ ss) (suc zero) n o = behind s (λ r. in_or_past (past (one_if r) o) (Some []) (λ m. seek ss zero (suc n) m))
seek (Own ∷ ss) zero n zero = Some []
seek (Own ∷ ss) zero n (suc o) = seek ss zero n o
seek (Part opens c m ∷ ss) zero n o =
    in_or_past (past (one_if opens) o) (Some (n ∷ [])) (λ i. in_or_past (past m i) (below n (seek ss zero 1 i)) (λ j. seek ss (suc c) n j))
seek (Close r ∷ ss) zero n o = None
seek (Gap ∷ ss) zero n o = seek ss zero (suc n) o

-- in a program's outline stands what its layout has
abbrev pub OutlineFinds : Type 0
OutlineFinds = (p : Program) (o : ℕ) → seek (outline_of p) zero 1 o ≡ find 1 (layout outermost (of_program p)) o

-- Where what stands at a path has its last instruction: by the layout, and along an outline.
use Rattle.std.specs.Prelude.{◌≡◌, ℕ, zero, suc, ◌+◌, List, [], ◌∷◌, Option, Some, None, Bool}
use Rattle.spec_program.specs.Tree.{Program}
use Rattle.spec_program.specs.Construct.{Construct, of_program, Piece}
use Rattle.spec_program.specs.Place.{Linked}
use Rattle.moo_code.specs.Layout.{Layout, outermost, size, entry, layout}
use Rattle.moo_code.specs.Paths.{path_of}
use Rattle.moo_code.specs.Stands.{body, front_of, link_of, part_of, start}
use Rattle.moo_program.specs.Outline.{outline_of}
use Rattle.moo_program.specs.declared.outline.Step.{Step}
use Rattle.moo_program.specs.declared.outline.Step.TheVariants.{Own, Part, Close, Gap}
use Rattle.moo_places.specs.Seeking.{one_if}

-- the last of so much code from a place on, if there is any
abbrev pub last_from : ℕ → ℕ → Option ℕ
last_from b zero = None
last_from b (suc n) = Some (b + n)

abbrev pub in_chunk : Option Layout → (Layout → Option ℕ) → Option ℕ
in_chunk None go = None
in_chunk (Some a) go = go a

-- from a place on
abbrev pub last_at_path : List ℕ → ℕ → Layout → Option ℕ
last_at_path [] b l = last_from b (size l)
last_at_path (n ∷ path) b l = in_chunk (part_of n l) (λ a. last_at_path path (b + (entry n l + front_of (link_of n l))) a)

-- behind the close of a part
abbrev pub closed : Step → (Bool → Option ℕ) → Option ℕ
closed (Close r) go = go r
closed s go = None

-- in the steps behind so many, the part with this number, and then the path; not 0: the last of those that are passed over closes a part
abbrev pub reach : List Step → ℕ → ℕ → List ℕ → ℕ → Option ℕ
reach [] k n path b = None
reach (s ∷ ss) (suc (suc k)) n path b = reach ss (suc k) n path b
reach (s ∷ ss) (suc zero) n path b = closed s (λ r. reach ss zero n path (b + one_if r))
reach (Own ∷ ss) zero n path b = reach ss zero n path (suc b)
reach (Part opens c m ∷ ss) zero zero path b = None
reach (Part opens c m ∷ ss) zero (suc zero) [] b = last_from (b + one_if opens) m
reach (Part opens c m ∷ ss) zero (suc zero) (n ∷ path) b = reach ss zero n path (b + one_if opens)
reach (Part opens c m ∷ ss) zero (suc (suc n)) path b = reach ss (suc c) (suc n) path (b + one_if opens + m)
reach (Close r ∷ ss) zero n path b = None
reach (Gap ∷ ss) zero zero path b = None
reach (Gap ∷ ss) zero (suc zero) path b = None
reach (Gap ∷ ss) zero (suc (suc n)) path b = reach ss zero (suc n) path b

-- of a construct to which pieces lead, that is where its code ends
abbrev pub PathIsReached : Type 0
PathIsReached =
    (p : Program) (c : Construct) (ps : List Piece) → Linked c ps (of_program p) → last_at_path (path_of ps) 0 (layout outermost (of_program p)) ≡ last_from (start ps) (size (body ps c))

abbrev pub OutlineReaches : Type 0
OutlineReaches = (p : Program) (n : ℕ) (path : List ℕ) → reach (outline_of p) zero n path 0 ≡ last_at_path (n ∷ path) 0 (layout outermost (of_program p))

-- Another state that may stand in the place of one: the same answer comes of it, with the same tokens and as much work.
use Rattle.std.specs.Prelude.{◌≡◌, ℕ, List}
use Rattle.spec_program.specs.Tokens.{Placed}
use Rattle.spec_program.specs.ReadPrograms.{parsed_by}
use Rattle.spec_reader.specs.Next.{State, state_means, goes}
use Rattle.spec_reader.specs.Work.{work}
use Rattle.reader_frames.specs.declared.frame.Frame.{Frame}
use Rattle.reader_frames.specs.declared.state.Part.{Part}
use Rattle.reader_frames.specs.declared.state.Next.{Next as Read}
use Rattle.reader_frames.specs.StateView.{part_found, next_of}

pub record StandsFor (r s : State) : Type 0 where
  pub left : s.left ≡ r.left
  pub work : work s ≡ work r
  pub means : (all : List Placed) (n : ℕ) → parsed_by all (state_means n s) ≡ parsed_by all (state_means n r)

-- whatever was begun and whatever is left
abbrev pub PartStandsFor : Part → Part → Type 0
PartStandsFor p q = (gs : List Frame) (ts : List Placed) → StandsFor (goes (part_found p gs) ts) (goes (part_found q gs) ts)

abbrev pub NextStandsFor : Read → Read → Type 0
NextStandsFor x y = (gs : List Frame) (ts : List Placed) → StandsFor (goes (next_of x gs) ts) (goes (next_of y gs) ts)

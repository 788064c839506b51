-- Forms of targets.
use Rattle.std.proofs.Common.{◌≡◌, List, [], ◌∷◌, ◌++◌, refl, ap}
use Rattle.moo_code.specs.Instruction as code
use Rattle.moo_program.specs.declared.instruction.Bracket.{Bracket}
use Rattle.moo_program.specs.declared.instruction.Bracket.TheVariants.{Item, Range}
use Rattle.moo_program.specs.Meaning.{bracketed}

pub bracketed_last : (bs : List Bracket) (b : Bracket) (s : code.Shape) → bracketed (bs ++ b ∷ []) s ≡ bracketed bs (bracketed (b ∷ []) s)
bracketed_last [] b s = refl
bracketed_last (Item ∷ bs) b s = ap code.in_index (bracketed_last bs b s)
bracketed_last (Range ∷ bs) b s = ap code.in_range (bracketed_last bs b s)

-- The constructs under way of a program's tree: their names, literals and loops are as programs have them.
use Rattle.std.specs.Prelude.{◌≡◌, ℕ, zero, suc, ◌+◌, List, [], ◌∷◌, ◌++◌, Bool, true, false, Option, IsTrue, ◌<◌}
use Rattle.spec_value.specs.Datum.{Text}
use Rattle.spec_program.specs.Tree.{for_each, for_range, repeat, Program}
use Rattle.spec_program.specs.Construct.{Construct, of_expr, of_target, of_default, of_statement, of_program, Piece}
use Rattle.spec_program.specs.Place.{Linked}
use Rattle.spec_program.specs.Trees.{is_name, expr_fits, target_fits, statement_fits, program_fits, is_around}
use Rattle.spec_world.specs.WellFormed.{loops}
use Rattle.spec_moo.specs.Effects.Loops.{LoopName, no_loop, loop_named, loop_name, loops_left}

-- in loops with these names, the innermost first
abbrev pub ConstructFits : List (Option Text) → Construct → Type 0
ConstructFits names (of_expr a) = (b : Bool) × IsTrue (expr_fits b a)
ConstructFits names (of_target t) = (b : Bool) × IsTrue (target_fits b t)
ConstructFits names (of_default x a) = IsTrue (is_name x) × ((b : Bool) × IsTrue (expr_fits b a))
ConstructFits names (of_statement t) = IsTrue (statement_fits names t)
ConstructFits names (of_program p) = IsTrue (program_fits names p)

abbrev pub names_of : LoopName → List (Option Text)
names_of no_loop = []
names_of (loop_named x) = x ∷ []

abbrev pub loop_names : List Piece → List (Option Text)
loop_names [] = []
loop_names (q ∷ ps) = names_of (loop_name q.construct) ++ loop_names ps

-- each construct under way fits the loops around it
abbrev pub LinkedFits : Type 0
LinkedFits =
    (p : Program) (c : Construct) (ps : List Piece) → IsTrue (program_fits [] p) → Linked c ps (of_program p) → ConstructFits (loop_names ps) c

-- ---- loops whose body is under way

abbrev pub in_body : Construct → ℕ → ℕ
in_body (of_statement (for_each x a p)) (suc (suc zero)) = 1
in_body (of_statement (for_range x a b p)) (suc (suc (suc zero))) = 1
in_body (of_statement (repeat x a p)) (suc (suc zero)) = 1
in_body c n = 0

abbrev pub body_loops : List Piece → ℕ
body_loops [] = 0
body_loops (q ∷ ps) = in_body q.construct q.part + body_loops ps

abbrev pub is_code : Construct → Bool
is_code (of_statement t) = true
is_code (of_program p) = true
is_code c = false

-- around a statement or a program they are all loops
abbrev pub AllInBodies : Type 0
AllInBodies = (c root : Construct) (ps : List Piece) → IsTrue (is_code c) → Linked c ps root → body_loops ps ≡ loops ps

-- `break` and `continue` leave a loop that is there
abbrev pub LoopsLeft : Type 0
LoopsLeft = (x : Option Text) (ps : List Piece) → IsTrue (is_around (loop_names ps) x) → loops_left x ps < loops ps

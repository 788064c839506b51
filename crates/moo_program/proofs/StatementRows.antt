-- A statement and a branch are put before those after it; loops are counted from the innermost one on.
use Rattle.std.proofs.Common.{◌≡◌, ◌<◌, ℕ, zero, suc, Bool, true, false, ◌≤◌, List, [], ◌∷◌, length, map, drop, Option, Bor, refl, ap, arith}
use Rattle.std.specs.Prelude.{get_or, if◌then◌else◌}
use Rattle.spec_value.specs.Datum.{Text}
use Rattle.spec_moo.specs.Effects.Loops.{has_name}
use Rattle.spec_program.specs.Tree.{Statement, Program, Branches, no_branches, on, else_do}
use Rattle.spec_program.specs.Construct.{of_statement}
use Rattle.moo_tree.specs.StatementView.{program_of, branches_of, branch_of}
use Rattle.moo_tree.specs.declared.statement.Branch.{Branch}
use Rattle.moo_code.specs.Layout.{Around, Layout, stop, inner, plain, above, loops_before, statement_layout, program_layout, branches_layout}
use Rattle.moo_program.specs.Drafting.{State, over, name_of}
use Rattle.moo_program.specs.Branches.{otherwise_if}

pub statement_next : (x : Around) (ss : List Statement) (i : ℕ) (d : Statement) (s : State) → i < length ss
    → over (inner (plain (of_statement (get_or ss i d))) (statement_layout (above x 0) (get_or ss i d)) stop) (over (program_layout x (program_of (drop (suc i) ss))) s) ≡ over (program_layout x (program_of (drop i ss))) s
statement_next x [] i d s h = absurd (omega arith)
statement_next x (t ∷ ss) zero d s h = refl
statement_next x (t ∷ ss) (suc i) d s h = statement_next x ss i d s (omega arith)

-- a loop is looked for from the innermost one on
pub loop_next : (x : Text) (ls : List (Option (Bor Text))) (i : ℕ) (d : Option (Bor Text)) → i < length ls
    → loops_before x (map name_of (drop i ls)) ≡ (if has_name x (name_of (get_or ls i d)) then 0 else suc (loops_before x (map name_of (drop (suc i) ls))))
loop_next x [] i d h = absurd (omega arith)
loop_next x (y ∷ ys) zero d h = refl
loop_next x (y ∷ ys) (suc i) d h = loop_next x ys i d (omega arith)

-- ---- a branch is put before those after it, and the branches before an `else`

-- what follows a branch: another one, or what follows them all
pub branch_put : (x : Around) (bs : List Branch) (j : ℕ) (d : Branch) (e m f : Bool) (n : ℕ) (s : State) → j < length bs → (suc j < length bs → m ≡ true) → (length bs ≤ suc j → m ≡ e)
    → over (branches_layout x f n (branch_of (get_or bs j d)) (otherwise_if m) stop) (over (branches_layout x false (suc (suc n)) (branches_of (drop (suc j) bs)) (otherwise_if e) stop) s)
    ≡ over (branches_layout x f n (branches_of (drop j bs)) (otherwise_if e) stop) s
branch_put x [] j d e m f n s h more last = absurd (omega arith)
branch_put x (b ∷ []) zero d true m f n s h more last =
    ap (λ m. over (branches_layout x f n (branch_of b) (otherwise_if m) stop) s) (last (omega arith))
branch_put x (b ∷ []) zero d false m f n s h more last =
    ap (λ m. over (branches_layout x f n (branch_of b) (otherwise_if m) stop) s) (last (omega arith))
branch_put x (b ∷ c ∷ bs) zero d e m f n s h more last =
    ap (λ m. over (branches_layout x f n (branch_of b) (otherwise_if m) stop) (over (branches_layout x false (suc (suc n)) (branches_of (c ∷ bs)) (otherwise_if e) stop) s)) (more (omega arith))
branch_put x (b ∷ bs) (suc j) d e m f n s h more last =
    branch_put x bs j d e m f n s (omega arith) (λ k. more (omega (arith, k))) (λ k. last (omega (arith, k)))

pub branches_over : (x : Around) (f : Bool) (n : ℕ) (bs : Branches) (p : Program) (l : Layout) (s : State)
    → over (branches_layout x f n bs (else_do p) l) s ≡ over (branches_layout x f n bs (otherwise_if true) stop) (over l s)
branches_over x f n no_branches p l s = refl
branches_over x f n (on c b no_branches) p l s = refl
branches_over x f n (on c b (on c' b' more)) p l s =
    ap (over (branches_layout x f n (on c b no_branches) (otherwise_if true) stop)) (branches_over x false (suc (suc n)) (on c' b' more) p l s)

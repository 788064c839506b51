-- Each statement in its turn: programs are read back from the tokens of their canonical spelling.
use Rattle.std.proofs.Common.{arith, ◌≡◌, ℕ, suc, ◌≤◌, Bool, true, false, nat_lt, List, [], ◌∷◌, length, Some, None, IsTrue, refl, ap, ◌∙◌, leb-true, if◌then◌else◌}
use Rattle.std.specs.Prelude.{nat_le}
use Rattle.std.proofs.lemmas.Bool.Decides.{nat_tests}
use Rattle.spec_value.proofs.Entries.{first_holds, second_holds}
use Rattle.spec_program.specs.Tree.{Statement, evaluate, give, give_zero, branch, for_each, for_range, repeat, fork, guarded, finished, leave_loop, next_turn, Program, the_end, seq, Branches, no_branches, on, Otherwise, no_else, else_do, Arms, no_arms, except}
use Rattle.spec_program.specs.Tokens.{Placed}
use Rattle.spec_program.specs.Reading.{Node}
use Rattle.spec_program.specs.ReadPrograms as by
use Rattle.spec_program.specs.ReadPrograms.{Stray, FoundBlock, too_deep, greatest_depth, parsed_by, tested, tested_loops, program}
use Rattle.spec_program.specs.Trees.{program_fits, program_height}
use Rattle.spec_program.proofs.LowTrees.{Within}
use Rattle.spec_program.proofs.OperatorsBack.{wider}
use Rattle.spec_spelling.specs.ReadPrograms.{ProgramReadBack}
use Rattle.spec_spelling.proofs.StatementsBack.{no_strays, BlockGot, ProgramBack, StatementBack, end_back, seq_back, evaluate_back, give_back, give_zero_back, leave_back, next_back, for_each_back, for_range_back, repeat_back, fork_back}
use Rattle.spec_spelling.proofs.BranchesBack.{BranchesBacks, OtherwiseBack, branch_back, ArmsBacks, guarded_back, finished_back}

mutual
  statement_back : (s : Statement) → StatementBack s
  statement_back (evaluate e) = evaluate_back e
  statement_back (give e) = give_back e
  statement_back give_zero = give_zero_back
  statement_back (branch bs q) = branch_back bs q (branches_back bs) (otherwise_back q)
  statement_back (for_each x e p) = for_each_back x e p (program_back p)
  statement_back (for_range x a c p) = for_range_back x a c p (program_back p)
  statement_back (repeat x c p) = repeat_back x c p (program_back p)
  statement_back (fork x e p) = fork_back x e p (program_back p)
  statement_back (guarded p rs) = guarded_back p rs (program_back p) (arms_back rs)
  statement_back (finished p q) = finished_back p q (program_back p) (program_back q)
  statement_back (leave_loop x) = leave_back x
  statement_back (next_turn x) = next_back x

  pub program_back : (p : Program) → ProgramBack p
  program_back the_end = end_back
  program_back (seq s more) = seq_back s more (statement_back s) (program_back more)

  branches_back : (bs : Branches) → BranchesBacks bs
  branches_back no_branches = tt
  branches_back (on c p more) = (program_back p, branches_back more)

  otherwise_back : (q : Otherwise) → OtherwiseBack q
  otherwise_back no_else = tt
  otherwise_back (else_do p) = program_back p

  arms_back : (rs : Arms) → ArmsBacks rs
  arms_back no_arms = tt
  arms_back (except x c p more) = (program_back p, arms_back more)

-- ---- a whole program

none_deep : (ns : List Node) → Within greatest_depth ns → too_deep ns ≡ None
none_deep [] w = refl
none_deep (n ∷ ns) w = go (none_deep ns (second_holds (nat_le n.depth greatest_depth) _ w)) (nat_lt greatest_depth n.depth) not_less
  where
    within : n.depth ≤ greatest_depth
    within = leb-true n.depth greatest_depth (first_holds (nat_le n.depth greatest_depth) _ w)

    not_less : nat_lt greatest_depth n.depth ≡ false
    not_less = let h = within in grind (arith, nat_tests, h)

    go : too_deep ns ≡ None → (c : Bool) → c ≡ false → (if c then Some n.line else too_deep ns) ≡ None
    go later true e = cc
    go later false e = later

whole : (ts : List Placed) (p : Program) (n : ℕ) → IsTrue (program_fits [] p) → program_height p ≤ greatest_depth → BlockGot n [] p ts []
    → parsed_by ts (by.block n ts) ≡ program p
whole ts p n h l g =
    ap (parsed_by ts) g.reads
    ∙ ap (tested (record { tree = p; nodes = g.nodes; strays = g.strays })) (none_deep g.nodes (wider (program_height p) greatest_depth g.nodes l g.low))
    ∙ ap (tested_loops (record { tree = p; nodes = g.nodes; strays = g.strays })) (no_strays g.strays g.kept)

pub program_read_back : ProgramReadBack
program_read_back p ts h l =
    let f = first_holds (program_fits [] p) (nat_le (program_height p) greatest_depth) h in
    let r = program_back p in
    whole ts p (suc (suc (length ts))) f (leb-true (program_height p) greatest_depth (second_holds (program_fits [] p) (nat_le (program_height p) greatest_depth) h))
    (r.block_back (suc (suc (length ts))) [] ts [] f l (omega arith) tt)

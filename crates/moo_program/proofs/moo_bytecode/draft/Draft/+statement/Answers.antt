use Rattle.std.proofs.Common.{rules, ◌≡◌, ◌+◌, suc, nat_eq, drop, ◌-◌, ◌<◌, ◌≤◌, length, ap, ◌∙◌, false, arith}
use Rattle.moo_tree.specs.Depth.{statement_depth, program_depth, branches_depth, arms_depth}
use Rattle.moo_tree.specs.StatementView.{program_of, branches_of, branch_of, arms_of, arm_of}
use Rattle.moo_tree.proofs.Sameness.{statement_within, branch_within, arm_within}
use Rattle.moo_code.specs.Layout.{stop, size, statement_layout, program_layout, branches_layout}
use Rattle.moo_program.specs.Drafting.{around_of, state, count, over, with_part}
use Rattle.moo_program.specs.Branches.{otherwise_if}
use Rattle.moo_program.proofs.StatementRows.{branch_put}
use Rattle.moo_program.proofs.HandlerRows.{rows_counted, arm_next}
use Rattle.moo_program.proofs.Drafted.{closed}
use Rattle.moo_program.proofs.moo_bytecode.draft.Draft.+statement.Goals as goal

pub program-statement_part-requires : goal.program-statement_part-requires
program-statement_part-requires t c =
    let b : c.loop-i.i - 1 < length c.args.statements.now = omega (arith, c.loop-i-test.true, c.loop-i.auto.i) in
    let h : statement_depth c.index-statements-i.result ≤ program_depth (program_of c.args.statements.now) = rw c.index-statements-i.is (statement_within _ _ _ b) in
    (omega (arith, h), tt)

pub if_branches-if_branch-requires : goal.if_branches-if_branch-requires
if_branches-if_branch-requires t c =
    let b : c.loop-i.i - 1 < length c.args.branches.now = omega (arith, c.loop-i-test.true, c.loop-i.auto.i) in
    let h : branches_depth (branch_of c.index-branches-i.result) ≤ branches_depth (branches_of c.args.branches.now) = rw c.index-branches-i.is (branch_within _ _ _ b) in
    (omega (arith, h), tt)

pub arms-arm-requires : goal.arms-arm-requires
arms-arm-requires t c =
    let b : c.loop-i.i - 1 < length c.args.arms.now = omega (arith, c.loop-i-test.true, c.loop-i.auto.i) in
    let h : arms_depth (arm_of c.index-arms-i.result) ≤ arms_depth (arms_of c.args.arms.now) = rw c.index-arms-i.is (arm_within _ _ _ b) in
    (omega (arith, h), tt)

pub arms-bounds-rows-i : goal.arms-bounds-rows-i
arms-bounds-rows-i t c = omega (arith, c.loop-i-test.true, c.loop-i.auto.i, rows_counted 1 c.args.rows.now c.args.arms.now c.requires)

pub arms-bounds-rows-i-in-loop-i : goal.arms-bounds-rows-i-in-loop-i
arms-bounds-rows-i-in-loop-i t c = omega (arith, c.loop-i-test.true, c.loop-i.auto.i, rows_counted 1 c.args.rows.now c.args.arms.now c.requires)

pub arms-loop-i-preserved : goal.arms-loop-i-preserved
arms-loop-i-preserved t c =
    let j = c.loop-i.i - 1 in
    let hs = c.args.arms.now in
    let b : j < length hs = omega (arith, c.loop-i-test.true, c.loop-i.auto.i) in
    let i : c.loop-i.i ≡ suc j = omega (arith, c.loop-i-test.true) in
    c.in_ok-arm.ensures
    ∙ arm_next (around_of c.args.around) hs c.args.rows.now c.loop-i.i j c.index-arms-i.result c.index-rows-i.result (state c.loop-i.self) (state c.args.self.now) i b c.requires c.index-arms-i.is c.loop-i.invariant

pub statement_part-returns : goal.statement_part-returns
statement_part-returns t c =
    let l = statement_layout (around_of c.args.around) c.args.statement.now in
    let after = c.statement.new.self in
    let items = c.mark-mark.result.items in
    let put = c.mark-mark.result.size in
    c.in_ok-open.ensures ∙ closed l c.close.new.self after items put false c.in_ok-statement.ensures c.mark-mark.ensures.items c.mark-mark.ensures.size
    ∙ ap (λ s. with_part false (count l) (size l) (over l s)) c.in_ok-close.ensures

pub program_part-returns : goal.program_part-returns
program_part-returns t c =
    let l = program_layout (around_of c.args.around) (program_of c.args.statements.now) in
    let after = c.program.new.self in
    let items = c.mark-mark.result.items in
    let put = c.mark-mark.result.size in
    c.in_ok-open.ensures ∙ closed l c.close.new.self after items put false c.in_ok-program.ensures c.mark-mark.ensures.items c.mark-mark.ensures.size
    ∙ ap (λ s. with_part false (count l) (size l) (over l s)) c.in_ok-close.ensures

pub if_branches-loop-i-preserved : goal.if_branches-loop-i-preserved
if_branches-loop-i-preserved t c =
    let x = around_of c.args.around in
    let bs = c.args.branches.now in
    let e = c.args.followed in
    let j = c.loop-i.i - 1 in
    let s = state c.args.self.now in
    let b : j < length bs = omega (arith, c.loop-i-test.true, c.loop-i.auto.i) in
    let i : c.loop-i.i ≡ suc j = omega (arith, c.loop-i-test.true) in
    let f : nat_eq c.loop-i.i 0 ≡ false = search rules in
    let n : suc (c.loop-i.i + c.loop-i.i) ≡ suc (suc (suc (j + j))) = omega (arith, i) in
    let p : c.in_ok-part.part ≡ suc (j + j) = omega (arith, c.in_ok-part.ensures, c.in_ok-plus.ensures) in
    let r = branch_of c.index-branches-i.result in
    c.in_ok-if_branch.ensures
    ∙ ap (λ u. over (branches_layout x (nat_eq j 0) c.in_ok-part.part r (otherwise_if c.goes_on-more.result) stop) u) c.loop-i.invariant
    ∙ ap (λ p. over (branches_layout x (nat_eq j 0) p r (otherwise_if c.goes_on-more.result) stop) (over (branches_layout x (nat_eq c.loop-i.i 0) (suc (c.loop-i.i + c.loop-i.i)) (branches_of (drop c.loop-i.i bs)) (otherwise_if e) stop) s)) p
    ∙ ap (λ f. over (branches_layout x (nat_eq j 0) (suc (j + j)) r (otherwise_if c.goes_on-more.result) stop) (over (branches_layout x f (suc (c.loop-i.i + c.loop-i.i)) (branches_of (drop c.loop-i.i bs)) (otherwise_if e) stop) s)) f
    ∙ ap (λ n. over (branches_layout x (nat_eq j 0) (suc (j + j)) r (otherwise_if c.goes_on-more.result) stop) (over (branches_layout x false n (branches_of (drop c.loop-i.i bs)) (otherwise_if e) stop) s)) n
    ∙ ap (λ i. over (branches_layout x (nat_eq j 0) (suc (j + j)) r (otherwise_if c.goes_on-more.result) stop) (over (branches_layout x false (suc (suc (suc (j + j)))) (branches_of (drop i bs)) (otherwise_if e) stop) s)) i
    ∙ ap (λ r. over (branches_layout x (nat_eq j 0) (suc (j + j)) (branch_of r) (otherwise_if c.goes_on-more.result) stop) (over (branches_layout x false (suc (suc (suc (j + j)))) (branches_of (drop (suc j) bs)) (otherwise_if e) stop) s)) c.index-branches-i.is
    ∙ branch_put x bs j _ e c.goes_on-more.result (nat_eq j 0) (suc (j + j)) s b c.goes_on-more.ensures.more c.goes_on-more.ensures.last

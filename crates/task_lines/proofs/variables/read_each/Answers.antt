use Rattle.std.proofs.Common.{◌≡◌, ◌<◌, suc, ◌+◌, ◌≤◌, ◌∙◌, ◌++◌, length, drop, map, subst, arith, [], ◌∷◌}
use Rattle.spec_world.specs.Checkpoint.{variable_lines}
use Rattle.checkpoint_lines.specs.Rows.{Left}
use Rattle.task_lines.proofs.Gathering.{variable_at, named_there, one_put}
use Rattle.std.proofs.Math.ListN.{drop_of_length-le}
use Rattle.moo_program.specs.Names.{known}
use Rattle.moo_task.specs.Variables.{variable_of}
use Rattle.task_lines.specs.Gathering.{Gathers}
use Rattle.std.proofs.lemmas.Result.{err_from_is_err_and}
use Rattle.checkpoint_lines.proofs.Giving.{gives_passed}
use Rattle.spec_faults.specs.Awaited.{again, each_variable}
use Rattle.checkpoint_lines.proofs.Going.{one_fails, one_of_them, all_of_them}
use Rattle.task_lines.proofs.Telling.{tells_passed}
use Rattle.task_lines.proofs.variables.read_each.Goals as goal

pub returns-in_err-variable-clause-reads : goal.returns-in_err-variable-clause-reads
returns-in_err-variable-clause-reads c = λ es rest sorted reads n l g.
    let within : c.variables._variable < length es = omega (arith, n, c.variables-test.true) in
    let at = variable_at es c.variables._variable within reads in
    let inv = c.variables.invariant.1 es rest sorted reads n l g in
    let here = subst (λ xs. Left c.variables.lines (variable_lines xs ++ rest)) at.3 inv.0 in
    let memory = c.in_err-variable.ensures.reads at.0 (variable_lines (drop (suc c.variables._variable) es) ++ rest) at.2 here in
    let passed = err_from_is_err_and c.from_residual.result c.from_residual.ensures.1 in
    gives_passed c.from_residual.result passed.0 _ passed.1 (cc (passed.2, memory))

pub variables-preserved : goal.variables-preserved
variables-preserved c = (
  c.put.ensures.count ∙ c.variables.invariant.0,
  λ es rest sorted reads n l g.
      let within : c.variables._variable < length es = omega (arith, n, c.variables-test.true) in
      let at = variable_at es c.variables._variable within reads in
      let inv = c.variables.invariant.1 es rest sorted reads n l g in
      let here = subst (λ xs. Left c.variables.lines (variable_lines xs ++ rest)) at.3 inv.0 in
      let variable = c.in_ok-variable.ensures.reads at.0 (variable_lines (drop (suc c.variables._variable) es) ++ rest) at.2 here in
      let names = known c.args.names.now in
      let next : suc c.variables._variable ≡ c.variables._variable + 1 = omega arith in
      let before = subst (λ xs. Gathers names c.variables.slots.items (map variable_of c.variables.further.items) xs es) at.3 inv.1 in
      let gathered = one_put names c.variables.slots.items c.put.new.slots.items (map variable_of c.variables.further.items) (map variable_of c.put.new.further.items) (drop (suc c.variables._variable) es) es at.0
      (variable_of c.in_ok-variable.variable) variable.0 c.in_ok-put.ensures.slots c.in_ok-put.ensures.further (named_there es c.variables._variable at.0 sorted at.1) c.variables.invariant.0 before in
      (subst (λ i. Left c.next_variable.new.lines (variable_lines (drop i es) ++ rest)) next variable.1, subst (λ i. Gathers names c.put.new.slots.items (map variable_of c.put.new.further.items) (drop i es) es) next gathered),
  one_of_them c.args.lines.now c.variables.lines c.next_variable.new.lines c.args.count c.variables._variable each_variable c.variables-test.true c.variables.invariant.2 c.in_ok-variable.ensures.tells,
)

pub returns-clause-reads : goal.returns-clause-reads
returns-clause-reads c = λ es rest sorted reads n l g.
    let past : length es ≤ c.variables._variable = omega (arith, n, c.variables-test.false) in
    let inv = c.variables.invariant.1 es rest sorted reads n l g in
    let none = drop_of_length-le es past in (
      subst (λ xs. Gathers (known c.args.names.now) c.variables.slots.items (map variable_of c.variables.further.items) xs es) none inv.1,
      subst (λ xs. Left c.variables.lines (variable_lines xs ++ rest)) none inv.0,
    )

pub returns-in_err-variable-clause-tells : goal.returns-in_err-variable-clause-tells
returns-in_err-variable-clause-tells c =
    let passed = err_from_is_err_and c.from_residual.result c.from_residual.ensures.1 in
    tells_passed c.from_residual.result passed.0 c.in_err-variable.field-0.0 c.args.lines.now _ (again c.args.count each_variable ∷ []) (λ _. []) passed.1 (cc (passed.2))
    (one_fails c.in_err-variable.field-0.0 c.args.lines.now c.variables.lines c.args.count c.variables._variable each_variable c.variables-test.true c.variables.invariant.2 c.in_err-variable.ensures.tells)

pub returns-clause-tells : goal.returns-clause-tells
returns-clause-tells c = all_of_them c.args.lines.now c.variables.lines c.args.count c.variables._variable each_variable (omega (arith, c.variables-test.false)) c.variables.invariant.2

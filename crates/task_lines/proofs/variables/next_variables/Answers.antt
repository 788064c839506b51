use Rattle.std.proofs.Common.{◌++◌, ◌∙◌, [], length, map, replicate, None, refl, ap, sym, subst, ◌∷◌, codes}
use Rattle.spec_world.specs.Checkpoint.{variable_lines}
use Rattle.moo_code.specs.Names.{names_of}
use Rattle.moo_code.specs.Slots.{variables_over, others}
use Rattle.moo_code.proofs.ProgramNames.{names_are_once}
use Rattle.moo_program.specs.Names.{known}
use Rattle.moo_task.specs.Variables.{variable_of}
use Rattle.task_lines.specs.Gathering.{Gathers}
use Rattle.task_lines.proofs.Gathering.{none_yet, all_gathered}
use Rattle.task_lines.proofs.LineWords.{as_many_variables}
use Rattle.std.proofs.lemmas.Result.{err_from_is_err_and}
use Rattle.checkpoint_lines.proofs.Giving.{gives_passed}
use Rattle.spec_faults.specs.Awaited.{counted, again, each_variable}
use Rattle.checkpoint_lines.proofs.Telling.{goes_then, fault_then}
use Rattle.checkpoint_lines.proofs.Going.{count_row}
use Rattle.task_lines.proofs.Telling.{tells_passed}
use Rattle.task_lines.proofs.variables.next_variables.Goals as goal

pub returns-in_err-count-clause-reads : goal.returns-in_err-count-clause-reads
returns-in_err-count-clause-reads c = λ es rest sorted reads l.
    let memory = c.in_err-count.ensures.reads (length es) (variable_lines es ++ rest) refl (as_many_variables es rest) l in
    let passed = err_from_is_err_and c.from_residual-in_err-count.result c.from_residual-in_err-count.ensures.1 in
    gives_passed c.from_residual-in_err-count.result passed.0 _ passed.1 (cc (passed.2, memory))

pub returns-in_err-read_each-clause-reads : goal.returns-in_err-read_each-clause-reads
returns-in_err-read_each-clause-reads c = λ es rest sorted reads l.
    let count = c.in_ok-count.ensures.reads (length es) (variable_lines es ++ rest) refl (as_many_variables es rest) l in
    let names = known c.in_ok-names.names in
    let none = subst (λ fs. Gathers names (replicate c.slot_count.result None) fs es es) (sym (ap (map variable_of) c.new-further.ensures.items)) (none_yet names c.slot_count.result es) in
    let begun = subst (λ ss. Gathers names ss (map variable_of c.new-further.result.items) es es) (sym c.in_ok-slots.ensures) none in
    let memory = c.in_err-read_each.ensures.reads es rest sorted reads count.0 count.1 begun in
    let passed = err_from_is_err_and c.from_residual-in_err-read_each.result c.from_residual-in_err-read_each.ensures.1 in
    gives_passed c.from_residual-in_err-read_each.result passed.0 _ passed.1 (cc (passed.2, memory))

pub returns-clause-reads : goal.returns-clause-reads
returns-clause-reads c = λ es rest sorted reads l.
    let count = c.in_ok-count.ensures.reads (length es) (variable_lines es ++ rest) refl (as_many_variables es rest) l in
    let names = known c.in_ok-names.names in
    let none = subst (λ fs. Gathers names (replicate c.slot_count.result None) fs es es) (sym (ap (map variable_of) c.new-further.ensures.items)) (none_yet names c.slot_count.result es) in
    let begun = subst (λ ss. Gathers names ss (map variable_of c.new-further.result.items) es es) (sym c.in_ok-slots.ensures) none in
    let read_each = c.in_ok-read_each.ensures.reads es rest sorted reads count.0 count.1 begun in
    let p = c.args.program.now in
    let gathered = subst (λ ns. Gathers ns c.read_each.new.slots.items (map variable_of c.read_each.new.further.items) [] es) c.in_ok-names.ensures read_each.0 in
    let all = all_gathered (names_of p) c.read_each.new.slots.items (map variable_of c.read_each.new.further.items) es sorted (names_are_once p) gathered in
    (ap (λ fs. variables_over (others (names_of p) fs) (names_of p) c.read_each.new.slots.items) c.in_ok-further.ensures ∙ all, read_each.1)

pub returns-in_err-count-clause-tells : goal.returns-in_err-count-clause-tells
returns-in_err-count-clause-tells c =
    let passed = err_from_is_err_and c.from_residual-in_err-count.result c.from_residual-in_err-count.ensures.1 in
    tells_passed c.from_residual-in_err-count.result passed.0 c.in_err-count.field-0.0 c.args.lines.now _ (counted (codes "vars") each_variable ∷ []) (λ _. []) passed.1 (cc (passed.2))
    (c.in_err-count.ensures.tells (counted (codes "vars") each_variable) (λ n. again n each_variable ∷ []) (count_row (codes "vars") each_variable))

pub returns-in_err-read_each-clause-tells : goal.returns-in_err-read_each-clause-tells
returns-in_err-read_each-clause-tells c =
    let passed = err_from_is_err_and c.from_residual-in_err-read_each.result c.from_residual-in_err-read_each.ensures.1 in
    tells_passed c.from_residual-in_err-read_each.result passed.0 c.in_err-read_each.field-0.0 c.args.lines.now _ (counted (codes "vars") each_variable ∷ []) (λ _. []) passed.1 (cc (passed.2))
    (λ room. let count = (c.in_ok-count.ensures.tells (counted (codes "vars") each_variable) (λ n. again n each_variable ∷ []) (count_row (codes "vars") each_variable)) room in fault_then c.in_err-read_each.field-0.0 c.args.lines.now c.next_count.new.self (counted (codes "vars") each_variable ∷ []) (again c.in_ok-count.count each_variable ∷ []) count (c.in_err-read_each.ensures.tells count.room))

pub returns-clause-tells : goal.returns-clause-tells
returns-clause-tells c = λ room.
    let count = (c.in_ok-count.ensures.tells (counted (codes "vars") each_variable) (λ n. again n each_variable ∷ []) (count_row (codes "vars") each_variable)) room in
    goes_then c.args.lines.now c.next_count.new.self c.read_each.new.lines (counted (codes "vars") each_variable ∷ []) (again c.in_ok-count.count each_variable ∷ []) [] count (c.in_ok-read_each.ensures.tells count.room)

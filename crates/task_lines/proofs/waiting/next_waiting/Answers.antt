use Rattle.std.proofs.Common.{rules, w32, SFits, to_z, of_z, ◌≡◌, ◌∷◌, ap, sym, subst, ◌∙◌, [], arith}
use Rattle.std.specs.Prelude.{codes}
use Rattle.std.proofs.lemmas.Int.{to_z-of_z}
use Rattle.std.proofs.lemmas.Result.{err_from_is_err_and}
use Rattle.spec_world.specs.Checkpoint.{fields}
use Rattle.line_fields.specs.Fields.{word}
use Rattle.checkpoint_lines.specs.Rows.{row_fields, Left}
use Rattle.spec_faults.specs.Cutting.{field_at}
use Rattle.checkpoint_lines.proofs.Giving.{gives_passed}
use Rattle.task_lines.specs.Entries.{own_fields}
use Rattle.task_lines.specs.Manners.{manner_for}
use Rattle.task_lines.proofs.LineWords.{own_words, own_are, own_spelled}
use Rattle.spec_faults.specs.Forms.{form_among, task_forms}
use Rattle.spec_faults.specs.Awaited.{goes_on, is_fork_line, task}
use Rattle.moo_task.specs.Effects.{waiting_of}
use Rattle.checkpoint_lines.proofs.Telling.{row_goes, row_faulty}
use Rattle.task_lines.specs.Tasks.{is_forked}
use Rattle.task_lines.specs.Awaiting.{form_of, manner_forks, behind_own}
use Rattle.task_lines.proofs.Telling.{tells_passed}
use Rattle.task_lines.proofs.RowForms.{is_whole, formless, fault_there, none_there, told_fault, told_none, number_fault}
use Rattle.task_lines.proofs.WaitingTold.{manner_fails, id_misspelt, integer_number, task_is_row, behind_waiting}
use Rattle.task_lines.proofs.waiting.next_waiting.Goals as goal

pub returns-in_err-row-clause-reads : goal.returns-in_err-row-clause-reads
returns-in_err-row-clause-reads c = λ i w rest range least most h e.
    let memory = c.in_err-row.ensures.reads (word (codes "task")) (own_words i w) rest (own_are i w range h) (subst (λ fs. Left c.args.lines.now (fields fs ∷ rest)) (sym (own_spelled i w)) e) in
    let passed = err_from_is_err_and c.from_residual.result c.from_residual.ensures.1 in
    gives_passed c.from_residual.result passed.0 _ passed.1 (cc (passed.2, memory))

pub returns-in_err-manner-clause-reads : goal.returns-in_err-manner-clause-reads
returns-in_err-manner-clause-reads c = λ i w rest range least most h e.
    let row = c.in_ok-row.ensures.reads (word (codes "task")) (own_words i w) rest (own_are i w range h) (subst (λ fs. Left c.args.lines.now (fields fs ∷ rest)) (sym (own_spelled i w)) e) in
    let at : row_fields c.in_ok-row.row ≡ own_fields i w = row.0.0 ∙ own_spelled i w in
    let never = c.in_err-manner.ensures.reads i w at in
    absurd (cc (never))

pub returns-in_err-id-clause-reads : goal.returns-in_err-id-clause-reads
returns-in_err-id-clause-reads c = λ i w rest range least most h e.
    let row = c.in_ok-row.ensures.reads (word (codes "task")) (own_words i w) rest (own_are i w range h) (subst (λ fs. Left c.args.lines.now (fields fs ∷ rest)) (sym (own_spelled i w)) e) in
    let at : row_fields c.in_ok-row.row ≡ own_fields i w = row.0.0 ∙ own_spelled i w in
    let manner = c.in_ok-manner.ensures.reads i w at in
    let never = c.in_err-id.ensures.reads i range least most (ap (λ ts. field_at ts 1) at) in
    absurd (cc (never))

pub returns-in_err-waiting-clause-reads : goal.returns-in_err-waiting-clause-reads
returns-in_err-waiting-clause-reads c = λ i w rest range least most h e.
    let row = c.in_ok-row.ensures.reads (word (codes "task")) (own_words i w) rest (own_are i w range h) (subst (λ fs. Left c.args.lines.now (fields fs ∷ rest)) (sym (own_spelled i w)) e) in
    let at : row_fields c.in_ok-row.row ≡ own_fields i w = row.0.0 ∙ own_spelled i w in
    let manner = c.in_ok-manner.ensures.reads i w at in
    let is_manner : c.in_ok-manner.manner ≡ manner_for w = cc (manner) in
    let memory = c.in_err-waiting.ensures.reads i w h at is_manner in
    let passed = err_from_is_err_and c.from_residual-in_err-waiting.result c.from_residual-in_err-waiting.ensures.1 in
    gives_passed c.from_residual-in_err-waiting.result passed.0 _ passed.1 (cc (passed.2, memory))

pub returns-clause-reads : goal.returns-clause-reads
returns-clause-reads c = λ i w rest range least most h e.
    let row = c.in_ok-row.ensures.reads (word (codes "task")) (own_words i w) rest (own_are i w range h) (subst (λ fs. Left c.args.lines.now (fields fs ∷ rest)) (sym (own_spelled i w)) e) in
    let at : row_fields c.in_ok-row.row ≡ own_fields i w = row.0.0 ∙ own_spelled i w in
    let manner = c.in_ok-manner.ensures.reads i w at in
    let is_manner : c.in_ok-manner.manner ≡ manner_for w = cc (manner) in
    let id = c.in_ok-id.ensures.reads i range least most (ap (λ ts. field_at ts 1) at) in
    let same_id : c.in_ok-id.id ≡ i = cc (id) in
    let fits_id : SFits w32 c.in_ok-id.id = search rules in
    let is_id : to_z w32 (of_z w32 c.in_ok-id.id) ≡ i = to_z-of_z w32 c.in_ok-id.id fits_id ∙ same_id in
    let waiting = c.in_ok-waiting.ensures.reads i w h at is_manner in
    ((is_id, waiting), row.1)

pub returns-in_err-row-clause-tells : goal.returns-in_err-row-clause-tells
returns-in_err-row-clause-tells c =
    let passed = err_from_is_err_and c.from_residual.result c.from_residual.ensures.1 in
    tells_passed c.from_residual.result passed.0 c.in_err-row.field-0.0 c.args.lines.now c.next_row.new.self (task ∷ []) (λ p. behind_own (is_forked (waiting_of p.1))) passed.1 (cc (passed.2))
    (λ room. c.in_err-row.ensures.tells room task (form_among task_forms) (λ ts. goes_on (behind_own (is_fork_line ts))) task_is_row)

pub returns-in_err-manner-clause-tells : goal.returns-in_err-manner-clause-tells
returns-in_err-manner-clause-tells c =
    let passed = err_from_is_err_and c.from_residual-in_err-manner.result c.from_residual-in_err-manner.ensures.1 in
    tells_passed c.from_residual-in_err-manner.result passed.0 c.in_err-manner.field-0.0 c.args.lines.now c.next_row.new.self (task ∷ []) (λ p. behind_own (is_forked (waiting_of p.1))) passed.1 (cc (passed.2))
    (λ room. let row = c.in_ok-row.ensures.tells room in
    let w = is_whole c.in_ok-row.row c.args.lines.now c.next_row.new.self row.0 row.1 in
    let manner = manner_fails c.manner_of.result c.in_err-manner.field-0.0 c.in_ok-row.row c.in_err-manner.was (c.manner_of.ensures.tells w) in
    row_faulty c.in_err-manner.field-0.0 c.args.lines.now c.next_row.new.self c.in_ok-row.row task (form_among task_forms) (λ ts. goes_on (behind_own (is_fork_line ts))) row.0 task_is_row
    (formless c.in_ok-row.row w task_forms c.in_err-manner.field-0.0 manner.0 manner.1))

pub returns-in_err-id-clause-tells : goal.returns-in_err-id-clause-tells
returns-in_err-id-clause-tells c =
    let passed = err_from_is_err_and c.from_residual-in_err-id.result c.from_residual-in_err-id.ensures.1 in
    tells_passed c.from_residual-in_err-id.result passed.0 c.in_err-id.field-0.0 c.args.lines.now c.next_row.new.self (task ∷ []) (λ p. behind_own (is_forked (waiting_of p.1))) passed.1 (cc (passed.2))
    (λ room. let row = c.in_ok-row.ensures.tells room in
    let w = is_whole c.in_ok-row.row c.args.lines.now c.next_row.new.self row.0 row.1 in
    let manner = c.in_ok-manner.ensures.tells w in
    row_faulty c.in_err-id.field-0.0 c.args.lines.now c.next_row.new.self c.in_ok-row.row task (form_among task_forms) (λ ts. goes_on (behind_own (is_fork_line ts))) row.0 task_is_row
    (fault_there c.in_ok-row.row w task_forms (form_of c.in_ok-manner.manner) c.in_err-id.field-0.0 manner.0
    (number_fault c.in_ok-row.row (form_of c.in_ok-manner.manner) w c.integer.result c.in_err-id.field-0.0 _ c.in_err-id.was c.integer.ensures.tells manner.1
    (λ f. id_misspelt c.in_ok-manner.manner (row_fields c.in_ok-row.row) manner.1 (sym (integer_number 2147483584 (field_at (row_fields c.in_ok-row.row) 1) (omega arith)) ∙ f)))))

pub returns-in_err-waiting-clause-tells : goal.returns-in_err-waiting-clause-tells
returns-in_err-waiting-clause-tells c =
    let passed = err_from_is_err_and c.from_residual-in_err-waiting.result c.from_residual-in_err-waiting.ensures.1 in
    tells_passed c.from_residual-in_err-waiting.result passed.0 c.in_err-waiting.field-0.0 c.args.lines.now c.next_row.new.self (task ∷ []) (λ p. behind_own (is_forked (waiting_of p.1))) passed.1 (cc (passed.2))
    (λ room. let row = c.in_ok-row.ensures.tells room in
    let w = is_whole c.in_ok-row.row c.args.lines.now c.next_row.new.self row.0 row.1 in
    let manner = c.in_ok-manner.ensures.tells w in
    row_faulty c.in_err-waiting.field-0.0 c.args.lines.now c.next_row.new.self c.in_ok-row.row task (form_among task_forms) (λ ts. goes_on (behind_own (is_fork_line ts))) row.0 task_is_row
    (fault_there c.in_ok-row.row w task_forms (form_of c.in_ok-manner.manner) c.in_err-waiting.field-0.0 manner.0
    (told_fault c.waiting.result c.in_err-waiting.field-0.0 c.in_ok-row.row (form_of c.in_ok-manner.manner) c.in_err-waiting.was (c.waiting.ensures.tells w manner.1 (sym (integer_number 2147483584 (field_at (row_fields c.in_ok-row.row) 1) (omega arith)) ∙ c.in_ok-id.ensures.tells)))))

pub returns-clause-tells : goal.returns-clause-tells
returns-clause-tells c = λ room.
    let row = c.in_ok-row.ensures.tells room in
    let w = is_whole c.in_ok-row.row c.args.lines.now c.next_row.new.self row.0 row.1 in
    let manner = c.in_ok-manner.ensures.tells w in
    row_goes c.args.lines.now c.next_row.new.self c.in_ok-row.row task (form_among task_forms) (λ ts. goes_on (behind_own (is_fork_line ts))) (behind_own (is_forked (waiting_of c.in_ok-waiting.waiting))) row.0 task_is_row
    (none_there c.in_ok-row.row w task_forms (form_of c.in_ok-manner.manner) manner.0
    (told_none c.waiting.result c.in_ok-waiting.waiting c.in_ok-row.row (form_of c.in_ok-manner.manner) c.in_ok-waiting.was (c.waiting.ensures.tells w manner.1 (sym (integer_number 2147483584 (field_at (row_fields c.in_ok-row.row) 1) (omega arith)) ∙ c.in_ok-id.ensures.tells))))
    (behind_waiting c.in_ok-row.row (manner_forks c.in_ok-manner.manner) (is_forked (waiting_of c.in_ok-waiting.waiting)) w manner.2 c.in_ok-waiting.ensures.forks)

use Rattle.std.proofs.Common.{◌<◌, ◌^◌, ◌∷◌, ◌∙◌, length, subst, arith, suc, [], ◌++◌, sym}
use Rattle.checkpoint_lines.specs.Rows.{Left}
use Rattle.checkpoint_lines.proofs.Rests.{rest_small}
use Rattle.task_lines.specs.Entries.{own_line, lines_behind}
use Rattle.task_lines.proofs.Entering.{first_word, later_words, entry_are, entry_spelled, own_spelled}
use Rattle.std.proofs.lemmas.Result.{err_from_is_err_and}
use Rattle.checkpoint_lines.proofs.Giving.{gives_passed}
use Rattle.task_lines.specs.Awaiting.{entry_awaited, next_awaited, rest_awaited, is_native_begun}
use Rattle.task_lines.proofs.Telling.{tells_passed}
use Rattle.task_lines.proofs.RowForms.{is_whole}
use Rattle.task_lines.proofs.EntryTold.{entry_forms, entry_goes, entry_is_row, entry_fails, entry_stands, entry_stops}
use Rattle.task_lines.proofs.entry.next_begun.Goals as goal

pub returns-in_err-row-clause-reads : goal.returns-in_err-row-clause-reads
returns-in_err-row-clause-reads c = λ e rest h stands within l.
    let here = subst (λ t. Left c.args.lines.now (t ∷ rest)) (own_spelled e) l in
    let bound = (rest_small (own_line e) rest l.1).0 in
    let small : length (lines_behind e) < 2 ^ 63 = omega (arith, bound, within) in
    let memory = c.in_err-row.ensures.reads (first_word e) (later_words e) rest (entry_are c.args.place.is_fork e h small) here in
    let passed = err_from_is_err_and c.from_residual.result c.from_residual.ensures.1 in
    gives_passed c.from_residual.result passed.0 _ passed.1 (cc (passed.2, memory))

pub returns-in_err-begun-clause-reads : goal.returns-in_err-begun-clause-reads
returns-in_err-begun-clause-reads c = λ e rest h stands within l.
    let here = subst (λ t. Left c.args.lines.now (t ∷ rest)) (own_spelled e) l in
    let bound = (rest_small (own_line e) rest l.1).0 in
    let small : length (lines_behind e) < 2 ^ 63 = omega (arith, bound, within) in
    let row = c.in_ok-row.ensures.reads (first_word e) (later_words e) rest (entry_are c.args.place.is_fork e h small) here in
    let memory = c.in_err-begun.ensures.reads c.args.place.is_fork e h small (row.0.0 ∙ entry_spelled e) in
    let passed = err_from_is_err_and c.from_residual-in_err-begun.result c.from_residual-in_err-begun.ensures.1 in
    gives_passed c.from_residual-in_err-begun.result passed.0 _ passed.1 (cc (passed.2, memory))

pub returns-then-may_stand-clause-reads : goal.returns-then-may_stand-clause-reads
returns-then-may_stand-clause-reads c = λ e rest h stands within l.
    let here = subst (λ t. Left c.args.lines.now (t ∷ rest)) (own_spelled e) l in
    let bound = (rest_small (own_line e) rest l.1).0 in
    let small : length (lines_behind e) < 2 ^ 63 = omega (arith, bound, within) in
    let row = c.in_ok-row.ensures.reads (first_word e) (later_words e) rest (entry_are c.args.place.is_fork e h small) here in
    let begun = c.in_ok-begun.ensures.reads c.args.place.is_fork e h small (row.0.0 ∙ entry_spelled e) in
    (begun, row.1)

pub returns-clause-reads : goal.returns-clause-reads
returns-clause-reads c = λ e rest h stands within l.
    let here = subst (λ t. Left c.args.lines.now (t ∷ rest)) (own_spelled e) l in
    let bound = (rest_small (own_line e) rest l.1).0 in
    let small : length (lines_behind e) < 2 ^ 63 = omega (arith, bound, within) in
    let row = c.in_ok-row.ensures.reads (first_word e) (later_words e) rest (entry_are c.args.place.is_fork e h small) here in
    let begun = c.in_ok-begun.ensures.reads c.args.place.is_fork e h small (row.0.0 ∙ entry_spelled e) in
    let may = c.may_stand.ensures.entry e begun in
    absurd (cc (may, stands, c.if-may_stand.false))

pub returns-in_err-row-clause-tells : goal.returns-in_err-row-clause-tells
returns-in_err-row-clause-tells c = λ more place.
    let passed = err_from_is_err_and c.from_residual.result c.from_residual.ensures.1 in
    tells_passed c.from_residual.result passed.0 c.in_err-row.field-0.0 c.args.lines.now _ (entry_awaited c.args.place (suc more) ∷ []) (λ b. rest_awaited c.args.place.is_fork b ++ next_awaited c.args.place more (is_native_begun b) ∷ []) passed.1 (cc (passed.2))
    (λ room. c.in_err-row.ensures.tells room (entry_awaited c.args.place (suc more)) entry_forms (entry_goes c.args.place more) (entry_is_row c.args.place more))

pub returns-in_err-begun-clause-tells : goal.returns-in_err-begun-clause-tells
returns-in_err-begun-clause-tells c = λ more place.
    let passed = err_from_is_err_and c.from_residual-in_err-begun.result c.from_residual-in_err-begun.ensures.1 in
    tells_passed c.from_residual-in_err-begun.result passed.0 c.in_err-begun.field-0.0 c.args.lines.now _ (entry_awaited c.args.place (suc more) ∷ []) (λ b. rest_awaited c.args.place.is_fork b ++ next_awaited c.args.place more (is_native_begun b) ∷ []) passed.1 (cc (passed.2))
    (λ room. let row = c.in_ok-row.ensures.tells room in
    let w = is_whole c.in_ok-row.row c.args.lines.now c.next_row.new.self row.0 row.1 in
    entry_fails c.in_ok-row.row c.args.lines.now c.next_row.new.self row.0 w c.args.place more c.begun_by.result c.in_err-begun.field-0.0 (rest_awaited c.args.place.is_fork) c.in_err-begun.was (c.begun_by.ensures.tells c.args.place.is_fork w))

pub returns-then-may_stand-clause-tells : goal.returns-then-may_stand-clause-tells
returns-then-may_stand-clause-tells c = λ more place room.
    let row = c.in_ok-row.ensures.tells room in
    let w = is_whole c.in_ok-row.row c.args.lines.now c.next_row.new.self row.0 row.1 in
    entry_stands c.in_ok-row.row c.args.lines.now c.next_row.new.self row.0 w c.args.place more c.in_ok-begun.begun place c.in_ok-begun.ensures.kind (c.in_ok-begun.ensures.tells c.args.place.is_fork w) (sym c.may_stand.ensures.stands ∙ c.if-may_stand.true)

pub returns-clause-tells : goal.returns-clause-tells
returns-clause-tells c = λ more place room.
    let row = c.in_ok-row.ensures.tells room in
    let w = is_whole c.in_ok-row.row c.args.lines.now c.next_row.new.self row.0 row.1 in
    entry_stops c.in_ok-row.row c.args.lines.now c.next_row.new.self row.0 w c.args.place more c.in_ok-begun.begun place c.in_ok-begun.ensures.kind (c.in_ok-begun.ensures.tells c.args.place.is_fork w) c.fault.result (sym c.may_stand.ensures.stands ∙ c.if-may_stand.false) c.fault.ensures

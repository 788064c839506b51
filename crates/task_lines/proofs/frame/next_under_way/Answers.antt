use Rattle.std.proofs.Common.{[], ◌∷◌, ◌++◌, ◌∙◌, None, length, IsTrue, sym, subst, append_assoc, codes}
use Rattle.spec_world.specs.Checkpoint.{counted, fields, path, part_numbers, values_held, variable_lines}
use Rattle.held_values.specs.Wanted.{all_fit}
use Rattle.held_values.proofs.Wanting.{pieces_wanted}
use Rattle.checkpoint_lines.specs.Rows.{Left}
use Rattle.moo_code.specs.Slots.{variables_with}
use Rattle.moo_task.specs.Frames.{kept_of}
use Rattle.task_lines.specs.Entries.{held_lines}
use Rattle.task_lines.proofs.Made.{sorted_of, pieces_of}
use Rattle.task_lines.proofs.Standing.{kept_is}
use Rattle.std.proofs.lemmas.Result.{err_from_is_err_and}
use Rattle.checkpoint_lines.proofs.Giving.{gives_passed}
use Rattle.spec_faults.specs.Forms.{start_form}
use Rattle.spec_faults.specs.Awaited.{one, place, counted as counted_of, each_variable, held}
use Rattle.checkpoint_lines.proofs.Telling.{goes_then, goes_behind, fault_then, fault_behind}
use Rattle.task_lines.proofs.Telling.{tells_passed}
use Rattle.task_lines.proofs.frame.next_under_way.Goals as goal

pub returns-in_err-start-clause-reads : goal.returns-in_err-start-clause-reads
returns-in_err-start-clause-reads c = λ f rest h stands called compiled l.
    let memory = c.in_err-start.ensures.reads f.start (fields (codes "place" ∷ path (part_numbers f.pieces) ∷ []) ∷ counted (codes "vars") (length f.variables) ∷ ((variable_lines f.variables ++ held_lines f) ++ rest)) h.start l in
    let passed = err_from_is_err_and c.from_residual.result c.from_residual.ensures.1 in
    gives_passed c.from_residual.result passed.0 _ passed.1 (cc (passed.2, memory))

pub returns-in_err-stand-clause-reads : goal.returns-in_err-stand-clause-reads
returns-in_err-stand-clause-reads c = λ f rest h stands called compiled l.
    let start = c.in_ok-start.ensures.reads f.start (fields (codes "place" ∷ path (part_numbers f.pieces) ∷ []) ∷ counted (codes "vars") (length f.variables) ∷ ((variable_lines f.variables ++ held_lines f) ++ rest)) h.start l in
    let memory = c.in_err-stand.ensures.reads f (counted (codes "vars") (length f.variables) ∷ ((variable_lines f.variables ++ held_lines f) ++ rest)) stands h.places (pieces_of f h) compiled start.1 in
    let passed = err_from_is_err_and c.from_residual-in_err-stand.result c.from_residual-in_err-stand.ensures.1 in
    gives_passed c.from_residual-in_err-stand.result passed.0 _ passed.1 (cc (passed.2, memory))

pub returns-in_err-variables-clause-reads : goal.returns-in_err-variables-clause-reads
returns-in_err-variables-clause-reads c = λ f rest h stands called compiled l.
    let start = c.in_ok-start.ensures.reads f.start (fields (codes "place" ∷ path (part_numbers f.pieces) ∷ []) ∷ counted (codes "vars") (length f.variables) ∷ ((variable_lines f.variables ++ held_lines f) ++ rest)) h.start l in
    let stand = c.in_ok-stand.ensures.reads f (counted (codes "vars") (length f.variables) ∷ ((variable_lines f.variables ++ held_lines f) ++ rest)) stands h.places (pieces_of f h) compiled start.1 in
    let behind = subst (λ ts. Left c.next_stand.new.lines (counted (codes "vars") (length f.variables) ∷ ts)) (append_assoc (variable_lines f.variables) (held_lines f) rest) stand.1 in
    let memory = c.in_err-variables.ensures.reads f.variables (held_lines f ++ rest) (sorted_of f h) h.variables behind in
    let passed = err_from_is_err_and c.from_residual-in_err-variables.result c.from_residual-in_err-variables.ensures.1 in
    gives_passed c.from_residual-in_err-variables.result passed.0 _ passed.1 (cc (passed.2, memory))

pub returns-in_err-operands-clause-reads : goal.returns-in_err-operands-clause-reads
returns-in_err-operands-clause-reads c = λ f rest h stands called compiled l.
    let start = c.in_ok-start.ensures.reads f.start (fields (codes "place" ∷ path (part_numbers f.pieces) ∷ []) ∷ counted (codes "vars") (length f.variables) ∷ ((variable_lines f.variables ++ held_lines f) ++ rest)) h.start l in
    let stand = c.in_ok-stand.ensures.reads f (counted (codes "vars") (length f.variables) ∷ ((variable_lines f.variables ++ held_lines f) ++ rest)) stands h.places (pieces_of f h) compiled start.1 in
    let behind = subst (λ ts. Left c.next_stand.new.lines (counted (codes "vars") (length f.variables) ∷ ts)) (append_assoc (variable_lines f.variables) (held_lines f) rest) stand.1 in
    let variables = c.in_ok-variables.ensures.reads f.variables (held_lines f ++ rest) (sorted_of f h) h.variables behind in
    let fits = subst (λ ws. IsTrue (all_fit None ws (values_held f.pieces))) (sym (c.deref.ensures.value ∙ stand.0.1)) (pieces_wanted None f.pieces (pieces_of f h)) in
    let memory = c.in_err-operands.ensures.reads (values_held f.pieces) rest h.held fits variables.1 in
    let passed = err_from_is_err_and c.from_residual-in_err-operands.result c.from_residual-in_err-operands.ensures.1 in
    gives_passed c.from_residual-in_err-operands.result passed.0 _ passed.1 (cc (passed.2, memory))

pub returns-clause-reads : goal.returns-clause-reads
returns-clause-reads c = λ f rest h stands called compiled l.
    let start = c.in_ok-start.ensures.reads f.start (fields (codes "place" ∷ path (part_numbers f.pieces) ∷ []) ∷ counted (codes "vars") (length f.variables) ∷ ((variable_lines f.variables ++ held_lines f) ++ rest)) h.start l in
    let stand = c.in_ok-stand.ensures.reads f (counted (codes "vars") (length f.variables) ∷ ((variable_lines f.variables ++ held_lines f) ++ rest)) stands h.places (pieces_of f h) compiled start.1 in
    let behind = subst (λ ts. Left c.next_stand.new.lines (counted (codes "vars") (length f.variables) ∷ ts)) (append_assoc (variable_lines f.variables) (held_lines f) rest) stand.1 in
    let variables = c.in_ok-variables.ensures.reads f.variables (held_lines f ++ rest) (sorted_of f h) h.variables behind in
    let fits = subst (λ ws. IsTrue (all_fit None ws (values_held f.pieces))) (sym (c.deref.ensures.value ∙ stand.0.1)) (pieces_wanted None f.pieces (pieces_of f h)) in
    let operands = c.in_ok-operands.ensures.reads (values_held f.pieces) rest h.held fits variables.1 in
    let v = c.in_ok-variables.variables in
    let kept = kept_is c.args.is_fork f (kept_of c.frame.result) c.args.call c.in_ok-start.start c.args.program (variables_with c.args.program v.further v.slots.items) c.in_ok-stand.stand.place c.in_ok-operands.operands c.frame.ensures called start.0 compiled variables.0 stand.0.0 operands.0 in
    (kept, operands.1)

pub returns-in_err-start-clause-tells : goal.returns-in_err-start-clause-tells
returns-in_err-start-clause-tells c =
    let passed = err_from_is_err_and c.from_residual.result c.from_residual.ensures.1 in
    tells_passed c.from_residual.result passed.0 c.in_err-start.field-0.0 c.args.lines.now _ (one start_form ∷ place c.args.is_fork c.args.program ∷ []) (λ _. []) passed.1 (cc (passed.2))
    (λ room. fault_behind c.in_err-start.field-0.0 c.args.lines.now (one start_form ∷ []) (place c.args.is_fork c.args.program ∷ []) (c.in_err-start.ensures.tells room))

pub returns-in_err-stand-clause-tells : goal.returns-in_err-stand-clause-tells
returns-in_err-stand-clause-tells c =
    let passed = err_from_is_err_and c.from_residual-in_err-stand.result c.from_residual-in_err-stand.ensures.1 in
    tells_passed c.from_residual-in_err-stand.result passed.0 c.in_err-stand.field-0.0 c.args.lines.now _ (one start_form ∷ place c.args.is_fork c.args.program ∷ []) (λ _. []) passed.1 (cc (passed.2))
    (λ room. let start = c.in_ok-start.ensures.tells room in
    let began = goes_behind c.args.lines.now c.next_start.new.lines (one start_form ∷ []) [] (place c.args.is_fork c.args.program ∷ []) start in
    fault_then c.in_err-stand.field-0.0 c.args.lines.now c.next_start.new.lines (one start_form ∷ place c.args.is_fork c.args.program ∷ []) (place c.args.is_fork c.args.program ∷ []) began (c.in_err-stand.ensures.tells start.room))

pub returns-in_err-variables-clause-tells : goal.returns-in_err-variables-clause-tells
returns-in_err-variables-clause-tells c =
    let passed = err_from_is_err_and c.from_residual-in_err-variables.result c.from_residual-in_err-variables.ensures.1 in
    tells_passed c.from_residual-in_err-variables.result passed.0 c.in_err-variables.field-0.0 c.args.lines.now _ (one start_form ∷ place c.args.is_fork c.args.program ∷ []) (λ _. []) passed.1 (cc (passed.2))
    (λ room. let start = c.in_ok-start.ensures.tells room in
    let began = goes_behind c.args.lines.now c.next_start.new.lines (one start_form ∷ []) [] (place c.args.is_fork c.args.program ∷ []) start in
    let stand = c.in_ok-stand.ensures.tells start.room in
    let hs = stand.on_way in
    let stood = goes_then c.args.lines.now c.next_start.new.lines c.next_stand.new.lines (one start_form ∷ place c.args.is_fork c.args.program ∷ []) (place c.args.is_fork c.args.program ∷ []) (counted_of (codes "vars") each_variable ∷ held hs ∷ []) began stand.goes in
    fault_then c.in_err-variables.field-0.0 c.args.lines.now c.next_stand.new.lines (one start_form ∷ place c.args.is_fork c.args.program ∷ []) (counted_of (codes "vars") each_variable ∷ held hs ∷ []) stood (fault_behind c.in_err-variables.field-0.0 c.next_stand.new.lines (counted_of (codes "vars") each_variable ∷ []) (held hs ∷ []) (c.in_err-variables.ensures.tells stood.room)))

pub returns-in_err-operands-clause-tells : goal.returns-in_err-operands-clause-tells
returns-in_err-operands-clause-tells c =
    let passed = err_from_is_err_and c.from_residual-in_err-operands.result c.from_residual-in_err-operands.ensures.1 in
    tells_passed c.from_residual-in_err-operands.result passed.0 c.in_err-operands.field-0.0 c.args.lines.now _ (one start_form ∷ place c.args.is_fork c.args.program ∷ []) (λ _. []) passed.1 (cc (passed.2))
    (λ room. let start = c.in_ok-start.ensures.tells room in
    let began = goes_behind c.args.lines.now c.next_start.new.lines (one start_form ∷ []) [] (place c.args.is_fork c.args.program ∷ []) start in
    let stand = c.in_ok-stand.ensures.tells start.room in
    let hs = stand.on_way in
    let stood = goes_then c.args.lines.now c.next_start.new.lines c.next_stand.new.lines (one start_form ∷ place c.args.is_fork c.args.program ∷ []) (place c.args.is_fork c.args.program ∷ []) (counted_of (codes "vars") each_variable ∷ held hs ∷ []) began stand.goes in
    let variables = c.in_ok-variables.ensures.tells stood.room in
    let named = goes_then c.args.lines.now c.next_stand.new.lines c.next_variables.new.lines (one start_form ∷ place c.args.is_fork c.args.program ∷ []) (counted_of (codes "vars") each_variable ∷ held hs ∷ []) (held hs ∷ []) stood (goes_behind c.next_stand.new.lines c.next_variables.new.lines (counted_of (codes "vars") each_variable ∷ []) [] (held hs ∷ []) variables) in
    fault_then c.in_err-operands.field-0.0 c.args.lines.now c.next_variables.new.lines (one start_form ∷ place c.args.is_fork c.args.program ∷ []) (held hs ∷ []) named (c.in_err-operands.ensures.tells hs (c.deref.ensures.value ∙ stand.wanted) named.room))

pub returns-clause-tells : goal.returns-clause-tells
returns-clause-tells c = λ room.
    let start = c.in_ok-start.ensures.tells room in
    let began = goes_behind c.args.lines.now c.next_start.new.lines (one start_form ∷ []) [] (place c.args.is_fork c.args.program ∷ []) start in
    let stand = c.in_ok-stand.ensures.tells start.room in
    let hs = stand.on_way in
    let stood = goes_then c.args.lines.now c.next_start.new.lines c.next_stand.new.lines (one start_form ∷ place c.args.is_fork c.args.program ∷ []) (place c.args.is_fork c.args.program ∷ []) (counted_of (codes "vars") each_variable ∷ held hs ∷ []) began stand.goes in
    let variables = c.in_ok-variables.ensures.tells stood.room in
    let named = goes_then c.args.lines.now c.next_stand.new.lines c.next_variables.new.lines (one start_form ∷ place c.args.is_fork c.args.program ∷ []) (counted_of (codes "vars") each_variable ∷ held hs ∷ []) (held hs ∷ []) stood (goes_behind c.next_stand.new.lines c.next_variables.new.lines (counted_of (codes "vars") each_variable ∷ []) [] (held hs ∷ []) variables) in
    goes_then c.args.lines.now c.next_variables.new.lines c.next_held.new.lines (one start_form ∷ place c.args.is_fork c.args.program ∷ []) (held hs ∷ []) [] named (c.in_ok-operands.ensures.tells hs (c.deref.ensures.value ∙ stand.wanted) named.room)

use Rattle.std.proofs.Common.{◌<◌, ◌^◌, length, arith, refl, sym, subst, ◌∙◌}
use Rattle.std.proofs.lemmas.Result.{err_from_is_err_and}
use Rattle.checkpoint_lines.specs.Told.{IsFault}
use Rattle.checkpoint_lines.proofs.Giving.{gives_passed}
use Rattle.checkpoint.proofs.Drafts.{all_left}
use Rattle.checkpoint.proofs.Faults.{of_all, tells_first}
use Rattle.checkpoint.proofs.decode.next_world.Goals as goal

pub returns-in_err-draft-clause-finds : goal.returns-in_err-draft-clause-finds
returns-in_err-draft-clause-finds c = λ w r e.
    let text = c.args.lines.now.left.now in
    let small : length text < 2 ^ 63 = omega arith in
    let memory = c.in_err-draft.ensures.reads w r (all_left c.args.lines.now text w refl e small) in
    let passed = err_from_is_err_and c.from_residual.result c.from_residual.ensures.1 in
    gives_passed c.from_residual.result passed.0 _ passed.1 (cc (passed.2, memory))

pub returns-in_err-draft-clause-fault : goal.returns-in_err-draft-clause-fault
returns-in_err-draft-clause-fault c =
    let text = c.args.lines.now.left.now in
    let told = c.in_err-draft.ensures.tells c.requires.room in
    let whole = of_all c.args.lines.now text refl c.requires.none in
    let passed = err_from_is_err_and c.from_residual.result c.from_residual.ensures.1 in
    tells_first c.from_residual.result passed.0 c.in_err-draft.field-0.0 text passed.1 (cc passed.2) (subst (λ f. IsFault c.in_err-draft.field-0.0 f) whole told)

pub returns-clause-finds : goal.returns-clause-finds
returns-clause-finds c = λ w r e.
    let text = c.args.lines.now.left.now in
    let small : length text < 2 ^ 63 = omega arith in
    let draft = c.in_ok-draft.ensures.reads w r (all_left c.args.lines.now text w refl e small) in
    c.in_ok-world.ensures.finds w draft.0 r.sound

pub returns-clause-faultless : goal.returns-clause-faultless
returns-clause-faultless c =
    let ends = c.in_ok-draft.ensures.tells c.requires.room in
    sym (of_all c.args.lines.now c.args.lines.now.left.now refl c.requires.none) ∙ ends.0

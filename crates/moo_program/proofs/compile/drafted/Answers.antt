use Rattle.std.proofs.Common.{[], ap, ◌∙◌}
use Rattle.moo_code.specs.Layout.{outermost, program_layout, whole_layout}
use Rattle.moo_program.specs.Drafting.{state, over}
use Rattle.moo_program.proofs.Whole.{is_draft}
use Rattle.moo_program.proofs.compile.drafted.Goals as goal

pub returns : goal.returns
returns c =
    let p = c.args.tree.now in
    is_draft p c.program.new.self c.turn.new.items.items
    (c.in_ok-program.ensures ∙ ap (λ q. over (program_layout outermost q) (state c.in_ok-draft.draft)) c.statements-statements.ensures ∙ ap (over (whole_layout p)) c.in_ok-draft.ensures)
    c.turn.ensures

use Rattle.std.proofs.Common.{sym, ap, ◌∙◌}
use Rattle.spec_world.specs.Checkpoint.{checkpoint_text}
use Rattle.checkpoint_text.proofs.Behind.{no_first, no_objects, no_tasks, is_whole, is_end}
use Rattle.checkpoint_text.proofs.compare_by_threads.is_text_by_threads.Goals as goal

pub returns-in_default : goal.returns-in_default
returns-in_default g c = (
  λ f. absurd (cc f),
  λ e. absurd (no_first c.in_ok-draft.draft c.args.bytes.now (rw c.in_default.is at c.in_ok-found.ensures) (e ∙ ap checkpoint_text (sym c.in_ok-draft.ensures))),
)

pub returns-in_default-found : goal.returns-in_default-found
returns-in_default-found g c = (
  λ f. absurd (cc f),
  λ e. absurd (no_objects c.in_ok-draft.draft c.args.bytes.now c.in-Some.rest.now (rw c.in-Some.is at c.in_ok-found.ensures) (rw c.in_default-found.is at c.in_ok-found-2.ensures)
      (e ∙ ap checkpoint_text (sym c.in_ok-draft.ensures))),
)

pub returns-in-Some-found-2 : goal.returns-in-Some-found-2
returns-in-Some-found-2 g c =
    let w = c.in_ok-draft.draft in
    let one = rw c.in-Some.is at c.in_ok-found.ensures in
    let two = rw c.in-Some-found.is at c.in_ok-found-2.ensures in
    let three = rw c.in-Some-found-2.is at c.in_ok-found-3.ensures in (
      λ h. is_whole w c.args.bytes.now c.in-Some.rest.now c.in-Some-found.rest.now c.in-Some-found-2.rest.now one two three (c.is_end.ensures.0 h) ∙ ap checkpoint_text c.in_ok-draft.ensures,
      λ e. c.is_end.ensures.1 (is_end w c.args.bytes.now c.in-Some.rest.now c.in-Some-found.rest.now c.in-Some-found-2.rest.now one two three (e ∙ ap checkpoint_text (sym c.in_ok-draft.ensures))),
    )

pub returns : goal.returns
returns g c = (
  λ f. absurd (cc f),
  λ e. absurd (no_tasks c.in_ok-draft.draft c.args.bytes.now c.in-Some.rest.now c.in-Some-found.rest.now (rw c.in-Some.is at c.in_ok-found.ensures)
      (rw c.in-Some-found.is at c.in_ok-found-2.ensures) (rw c.in-None.is at c.in_ok-found-3.ensures) (e ∙ ap checkpoint_text (sym c.in_ok-draft.ensures))),
)

use Rattle.std.proofs.Common.{[], ◌∷◌, Some, ap, ◌∙◌, codes}
use Rattle.std.proofs.lemmas.Result.{err_from_is_err_and}
use Rattle.spec_world.specs.World.{World}
use Rattle.checkpoint_lines.proofs.Giving.{gives_passed}
use Rattle.checkpoint.proofs.ReadableParts.{links_read, objects_read, tasks_read}
use Rattle.checkpoint.proofs.Drafts.{behind_front, behind_links, behind_objects, drafted}
use Rattle.checkpoint.proofs.draft.next_draft.Goals as goal
use Rattle.checkpoint.proofs.draft.next_draft.Goals.{else-has_objects-via-then-has_objects+else-has_tasks, else-has_objects-via-else-has_objects}

pub returns-in_err-read_front-clause-reads : goal.returns-in_err-read_front-clause-reads
returns-in_err-read_front-clause-reads c = λ w r l.
    let f = r.sound.well_formed in
    let memory = c.in_err-read_front.ensures.reads w (behind_front w) f (ap (λ (d : World). d.next) c.empty-draft.ensures) l in
    let passed = err_from_is_err_and c.from_residual.result c.from_residual.ensures.1 in
    gives_passed c.from_residual.result passed.0 _ passed.1 (cc (passed.2, memory))

pub returns-in_err-read_links-clause-reads : goal.returns-in_err-read_links-clause-reads
returns-in_err-read_links-clause-reads c = λ w r l.
    let f = r.sound.well_formed in
    let front = c.in_ok-read_front.ensures.reads w (behind_front w) f (ap (λ (d : World). d.next) c.empty-draft.ensures) l in
    let memory = c.in_err-read_links.ensures.reads w (behind_links w) f (links_read w r) (ap (λ (d : World). d.links) front.0 ∙ ap (λ (d : World). d.links) c.empty-draft.ensures) front.1 in
    let passed = err_from_is_err_and c.from_residual-in_err-read_links.result c.from_residual-in_err-read_links.ensures.1 in
    gives_passed c.from_residual-in_err-read_links.result passed.0 _ passed.1 (cc (passed.2, memory))

pub returns-in_err-has_objects-clause-reads : goal.returns-in_err-has_objects-clause-reads
returns-in_err-has_objects-clause-reads c = λ w r l.
    let f = r.sound.well_formed in
    let front = c.in_ok-read_front.ensures.reads w (behind_front w) f (ap (λ (d : World). d.next) c.empty-draft.ensures) l in
    let links = c.in_ok-read_links.ensures.reads w (behind_links w) f (links_read w r) (ap (λ (d : World). d.links) front.0 ∙ ap (λ (d : World). d.links) c.empty-draft.ensures) front.1 in
    let memory = c.in_err-has_objects.ensures.reads w (behind_objects w) f (objects_read w r) (ap (λ (d : World). d.objects) links.0 ∙ ap (λ (d : World). d.objects) front.0 ∙ ap (λ (d : World). d.objects) c.empty-draft.ensures) links.1 in
    let passed = err_from_is_err_and c.from_residual-in_err-has_objects.result c.from_residual-in_err-has_objects.ensures.1 in
    gives_passed c.from_residual-in_err-has_objects.result passed.0 _ passed.1 (cc (passed.2, memory))

pub returns-in_err-has_tasks-clause-reads : goal.returns-in_err-has_tasks-clause-reads
returns-in_err-has_tasks-clause-reads c = λ w r l.
    let f = r.sound.well_formed in
    let front = c.in_ok-read_front.ensures.reads w (behind_front w) f (ap (λ (d : World). d.next) c.empty-draft.ensures) l in
    let links = c.in_ok-read_links.ensures.reads w (behind_links w) f (links_read w r) (ap (λ (d : World). d.links) front.0 ∙ ap (λ (d : World). d.links) c.empty-draft.ensures) front.1 in
    let objects = c.in_ok-has_objects.ensures.reads w (behind_objects w) f (objects_read w r) (ap (λ (d : World). d.objects) links.0 ∙ ap (λ (d : World). d.objects) front.0 ∙ ap (λ (d : World). d.objects) c.empty-draft.ensures) links.1 in
    let memory = c.in_err-has_tasks.ensures.reads w (codes "end" ∷ []) f (tasks_read w r) (ap (λ (d : World). d.tasks) objects.0.1 ∙ ap (λ (d : World). d.tasks) links.0 ∙ ap (λ (d : World). d.tasks) front.0 ∙ ap (λ (d : World). d.tasks) c.empty-draft.ensures) objects.1 in
    let passed = err_from_is_err_and c.from_residual-in_err-has_tasks.result c.from_residual-in_err-has_tasks.ensures.1 in
    gives_passed c.from_residual-in_err-has_tasks.result passed.0 _ passed.1 (cc (passed.2, memory))

pub returns-in_err-end-clause-reads : goal.returns-in_err-end-clause-reads
returns-in_err-end-clause-reads c = λ w r l.
    let f = r.sound.well_formed in
    let front = c.in_ok-read_front.ensures.reads w (behind_front w) f (ap (λ (d : World). d.next) c.empty-draft.ensures) l in
    let links = c.in_ok-read_links.ensures.reads w (behind_links w) f (links_read w r) (ap (λ (d : World). d.links) front.0 ∙ ap (λ (d : World). d.links) c.empty-draft.ensures) front.1 in
    let objects = c.in_ok-has_objects.ensures.reads w (behind_objects w) f (objects_read w r) (ap (λ (d : World). d.objects) links.0 ∙ ap (λ (d : World). d.objects) front.0 ∙ ap (λ (d : World). d.objects) c.empty-draft.ensures) links.1 in
    let tasks = c.in_ok-has_tasks.ensures.reads w (codes "end" ∷ []) f (tasks_read w r) (ap (λ (d : World). d.tasks) objects.0.1 ∙ ap (λ (d : World). d.tasks) links.0 ∙ ap (λ (d : World). d.tasks) front.0 ∙ ap (λ (d : World). d.tasks) c.empty-draft.ensures) objects.1 in
    let memory = c.in_err-end.ensures.reads tasks.1 in
    let passed = err_from_is_err_and c.from_residual-in_err-end.result c.from_residual-in_err-end.ensures.1 in
    gives_passed c.from_residual-in_err-end.result passed.0 _ passed.1 (cc (passed.2, memory))

pub returns-then-has_tasks-clause-reads : goal.returns-then-has_tasks-clause-reads
returns-then-has_tasks-clause-reads c = λ w r l.
    let f = r.sound.well_formed in
    let front = c.in_ok-read_front.ensures.reads w (behind_front w) f (ap (λ (d : World). d.next) c.empty-draft.ensures) l in
    let links = c.in_ok-read_links.ensures.reads w (behind_links w) f (links_read w r) (ap (λ (d : World). d.links) front.0 ∙ ap (λ (d : World). d.links) c.empty-draft.ensures) front.1 in
    let objects = c.in_ok-has_objects.ensures.reads w (behind_objects w) f (objects_read w r) (ap (λ (d : World). d.objects) links.0 ∙ ap (λ (d : World). d.objects) front.0 ∙ ap (λ (d : World). d.objects) c.empty-draft.ensures) links.1 in
    let tasks = c.in_ok-has_tasks.ensures.reads w (codes "end" ∷ []) f (tasks_read w r) (ap (λ (d : World). d.tasks) objects.0.1 ∙ ap (λ (d : World). d.tasks) links.0 ∙ ap (λ (d : World). d.tasks) front.0 ∙ ap (λ (d : World). d.tasks) c.empty-draft.ensures) objects.1 in
    let end = c.in_ok-end.ensures.reads tasks.1 in
    let whole = drafted w c.empty-draft.result c.read_front.new.draft c.read_links.new.draft c.read_objects.new.draft c.read_tasks.new.draft front.0 links.0 objects.0.1 tasks.0.1 in
    (ap (λ d. Some d) whole, end.1)

pub returns-else-has_objects-clause-reads : goal.returns-else-has_objects-clause-reads
returns-else-has_objects-clause-reads c = λ w r l.
    let f = r.sound.well_formed in
    let front = c.in_ok-read_front.ensures.reads w (behind_front w) f (ap (λ (d : World). d.next) c.empty-draft.ensures) l in
    let links = c.in_ok-read_links.ensures.reads w (behind_links w) f (links_read w r) (ap (λ (d : World). d.links) front.0 ∙ ap (λ (d : World). d.links) c.empty-draft.ensures) front.1 in
    let objects = c.in_ok-has_objects.ensures.reads w (behind_objects w) f (objects_read w r) (ap (λ (d : World). d.objects) links.0 ∙ ap (λ (d : World). d.objects) front.0 ∙ ap (λ (d : World). d.objects) c.empty-draft.ensures) links.1 in
    let tasks = c.in_ok-has_tasks.ensures.reads w (codes "end" ∷ []) f (tasks_read w r) (ap (λ (d : World). d.tasks) objects.0.1 ∙ ap (λ (d : World). d.tasks) links.0 ∙ ap (λ (d : World). d.tasks) front.0 ∙ ap (λ (d : World). d.tasks) c.empty-draft.ensures) objects.1 in
    absurd
    (elim c.else-has_objects.branch [
      | else-has_objects-via-then-has_objects+else-has_tasks v ↦ cc (tasks.0.0, v.if-has_tasks.false)
      | else-has_objects-via-else-has_objects v ↦ cc (objects.0.0, v.if-has_objects.false)
    ])

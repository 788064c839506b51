use Rattle.std.proofs.Common.{◌≡◌, ◌∙◌, ◌&&◌, nat_le, sym, true, false, IsTrue, arith, rules}
use Rattle.world_checks.proofs.Whole.{all_sound, next_of, objects_of, links_of, tasks_of}
use Rattle.world_checks.proofs.sound.is_sound.Goals as goal

pub returns-then-not-next_is_sound-clause-finds : goal.returns-then-not-next_is_sound-clause-finds
returns-then-not-next_is_sound-clause-finds c h = c.if-not-next_is_sound.ensures ∙ next_of c.args.draft.now h

pub returns-then-not-objects-clause-finds : goal.returns-then-not-objects-clause-finds
returns-then-not-objects-clause-finds c h =
    let yes : c.in_ok-objects.objects ≡ true = c.in_ok-objects.ensures.finds (objects_of c.args.draft.now h) in
    let no : c.in_ok-objects.objects ≡ false = first_of (search rules, grind arith) in
    sym no ∙ yes

pub returns-then-not-links-clause-finds : goal.returns-then-not-links-clause-finds
returns-then-not-links-clause-finds c h =
    let yes : c.in_ok-links.links ≡ true = c.in_ok-links.ensures.finds (objects_of c.args.draft.now h) (links_of c.args.draft.now h) in
    let no : c.in_ok-links.links ≡ false = first_of (search rules, grind arith) in
    sym no ∙ yes

pub returns-then-not-tasks-clause-finds : goal.returns-then-not-tasks-clause-finds
returns-then-not-tasks-clause-finds c h =
    let yes : c.in_ok-tasks.tasks ≡ true = c.in_ok-tasks.ensures.finds (links_of c.args.draft.now h) (tasks_of c.args.draft.now h) in
    let no : c.in_ok-tasks.tasks ≡ false = first_of (search rules, grind arith) in
    sym no ∙ yes

pub returns-clause-tells : goal.returns-clause-tells
returns-clause-tells c =
    let next : IsTrue (nat_le 1 c.args.draft.now.next && nat_le c.args.draft.now.next 33554432) = first_of (cc, search rules) in
    let objects : IsTrue c.in_ok-objects.objects = first_of (cc, search rules) in
    let links : IsTrue c.in_ok-links.links = first_of (cc, search rules) in
    let tasks : IsTrue c.in_ok-tasks.tasks = first_of (cc, search rules) in
    λ spelled. all_sound c.args.draft.now next (c.in_ok-objects.ensures.tells objects) (c.in_ok-links.ensures.tells links) (c.in_ok-tasks.ensures.tells tasks) (c.in_ok-spelled.ensures.tells spelled)

pub returns-clause-finds : goal.returns-clause-finds
returns-clause-finds c h = c.in_ok-spelled.ensures.finds h.spelled

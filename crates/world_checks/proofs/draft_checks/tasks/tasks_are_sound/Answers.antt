use Rattle.std.proofs.Common.{◌≡◌, ◌∙◌, IsTrue, refl, rules, sym, true, false, arith}
use Rattle.spec_world.specs.Listings.{waiting_ids}
use Rattle.world_checks.specs.DraftChecksTasks.{all_read}
use Rattle.world_checks.proofs.Reading.{tasks_sound, each_fits, readers_once}
use Rattle.world_checks.proofs.draft_checks.tasks.tasks_are_sound.Goals as goal

pub returns-clause-tells : goal.returns-clause-tells
returns-clause-tells c =
    let ids : c.as_slice-ids.result.now ≡ waiting_ids c.args.draft.now = first_of (cc, search rules) in
    let fit : IsTrue c.in_ok-fit.fit = first_of (cc, search rules) in
    let read : c.deref.result.now ≡ all_read c.args.draft.now c.as_slice-ids.result.now = c.deref.ensures.value ∙ c.in_ok-connections.ensures in
    λ once. tasks_sound c.args.draft.now c.as_slice-ids.result.now c.deref.result.now ids (c.if-not-rise.ensures.tells refl) (c.in_ok-fit.ensures.tells fit) read (c.in_ok-once.ensures.tells once)

pub returns-clause-finds : goal.returns-clause-finds
returns-clause-finds c =
    let ids : c.as_slice-ids.result.now ≡ waiting_ids c.args.draft.now = first_of (cc, search rules) in
    let read : c.deref.result.now ≡ all_read c.args.draft.now c.as_slice-ids.result.now = c.deref.ensures.value ∙ c.in_ok-connections.ensures in
    λ links tasks. let both = readers_once c.args.draft.now links tasks c.as_slice-ids.result.now c.deref.result.now ids read in c.in_ok-once.ensures.finds both.0 both.1

pub returns-then-not-fit-clause-finds : goal.returns-then-not-fit-clause-finds
returns-then-not-fit-clause-finds c links tasks =
    let yes : c.in_ok-fit.fit ≡ true = c.in_ok-fit.ensures.finds (each_fits c.args.draft.now tasks) in
    let no : c.in_ok-fit.fit ≡ false = first_of (search rules, grind arith) in
    sym no ∙ yes

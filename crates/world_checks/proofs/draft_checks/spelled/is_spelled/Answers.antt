use Rattle.std.proofs.Common.{◌≡◌, ℤ, map, rules}
use Rattle.spec_world.specs.Listings.{waiting_ids}
use Rattle.world_checks.proofs.Spelling.{texts_spell}
use Rattle.world_checks.proofs.draft_checks.spelled.is_spelled.Goals as goal

pub returns-clause-tells : goal.returns-clause-tells
returns-clause-tells c =
    let numbers : c.as_slice.result.now ≡ map (λ e. e.0) c.args.draft.now.objects = first_of (cc, search rules) in
    let ids : c.as_slice-2.result.now ≡ waiting_ids c.args.draft.now = first_of (cc, search rules) in
    λ spelled. texts_spell c.args.draft.now c.as_slice.result.now c.as_slice-2.result.now numbers ids c.know_objects.ensures (c.in_ok-spelled.ensures.tells spelled)

pub returns-clause-finds : goal.returns-clause-finds
returns-clause-finds c h = c.in_ok-spelled.ensures.finds h.1

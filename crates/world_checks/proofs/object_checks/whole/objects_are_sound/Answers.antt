use Rattle.std.proofs.Common.{◌≡◌, ◌∙◌, map, refl, rules, pos, ◌&&◌, IsTrue}
use Rattle.std.specs.Prelude.{int_le, neg_ℤ}
use Rattle.std.proofs.lemmas.Result.{IfOk-weaker}
use Rattle.world_checks.proofs.Agreed.{objects_agree, objects_rise, object_agrees, all_may_be_marked, all_are_listed}
use Rattle.world_checks.proofs.Depths.{depth_along}
use Rattle.world_checks.specs.declared.object_checks.way.Way.TheVariants.{Parent, Location}
use Rattle.world_checks.proofs.object_checks.whole.objects_are_sound.Goals as goal

pub returns-clause-tells : goal.returns-clause-tells
returns-clause-tells c =
    let numbers : c.as_slice-numbers.result.now ≡ map (λ e. e.0) c.args.draft.now.objects = first_of (cc, search rules) in
    let range : IsTrue (int_le (neg_ℤ (pos 1)) c.args.draft.now.greatest && int_le c.args.draft.now.greatest (pos 999999)) = first_of (cc, search rules) in
    IfOk-weaker c.all_agree.result _ _
    (λ b h yes. objects_agree c.args.draft.now c.in_ok-family.family.ranks c.in_ok-whereabouts.whereabouts.ranks c.as_slice-numbers.result.now numbers (c.if-not-rise.ensures.tells refl) range
    (h yes)) c.all_agree.ensures.tells

pub returns-clause-finds : goal.returns-clause-finds
returns-clause-finds c =
    let w = c.args.draft.now in
    let numbers : c.as_slice-numbers.result.now ≡ map (λ e. e.0) w.objects = first_of (cc, search rules) in
    IfOk-weaker c.all_agree.result _ _
    (λ b h sound.
    let may = all_may_be_marked w sound in
    let all = all_are_listed w c.as_slice-numbers.result.now numbers in
    let up = depth_along Parent w sound.parents_end in
    let along = depth_along Location w sound.locations_end in
    h (c.in_ok-family.ensures.places may all sound.children) (c.in_ok-whereabouts.ensures.places may all sound.contents)
    (object_agrees w sound c.in_ok-family.family.ranks c.in_ok-whereabouts.whereabouts.ranks up.0 along.0 up.1 along.1 (c.in_ok-family.ensures.ranks may all up.0 up.1)
    (c.in_ok-whereabouts.ensures.ranks may all along.0 along.1)))
    c.all_agree.ensures.finds

pub returns-then-not-rise-clause-finds : goal.returns-then-not-rise-clause-finds
returns-then-not-rise-clause-finds c sound =
    let numbers : c.as_slice-numbers.result.now ≡ map (λ e. e.0) c.args.draft.now.objects = first_of (cc, search rules) in
    c.if-not-rise.ensures.finds (objects_rise c.args.draft.now c.as_slice-numbers.result.now sound numbers)

pub returns-then-not-greatest_is_sound-clause-finds : goal.returns-then-not-greatest_is_sound-clause-finds
returns-then-not-greatest_is_sound-clause-finds c sound = c.if-not-greatest_is_sound.ensures ∙ sound.greatest_in_range

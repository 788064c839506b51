use Rattle.std.proofs.Common.{◌≡◌, map, refl, rules}
use Rattle.std.proofs.lemmas.Result.{IfOk-weaker}
use Rattle.world_checks.proofs.Linked.{links_agree, links_rise, persons_once}
use Rattle.world_checks.proofs.object_checks.links.links_are_sound.Goals as goal

pub returns-clause-tells : goal.returns-clause-tells
returns-clause-tells c =
    let numbers : c.as_slice-numbers.result.now ≡ map (λ e. e.0) c.args.draft.now.links = first_of (cc, search rules) in
    IfOk-weaker c.is_once.result _ _
    (λ b h yes. links_agree c.args.draft.now c.as_slice-numbers.result.now c.in_ok-persons.persons.items c.deref.result.now numbers (c.if-not-rise.ensures.tells refl) (c.if-not-all_fit.ensures.tells refl) c.in_ok-persons.ensures
    c.deref.ensures.value (h yes)) c.is_once.ensures.tells

pub returns-clause-finds : goal.returns-clause-finds
returns-clause-finds c =
    let numbers : c.as_slice-numbers.result.now ≡ map (λ e. e.0) c.args.draft.now.links = first_of (cc, search rules) in
    IfOk-weaker c.is_once.result _ _
    (λ b h objects links.
    let both = persons_once c.args.draft.now objects links c.as_slice-numbers.result.now c.in_ok-persons.persons.items c.deref.result.now numbers c.in_ok-persons.ensures c.deref.ensures.value in h both.0 both.1)
    c.is_once.ensures.finds

pub returns-then-not-rise-clause-finds : goal.returns-then-not-rise-clause-finds
returns-then-not-rise-clause-finds c objects links =
    let numbers : c.as_slice-numbers.result.now ≡ map (λ e. e.0) c.args.draft.now.links = first_of (cc, search rules) in
    c.if-not-rise.ensures.finds (links_rise c.args.draft.now c.as_slice-numbers.result.now links numbers)

pub returns-then-not-all_fit-clause-finds : goal.returns-then-not-all_fit-clause-finds
returns-then-not-all_fit-clause-finds c objects links = c.if-not-all_fit.ensures.finds links.links

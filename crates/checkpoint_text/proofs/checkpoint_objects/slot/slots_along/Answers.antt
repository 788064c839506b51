use Rattle.std.proofs.Common.{◌≡◌, ◌-◌, ◌++◌, map, option_map, Bor, sym, ap, ◌∙◌, arith, rules, w32, to_z, of_z}
use Rattle.std.proofs.lemmas.Int.{to_z-of_z}
use Rattle.spec_world.specs.World.{Slot, Object, object_at}
use Rattle.spec_world.specs.Inherit.{ancestors, line}
use Rattle.spec_world.specs.Checkpoint.{slots_along}
use Rattle.checkpoint_text.specs.CheckpointObjectsLines.{line_of_slot, slots_of}
use Rattle.checkpoint_text.proofs.Along.{more_found, all_found, no_more, first_found}
use Rattle.checkpoint_text.proofs.Shortcuts.{leads_so, skipped}
use Rattle.checkpoint_text.proofs.checkpoint_objects.slot.slots_along.Goals as goal

pub loop-left-init : goal.loop-left-init
loop-left-init c =
    let w = c.args.draft.now in
    let n = to_z w32 (of_z w32 c.args.number) in
    ap (λ fs. map (λ (s : Bor Slot). line_of_slot s.now) fs ++ slots_along w n (line c.bound-left.result w n)) c.new-found.ensures.items
    ∙ first_found w n c.bound-left.result c.bound-left.ensures

pub returns-in_default : goal.returns-in_default
returns-in_default c =
    let w = c.args.draft.now in
    let n = to_z w32 (of_z w32 c.args.number) in
    all_found w n (map (λ (s : Bor Slot). line_of_slot s.now) c.loop-left.found.items) c.loop-left.left (to_z w32 c.loop-left.above-bits)
    (slots_along w n (ancestors w n)) (sym c.object.ensures ∙ ap (option_map (λ (x : Bor Object). x.now)) c.in_default.is) c.loop-left.invariant
    ∙ ap (λ o. slots_along w o (ancestors w o)) (to_z-of_z w32 c.args.number c.ranges.number)

pub returns : goal.returns
returns c =
    let w = c.args.draft.now in
    let n = to_z w32 (of_z w32 c.args.number) in
    no_more w n (map (λ (s : Bor Slot). line_of_slot s.now) c.loop-left.found.items) c.loop-left.left (to_z w32 c.loop-left.above-bits)
    (slots_along w n (ancestors w n)) (omega (arith, c.loop-left-test.false)) c.loop-left.invariant
    ∙ ap (λ o. slots_along w o (ancestors w o)) (to_z-of_z w32 c.args.number c.ranges.number)

pub loop-left-preserved : goal.loop-left-preserved
loop-left-preserved c =
    let w = c.args.draft.now in
    let es = c.args.shortcuts.now in
    let n = to_z w32 (of_z w32 c.args.number) in
    let found = map (λ (s : Bor Slot). line_of_slot s.now) c.loop-left.found.items in
    let new = map (λ (s : Bor Slot). line_of_slot s.now) c.add_slots.new.found.items in
    let to = c.beyond-next.result.to in
    let less = c.loop-left.left - 1 in
    let up : to_z w32 (of_z w32 c.parent.result) ≡ c.parent.result = search rules in
    let back : to_z w32 (of_z w32 to) ≡ to = search rules in
    let one = more_found w n c.args.object.now (ap (object_at w) (to_z-of_z w32 c.args.number c.ranges.number) ∙ c.requires.there)
    found new c.loop-left.left less (to_z w32 c.loop-left.above-bits) c.parent.result c.in-Some.ancestor.now
    (slots_along w n (ancestors w n)) (omega (arith, c.loop-left-test.true)) (sym c.in-Some.ensures) c.parent.ensures
    (c.in_ok-add_slots.ensures ∙ ap (λ ts. found ++ slots_of c.args.object.now ts) (c.as_slice.ensures ∙ c.defines.ensures)) c.loop-left.invariant in
    let past = skipped w es n c.beyond-next.result.over less c.saturating_sub-left.result c.parent.result to
    (c.saturating_sub-left.ensures ∙ ap (λ k. less - k) c.from.ensures) (leads_so w es c.requires.shortcuts c.beyond-next.result.over c.parent.result to (rw up at c.beyond-next.ensures)) in
    ap (λ p. new ++ slots_along w n (line c.saturating_sub-left.result w p)) back ∙ ap (λ ts. new ++ ts) (sym past) ∙ one

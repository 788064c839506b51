use Rattle.std.proofs.Common.{◌≡◌, ◌∙◌, ap, sym, refl, suc, [], ◌∷◌, true}
use Rattle.spec_moo.specs.Effects.Loops.{are_bounds}
use Rattle.moo_code.specs.Machine.{place_for}
use Rattle.moo_task.specs.Turns.{turn_of}
use Rattle.moo_task.proofs.Next.{next_place}
use Rattle.moo_task.proofs.Turning.{next_range_turns}
use Rattle.moo_task.proofs.moo_machine.verb.State.next_of_range.Goals as goal

pub returns-then-bounds : goal.returns-then-bounds
returns-then-bounds c a x h =
    let e : c.args.self.now.operands ≡ c.in-Some.last ∷ c.in-Some-pop.held ∷ c.pop-2.new.self = c.in-Some.ensures ∙ ap (λ st. c.in-Some.last ∷ st) c.in-Some-pop.ensures in
    let b : are_bounds (c.in-Some-pop.held ∷ c.in-Some.last ∷ []) ≡ true = sym c.bound_a_range-bounds.ensures ∙ c.if-bounds.true in
    next_range_turns a c.args.call.now c.args.self.now x c.args.body c.in-Some-pop.held c.in-Some.last c.pop-2.new.self e b
    ∙ ap (λ t. turn_of a c.args.call.now x 3 (place_for (suc c.args.self.now.place) ((3, c.args.body) ∷ [])) t (record (c.args.self.now) { operands = c.pop-2.new.self })) (sym c.turn_after-turn.ensures)
    ∙ c.in_ok-did.ensures a c.args.call.now x 3 (place_for (suc c.args.self.now.place) ((3, c.args.body) ∷ [])) h refl (sym (next_place c.args.self.now.place))

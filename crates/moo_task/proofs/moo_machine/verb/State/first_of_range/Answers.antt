use Rattle.std.proofs.Common.{◌≡◌, ◌∙◌, ap, sym, refl, suc, [], ◌∷◌, true}
use Rattle.spec_moo.specs.Effects.Loops.{are_bounds}
use Rattle.moo_code.specs.Machine.{place_for}
use Rattle.moo_task.specs.Turns.{turn_of}
use Rattle.moo_task.proofs.Next.{next_place}
use Rattle.moo_task.proofs.Turning.{first_range_turns}
use Rattle.moo_task.proofs.moo_machine.verb.State.first_of_range.Goals as goal

pub returns-then-bounds : goal.returns-then-bounds
returns-then-bounds c a x h =
    let e : c.args.self.now.operands ≡ c.in-Some.last ∷ c.in-Some-pop.first ∷ c.pop-2.new.self = c.in-Some.ensures ∙ ap (λ st. c.in-Some.last ∷ st) c.in-Some-pop.ensures in
    let b : are_bounds (c.in-Some-pop.first ∷ c.in-Some.last ∷ []) ≡ true = sym c.bound_a_range-bounds.ensures ∙ c.if-bounds.true in
    first_range_turns a c.args.call.now c.args.self.now x c.args.end c.in-Some-pop.first c.in-Some.last c.pop-2.new.self e b
    ∙ ap (λ t. turn_of a c.args.call.now x 3 (place_for (suc c.args.self.now.place) ((0, c.args.end) ∷ [])) t (record (c.args.self.now) { operands = c.pop-2.new.self })) (sym c.turn_in-turn.ensures)
    ∙ c.in_ok-did.ensures a c.args.call.now x 3 (place_for (suc c.args.self.now.place) ((0, c.args.end) ∷ [])) h (sym (next_place c.args.self.now.place)) refl

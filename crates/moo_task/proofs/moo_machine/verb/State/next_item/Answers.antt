use Rattle.std.proofs.Common.{◌≡◌, ◌∙◌, ap, sym, refl, suc, [], ◌∷◌}
use Rattle.spec_value.specs.Datum.{list, of_list}
use Rattle.moo_code.specs.Machine.{place_for}
use Rattle.moo_task.specs.Turns.{turn_of}
use Rattle.moo_task.proofs.Next.{next_place}
use Rattle.moo_task.proofs.Turning.{next_turns}
use Rattle.moo_task.proofs.moo_machine.verb.State.next_item.Goals as goal

pub returns : goal.returns
returns c a x h =
    let e : c.args.self.now.operands ≡ c.in-Some.begun ∷ list (of_list c.in-List.items.now) ∷ c.pop-2.new.self =
    c.in-Some.ensures ∙ ap (λ st. c.in-Some.begun ∷ st) (c.in-Some-pop.ensures ∙ ap (λ v. v ∷ c.pop-2.new.self) (sym c.in-List.ensures)) in
    next_turns a c.args.call.now c.args.self.now x c.args.body (of_list c.in-List.items.now) c.in-Some.begun c.pop-2.new.self e
    ∙ ap (λ t. turn_of a c.args.call.now x 2 (place_for (suc c.args.self.now.place) ((2, c.args.body) ∷ [])) t (record (c.args.self.now) { operands = c.pop-2.new.self })) (sym c.in_ok-turn.ensures)
    ∙ c.in_ok-did.ensures a c.args.call.now x 2 (place_for (suc c.args.self.now.place) ((2, c.args.body) ∷ [])) h refl (sym (next_place c.args.self.now.place))

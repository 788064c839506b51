use mir.Syntax.{w32}
use mir.Val.{SFits}
use Rattle.std.proofs.Common.{◌≡◌, ◌∙◌, ◌∷◌, [], IsTrue, nat_le, length, pos, ap, sym, subst, rules}
use Rattle.std.proofs.lemmas.Bool.{leb-true}
use Rattle.std.proofs.lemmas.Int.{to_z-of_z}
use Rattle.spec_value.specs.Datum.{integer, list, of_list}
use Rattle.held_values.proofs.ValueKinds.{walk_holds, counted}
use Rattle.spec_value.proofs.Entries.{second_holds}
use Rattle.spec_program.specs.Place.{walks_list}
use Rattle.spec_world.specs.WellFormed.{held_fits, count}
use Rattle.held_values.proofs.walk.turns_fit.Goals as goal

pub returns-then-count-ge1-clause-tells : goal.returns-then-count-ge1-clause-tells
returns-then-count-ge1-clause-tells c t around =
    let items : c.args.list.now ≡ list (of_list c.in-List.items.now) = sym c.in-List.ensures in
    let fits : SFits w32 c.in-Integer.turns = search rules in
    let count : c.in-Integer.turns ≡ pos c.in-Some.count = sym (to_z-of_z w32 c.in-Integer.turns fits) ∙ c.in-Some.ensures.tells in
    let turns : c.args.turns.now ≡ integer (pos c.in-Some.count) = sym c.in-Integer.ensures ∙ ap integer count in
    rw (items, turns) (walk_holds c.in-List.items.now c.in-Some.count c.if-count-ge1.true (leb-true c.in-Some.count (length c.in-List.items.now) t) around)

pub returns-then-count-ge1-clause-finds : goal.returns-then-count-ge1-clause-finds
returns-then-count-ge1-clause-finds c around h =
    let items : c.args.list.now ≡ list (of_list c.in-List.items.now) = sym c.in-List.ensures in
    let fits : SFits w32 c.in-Integer.turns = search rules in
    let number : c.in-Integer.turns ≡ pos c.in-Some.count = sym (to_z-of_z w32 c.in-Integer.turns fits) ∙ c.in-Some.ensures.tells in
    let turns : c.args.turns.now ≡ integer (pos c.in-Some.count) = sym c.in-Integer.ensures ∙ ap integer number in
    let first = subst (λ v. IsTrue (held_fits around walks_list (v ∷ c.args.turns.now ∷ []))) items h in
    let both = subst (λ v. IsTrue (held_fits around walks_list (list (of_list c.in-List.items.now) ∷ v ∷ []))) turns first in
    subst (λ n. IsTrue (nat_le c.in-Some.count n)) (counted c.in-List.items.now)
    (second_holds (nat_le 1 c.in-Some.count) (nat_le c.in-Some.count (count (of_list c.in-List.items.now))) both)

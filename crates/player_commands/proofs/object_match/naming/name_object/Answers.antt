use Rattle.std.proofs.Common.{◌≡◌, ◌<◌, length, Some, None, refl, rules, w32, to_z, of_z}
use Rattle.std.proofs.lemmas.Int.{to_z-of_z}
use Rattle.spec_world.specs.Naming.{name_object, by_number, by_words, object_number}
use Rattle.view.specs.Law.{Tells}
use Rattle.rules.proofs.Tellings.{if_ok_as, told_as}
use Rattle.player_commands.specs.Numbers.{IsNumberOf}
use Rattle.player_commands.proofs.NamingRules.{name_of_none, name_by_number, name_by_words}
use Rattle.player_commands.proofs.object_match.naming.name_object.Goals as goal

pub returns-then-is_empty-clause-left : goal.returns-then-is_empty-clause-left
returns-then-is_empty-clause-left g c =
    let empty : length c.args.text.now ≡ 0 = search rules in
    λ w is. (is, (refl, name_of_none (g.V.View.now c.args.view.now w) c.args.player c.args.text.now empty))

pub returns-in-Some-clause-left : goal.returns-in-Some-clause-left
returns-in-Some-clause-left g c =
    let player = to_z-of_z w32 c.args.player c.ranges.player in
    let object : to_z w32 (of_z w32 c.in-Some.object) ≡ c.in-Some.object = search rules in
    let some : 0 < length c.args.text.now = search rules in
    let is : IsNumberOf (object_number c.args.text.now) (Some c.in-Some.object) = search rules in
    if_ok_as
    (λ n. Tells g.V.View.holds g.V.View.now c.args.view.now c.numbered.new.view (λ w. by_number w c.args.player c.args.text.now (Some c.in-Some.object) ≡ n))
    (λ n. Tells g.V.View.holds g.V.View.now c.args.view.now c.numbered.new.view (λ w. name_object w c.args.player c.args.text.now ≡ n))
    (λ n told. told_as g.V.View.holds g.V.View.now c.args.view.now c.numbered.new.view (λ w. by_number w c.args.player c.args.text.now (Some c.in-Some.object) ≡ n)
    (λ w. name_object w c.args.player c.args.text.now ≡ n) c.requires.well_formed told
    (λ w sound so. name_by_number w c.args.player c.args.text.now c.in-Some.object n some is so))
    c.numbered.result (rw (player, object) at c.numbered.ensures.left)

pub returns-in-None-clause-left : goal.returns-in-None-clause-left
returns-in-None-clause-left g c =
    let player = to_z-of_z w32 c.args.player c.ranges.player in
    let some : 0 < length c.args.text.now = search rules in
    let is : IsNumberOf (object_number c.args.text.now) None = search rules in
    if_ok_as
    (λ n. Tells g.V.View.holds g.V.View.now c.args.view.now c.by_words.new.view (λ w. by_words w c.args.player c.args.text.now ≡ n))
    (λ n. Tells g.V.View.holds g.V.View.now c.args.view.now c.by_words.new.view (λ w. name_object w c.args.player c.args.text.now ≡ n))
    (λ n told. told_as g.V.View.holds g.V.View.now c.args.view.now c.by_words.new.view (λ w. by_words w c.args.player c.args.text.now ≡ n)
    (λ w. name_object w c.args.player c.args.text.now ≡ n) c.requires.well_formed told
    (λ w sound so. name_by_words w c.args.player c.args.text.now n sound some is so))
    c.by_words.result (rw player at c.by_words.ensures.left)

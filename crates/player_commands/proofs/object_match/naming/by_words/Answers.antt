use Rattle.std.proofs.Common.{◌≡◌, true, refl, codes, rules, w32}
use Rattle.std.proofs.lemmas.Int.{to_z-of_z}
use Rattle.spec_value.specs.Datum.{fold_case, same_text}
use Rattle.player_commands.proofs.NamingRules.{the_player}
use Rattle.player_commands.proofs.object_match.naming.by_words.Goals as goal

pub returns-then-is_same-clause-left : goal.returns-then-is_same-clause-left
returns-then-is_same-clause-left g c =
    let player = to_z-of_z w32 c.args.player c.ranges.player in
    let same : same_text (fold_case c.args.text.now) (codes "me") ≡ true = search rules in
    rw player (λ w is. (is, (refl, the_player (g.V.View.now c.args.view.now w) c.args.player c.args.text.now same)))

use Rattle.std.proofs.Common.{[], ◌∷◌, ◌++◌}
use Rattle.spec_value.specs.Literal.{escaped}
use Rattle.slot_content.proofs.Behind.{behind_both}
use Rattle.slot_content.proofs.spells.behind_quoted.Goals as goal

pub returns : goal.returns
returns c =
    behind_both _ (34 ∷ []) (escaped c.args.characters.now ++ 34 ∷ []) _ _ c.in_ok-behind.ensures (behind_both _ (escaped c.args.characters.now) (34 ∷ []) _ _ c.in_ok-behind_escaped.ensures c.behind-2.ensures)

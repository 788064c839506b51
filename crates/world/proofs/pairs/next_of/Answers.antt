use Rattle.std.proofs.Common.{◌∙◌, ap, option_map}
use Rattle.world.proofs.PairsWalks.{own_first, another_first, none_first}
use Rattle.world.proofs.pairs.next_of.Goals as goal

pub returns-in_err-found : goal.returns-in_err-found
returns-in_err-found c =
    ap (option_map (λ k. (k, c.args.number))) c.from_residual.ensures ∙ none_first c.args.number c.args.key c.args.pairs.now c.in_err-found.ensures.value

pub returns-then-found-number : goal.returns-then-found-number
returns-then-found-number c =
    own_first c.args.number c.args.key (c.in_ok-found.found, c.in_ok-found.next) c.args.pairs.now c.if-found-number.true c.in_ok-found.ensures.value

pub returns-else-found-number : goal.returns-else-found-number
returns-else-found-number c =
    another_first c.args.number c.args.key (c.in_ok-found.found, c.in_ok-found.next) c.args.pairs.now c.is_empty-sorted.ensures.sorted c.if-found-number.false c.in_ok-found.ensures.value

use Rattle.std.proofs.Common.{true, false, arith}
use Rattle.memchr.proofs.lemmas.CriticalLemmas.{IsCutPlace-of}
use Rattle.moo_text.specs.TwoWay.{precedes}
use Rattle.moo_text.proofs.Cutting.{precedes_on, precedes_no_self, precedes_turned}
use Rattle.moo_text.proofs.two_way.divide.Goals as goal

pub divide_at-requires : goal.divide_at-requires
divide_at-requires c =
    let least = c.greatest_suffix-least.ensures in
    let most = c.greatest_suffix-most.ensures in
    let fits = least.fits in
    let some = least.some in
    IsCutPlace-of (precedes true) (precedes false) (precedes_on true) (precedes_no_self true) (precedes_no_self false)
    (λ a b p q. precedes_turned a b q p) _ _ _ _ (omega arith) least.greatest most.greatest (omega arith) _ least

pub divide_at-requires-else-least-most : goal.divide_at-requires-else-least-most
divide_at-requires-else-least-most c =
    let least = c.greatest_suffix-least.ensures in
    let most = c.greatest_suffix-most.ensures in
    let fits = most.fits in
    let some = most.some in
    IsCutPlace-of (precedes false) (precedes true) (precedes_on false) (precedes_no_self false) (precedes_no_self true)
    precedes_turned _ _ _ _ (omega arith) most.greatest least.greatest (omega arith) _ most

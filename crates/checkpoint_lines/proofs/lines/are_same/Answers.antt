use Rattle.std.proofs.Common.{◌≡◌, ◌≤◌, ◌++◌, length, ap, ◌∙◌, arith, append-nil}
use Rattle.std.proofs.Math.ListN.{drop_of_length-le}
use Rattle.std.proofs.lemmas.Bool.Decides.{Decides-eqb}
use Rattle.std.proofs.lemmas.Slice.Eq.{starts_is}
use Rattle.checkpoint_lines.proofs.lines.are_same.Goals as goal

pub returns-then-text-other : goal.returns-then-text-other
returns-then-text-other c = λ is.
    let text = c.args.text.now in
    let other = c.args.other.now in
    let short : length text ≤ length other = omega arith in
    (starts_is Decides-eqb text other c.starts_with.result c.starts_with.ensures.value).0 is ∙ ap (λ t. other ++ t) (drop_of_length-le text short) ∙ append-nil other

use Rattle.std.proofs.Common.{◌≡◌, length, sym, ◌∙◌, ap, arith}
use Rattle.view.proofs.Compared.{rests, longer, shorter}
use Rattle.view.proofs.slots.compare.Goals as goal

pub returns-then-index-folded : goal.returns-then-index-folded
returns-then-index-folded c =
    let s = c.args.text.now in
    let t = c.args.folded.now in
    let at : c.loop-index.index ≡ length t = omega arith in
    sym (sym (c.loop-index.invariant.1) ∙ ap (rests s t) at ∙ longer s t (omega arith))

pub returns-else-text-folded : goal.returns-else-text-folded
returns-else-text-folded c =
    let s = c.args.text.now in
    let t = c.args.folded.now in
    let at : c.loop-index.index ≡ length s = omega arith in
    sym (sym (c.loop-index.invariant.1) ∙ ap (rests s t) at ∙ shorter s t (omega (arith, c.loop-index.invariant.0)))

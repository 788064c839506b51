use Rattle.std.proofs.Common.{◌≡◌, ℤ, ap, ◌∙◌, sym, rules, w32, to_z, of_z}
use Rattle.spec_world.specs.Questions.{the_greatest}
use Rattle.view.specs.Meanings.{answer_of}
use Rattle.view.proofs.readers.read_greatest.Goals as goal

greatest_is : (a b : ℤ) → the_greatest a ≡ the_greatest b → a ≡ b
greatest_is a b e = cc

pub returns-clause-left : goal.returns-clause-left
returns-clause-left g c =
    let number : to_z w32 (of_z w32 c.in-Greatest.greatest) ≡ c.in-Greatest.greatest = search rules in
    λ w is.
    let told = c.in_ok-greatest.ensures.left w is in
    (told.0, (told.1.0, greatest_is (g.V.View.now c.args.view.now w).greatest c.in-Greatest.greatest (told.1.1 ∙ ap answer_of c.in-Greatest.is) ∙ sym number))

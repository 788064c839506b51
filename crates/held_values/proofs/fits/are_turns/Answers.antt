use Rattle.std.proofs.Common.{sym, subst, IsTrue}
use Rattle.std.specs.Prelude.{option_map}
use Rattle.held_values.specs.Wanted.{are_turns}
use Rattle.held_values.proofs.fits.are_turns.Goals as goal

pub returns-in-Some-clause-tells : goal.returns-in-Some-clause-tells
returns-in-Some-clause-tells c t = subst (λ o. IsTrue (are_turns (option_map (λ v. v.now) o) c.args.value.now)) (sym c.in-Some.is) (c.turns_fit.ensures.tells t 0)

pub returns-in-Some-clause-finds : goal.returns-in-Some-clause-finds
returns-in-Some-clause-finds c h = c.turns_fit.ensures.finds 0 (subst (λ o. IsTrue (are_turns (option_map (λ v. v.now) o) c.args.value.now)) c.in-Some.is h)

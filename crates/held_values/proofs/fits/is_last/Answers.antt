use Rattle.std.proofs.Common.{sym, subst, IsTrue}
use Rattle.std.specs.Prelude.{option_map}
use Rattle.held_values.specs.Wanted.{is_last}
use Rattle.held_values.proofs.fits.is_last.Goals as goal

pub returns-in-Some-clause-tells : goal.returns-in-Some-clause-tells
returns-in-Some-clause-tells c t = subst (λ o. IsTrue (is_last (option_map (λ v. v.now) o) c.args.value.now)) (sym c.in-Some.is) (c.ends_fit.ensures.tells t 0)

pub returns-in-Some-clause-finds : goal.returns-in-Some-clause-finds
returns-in-Some-clause-finds c h = c.ends_fit.ensures.finds 0 (subst (λ o. IsTrue (is_last (option_map (λ v. v.now) o) c.args.value.now)) c.in-Some.is h)

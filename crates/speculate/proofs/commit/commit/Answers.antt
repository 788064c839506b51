use Rattle.std.proofs.Common.{rules, subst}
use Rattle.spec_world.specs.Questions.{Agrees}
use Rattle.view.specs.Sound.{IsSound}
use Rattle.speculate.specs.declared.held.Held.{Held}
use Rattle.speculate.specs.declared.held.Held.TheVariants.{Holds}
use Rattle.speculate.specs.BoardState.{FitsStep}
use Rattle.speculate.proofs.Honest.{kept_is_sound}
use Rattle.speculate.proofs.commit.commit.Goals as goal

pub keep-requires-clause-sound : goal.keep-requires-clause-sound
keep-requires-clause-sound c =
    let sound : IsSound c.args.world.now.plain = record { well_formed = c.know.ensures.well_formed; spelled = c.know.ensures.spelled } in
    let agrees : Agrees c.args.world.now.plain c.in-Holds.guess.reads = search rules in
    let fits : FitsStep c.args.step.now (Holds c.in-Holds.guess c.in-Holds.seen) = subst (λ (h : Held). FitsStep c.args.step.now h) c.in-Holds.is c.requires.fits in
    kept_is_sound c.args.world.now.plain c.args.step.now c.in-Holds.guess sound c.requires.range fits.0 fits.1 agrees

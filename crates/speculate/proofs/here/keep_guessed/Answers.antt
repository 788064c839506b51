use Rattle.std.proofs.Common.{◌≡◌, refl, subst}
use Rattle.spec_world.specs.World.{World}
use Rattle.spec_world.specs.Questions.{Agrees}
use Rattle.speculate.proofs.Honest.{kept_is_sound}
use Rattle.speculate.proofs.Alone.{kept_step}
use Rattle.speculate.proofs.here.keep_guessed.Goals as goal

pub keep-requires-clause-agrees : goal.keep-requires-clause-agrees
keep-requires-clause-agrees g c =
    let guess = c.in-Some.guess in
    let before : guess.before ≡ c.args.world.now.plain = c.in-Some.ensures in
    let A : World → Type 0 = λ w. Agrees w guess.reads in
    subst A before c.know-2.ensures.agrees

pub keep-requires-clause-sound : goal.keep-requires-clause-sound
keep-requires-clause-sound g c =
    let guess = c.in-Some.guess in
    let same : guess.step ≡ c.args.step.now = c.if-not-is_for.ensures.0 refl in
    let before : guess.before ≡ c.args.world.now.plain = c.in-Some.ensures in
    let A : World → Type 0 = λ w. Agrees w guess.reads in
    kept_is_sound c.args.world.now.plain c.args.step.now guess c.know.ensures c.requires same c.know-2.ensures.right (subst A before c.know-2.ensures.agrees)

pub returns-in-Ok : goal.returns-in-Ok
returns-in-Ok g c =
    let guess = c.in-Some.guess in
    let same : guess.step ≡ c.args.step.now = c.if-not-is_for.ensures.0 refl in
    let before : guess.before ≡ c.args.world.now.plain = c.in-Some.ensures in
    let A : World → Type 0 = λ w. Agrees w guess.reads in
    kept_step c.args.world.now c.keep.new.world c.args.step.now guess c.in-Ok.outcome c.know.ensures same c.know-2.ensures.right (subst A before c.know-2.ensures.agrees) c.in-Ok.ensures.ok

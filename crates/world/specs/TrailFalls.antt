-- A trail is longer than what is before its last question.
use Rattle.std.specs.Prelude.{◌≤◌, max, [], ◌∷◌, length}
use Rattle.std.proofs.Common.{arith, length-append}
use Rattle.spec_world.specs.Questions as meant
use Rattle.view.specs.Meanings.{question_of}
use Rattle.world.specs.Trails.{trail_of}
use Rattle.world.specs.declared.trail.Last.{Last}
use Rattle.world.specs.declared.trail.Last.TheVariants.{Nothing, Question, Slot, Header, Verbs}
use Rattle.world.specs.declared.trail.Trail.TheDeep.{deep-Last}

pub trail_falls : (l : Last) → max (deep-Last l) 0 ≤ length (trail_of l)
trail_falls Nothing = omega arith
trail_falls (Question before q) = omega (arith, length-append before.value (question_of q.value ∷ []))
trail_falls (Slot before o p) = omega (arith, length-append before.value (meant.about_slot o.value p.value ∷ []))
trail_falls (Header before o) = omega (arith, length-append before.value (meant.about_header o.value ∷ []))
trail_falls (Verbs before o) = omega (arith, length-append before.value (meant.about_verbs o.value ∷ []))

-- What holds of every error holds of each effect that is an error or fits.
use Rattle.std.proofs.Common.{Bool, true, false, List, [], ◌∷◌, Option, Some, None, if◌then◌else◌}
use Rattle.spec_value.specs.Datum.{Datum, Text}
use Rattle.spec_value.specs.Answer.{Answer, gives, raises}
use Rattle.spec_moo.specs.Scene.{Scene}
use Rattle.spec_moo.specs.Leaving.{Failure, failure}
use Rattle.spec_moo.specs.Effect.{Effect, hands, errs, sets, answered, sets_named, on_one, on_two, on_three}

abbrev pub OfErrors : (Effect → Type 0) → Type 0
OfErrors P = (s : Scene) (f : Failure) → P (errs s f)

pub of_answer : (P : Effect → Type 0) → OfErrors P → (s : Scene) (a : Answer) → ((v : Datum) → P (hands s v)) → P (answered s a)
of_answer P wrong s (gives v) h = h v
of_answer P wrong s (raises e) h = wrong s (failure e)

pub of_if : (P : Effect → Type 0) (b : Bool) (e f : Effect) → P e → P f → P (if b then e else f)
of_if P true e f h k = h
of_if P false e f h k = k

pub of_named : (P : Effect → Type 0) → ((x : Text) (v : Datum) (e : Effect) → P e → P (sets x v e)) → (x : Option Text) (v : Datum) (e : Effect) → P e → P (sets_named x v e)
of_named P set None v e h = h
of_named P set (Some x) v e h = set x v e h

pub of_one : (P : Effect → Type 0) → OfErrors P → (s : Scene) (f : Datum → Effect) (vs : List Datum) → ((v : Datum) → P (f v)) → P (on_one s f vs)
of_one P wrong s f [] h = wrong s _
of_one P wrong s f (v ∷ []) h = h v
of_one P wrong s f (v ∷ u ∷ vs) h = wrong s _

pub of_two : (P : Effect → Type 0) → OfErrors P → (s : Scene) (f : Datum → Datum → Effect) (vs : List Datum) → ((v u : Datum) → P (f v u)) → P (on_two s f vs)
of_two P wrong s f [] h = wrong s _
of_two P wrong s f (v ∷ []) h = wrong s _
of_two P wrong s f (v ∷ u ∷ []) h = h v u
of_two P wrong s f (v ∷ u ∷ z ∷ vs) h = wrong s _

pub of_three : (P : Effect → Type 0) → OfErrors P → (s : Scene) (f : Datum → Datum → Datum → Effect) (vs : List Datum) → ((v u z : Datum) → P (f v u z)) → P (on_three s f vs)
of_three P wrong s f [] h = wrong s _
of_three P wrong s f (v ∷ []) h = wrong s _
of_three P wrong s f (v ∷ u ∷ []) h = wrong s _
of_three P wrong s f (v ∷ u ∷ z ∷ []) h = h v u z
of_three P wrong s f (v ∷ u ∷ z ∷ y ∷ vs) h = wrong s _

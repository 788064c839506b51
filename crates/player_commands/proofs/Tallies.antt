-- The object that is meant, by how many are named.
use Rattle.std.proofs.Common.{◌≡◌, ℤ, Bool, true, false, List, [], ◌∷◌, ◌++◌, filter, refl, ap, ◌∙◌, if◌then◌else◌}
use Rattle.spec_value.specs.Datum.{Text}
use Rattle.spec_world.specs.World.{World}
use Rattle.spec_world.specs.Naming as meant
use Rattle.spec_world.specs.Naming.{is_named, begins_a_name, by_sets}
use Rattle.player_commands.specs.Fits.{one_more, counted, one_of, answer_by, answer_of, with_object, with_objects, no_matches, object_fit}
use Rattle.player_commands.specs.declared.object_match.tally.Tally.{Tally}
use Rattle.player_commands.specs.declared.object_match.tally.Tally.TheVariants.{Nobody, Several}
use Rattle.player_commands.specs.declared.object_match.tally.Matches.{Matches}

-- one by one
counted_all : Tally → List ℤ → Tally
counted_all n [] = n
counted_all n (o ∷ os) = counted_all (one_more n o) os

still_several : (os : List ℤ) → counted_all Several os ≡ Several
unfolding counted_all
still_several [] = refl
still_several (o ∷ os) = still_several os

counted_filtered : (test : ℤ → Bool) (n : Tally) (o : ℤ) (os : List ℤ) → counted_all (counted n o (test o)) (filter test os) ≡ counted_all n (filter test (o ∷ os))
unfolding counted_all
counted_filtered test n o os = go (test o)
  where
    go : (b : Bool) → counted_all (counted n o b) (filter test os) ≡ counted_all n (if b then o ∷ filter test os else filter test os)
    go true = refl
    go false = refl

exact_counted : (w : World) (t : Text) (m : Matches) (os : List ℤ) → (with_objects w t m os).exact ≡ counted_all m.exact (filter (is_named w t) os)
unfolding counted_all
exact_counted w t m [] = refl
exact_counted w t m (o ∷ os) = exact_counted w t (with_object m o (object_fit w t o)) os ∙ counted_filtered (is_named w t) m.exact o os

beginning_counted : (w : World) (t : Text) (m : Matches) (os : List ℤ) → (with_objects w t m os).beginning ≡ counted_all m.beginning (filter (begins_a_name w t) os)
unfolding counted_all
beginning_counted w t m [] = refl
beginning_counted w t m (o ∷ os) = beginning_counted w t (with_object m o (object_fit w t o)) os ∙ counted_filtered (begins_a_name w t) m.beginning o os

counted_one_of : (os : List ℤ) → one_of (counted_all Nobody os) ≡ meant.one_of os
unfolding counted_all
counted_one_of [] = refl
counted_one_of (o ∷ []) = refl
counted_one_of (o ∷ p ∷ os) = ap one_of (still_several os)

answered : (exact beginning : List ℤ) → answer_by (counted_all Nobody exact) (counted_all Nobody beginning) ≡ by_sets exact beginning
unfolding counted_all
answered [] beginning = counted_one_of beginning
answered (o ∷ []) beginning = refl
answered (o ∷ p ∷ os) beginning = ap (λ n. answer_by n (counted_all Nobody beginning)) (still_several os)

pub objects_answered : (w : World) (t : Text) (os : List ℤ) → answer_of (with_objects w t no_matches os) ≡ by_sets (filter (is_named w t) os) (filter (begins_a_name w t) os)
objects_answered w t os =
    ap (λ n. answer_by n (with_objects w t no_matches os).beginning) (exact_counted w t no_matches os)
    ∙ ap (answer_by (counted_all Nobody (filter (is_named w t) os))) (beginning_counted w t no_matches os)
    ∙ answered (filter (is_named w t) os) (filter (begins_a_name w t) os)

pub objects_joined : (w : World) (t : Text) (m : Matches) (os ps : List ℤ) → with_objects w t m (os ++ ps) ≡ with_objects w t (with_objects w t m os) ps
objects_joined w t m [] ps = refl
objects_joined w t m (o ∷ os) ps = objects_joined w t (with_object m o (object_fit w t o)) os ps

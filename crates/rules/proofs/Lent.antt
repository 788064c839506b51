-- Ancestors one by one, where their verbs are lent.
use Rattle.std.proofs.Common.{◌≡◌, ℕ, ℤ, ◌<◌, List, Option, Some, None, ◌∙◌, ap, sym}
use Rattle.std.proofs.lemmas.Option.{get_or_from_slice_get}
use Rattle.std.specs.Prelude.{slice_index_or, length}
use Rattle.spec_value.specs.Datum.{Text}
use Rattle.spec_world.specs.World.{World, Verb}
use Rattle.spec_world.specs.Inherit.{ancestors}
use Rattle.spec_world.specs.VerbsSought.{first_on, first_passing, find_verb}
use Rattle.spec_world.specs.Agreeing.{ObjectsAgree}
use Rattle.view.specs.Kin.{IsKin, IsCalledAt, IsCalledVerb}
use Rattle.rules.specs.Lines.{IsParentNamed, from, size}
use Rattle.rules.specs.Sought.{passes, placed}
use Rattle.rules.specs.declared.inherit.verb.Purpose.TheVariants.{Call}
use Rattle.rules.proofs.Passing.{there}
use Rattle.rules.proofs.Walks.{own_among, found_on, not_found_on, above_named, nearer}

module _ (w : World) (word : Text) (at parent : ℤ) (vs : List Verb) (sound : ObjectsAgree w) (kin : IsKin w at parent vs) where
  -- the verb is one of an object's own
  lent_found : (o : ℤ) (place : ℕ) (v : Verb) → first_on w (passes Call word) (ancestors w o) ≡ first_on w (passes Call word) (ancestors w at)
      → first_passing at (passes Call word) vs ≡ Some (record { definer = at; verb = placed vs place }) → place < length vs → v ≡ slice_index_or vs place v
      → find_verb w o word ≡ Some (record { definer = at; verb = v })
  unfolding find_verb
  lent_found o place v so first inside is =
      found_on w (passes Call word) at (record { definer = at; verb = v }) (first_on w (passes Call word) (ancestors w o)) sound so
      (own_among w (passes Call word) at (Some vs) kin.own ∙ first ∙ ap (λ u. Some (record { definer = at; verb = u })) (there vs place v inside is))

  -- at its place among them
  pub lent_at : (o : ℤ) (place : ℕ) (v : Verb) → first_on w (passes Call word) (ancestors w o) ≡ first_on w (passes Call word) (ancestors w at)
      → first_passing at (passes Call word) vs ≡ Some (record { definer = at; verb = placed vs place }) → place < length vs → v ≡ slice_index_or vs place v
      → IsCalledVerb w o word at v × IsCalledAt w o word at place
  lent_at o place v so first inside is = (
    lent_found o place v so first inside is,
    record {
      verbs = vs;
      own = kin.own;
      found = λ u there. lent_found o place u so first inside (sym (get_or_from_slice_get vs place u u there));
    },
  )

  -- or of one above it
  pub lent_above : (o : ℤ) (next : Option ℤ) → first_on w (passes Call word) (ancestors w o) ≡ first_on w (passes Call word) (ancestors w at)
      → first_passing at (passes Call word) vs ≡ None → IsParentNamed (Some parent) next → first_on w (passes Call word) (ancestors w o) ≡ first_on w (passes Call word) (from w next)
  lent_above o next so none by =
      not_found_on w (passes Call word) at next (first_on w (passes Call word) (ancestors w o)) sound so
      (own_among w (passes Call word) at (Some vs) kin.own ∙ none) (above_named w at (Some parent) next sound kin.above by)

  pub lent_nearer : (next : Option ℤ) → IsParentNamed (Some parent) next → size w next < size w (Some at)
  lent_nearer next by = nearer w at next (above_named w at (Some parent) next sound kin.above by)

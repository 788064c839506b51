use Rattle.std.proofs.Common.{◌≡◌, ℤ, map, refl, sym, subst, ◌∙◌, Vec, Global}
use Rattle.view.specs.declared.lists.Names.{Names}
use Rattle.spec_world.specs.World.{World, Object}
use Rattle.named_objects.specs.Told.{object_names, AreObjects}
use Rattle.named_objects.proofs.Records.{some_is, none_is}
use Rattle.draft_objects.proofs.put_objects.Goals as goal

abbrev Named : World → Vec Names Global → Type 0
Named w v = v.items ≡ map (λ (e : ℤ × Object). object_names w e.0) w.objects

pub returns-in_ok-put_each-in-Some : goal.returns-in_ok-put_each-in-Some
returns-in_ok-put_each-in-Some c = record {
  reads = λ w are none.
      let names = some_is c.in_ok-found.found c.in-Some.names (Named w) c.in-Some.is (c.in_ok-found.ensures w (subst (AreObjects w) (sym c.deref.ensures.value) are)) in
      (refl, c.in_ok-put_each-in-Some.ensures w are (c.deref-in-Some.ensures.value ∙ names) none);
}

pub returns-in-None : goal.returns-in-None
returns-in-None c = record { reads = λ w are none. absurd (none_is c.in_ok-found.found (Named w) c.in-None.is (c.in_ok-found.ensures w (subst (AreObjects w) (sym c.deref.ensures.value) are))) }

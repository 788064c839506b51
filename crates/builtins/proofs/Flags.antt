-- `set_player_flag`, call by call.
use Rattle.std.proofs.Common.{◌≡◌, ◌⊎◌, inl, inr, ℕ, ℤ, Bool, true, false, not, [], ◌∷◌, Option, Some, None, Result, Ok, Err, OnOk, refl, sym, ap, ◌∙◌, subst, cond, IsTrue}
use Rattle.std.specs.Prelude.{option_map, IfOk, pos}
use Rattle.std.specs.Ordering.{int_eq}
use Rattle.spec_value.specs.Datum.{Datum, ErrorCode, object, is_true}
use Rattle.spec_value.specs.Table.{at}
use Rattle.spec_world.specs.World.{World, Object, Link, object_at}
use Rattle.spec_world.specs.WellFormed.{passes}
use Rattle.spec_world.specs.Families.{change_object}
use Rattle.spec_world.specs.Links.{connection_of}
use Rattle.spec_world.proofs.ObjectChanges.{at_change}
use Rattle.spec_world.proofs.ObjectsKept.{attributes_keep}
use Rattle.spec_world.proofs.WorldsKept.{IsPlayer, IsNobodys, change_rest, nobodys, none_among}
use Rattle.spec_moo.specs.Scene.{Scene}
use Rattle.spec_moo.specs.Linking.{connection_closed, link_closed}
use Rattle.spec_moo.specs.NativeEffect.{Caller, refuses}
use Rattle.spec_moo.specs.Natives.Rows.{answers_with, zero_value}
use Rattle.spec_moo.specs.Natives.Objects.{with_flag, set_player_flag_row}
use Rattle.moo_value.specs.Errors.{code_of}
use Rattle.moo_value.specs.declared.error.MooError.{MooError}
use Rattle.moo_task.specs.Deeds.{scene_of}
use Rattle.moo_task.specs.declared.deeds.Deeds.{Deeds}
use Rattle.moo_task.specs.declared.effect.NativeEffect.TheVariants.{Answers}
use Rattle.rules.specs.Lines.{AreAgreeing}
use Rattle.rules.specs.Standing.{IsStanding}
use Rattle.rules.proofs.InheritStanding.{objects_stand_for, closed_stands, closed_is_nobodys}
use Rattle.view.specs.Law.{Goes, Tells}
use Rattle.builtins_view.specs.Said.{with_programmer}
use Rattle.builtins_view.proofs.Keeping.{world_left}
use Rattle.builtins.specs.BuiltinsLinksActing.{Acts}
use Rattle.builtins.specs.Flags.{flag_checks, flagged}
use Rattle.builtins.specs.Verdict.{verdict, by_verdict}
use Rattle.builtins.proofs.BuiltinsObjectsChains.{unless_is}

abbrev pub given_flag : Bool → Object → Object
given_flag flag x = record x { header = record (x.header) { is_player = flag } }

-- ---- the flag, over a view

module _ {V A E : Type 0} (holds : V → World → Type 0) (now : V → World → World) (o : ℤ) (r : Result A E) where
  -- it is a player
  pub flag_told : (a b : V) (d : Deeds) → OnOk r (Goes holds now a b (λ was is. is ≡ change_object was o (given_flag true)))
      → OnOk r (Goes holds now a b (λ before after. (t : ℕ) → scene_of d after t ≡ flagged (scene_of d before t) o true))
  flag_told a b d told = go r told
    where
      go : (r : Result A E) → OnOk r (Goes holds now a b (λ was is. is ≡ change_object was o (given_flag true)))
          → OnOk r (Goes holds now a b (λ before after. (t : ℕ) → scene_of d after t ≡ flagged (scene_of d before t) o true))
      go (Err x) told = tt
      go (Ok x) told = λ w left. let t = told w left in (t.0, λ n. ap (λ u. scene_of d u n) t.1)

  -- it is none any more
  pub no_flag_told : (a b c : V) (d e : Deeds) → Goes holds now a b (λ before after. (t : ℕ) → scene_of e after t ≡ link_closed (scene_of d before t) o)
      → OnOk r (Goes holds now b c (λ was is. is ≡ change_object was o (given_flag false)))
      → OnOk r (Goes holds now a c (λ before after. (t : ℕ) → scene_of e after t ≡ flagged (scene_of d before t) o false))
  no_flag_told a b c d e closed told = go r told
    where
      go : (r : Result A E) → OnOk r (Goes holds now b c (λ was is. is ≡ change_object was o (given_flag false)))
          → OnOk r (Goes holds now a c (λ before after. (t : ℕ) → scene_of e after t ≡ flagged (scene_of d before t) o false))
      go (Err x) told = tt
      go (Ok x) told = λ w left.
          let t = told w left in
          let u = closed w t.0 in
          (u.0, λ n. ap (λ v. scene_of e v n) t.1 ∙ ap (λ s. with_flag s o false) (u.1 n))

-- ---- the row

row_is : (s : Scene) (c : Caller) (who o : ℤ) (v : Datum)
    → set_player_flag_row s (with_programmer c who) (object o ∷ v ∷ []) ≡ by_verdict s (verdict (flag_checks s.world who o)) (answers_with (flagged s o (is_true v)) zero_value)
row_is s c who o v = unless_is s (flag_checks s.world who o) (answers_with (flagged s o (is_true v)) zero_value)

module _ {V : Type 0} (holds : V → World → Type 0) (now : V → World → World) (d : Deeds) (who o : ℤ) (v : Datum) where
  pub flags_not : (a b : V) (e : MooError) → Tells holds now a b (λ w. verdict (flag_checks w who o) ≡ Some (code_of e))
      → Goes holds now a b (λ before after. Acts (λ s c. set_player_flag_row s c (object o ∷ v ∷ [])) d before who (Answers (Err e)) d after)
  flags_not a b e told w left =
      let t = told w left in (
        t.0,
        λ n c. row_is (scene_of d (now a w) n) c who o v
            ∙ ap (λ m. by_verdict (scene_of d (now a w) n) m (answers_with (flagged (scene_of d (now a w) n) o (is_true v)) zero_value)) t.1.1
            ∙ ap (λ u. refuses (scene_of d u n) (code_of e)) (sym t.1.0),
      )

  pub flags : (a b c : V) (f : Deeds) (x : Datum) → x ≡ zero_value → Tells holds now a b (λ w. verdict (flag_checks w who o) ≡ None)
      → Goes holds now b c (λ before after. (t : ℕ) → scene_of f after t ≡ flagged (scene_of d before t) o (is_true v))
      → Goes holds now a c (λ before after. Acts (λ s k. set_player_flag_row s k (object o ∷ v ∷ [])) d before who (Answers (Ok x)) f after)
  flags a b c f x zero told given w left =
      let u = given w left in
      let t = told w u.0 in (
        t.0,
        λ n k. row_is (scene_of d (now a w) n) k who o v
            ∙ ap (λ m. by_verdict (scene_of d (now a w) n) m (answers_with (flagged (scene_of d (now a w) n) o (is_true v)) zero_value)) t.1.1
            ∙ ap (λ s. answers_with s zero_value) (sym (u.1 n ∙ ap (λ y. flagged (scene_of d y n) o (is_true v)) t.1.0))
            ∙ ap (λ y. answers_with (scene_of f (now c w) n) y) (sym zero),
      )

-- ---- a world that stands stays so

still_player : (w : World) (o q : ℤ) (flag : Bool) → (flag ≡ true) ⊎ (int_eq q o ≡ false) → IsPlayer w q → IsPlayer (change_object w o (given_flag flag)) q
still_player w o q flag why h = ap (λ m. passes m (λ x. x.header.is_player)) (at_change w o q (given_flag flag)) ∙ go (object_at w q) (int_eq q o) refl why h
  where
    go : (m : Option Object) (b : Bool) → int_eq q o ≡ b → (flag ≡ true) ⊎ (int_eq q o ≡ false) → IsTrue (passes m (λ x. x.header.is_player))
        → IsTrue (passes (option_map (λ y. cond b (given_flag flag y) y) m) (λ x. x.header.is_player))
    go None b s k j = j
    go (Some y) false s k j = j
    go (Some y) true s (inl k) j = k
    go (Some y) true s (inr k) j = absurd (cc (s, k))

given_well : (w : World) (o : ℤ) (flag : Bool) → IsStanding w → (flag ≡ true) ⊎ IsNobodys w o → IsStanding (change_object w o (given_flag flag))
given_well w o flag h why =
    objects_stand_for w (change_object w o (given_flag flag)) h
    (attributes_keep w o (given_flag flag) h.objects (λ x. record { parent = refl; location = refl; children = refl; contents = refl; defines = refl; slots = refl }))
    (change_rest w o (given_flag flag)) (λ c k e p. still_player w o k.person flag (of_link why c k e) p)
  where
    of_link : (flag ≡ true) ⊎ IsNobodys w o → (c : ℤ) (k : Link) → at w.links c ≡ Some k → (flag ≡ true) ⊎ (int_eq k.person o ≡ false)
    of_link (inl e) c k is = inl e
    of_link (inr e) c k is = inr (e c k is)

pub closed_well : (s : Scene) (o : ℤ) → IsStanding s.world → IsStanding (link_closed s o).world
closed_well s o h = go (connection_of s.world o)
  where
    go : (m : Option ℤ) → IsStanding (connection_closed s m).world
    go None = h
    go (Some c) = closed_stands s.world c h

pub closed_nobodys : (s : Scene) (o : ℤ) → IsStanding s.world → IsNobodys (link_closed s o).world o
closed_nobodys s o h = go (connection_of s.world o) refl
  where
    go : (m : Option ℤ) → connection_of s.world o ≡ m → IsNobodys (connection_closed s m).world o
    go None e = nobodys s.world o (none_among s.world.links o e)
    go (Some c) e = closed_is_nobodys s.world c o h e

flagged_well : (s : Scene) (o : ℤ) (flag : Bool) → IsStanding s.world → IsStanding (flagged s o flag).world
flagged_well s o true h = given_well s.world o true h (inl refl)
flagged_well s o false h = given_well (link_closed s o).world o false (closed_well s o h) (inr (closed_nobodys s o h))

decided_well : (s : Scene) (o : ℤ) (flag : Bool) (m : Option ErrorCode) → IsStanding s.world → IsStanding (world_left (by_verdict s m (answers_with (flagged s o flag) zero_value)))
decided_well s o flag None h = flagged_well s o flag h
decided_well s o flag (Some e) h = h

some_caller : Caller
some_caller =
    record {
      player = pos 0;
      call = record { this = pos 0; caller = pos 0; definer = pos 0; programmer = pos 0; verb = []; debug = false };
      start = record { argstr = []; dobj = pos 0; dobjstr = []; prepstr = []; iobj = pos 0; iobjstr = [] };
      callers = [];
    }

pub flags_well : {V E : Type 0} (holds : V → World → Type 0) (now : V → World → World) (a b : V) (d f : Deeds) (who o : ℤ) (v : Datum) (r : Result (Result Datum MooError) E)
    → IfOk r (λ x. Goes holds now a b (λ before after. Acts (λ s c. set_player_flag_row s c (object o ∷ v ∷ [])) d before who (Answers x) f after))
    → AreAgreeing holds now a → OnOk r (AreAgreeing holds now b)
flags_well holds now a b d f who o v (Err e) told known = tt
flags_well holds now a b d f who o v (Ok x) told known = λ w left.
    let t = told w left in
    let s : Scene = scene_of d (now a w) 0 in
    let after : world_left (set_player_flag_row s (with_programmer some_caller who) (object o ∷ v ∷ [])) ≡ now b w = ap world_left (t.1 0 some_caller) in
    subst IsStanding (ap world_left (sym (row_is s some_caller who o v)) ∙ after)
    (decided_well s o (is_true v) (verdict (flag_checks (now a w) who o)) (known w t.0))

-- Built-in functions keep what a world's objects, links and tasks agree on.
use Rattle.std.proofs.Common.{◌∙◌, ◌≡◌, ◌⊎◌, inl, inr, suc, ◌≤◌, ◌-◌, ◌*◌, ℤ, pos, Bool, true, false, not, ◌&&◌, List, [], ◌∷◌, Option, Some, None, refl, sym, subst, IsTrue, is_some, if◌then◌else◌}
use Rattle.std.specs.Prelude.{ℕ}
use Rattle.std.specs.Prelude.{neg_ℤ, int_le, option_map}
use Rattle.std.specs.Ordering.{int_eq}
use Rattle.spec_value.specs.Datum.{Datum, Text, same_text, ErrorCode}
use Rattle.spec_value.specs.Table.{at}
use Rattle.spec_world.specs.World.{World, Object, object_at}
use Rattle.spec_world.specs.Agreeing.{Agrees}
use Rattle.spec_world.specs.Families.{nowhere}
use Rattle.spec_world.specs.ObjectLaws.{IsPlace}
use Rattle.spec_world.specs.Links.{connection_of, close_link}
use Rattle.spec_world.proofs.Trees.{either}
use Rattle.spec_value.proofs.Same.{same_integer}
use Rattle.spec_world.proofs.WorldsKept.{Rest, PlayersStay, IsPlayer, IsNobodys, link_closed_keeps, nobodys, none_among, closed_is_free}
use Rattle.spec_moo.specs.Scene.{Scene, in_world}
use Rattle.spec_moo.specs.Properties.{row_of}
use Rattle.spec_moo.specs.Linking.{connection_closed, link_closed}
use Rattle.spec_moo.specs.NativeEffect.{Caller, NativeEffect}
use Rattle.spec_moo.specs.Natives.Rows.{Row, by_row, in_group, if_there, is_valid, is_valid_or_none, counts_fit, all_fit}
use Rattle.spec_moo.specs.Worlds.{IdFits, SceneAgrees, NativeKeeps}

-- the world's next number stays this one
module _ (fixed : ℕ) where
  -- ---- a scene with another world

  pub in_agreeing : (s : Scene) (u : World) → SceneAgrees fixed s → Agrees u → u.next ≡ s.world.next → SceneAgrees fixed (in_world s u)
  in_agreeing s u h agrees same =
      record {
        world = agrees;
        number = h.number;
        before = subst (λ n. suc s.number ≤ n) (sym same) h.before;
        moment = h.moment;
        ids = h.ids;
        own = go s.task h.own;
        next = same ∙ h.next;
      }
    where
      go : (i : Option ℤ) → IdFits s.world i → IdFits u i
      go None k = tt
      go (Some i) k = subst (λ n. IsTrue (int_le (pos 1) i && int_le i (pos ((n - 1) * 64)))) (sym same) k

  -- after a change of objects by which all that are players stay so
  pub objects_then : (s : Scene) (u : World) → SceneAgrees fixed s → Agrees u → Rest s.world u → SceneAgrees fixed (in_world s u)
  objects_then s u h agrees r = in_agreeing s u h agrees r.next

  pub with_players : (w u : World) → PlayersStay w u → (c : ℤ) (k : _) → at w.links c ≡ Some k → IsPlayer w k.person → IsPlayer u k.person
  with_players w u stay c k e = stay k.person

  -- ---- checks

  -- where a test fails, nothing has changed
  pub tested : (b : Bool) (e f : NativeEffect) → NativeKeeps fixed f → (b ≡ true → NativeKeeps fixed e) → NativeKeeps fixed (if b then e else f)
  tested true e f h more = more refl
  tested false e f h more = h

  pub there : {X : Type 0} (s : Scene) (err : ErrorCode) (o : Option X) (f : X → NativeEffect) → SceneAgrees fixed s
      → ((x : X) → o ≡ Some x → NativeKeeps fixed (f x)) → NativeKeeps fixed (if_there s err o f)
  there s err None f h more = h
  there s err (Some x) f h more = more x refl

  pub valid : (s : Scene) (o : ℤ) → is_valid s o ≡ true → (x : Object) × (object_at s.world o ≡ Some x)
  valid s o h = go (object_at s.world o) refl h
    where
      go : (m : Option Object) → object_at s.world o ≡ m → is_some m ≡ true → (x : Object) × (object_at s.world o ≡ Some x)
      go None e k = cc
      go (Some x) e k = (x, e)

  pub place : (s : Scene) (p : ℤ) → is_valid_or_none s p ≡ true → IsPlace s.world p
  place s p h = go (either (int_eq p (neg_ℤ (pos 1))) _ h)
    where
      go : IsTrue (int_eq p (neg_ℤ (pos 1))) ⊎ IsTrue (is_valid s p) → IsPlace s.world p
      go (inl e) = inl (same_integer p nowhere e)
      go (inr e) = inr e

  pub not_so : (b : Bool) → not b ≡ true → b ≡ false
  not_so true h = cc
  not_so false h = refl

  pub of_choice : (b : Bool) (e f : NativeEffect) → (b ≡ true → NativeKeeps fixed e) → (b ≡ false → NativeKeeps fixed f)
      → NativeKeeps fixed (if b then e else f)
  of_choice true e f h k = h refl
  of_choice false e f h k = k refl

  -- ---- rows

  abbrev pub RowKeeps : Row → Type 0
  RowKeeps r = (s : Scene) (c : Caller) (args : List Datum) → SceneAgrees fixed s → NativeKeeps fixed (r.act s c args)

  abbrev pub AllKeep : List (Text × Row) → Type 0
  AllKeep [] = Unit {0}
  AllKeep (r ∷ rs) = RowKeeps r.1 × AllKeep rs

  abbrev pub SomeKeeps : Option NativeEffect → Type 0
  SomeKeeps None = Unit {0}
  SomeKeeps (Some e) = NativeKeeps fixed e

  by_row_keeps : (r : Row) → RowKeeps r → (s : Scene) (c : Caller) (args : List Datum) → SceneAgrees fixed s → NativeKeeps fixed (by_row s c args r)
  by_row_keeps r keeps s c args h =
      of_choice (counts_fit r args) _ _ (λ e. of_choice (all_fit r.wanted r.further args) _ _ (λ d. keeps s c args h) (λ d. h)) (λ e. h)

  pub group_keeps : (rows : List (Text × Row)) → AllKeep rows → (s : Scene) (c : Caller) (name : Text) (args : List Datum) → SceneAgrees fixed s
      → SomeKeeps (in_group rows s c name args)
  unfolding row_of
  group_keeps [] keeps s c name args h = tt
  group_keeps (r ∷ rs) keeps s c name args h = go (group_keeps rs keeps.1 s c name args h) (same_text r.0 name)
    where
      go : SomeKeeps (option_map (by_row s c args) (row_of rs name)) → (b : Bool)
          → SomeKeeps (option_map (by_row s c args) (if b then Some r.1 else row_of rs name))
      go later true = by_row_keeps r.1 keeps.0 s c args h
      go later false = later

  -- ---- links that are closed

  pub closed_scene : (s : Scene) (o : ℤ) → SceneAgrees fixed s → SceneAgrees fixed (link_closed s o)
  unfolding close_link
  closed_scene s o h = go (connection_of s.world o)
    where
      go : (m : Option ℤ) → SceneAgrees fixed (connection_closed s m)
      go None = h
      go (Some c) =
          record { world = link_closed_keeps s.world c h.world; number = h.number; before = h.before; moment = h.moment; ids = h.ids; own = by s.task h.own; next = h.next }
        where
          by : (i : Option ℤ) → IdFits s.world i → IdFits (close_link s.world c) i
          by None k = tt
          by (Some i) k = k

  -- then it is nobody's
  pub closed_nobodys : (s : Scene) (o : ℤ) → SceneAgrees fixed s → IsNobodys (link_closed s o).world o
  closed_nobodys s o h = go (connection_of s.world o) refl
    where
      go : (m : Option ℤ) → connection_of s.world o ≡ m → IsNobodys (connection_closed s m).world o
      go None e = nobodys s.world o (none_among s.world.links o e)
      go (Some c) e = nobodys (close_link s.world c) o (closed_is_free s.world c o h.world e)

-- Rows of the built-in functions that act as an object, check by check.
use Rattle.std.proofs.Common.{◌≡◌, ℕ, ℤ, Bool, true, false, [], ◌∷◌, Option, Some, None, Result, Ok, Err, refl, sym, ap, ◌∙◌, subst, is_some, is_none, if◌then◌else◌}
use Rattle.std.specs.Prelude.{option_map}
use Rattle.spec_value.specs.Datum.{Datum, Text, object, text, permission_denied, invalid_argument}
use Rattle.spec_world.specs.World.{World, Object, Header, object_at, reading_on}
use Rattle.spec_world.specs.Permissions.{may, act_as}
use Rattle.spec_world.specs.Links.{connection_of, reader_of}
use Rattle.spec_world.specs.Questions.{header_at}
use Rattle.spec_moo.specs.Scene.{Scene, in_world}
use Rattle.spec_moo.specs.Linking.{link_closed}
use Rattle.spec_moo.specs.NativeEffect.{Caller, NativeEffect, refuses, waits, becomes}
use Rattle.spec_moo.specs.Natives.Rows.{unless, wants, may_do, is_valid, if_there, answers_with, zero_value}
use Rattle.spec_moo.specs.Natives.Tasks.{set_task_perms_row, notify_row, boot_player_row, reads_on, read_row, waits_with_id}
use Rattle.moo_value.specs.Errors.{code_of}
use Rattle.moo_value.specs.declared.error.MooError.{MooError}
use Rattle.moo_value.specs.declared.error.MooError.TheVariants.{PermissionDenied, InvalidArgument}
use Rattle.moo_task.specs.Deeds.{scene_of}
use Rattle.moo_task.specs.Effects.{effect_of}
use Rattle.moo_task.specs.declared.effect.NativeEffect as N
use Rattle.moo_task.specs.declared.deeds.Deeds.{Deeds}
use Rattle.moo_task.specs.declared.effect.NativeEffect.TheVariants.{Answers, Becomes}
use Rattle.view.specs.Law.{Goes, Tells}
use Rattle.builtins_view.specs.Said.{with_programmer}
use Rattle.builtins.specs.BuiltinsLinksActing.{Acts, with_player}
use Rattle.builtins.specs.Refused.{IsRefusal}
use Rattle.builtins.specs.Lines.{line_sent}

-- ---- acting as an object

absent_so : (w : World) (who o : ℤ) → is_some (header_at w o) ≡ false → IsRefusal w who o (Some InvalidArgument)
absent_so w who o h s c e = go (object_at w o) h
  where
    go : (m : Option Object) → is_some (option_map (λ x. x.header) m) ≡ false
        → (if is_some m then (unless (in_world s w) (may_do (in_world s w) (with_programmer c who) (act_as o) ∷ []) e) else refuses (in_world s w) invalid_argument)
        ≡ refuses (in_world s w) invalid_argument
    go None k = refl
    go (Some x) k = cc

there : (w : World) (o : ℤ) → is_some (header_at w o) ≡ true → is_some (object_at w o) ≡ true
there w o h = go (object_at w o) h
  where
    go : (m : Option Object) → is_some (option_map (λ x. x.header) m) ≡ true → is_some m ≡ true
    go None k = k
    go (Some x) k = refl

-- an object that is there
allowed_so : (w : World) (who o : ℤ) (b : Bool) → is_some (header_at w o) ≡ true → may w who (act_as o) ≡ b → (s : Scene) (c : Caller) (e : NativeEffect)
    → unless (in_world s w) (wants (is_valid (in_world s w) o) invalid_argument ∷ may_do (in_world s w) (with_programmer c who) (act_as o) ∷ []) e
    ≡ (if b then e else refuses (in_world s w) permission_denied)
allowed_so w who o b h k s c e =
    ap (λ z. if z then (if may w who (act_as o) then e else refuses (in_world s w) permission_denied) else refuses (in_world s w) invalid_argument) (there w o h)
    ∙ ap (λ z. if z then e else refuses (in_world s w) permission_denied) k

module _ {V : Type 0} (holds : V → World → Type 0) (now : V → World → World) (who o : ℤ) (m : Option Header) where
  pub refused_absent : (a b : V) → is_some m ≡ false → Tells holds now a b (λ w. header_at w o ≡ m) → Tells holds now a b (λ w. IsRefusal w who o (Some InvalidArgument))
  refused_absent a b none header w left = let t = header w left in (t.0, (t.1.0, absent_so (now a w) who o (ap is_some t.1.1 ∙ none)))

  pub refused_denied : (a b e : V) → is_some m ≡ true → Tells holds now a b (λ w. header_at w o ≡ m) → Tells holds now b e (λ w. may w who (act_as o) ≡ false)
      → Tells holds now a e (λ w. IsRefusal w who o (Some PermissionDenied))
  refused_denied a b e some header denied w left =
      let h = denied w left in
      let t = header w h.0 in
      let may_not : may (now a w) who (act_as o) ≡ false = subst (λ (u : World). may u who (act_as o) ≡ false) t.1.0 h.1.1 in
      (t.0, (h.1.0 ∙ t.1.0, allowed_so (now a w) who o false (ap is_some t.1.1 ∙ some) may_not))

  pub not_refused : (a b e : V) → is_some m ≡ true → Tells holds now a b (λ w. header_at w o ≡ m) → Tells holds now b e (λ w. may w who (act_as o) ≡ true)
      → Tells holds now a e (λ w. IsRefusal w who o None)
  not_refused a b e some header allowed w left =
      let h = allowed w left in
      let t = header w h.0 in
      let may_so : may (now a w) who (act_as o) ≡ true = subst (λ (u : World). may u who (act_as o) ≡ true) t.1.0 h.1.1 in
      (t.0, (h.1.0 ∙ t.1.0, allowed_so (now a w) who o true (ap is_some t.1.1 ∙ some) may_so))

-- ---- `set_task_perms`

module _ {V : Type 0} (holds : V → World → Type 0) (now : V → World → World) (who o : ℤ) (a b : V) where
  abbrev Sets : N.NativeEffect → Type 0
  Sets x = Tells holds now a b (λ w. (s : Scene) (c : Caller) → set_task_perms_row (in_world s w) (with_programmer c who) (object o ∷ []) ≡ effect_of x (in_world s w))

  pub perms_refused : (x : MooError) → Tells holds now a b (λ w. IsRefusal w who o (Some x)) → Sets (Answers (Err x))
  perms_refused x told w left = let t = told w left in (t.0, (t.1.0, λ s c. t.1.1 s c (becomes (in_world s (now a w)) o)))

  pub perms_set : (x : ℤ) → x ≡ o → Tells holds now a b (λ w. IsRefusal w who o None) → Sets (Becomes x)
  perms_set x same told w left =
      let t = told w left in (t.0, (t.1.0, λ s c. t.1.1 s c (becomes (in_world s (now a w)) o) ∙ ap (λ p. becomes (in_world s (now a w)) p) (sym same)))

-- ---- `notify`

notified : (s : Scene) (k : Caller) (o : ℤ) (x : Text) (m : Option ℤ) → may s.world k.call.programmer (act_as o) ≡ true → connection_of s.world o ≡ m
    → notify_row s k (object o ∷ text x ∷ []) ≡ line_sent s x m
notified s k o x m allowed is =
    ap (λ b. if b then line_sent s x (connection_of s.world o) else refuses s permission_denied) allowed ∙ ap (λ c. line_sent s x c) is

-- ---- `read`

-- another task reads there, or none does
asks_line : (s : Scene) (k : Caller) (c : ℤ) (m : Option ℤ) (b : Bool) → may s.world k.call.programmer (act_as k.player) ≡ true → connection_of s.world k.player ≡ Some c → reader_of s.world c ≡ m → is_some m ≡ b
    → read_row s k [] ≡ (if b then refuses s invalid_argument else waits_with_id s (λ r. waits r.1 (reading_on c)))
asks_line s k c m b allowed is read some =
    ap (λ z. if z then (if_there s invalid_argument (connection_of s.world k.player) (reads_on s)) else refuses s permission_denied) allowed
    ∙ ap (λ z. if_there s invalid_argument z (reads_on s)) is ∙ ap (λ z. if is_none z then waiting_so else refuses s invalid_argument) read ∙ turned m
    ∙ ap (λ z. if z then refuses s invalid_argument else waiting_so) some
  where
    waiting_so : NativeEffect
    waiting_so = waits_with_id s (λ r. waits r.1 (reading_on c))

    turned : (z : Option ℤ) → (if is_none z then waiting_so else refuses s invalid_argument) ≡ (if is_some z then refuses s invalid_argument else waiting_so)
    turned None = refl
    turned (Some i) = refl

unlinked : (s : Scene) (k : Caller) → may s.world k.call.programmer (act_as k.player) ≡ true → connection_of s.world k.player ≡ None → read_row s k [] ≡ refuses s invalid_argument
unlinked s k allowed is =
    ap (λ b. if b then (if_there s invalid_argument (connection_of s.world k.player) (reads_on s)) else refuses s permission_denied) allowed
    ∙ ap (λ m. if_there s invalid_argument m (reads_on s)) is

-- ---- `notify` and `read` over a view

module _ {V : Type 0} (holds : V → World → Type 0) (now : V → World → World) (d : Deeds) (who o : ℤ) where
  pub notifies_not : (a b : V) (x : Text) → Tells holds now a b (λ w. may w who (act_as o) ≡ false)
      → Tells holds now a b (λ w. Acts (λ s c. notify_row s c (object o ∷ text x ∷ [])) d w who (Answers (Err PermissionDenied)) d w)
  notifies_not a b x denied w left =
      let h = denied w left in (
        h.0,
        (h.1.0, λ t k. ap (λ z. if z then (line_sent (scene_of d (now a w) t) x (connection_of (now a w) o)) else refuses (scene_of d (now a w) t) permission_denied) h.1.1),
      )

  pub notifies : (a b e : V) (f : Deeds) (x : Text) (m : Option ℤ) (r : Result Datum MooError) → Tells holds now a b (λ w. may w who (act_as o) ≡ true) → Tells holds now b e (λ w. connection_of w o ≡ m)
      → ((w : World) (t : ℕ) → line_sent (scene_of d w t) x m ≡ effect_of (Answers r) (scene_of f w t))
      → Tells holds now a e (λ w. Acts (λ s c. notify_row s c (object o ∷ text x ∷ [])) d w who (Answers r) f w)
  notifies a b e f x m r allowed linked sent w left =
      let l = linked w left in
      let h = allowed w l.0 in
      let link : connection_of (now a w) o ≡ m = subst (λ (u : World). connection_of u o ≡ m) h.1.0 l.1.1 in
      (h.0, (l.1.0 ∙ h.1.0, λ t k. notified (scene_of d (now a w) t) (with_programmer k who) o x m h.1.1 link ∙ sent (now a w) t))

  -- for the player o
  pub reads_not : (a b : V) → Tells holds now a b (λ w. may w who (act_as o) ≡ false)
      → Tells holds now a b (λ w. Acts (λ s c. read_row s (with_player c o) []) d w who (Answers (Err PermissionDenied)) d w)
  reads_not a b denied w left =
      let h = denied w left in (
        h.0,
        (
          h.1.0,
          λ t k. ap (λ z. if z then (if_there (scene_of d (now a w) t) invalid_argument (connection_of (now a w) o) (reads_on (scene_of d (now a w) t))) else refuses (scene_of d (now a w) t) permission_denied) h.1.1,
        ),
      )

  pub reads_unlinked : (a b e : V) → Tells holds now a b (λ w. may w who (act_as o) ≡ true) → Tells holds now b e (λ w. connection_of w o ≡ None)
      → Tells holds now a e (λ w. Acts (λ s c. read_row s (with_player c o) []) d w who (Answers (Err InvalidArgument)) d w)
  reads_unlinked a b e allowed linked w left =
      let l = linked w left in
      let h = allowed w l.0 in
      let link : connection_of (now a w) o ≡ None = subst (λ (u : World). connection_of u o ≡ None) h.1.0 l.1.1 in
      (h.0, (l.1.0 ∙ h.1.0, λ t k. unlinked (scene_of d (now a w) t) (with_player (with_programmer k who) o) h.1.1 link))

  pub reads_taken : (a b e f : V) (c : ℤ) (m : Option ℤ) → is_some m ≡ true → Tells holds now a b (λ w. may w who (act_as o) ≡ true) → Tells holds now b e (λ w. connection_of w o ≡ Some c)
      → Tells holds now e f (λ w. reader_of w c ≡ m) → Tells holds now a f (λ w. Acts (λ s k. read_row s (with_player k o) []) d w who (Answers (Err InvalidArgument)) d w)
  reads_taken a b e f c m some allowed linked read w left =
      let r = read w left in
      let l = linked w r.0 in
      let h = allowed w l.0 in
      let link : connection_of (now a w) o ≡ Some c = subst (λ (u : World). connection_of u o ≡ Some c) h.1.0 l.1.1 in
      let other : reader_of (now a w) c ≡ m = subst (λ (u : World). reader_of u c ≡ m) (l.1.0 ∙ h.1.0) r.1.1 in
      (h.0, (r.1.0 ∙ l.1.0 ∙ h.1.0, λ t k. asks_line (scene_of d (now a w) t) (with_player (with_programmer k who) o) c m true h.1.1 link other some))

  pub reads_line : (a b e f : V) (g : Deeds) (c : ℤ) (m : Option ℤ) (x : N.NativeEffect) → is_some m ≡ false → Tells holds now a b (λ w. may w who (act_as o) ≡ true) → Tells holds now b e (λ w. connection_of w o ≡ Some c)
      → Tells holds now e f (λ w. reader_of w c ≡ m) → ((w : World) (t : ℕ) → waits_with_id (scene_of d w t) (λ r. waits r.1 (reading_on c)) ≡ effect_of x (scene_of g w t))
      → Tells holds now a f (λ w. Acts (λ s k. read_row s (with_player k o) []) d w who x g w)
  reads_line a b e f g c m x none allowed linked read waited w left =
      let r = read w left in
      let l = linked w r.0 in
      let h = allowed w l.0 in
      let link : connection_of (now a w) o ≡ Some c = subst (λ (u : World). connection_of u o ≡ Some c) h.1.0 l.1.1 in
      let other : reader_of (now a w) c ≡ m = subst (λ (u : World). reader_of u c ≡ m) (l.1.0 ∙ h.1.0) r.1.1 in
      (h.0, (r.1.0 ∙ l.1.0 ∙ h.1.0, λ t k. asks_line (scene_of d (now a w) t) (with_player (with_programmer k who) o) c m false h.1.1 link other none ∙ waited (now a w) t))

-- ---- `boot_player`

module _ {V : Type 0} (holds : V → World → Type 0) (now : V → World → World) (d : Deeds) (who o : ℤ) where
  pub boots_not : (a b : V) (x : MooError) → Tells holds now a b (λ w. IsRefusal w who o (Some x))
      → Goes holds now a b (λ before after. Acts (λ s c. boot_player_row s c (object o ∷ [])) d before who (Answers (Err x)) d after)
  boots_not a b x told w left =
      let t = told w left in (
        t.0,
        λ n k. t.1.1 (scene_of d (now a w) n) k (answers_with (link_closed (scene_of d (now a w) n) o) zero_value) ∙ ap (λ u. refuses (scene_of d u n) (code_of x)) (sym t.1.0),
      )

  pub boots : (a b e : V) (f : Deeds) (v : Datum) → v ≡ zero_value → Tells holds now a b (λ w. IsRefusal w who o None)
      → Goes holds now b e (λ before after. (t : ℕ) → scene_of f after t ≡ link_closed (scene_of d before t) o)
      → Goes holds now a e (λ before after. Acts (λ s c. boot_player_row s c (object o ∷ [])) d before who (Answers (Ok v)) f after)
  boots a b e f v zero told closed w left =
      let u = closed w left in
      let t = told w u.0 in (
        t.0,
        λ n k. t.1.1 (scene_of d (now a w) n) k (answers_with (link_closed (scene_of d (now a w) n) o) zero_value)
            ∙ ap (λ x. answers_with x zero_value) (sym (u.1 n ∙ ap (λ x. link_closed (scene_of d x n) o) t.1.0))
            ∙ ap (λ x. answers_with (scene_of f (now e w) n) x) (sym zero),
      )

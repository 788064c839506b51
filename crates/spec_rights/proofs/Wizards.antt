-- Where no verb and no waiting task is a wizard's, owners and flags stay, and nobody becomes a wizard.
use Rattle.std.proofs.Common.{◌≡◌, ◌⊎◌, inl, inr, ℤ, pos, Bool, true, false, ◌&&◌, List, Option, Some, None, refl, sym, ap, ◌∙◌, subst, IsTrue}
use Rattle.std.specs.Prelude.{option_map, int_le}
use Rattle.spec_world.specs.World.{World, Header, Object, object_at}
use Rattle.spec_world.specs.Agreeing.{Agrees}
use Rattle.spec_world.specs.Questions.{header_at}
use Rattle.spec_world.specs.Families.{next_object}
use Rattle.spec_world.specs.Permissions.{wizardly, is_wizard}
use Rattle.spec_world.proofs.Trees.{some_same}
use Rattle.spec_moo.specs.Steps.{play}
use Rattle.spec_rights.specs.Permitted.{Allows, SameStanding, Permitted}
use Rattle.spec_rights.specs.Chains.{acting, Begun, world_after, Right, to_run_as, to_take, In, Holds, Chain, starts, serves, changes, types, names, takes}
use Rattle.spec_rights.specs.LeftAlone.{no_wizard, TurnsLeaveStanding, NoWizardsArise}
use Rattle.spec_rights.proofs.Denied.{standing_by_wizards, administered_by_wizards, denied, not_so, same_wizards, programmed_header, programmed_greatest, beyond, within_later}
use Rattle.spec_moo.specs.Sizes.{begins_stage}
use Rattle.spec_moo.specs.Turn.{turn}
use Rattle.spec_rights.proofs.Acting.{turns_act}
use Rattle.spec_rights.proofs.Steps.{lists_permit}

abbrev pub SameFlags : Object → Object → Type 0
SameFlags x y = SameStanding x.header y.header × (y.header.is_player ≡ x.header.is_player)

abbrev pub FlagsOf : Object → Option Object → Type 0
FlagsOf x None = Unit {0}
FlagsOf x (Some y) = SameFlags x y

pub flags_twice : (x y z : Object) → SameFlags x y → SameFlags y z → SameFlags x z
flags_twice x y z ((a, b, c), d) ((e, f, g), h) = ((e ∙ a, f ∙ b, g ∙ c), h ∙ d)

module _ (w : World) where
  pub record Plain (u : World) : Type 0 where
    pub flags : (o : ℤ) (x : Object) → object_at w o ≡ Some x → FlagsOf x (object_at u o)
    pub wizards : (o : ℤ) → is_wizard u o ≡ true → is_wizard w o ≡ true
    pub numbers : (o : ℤ) (x : Object) → object_at w o ≡ Some x → IsTrue (int_le (pos 0) o && int_le o u.greatest)

  pub plain_first : Agrees w → Plain w
  plain_first h =
      record {
        flags = λ o x e. subst (FlagsOf x) (sym e) ((refl, refl, refl), refl);
        wizards = λ o k. k;
        numbers = h.objects.numbers;
      }

  -- where each header stays
  pub plain_still : (u v : World) → ((o : ℤ) → header_at v o ≡ header_at u o) → v.greatest ≡ u.greatest → Plain u → Plain v
  plain_still u v same great p =
      record {
        flags = λ o x e. go x (object_at u o) (object_at v o) (same o) (p.flags o x e);
        wizards = λ o k. p.wizards o (sym (same_wizards u v o (same o)) ∙ k);
        numbers = λ o x e. subst (λ g. IsTrue (int_le (pos 0) o && int_le o g)) (sym great) (p.numbers o x e);
      }
    where
      go : (x : Object) (l m : Option Object) → option_map (λ (y : Object). y.header) m ≡ option_map (λ (y : Object). y.header) l → FlagsOf x l → FlagsOf x m
      go x None None e k = tt
      go x (Some y) None e k = tt
      go x None (Some z) e k = cc
      go x (Some y) (Some z) e k =
          let header : z.header ≡ y.header = some_same e in
          flags_twice x y z k ((ap (λ (h : Header). h.owner) header, ap (λ (h : Header). h.is_programmer) header, ap (λ (h : Header). h.is_wizard) header), ap (λ (h : Header). h.is_player) header)

  -- what one who is no wizard may do
  module _ (begun : ℤ → Type 0) (u v : World) (who : ℤ) (d : Permitted begun u who v) (plain : is_wizard u who ≡ false) (p : Plain u) where
    pub still_flags : (o : ℤ) (y z : Object) → object_at u o ≡ Some y → object_at v o ≡ Some z → SameFlags y z
    still_flags o y z e i = (go (d.kept o y z e i).standing, by (d.kept o y z e i).player)
      where
        go : SameStanding y.header z.header ⊎ Allows u who (Rattle.spec_world.specs.Permissions.write_standing o) → SameStanding y.header z.header
        go (inl s) = s
        go (inr k) = denied (is_wizard u who) (standing_by_wizards u who o k) plain

        by : (z.header.is_player ≡ y.header.is_player) ⊎ Allows u who Rattle.spec_world.specs.Permissions.administer → z.header.is_player ≡ y.header.is_player
        by (inl s) = s
        by (inr k) = denied (is_wizard u who) (administered_by_wizards u who k) plain

    pub plain_then : Plain v
    plain_then = record { flags = flags; wizards = wizards; numbers = numbers }
      where
        numbers : (o : ℤ) (x : Object) → object_at w o ≡ Some x → IsTrue (int_le (pos 0) o && int_le o v.greatest)
        numbers o x e = go d.greatest
          where
            go : (v.greatest ≡ u.greatest) ⊎ (v.greatest ≡ next_object u) → IsTrue (int_le (pos 0) o && int_le o v.greatest)
            go (inl s) = subst (λ g. IsTrue (int_le (pos 0) o && int_le o g)) (sym s) (p.numbers o x e)
            go (inr s) = subst (λ g. IsTrue (int_le (pos 0) o && int_le o g)) (sym s) (within_later o u.greatest (p.numbers o x e))

        flags : (o : ℤ) (x : Object) → object_at w o ≡ Some x → FlagsOf x (object_at v o)
        flags o x e = go (object_at u o) (object_at v o) refl refl (p.flags o x e)
          where
            go : (l m : Option Object) → object_at u o ≡ l → object_at v o ≡ m → FlagsOf x l → FlagsOf x m
            go None None a b k = tt
            go (Some y) None a b k = tt
            go (Some y) (Some z) a b k = flags_twice x y z k (still_flags o y z a b)
            go None (Some z) a b k = absurd (beyond o u.greatest (p.numbers o x e) (d.new o z a b).number)

        wizards : (o : ℤ) → is_wizard v o ≡ true → is_wizard w o ≡ true
        wizards o k = go (object_at u o) (object_at v o) refl refl k
          where
            go : (l m : Option Object) → object_at u o ≡ l → object_at v o ≡ m → wizardly m ≡ true → is_wizard w o ≡ true
            go l None a b i = cc
            go None (Some z) a b i = let clash : false ≡ true = sym (ap (λ (h : Header). h.is_wizard) (d.new o z a b).header) ∙ i in absurd (cc (clash))
            go (Some y) (Some z) a b i = p.wizards o (ap wizardly a ∙ sym ((still_flags o y z a b).0.2) ∙ i)

-- ---- along a chain

module _ (w : World) (h : Agrees w) where
  abbrev Unnamed : List Right → Type 0
  Unnamed gs = (o : ℤ) → In gs (to_run_as o) → ⊥

  runs_plain : (gs : List Right) (u : World) → Plain w u → Unnamed gs → (who : ℤ) → Holds (no_wizard w) gs (to_run_as who) → is_wizard u who ≡ false
  runs_plain gs u p k who (inr i) = absurd (k who i)
  runs_plain gs u p k who (inl i) = go (is_wizard u who) refl
    where
      go : (b : Bool) → is_wizard u who ≡ b → is_wizard u who ≡ false
      go false e = e
      go true e = denied (is_wizard w who) (p.wizards who e) (not_so (is_wizard w who) i)

  chain_plain : (gs : List Right) (u : World) → Chain (no_wizard w) w gs u → Plain w u × Unnamed gs
  chain_plain gs u starts = (plain_first w h, λ o k. k)
  chain_plain gs u (serves _ v _ r same) =
      let p = chain_plain gs v r in
      (plain_still w v u (λ o. ap (λ es. header_at (record v { objects = es }) o) same.0) same.1 p.0, p.1)
  chain_plain gs u (changes _ v _ who r runs d) =
      let p = chain_plain gs v r in
      (plain_then w (λ o. Holds (no_wizard w) gs (to_take o)) v u who d (runs_plain gs v p.0 p.1 who runs) p.0, p.1)
  chain_plain gs u (types _ v who o n body r is allowed) =
      let p = chain_plain gs v r in
      (plain_still w v _ (programmed_header v o n (λ x. record x { program = body })) (programmed_greatest v o n (λ x. record x { program = body })) p.0, p.1)
  chain_plain gs u (names hs _ who o r runs wizard) =
      let p = chain_plain hs u r in denied (is_wizard u who) wizard (runs_plain hs u p.0 p.1 who runs)
  chain_plain gs u (takes hs _ who o r runs allowed) =
      let p = chain_plain hs u r in (p.0, λ q k. go hs q p.1 k)
    where
      go : (hs : List Right) (q : ℤ) → Unnamed hs → (to_run_as q ≡ to_take o) ⊎ In hs (to_run_as q) → ⊥
      go hs q none (inl e) = cc
      go hs q none (inr k) = none q k

pub no_wizards_arise : NoWizardsArise
no_wizards_arise w ss h range all =
    let r = lists_permit (no_wizard w) w ss h range all in let p = chain_plain w h r.0 (play w ss).0 r.1.0 in
    record { same = λ o x y e d. subst (FlagsOf x) d (p.0.flags o x e); wizards = p.0.wizards }

pub turns_leave_standing : TurnsLeaveStanding
turns_leave_standing k s p h plain =
    let q = plain_then s.world (Begun (begins_stage p) p.outer) s.world (world_after (turn s p)) (acting p) (turns_act k s p h) plain (plain_first s.world h.world) in
    record { same = λ o x y e d. subst (FlagsOf x) d (q.flags o x e); wizards = q.wizards }

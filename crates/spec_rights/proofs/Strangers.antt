-- An object stays as it is while strangers alone run.
use Rattle.std.proofs.Common.{◌≡◌, ◌⊎◌, inl, inr, ℕ, zero, suc, ℤ, Bool, true, false, not, ◌&&◌, ◌||◌, List, [], ◌∷◌, Option, Some, None, refl, sym, ap, ◌∙◌, subst, IsTrue}
use Rattle.std.specs.Prelude.{option_map}
use Rattle.std.specs.Ordering.{int_eq}
use Rattle.std.specs.List.{list_all}
use Rattle.spec_value.proofs.Entries.{first_holds, second_holds}
use Rattle.spec_value.proofs.Same.{integer_itself}
use Rattle.spec_world.specs.World.{World, Header, Object, Verb, object_at}
use Rattle.spec_world.specs.Agreeing.{Agrees}
use Rattle.spec_world.specs.Questions.{header_at}
use Rattle.spec_world.specs.Members.{verb_changed}
use Rattle.spec_world.specs.Permissions as act
use Rattle.spec_world.specs.Permissions.{write_name, write_bits, write_standing, change_members, write_verb, program_verb, administer, of_object, owns_or, in_place, verb_in, of_verb, is_programmer, is_wizard, may}
use Rattle.spec_world.proofs.Trees.{same_or_not, some_same}
use Rattle.spec_moo.specs.Steps.{play}
use Rattle.spec_rights.specs.Permitted.{Allows, VerbKept, VerbsKept, Taken, SameStanding, SameBits, ObjectKept, Permitted}
use Rattle.spec_rights.specs.Chains.{acting, Begun, world_after, Right, to_run_as, to_take, In, Holds, Chain, starts, serves, changes, types, names, takes}
use Rattle.spec_rights.specs.LeftAlone.{is_stranger, strange, SameObject, StrangersLeaveAlone, TurnsLeaveAlone}
use Rattle.spec_rights.proofs.Denied.{denied, not_so, programmed_header, programmed_other, programmed_greatest}
use Rattle.spec_rights.proofs.Wizards.{Plain, plain_first, plain_still, still_flags, plain_then}
use Rattle.spec_moo.specs.Sizes.{begins_stage}
use Rattle.spec_moo.specs.Turn.{turn}
use Rattle.spec_rights.proofs.Acting.{turns_act}
use Rattle.spec_rights.proofs.Steps.{lists_permit}

pub first_false : (a b : Bool) → (a || b) ≡ false → a ≡ false
first_false true b e = cc
first_false false b e = refl

-- ---- verbs

placed_holds : (f : Verb → Bool) (vs : List Verb) (n : ℕ) (v : Verb) → IsTrue (list_all f vs) → in_place vs n ≡ Some v → IsTrue (f v)
placed_holds f [] n v h e = cc
placed_holds f (u ∷ us) zero v h e = subst (λ z. IsTrue (f z)) (some_same e) (first_holds (f u) _ h)
placed_holds f (u ∷ us) (suc n) v h e = placed_holds f us n v (second_holds (f u) _ h) e

module _ (w : World) (who o : ℤ) (members : Allows w who (change_members o) → ⊥) (written : (n : ℕ) → Allows w who (write_verb o n) → ⊥)
    (programmed : (n : ℕ) → Allows w who (program_verb o n) → ⊥) where
  one_same : (n : ℕ) (v u : Verb) → VerbKept w who o n v u → u ≡ v
  one_same n v u k = go k.rest k.owner k.program
    where
      go : (u ≡ record v { owner = u.owner; program = u.program }) ⊎ Allows w who (write_verb o n)
          → (u.owner ≡ v.owner) ⊎ (Allows w who (write_verb o n) × Allows w who (act.change_owner v.owner u.owner)) → (u.program ≡ v.program) ⊎ Allows w who (program_verb o n) → u ≡ v
      go (inr a) b c = absurd (written n a)
      go (inl a) (inr b) c = absurd (written n b.0)
      go (inl a) (inl b) (inr c) = absurd (programmed n c)
      go (inl a) (inl b) (inl c) = a ∙ (λ i. record v { owner = b i; program = c i })

  verbs_same : (n : ℕ) (vs us : List Verb) → VerbsKept w who o n vs us → us ≡ vs
  verbs_same n [] [] k = refl
  verbs_same n [] (u ∷ us) k = absurd (members k.0)
  verbs_same n (v ∷ vs) [] k = absurd (members k.0)
  verbs_same n (v ∷ vs) (u ∷ us) (inr k) = absurd (members k.0)
  verbs_same n (v ∷ vs) (u ∷ us) (inl k) = λ i. one_same n v u k.0 i ∷ verbs_same (suc n) vs us k.1 i

-- ---- one stranger

module _ (w : World) (o : ℤ) (x : Object) where
  module _ (u : World) (who : ℤ) (y : Object) (plain : is_wizard u who ≡ false) (stranger : IsTrue (is_stranger w x who)) (there : object_at u o ≡ Some y) (same : SameObject x y) where
    closed : owns_or who y.header.owner y.header.writable ≡ false
    closed =
        (λ i. owns_or who (same.1.0.0 i) (same.1.1.1.0.1 i))
        ∙ not_so (owns_or who x.header.owner x.header.writable)
        (second_holds (not (is_wizard w who)) _ (first_holds (not (is_wizard w who) && not (owns_or who x.header.owner x.header.writable)) _ stranger))

    no_owner : int_eq who y.header.owner ≡ false
    no_owner = first_false (int_eq who y.header.owner) y.header.writable closed

    pub no_bits : Allows u who (write_bits o) → ⊥
    unfolding may
    no_bits k = denied _ k ((λ i. plain i || of_object (there i) (λ z. int_eq who z.header.owner)) ∙ no_owner)

    pub no_name : Allows u who (write_name o) → ⊥
    unfolding may
    no_name k = denied _ k ((λ i. plain i || of_object (there i) (λ z. int_eq who z.header.owner && not z.header.is_player)) ∙ ap (λ b. b && not y.header.is_player) no_owner)

    pub no_change : Allows u who (act.change_object o) → ⊥
    unfolding may
    no_change k = denied _ k ((λ i. plain i || of_object (there i) (λ z. int_eq who z.header.owner)) ∙ no_owner)

    pub no_members : Allows u who (change_members o) → ⊥
    unfolding may
    no_members k =
        denied _ k ((λ i. plain i || of_object (there i) (λ z. owns_or who z.header.owner z.header.writable)) ∙ closed)

    pub no_standing : Allows u who (write_standing o) → ⊥
    unfolding may
    no_standing k = denied _ k (λ i. plain i || false)

    pub no_administer : Allows u who administer → ⊥
    unfolding may
    no_administer k = denied _ k (λ i. plain i || false)

    no_verb : (n : ℕ) → of_verb (verb_in (object_at u o) n) (λ v. owns_or who v.owner v.writable) ≡ false
    no_verb n = ap (λ m. of_verb (verb_in m n) (λ v. owns_or who v.owner v.writable)) there ∙ go (in_place y.verbs n) refl
      where
        verbs : y.verbs ≡ x.verbs
        verbs = same.1.1.1.1.1

        go : (m : Option Verb) → in_place y.verbs n ≡ m → of_verb m (λ v. owns_or who v.owner v.writable) ≡ false
        go None e = refl
        go (Some v) e =
            let at : in_place x.verbs n ≡ Some v = sym (ap (λ vs. in_place vs n) verbs) ∙ e in
            not_so (owns_or who v.owner v.writable) (placed_holds (λ z. not (owns_or who z.owner z.writable)) x.verbs n v (second_holds (not (is_wizard w who) && not (owns_or who x.header.owner x.header.writable)) _ stranger) at)

    pub no_write : (n : ℕ) → Allows u who (write_verb o n) → ⊥
    unfolding may
    no_write n k = denied _ k (λ i. plain i || no_verb n i)

    pub no_program : (n : ℕ) → Allows u who (program_verb o n) → ⊥
    unfolding may
    no_program n k = denied _ k ((λ i. plain i || (is_programmer u who && no_verb n i)) ∙ never (is_programmer u who))
      where
        never : (b : Bool) → (b && false) ≡ false
        never true = refl
        never false = refl

    -- what is the same after a change by the stranger
    pub object_same : (begun : ℤ → Type 0) (v : World) (z : Object) → ObjectKept begun u who v o y z → SameObject x z
    object_same begun v z k =
        (name k.name ∙ same.0, (standing k.standing, (player k.player ∙ same.1.1.0, (bits k.bits, (defines k.defines ∙ same.1.1.1.1.0, verbs_same u who o no_members no_write no_program 0 y.verbs z.verbs k.verbs ∙ same.1.1.1.1.1)))))
      where
        name : (z.header.name ≡ y.header.name) ⊎ Allows u who (write_name o) → z.header.name ≡ y.header.name
        name (inl e) = e
        name (inr a) = absurd (no_name a)

        standing : SameStanding y.header z.header ⊎ Allows u who (write_standing o) → SameStanding x.header z.header
        standing (inl (a, b, c)) = (a ∙ same.1.0.0, b ∙ same.1.0.1, c ∙ same.1.0.2)
        standing (inr a) = absurd (no_standing a)

        player : (z.header.is_player ≡ y.header.is_player) ⊎ Allows u who administer → z.header.is_player ≡ y.header.is_player
        player (inl e) = e
        player (inr a) = absurd (no_administer a)

        bits : SameBits y.header z.header ⊎ Allows u who (write_bits o) → SameBits x.header z.header
        bits (inl (a, b, c)) = (a ∙ same.1.1.1.0.0, b ∙ same.1.1.1.0.1, c ∙ same.1.1.1.0.2)
        bits (inr a) = absurd (no_bits a)

        defines : (z.defines ≡ y.defines) ⊎ Allows u who (change_members o) → z.defines ≡ y.defines
        defines (inl e) = e
        defines (inr a) = absurd (no_members a)

  -- ---- worlds in which it is as it was, and strangers alone are players

  abbrev AllStrange : World → Type 0
  AllStrange u = (who : ℤ) (y : Object) → object_at u who ≡ Some y → y.header.is_player ≡ true → IsTrue (is_stranger w x who)

  record Quiet (u : World) : Type 0 where
    plain : Plain w u
    object : Object
    there : object_at u o ≡ Some object
    same : SameObject x object
    players : AllStrange u

  -- a stranger is no wizard
  never_wizard : (u : World) (who : ℤ) → Plain w u → IsTrue (is_stranger w x who) → is_wizard u who ≡ false
  never_wizard u who p s = go (is_wizard u who) refl
    where
      go : (b : Bool) → is_wizard u who ≡ b → is_wizard u who ≡ false
      go false e = e
      go true e =
          denied (is_wizard w who) (p.wizards who e) (not_so (is_wizard w who) (first_holds (not (is_wizard w who)) _ (first_holds (not (is_wizard w who) && not (owns_or who x.header.owner x.header.writable)) _ s)))

  quiet_then : (begun : ℤ → Type 0) (u v : World) (who : ℤ) → Permitted begun u who v → IsTrue (is_stranger w x who) → (begun o → ⊥) → Quiet u → Quiet v
  quiet_then begun u v who d s none q = go (object_at v o) refl
    where
      plain : is_wizard u who ≡ false
      plain = never_wizard u who q.plain s

      players : AllStrange v
      players p z e k = by (object_at u p) refl
        where
          by : (m : Option Object) → object_at u p ≡ m → IsTrue (is_stranger w x p)
          by None i = let clash : false ≡ true = sym (ap (λ (h : Header). h.is_player) (d.new p z i e).header) ∙ k in absurd (cc (clash))
          by (Some y) i = q.players p y i (sym ((still_flags w begun u v who d plain q.plain p y z i e).1) ∙ k)

      gone : Taken begun u who o → ⊥
      gone (inl k) = no_change u who q.object plain s q.there q.same k
      gone (inr k) = none k

      go : (m : Option Object) → object_at v o ≡ m → Quiet v
      go None e = absurd (gone (d.gone o q.object q.there e))
      go (Some z) e =
          record {
            plain = plain_then w begun u v who d plain q.plain;
            object = z;
            there = e;
            same = object_same u who q.object plain s q.there q.same begun v z (d.kept o q.object z q.there e);
            players = players;
          }

  -- where each header stays, and the object
  quiet_still : (u v : World) → ((p : ℤ) → header_at v p ≡ header_at u p) → v.greatest ≡ u.greatest → object_at v o ≡ object_at u o → Quiet u → Quiet v
  quiet_still u v headers great same q =
      record { plain = plain_still w u v headers great q.plain; object = q.object; there = same ∙ q.there; same = q.same; players = players }
    where
      players : AllStrange v
      players p z e k = by (object_at u p) refl
        where
          by : (m : Option Object) → object_at u p ≡ m → IsTrue (is_stranger w x p)
          by None i =
              let clash : Some z.header ≡ None = sym (ap (option_map (λ (y : Object). y.header)) e) ∙ headers p ∙ ap (option_map (λ (y : Object). y.header)) i in absurd (cc (clash))
          by (Some y) i =
              let header : z.header ≡ y.header = some_same (sym (ap (option_map (λ (y : Object). y.header)) e) ∙ headers p ∙ ap (option_map (λ (y : Object). y.header)) i) in
              q.players p y i (sym (ap (λ (h : Header). h.is_player) header) ∙ k)

  -- ---- along a chain

  module _ (h : Agrees w) (is : object_at w o ≡ Some x) (all : AllStrange w) where
    abbrev Unnamed : List Right → Type 0
    Unnamed gs = ((p : ℤ) → In gs (to_run_as p) → ⊥) × (In gs (to_take o) → ⊥)

    runs_strange : (gs : List Right) (who : ℤ) → Unnamed gs → Holds (strange w o x) gs (to_run_as who) → IsTrue (is_stranger w x who)
    runs_strange gs who none (inl e) = e
    runs_strange gs who none (inr k) = absurd (none.0 who k)

    never_taken : (gs : List Right) → Unnamed gs → Holds (strange w o x) gs (to_take o) → ⊥
    never_taken gs none (inl e) = denied (int_eq o o) (integer_itself o) (not_so (int_eq o o) e)
    never_taken gs none (inr k) = none.1 k

    number_of : Right → ℤ
    number_of (to_run_as p) = p
    number_of (to_take p) = p

    chain_quiet : (gs : List Right) (u : World) → Chain (strange w o x) w gs u → Quiet u × Unnamed gs
    unfolding number_of
    chain_quiet gs u starts =
        (record { plain = plain_first w h; object = x; there = is; same = (refl, ((refl, refl, refl), (refl, ((refl, refl, refl), (refl, refl))))); players = all }, (λ p k. k, λ k. k))
    chain_quiet gs u (serves _ v _ r same) =
        let q = chain_quiet gs v r in
        (quiet_still v u (λ p. ap (λ es. header_at (record v { objects = es }) p) same.0) same.1 (ap (λ es. object_at (record v { objects = es }) o) same.0) q.0, q.1)
    chain_quiet gs u (changes _ v _ who r runs d) =
        let q = chain_quiet gs v r in
        (quiet_then (λ p. Holds (strange w o x) gs (to_take p)) v u who d (runs_strange gs who q.1 runs) (never_taken gs q.1) q.0, q.1)
    chain_quiet gs u (types _ v who p n body r (c, k, e, same, z, there, player) allowed) =
        let q = chain_quiet gs v r in (go q.0 (q.0.players who z there player) (same_or_not o p), q.1)
      where
        go : Quiet v → IsTrue (is_stranger w x who) → (o ≡ p) ⊎ (int_eq o p ≡ false) → Quiet (verb_changed v p n (λ m. record m { program = body }))
        go q s (inl i) =
            absurd (no_program v who q.object (never_wizard v who q.plain s) s q.there q.same n (subst (λ m. Allows v who (program_verb m n)) (sym i) allowed))
        go q s (inr i) =
            quiet_still v (verb_changed v p n (λ m. record m { program = body })) (programmed_header v p n (λ m. record m { program = body })) (programmed_greatest v p n (λ m. record m { program = body })) (programmed_other v p n (λ m. record m { program = body }) o i) q
    chain_quiet gs u (names hs _ who p r runs wizard) =
        let q = chain_quiet hs u r in denied (is_wizard u who) wizard (never_wizard u who q.0.plain (runs_strange hs who q.1 runs))
    chain_quiet gs u (takes hs _ who p r runs allowed) =
        let q = chain_quiet hs u r in (q.0, (λ m k. named m q.1 k, λ k. taken q.0 q.1 k))
      where
        named : (m : ℤ) → Unnamed hs → (to_run_as m ≡ to_take p) ⊎ In hs (to_run_as m) → ⊥
        named m none (inl e) = cc
        named m none (inr k) = none.0 m k

        taken : Quiet u → Unnamed hs → (to_take o ≡ to_take p) ⊎ In hs (to_take o) → ⊥
        taken q none (inr k) = none.1 k
        taken q none (inl e) =
            let s = runs_strange hs who none runs in
            no_change u who q.object (never_wizard u who q.plain s) s q.there q.same (subst (λ m. Allows u who (act.change_object m)) (sym (ap number_of e)) allowed)

pub strangers_leave_alone : StrangersLeaveAlone
strangers_leave_alone w ss o x h range is all players =
    let r = lists_permit (strange w o x) w ss h range all in
    let q = chain_quiet w o x h is players r.0 (play w ss).0 r.1.0 in (q.0.object, (q.0.there, q.0.same))

pub turns_leave_alone : TurnsLeaveAlone
turns_leave_alone k s p o x h is stranger none = go (object_at (world_after (turn s p)) o) refl
  where
    d : Permitted (Begun (begins_stage p) p.outer) s.world (acting p) (world_after (turn s p))
    d = turns_act k s p h

    plain : is_wizard s.world (acting p) ≡ false
    plain = never_wizard s.world o x s.world (acting p) (plain_first s.world h.world) stranger

    same : SameObject x x
    same = (refl, ((refl, refl, refl), (refl, ((refl, refl, refl), (refl, refl)))))

    gone : Taken (Begun (begins_stage p) p.outer) s.world (acting p) o → ⊥
    gone (inl i) = no_change s.world o x s.world (acting p) x plain stranger is same i
    gone (inr i) = none i

    go : (m : Option Object) → object_at (world_after (turn s p)) o ≡ m → (y : Object) × ((object_at (world_after (turn s p)) o ≡ Some y) × SameObject x y)
    go None e = absurd (gone (d.gone o x is e))
    go (Some y) e =
        (y, (e, object_same s.world o x s.world (acting p) x plain stranger is same (Begun (begins_stage p) p.outer) (world_after (turn s p)) y (d.kept o x y is e)))

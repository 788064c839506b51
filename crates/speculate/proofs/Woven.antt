-- Steps that are woven out of lanes do what they do one after another.
use Rattle.std.proofs.Common.{◌≡◌, ◌≢◌, ◌∙◌, ℕ, zero, suc, max, min, ℤ, Bool, false, List, [], ◌∷◌, ◌++◌, take, Some, slice_get, slice_set, ◌⊎◌, inl, inr, refl, sym, ap, subst, IsTrue, arith}
use Rattle.spec_value.specs.Datum.{Datum, Text}
use Rattle.spec_world.specs.World.{World}
use Rattle.spec_world.specs.Step.{Step, in_range, AllInRange}
use Rattle.spec_world.specs.Outcome.{Outcome}
use Rattle.spec_world.specs.Questions.{Question, ask, about_header, about_children, about_contents, about_defines, about_slot, about_verbs, about_task, about_waiting, about_link, about_readers, about_connections, about_connected, about_greatest, about_ending, Change, new_part, new_value, new_object, new_task, new_link, new_greatest, new_ending, new_next, apply, apply_all, last_next}
use Rattle.spec_moo.specs.Steps.{play1, play}
use Rattle.view.specs.Sound.{IsSound}
use Rattle.speculate.specs.Lanes.{IsInside, IsOwn, AllOwn, Does, Course, after_moves, Strand, after_strands, Apart, AreApart, Each, GoesOn, IsWoven, AreOf, AreSummed}
use Rattle.speculate.specs.Tables.{IsThere, Grows}
use Rattle.world.specs.Late.{is_about_slot}
use Rattle.view.proofs.Facets.{beside_value}
use Rattle.view.proofs.SoundKeeps.{sound_step}
use Rattle.world.proofs.History.{next_unseen}
use Rattle.world.proofs.Lightly.{all_unseen}
use Rattle.world.proofs.Local.{value_after, after}
use Rattle.speculate.specs.Moves.{Move}
use Rattle.speculate.proofs.Elsewhere.{value_elsewhere}
use Rattle.speculate.proofs.Plays.{play_more, range_at, then_step}

-- ---- one's own changes

value_alike : (o : ℤ) (p : Text) (v : Datum) (w u : World) (q : Question) → ask w q ≡ ask u q → ask (apply (new_value o p v) w) q ≡ ask (apply (new_value o p v) u) q
value_alike o p v w u q same = value_after o p v w q ∙ ap (after (new_value o p v) q) same ∙ sym (value_after o p v u q)

value_unseen : (o : ℤ) (p : Text) (v : Datum) (w : World) (q : Question) → is_about_slot q ≡ false → ask (apply (new_value o p v) w) q ≡ ask w q
value_unseen o p v w q none = all_unseen (new_value o p v ∷ []) w q (refl, tt) none

own_alike : (xs : List Bool) (c : Change) → IsOwn xs c → (w u : World) (q : Question) → ask w q ≡ ask u q → ask (apply c w) q ≡ ask (apply c u) q
own_alike xs (new_part o a) own w u q same = absurd own
own_alike xs (new_value o p v) own w u q same = value_alike o p v w u q same
own_alike xs (new_object o x) own w u q same = absurd own
own_alike xs (new_task i t) own w u q same = absurd own
own_alike xs (new_link c k) own w u q same = absurd own
own_alike xs (new_greatest o) own w u q same = absurd own
own_alike xs (new_ending b) own w u q same = absurd own
own_alike xs (new_next n) own w u q same = next_unseen n w q ∙ same ∙ sym (next_unseen n u q)

-- worlds that answer alike do after the same changes
all_alike : (xs : List Bool) (cs : List Change) → AllOwn xs cs → (w u : World) (q : Question) → ask w q ≡ ask u q → ask (apply_all cs w) q ≡ ask (apply_all cs u) q
all_alike xs [] own w u q same = same
all_alike xs (c ∷ cs) own w u q same = all_alike xs cs own.1 (apply c w) (apply c u) q (own_alike xs c own.0 w u q same)

value_outside : (ys : List Bool) (o : ℤ) (p : Text) (v : Datum) (w : World) → (IsThere ys o → ⊥) → (q : Question) → IsInside ys q → ask (apply (new_value o p v) w) q ≡ ask w q
value_outside ys o p v w out (about_slot r t) inside = value_elsewhere o p v w r t (λ same. out (subst (IsThere ys) same inside))
value_outside ys o p v w out (about_header r) inside = value_unseen o p v w (about_header r) refl
value_outside ys o p v w out (about_children r) inside = value_unseen o p v w (about_children r) refl
value_outside ys o p v w out (about_contents r) inside = value_unseen o p v w (about_contents r) refl
value_outside ys o p v w out (about_defines r) inside = value_unseen o p v w (about_defines r) refl
value_outside ys o p v w out (about_verbs r) inside = value_unseen o p v w (about_verbs r) refl
value_outside ys o p v w out (about_task i) inside = value_unseen o p v w (about_task i) refl
value_outside ys o p v w out about_waiting inside = value_unseen o p v w about_waiting refl
value_outside ys o p v w out (about_link c) inside = value_unseen o p v w (about_link c) refl
value_outside ys o p v w out (about_readers c) inside = value_unseen o p v w (about_readers c) refl
value_outside ys o p v w out (about_connections r) inside = value_unseen o p v w (about_connections r) refl
value_outside ys o p v w out about_connected inside = value_unseen o p v w about_connected refl
value_outside ys o p v w out about_greatest inside = value_unseen o p v w about_greatest refl
value_outside ys o p v w out about_ending inside = value_unseen o p v w about_ending refl

own_outside : (xs ys : List Bool) (c : Change) → IsOwn xs c → Apart xs ys → (w : World) (q : Question) → IsInside ys q → ask (apply c w) q ≡ ask w q
own_outside xs ys (new_part o a) own apart w q inside = absurd own
own_outside xs ys (new_value o p v) own apart w q inside = value_outside ys o p v w (apart o own) q inside
own_outside xs ys (new_object o x) own apart w q inside = absurd own
own_outside xs ys (new_task i t) own apart w q inside = absurd own
own_outside xs ys (new_link c k) own apart w q inside = absurd own
own_outside xs ys (new_greatest o) own apart w q inside = absurd own
own_outside xs ys (new_ending b) own apart w q inside = absurd own
own_outside xs ys (new_next n) own apart w q inside = next_unseen n w q

-- what others change is not seen inside
all_outside : (xs ys : List Bool) (cs : List Change) → AllOwn xs cs → Apart xs ys → (w : World) (q : Question) → IsInside ys q → ask (apply_all cs w) q ≡ ask w q
all_outside xs ys [] own apart w q inside = refl
all_outside xs ys (c ∷ cs) own apart w q inside = all_outside xs ys cs own.1 apart (apply c w) q inside ∙ own_outside xs ys c own.0 apart w q inside

-- ---- changes in either order

max_either : (a b c : ℕ) → max a (max b c) ≡ max b (max a c)
max_either a b c = omega arith

value_crosses : (xs ys : List Bool) (o : ℤ) (p : Text) (v : Datum) (d : Change) → IsThere xs o → IsOwn ys d → Apart xs ys → (w : World)
    → apply d (apply (new_value o p v) w) ≡ apply (new_value o p v) (apply d w)
value_crosses xs ys o p v (new_part q a) there own apart w = absurd own
value_crosses xs ys o p v (new_value q r u) there own apart w = beside_value o p v (new_value q r u) (λ same. absurd (apart o there (subst (IsThere ys) same own))) w
value_crosses xs ys o p v (new_object q x) there own apart w = absurd own
value_crosses xs ys o p v (new_task i t) there own apart w = absurd own
value_crosses xs ys o p v (new_link c k) there own apart w = absurd own
value_crosses xs ys o p v (new_greatest q) there own apart w = absurd own
value_crosses xs ys o p v (new_ending b) there own apart w = absurd own
value_crosses xs ys o p v (new_next n) there own apart w = beside_value o p v (new_next n) tt w

next_crosses : (ys : List Bool) (n : ℕ) (d : Change) → IsOwn ys d → (w : World) → apply d (apply (new_next n) w) ≡ apply (new_next n) (apply d w)
next_crosses ys n (new_part q a) own w = absurd own
next_crosses ys n (new_value q r u) own w = sym (beside_value q r u (new_next n) tt w)
next_crosses ys n (new_object q x) own w = absurd own
next_crosses ys n (new_task i t) own w = absurd own
next_crosses ys n (new_link c k) own w = absurd own
next_crosses ys n (new_greatest q) own w = absurd own
next_crosses ys n (new_ending b) own w = absurd own
next_crosses ys n (new_next k) own w = ap (λ (x : ℕ). record w { next = x }) (max_either (min k last_next) (min n last_next) w.next)

own_crosses : (xs ys : List Bool) (c d : Change) → IsOwn xs c → IsOwn ys d → Apart xs ys → (w : World) → apply d (apply c w) ≡ apply c (apply d w)
own_crosses xs ys (new_part q a) d own other apart w = absurd own
own_crosses xs ys (new_value o p v) d own other apart w = value_crosses xs ys o p v d own other apart w
own_crosses xs ys (new_object q x) d own other apart w = absurd own
own_crosses xs ys (new_task i t) d own other apart w = absurd own
own_crosses xs ys (new_link l k) d own other apart w = absurd own
own_crosses xs ys (new_greatest q) d own other apart w = absurd own
own_crosses xs ys (new_ending b) d own other apart w = absurd own
own_crosses xs ys (new_next n) d own other apart w = next_crosses ys n d other w

one_crosses : (xs ys : List Bool) (c : Change) (ds : List Change) → IsOwn xs c → AllOwn ys ds → Apart xs ys → (w : World) → apply_all ds (apply c w) ≡ apply c (apply_all ds w)
one_crosses xs ys c [] own other apart w = refl
one_crosses xs ys c (d ∷ ds) own other apart w = ap (apply_all ds) (own_crosses xs ys c d own other.0 apart w) ∙ one_crosses xs ys c ds own other.1 apart (apply d w)

all_cross : (xs ys : List Bool) (cs ds : List Change) → AllOwn xs cs → AllOwn ys ds → Apart xs ys → (w : World) → apply_all ds (apply_all cs w) ≡ apply_all cs (apply_all ds w)
all_cross xs ys [] ds own other apart w = refl
all_cross xs ys (c ∷ cs) ds own other apart w = all_cross xs ys cs ds own.1 other apart (apply c w) ∙ ap (apply_all cs) (one_crosses xs ys c ds own.0 other apart w)

-- changes before the moves of another lane, or after them
moves_cross : (xs read changed : List Bool) (cs : List Change) (v : World) (ms : List Move) → AllOwn xs cs → Course read changed v ms → Apart xs changed
    → (w : World) → after_moves ms (apply_all cs w) ≡ apply_all cs (after_moves ms w)
moves_cross xs read changed cs v [] own course apart w = refl
moves_cross xs read changed cs v (m ∷ ms) own course apart w =
    ap (after_moves ms) (all_cross xs changed cs m.changes own course.1 apart w)
    ∙ moves_cross xs read changed cs (apply_all m.changes v) ms own course.2 apart (apply_all m.changes w)

-- ---- lanes

abbrev without_first : Strand → List Move → Strand
without_first s ms = record s { moves = ms }

suc_is : (a b : ℕ) → suc a ≡ suc b → a ≡ b
suc_is a b e = omega (arith, e)

-- one lane goes on, and the others stay
moved : (ss : List Strand) (k : ℕ) (s : Strand) (m : Move) (ms : List Move) → slice_get ss k ≡ Some s → s.moves ≡ m ∷ ms
    → ((j : ℕ) (b : Strand) → slice_get ss j ≡ Some b → j ≢ k → (w : World) → after_moves b.moves (apply_all m.changes w) ≡ apply_all m.changes (after_moves b.moves w))
    → (w : World) → after_strands (slice_set ss k (without_first s ms)) (apply_all m.changes w) ≡ after_strands ss w
moved [] k s m ms is first crosses w = cc
moved (x ∷ ss) zero s m ms is first crosses w =
    let e : x ≡ s = cc in
    ap (λ (l : List Move). after_strands ss (after_moves l w)) (sym first ∙ ap (λ (y : Strand). y.moves) (sym e))
moved (x ∷ ss) (suc k) s m ms is first crosses w =
    ap (after_strands (slice_set ss k (without_first s ms))) (crosses 0 x refl (λ e. cc) w)
    ∙ moved ss k s m ms is first (λ j b there other v. crosses (suc j) b there (λ e. other (suc_is j k e)) v) (after_moves x.moves w)

-- what stands at a place after one is set
set_cases : {X : Type 0} (xs : List X) (k : ℕ) (y : X) (j : ℕ) (z : X) → slice_get (slice_set xs k y) j ≡ Some z → ((j ≡ k) × (z ≡ y)) ⊎ ((j ≢ k) × (slice_get xs j ≡ Some z))
set_cases [] k y j z is = cc
set_cases (x ∷ xs) zero y zero z is =
    let e : y ≡ z = cc in inl (refl, sym e)
set_cases (x ∷ xs) zero y (suc j) z is = inr ((λ e. cc), is)
set_cases (x ∷ xs) (suc k) y zero z is = inr ((λ e. cc), is)
set_cases (x ∷ xs) (suc k) y (suc j) z is = elim (set_cases xs k y j z is) [ inl a ↦ inl (ap suc a.0, a.1) | inr b ↦ inr ((λ e. b.0 (suc_is j k e)), b.1) ]

-- which lane stands at a place where one has gone on
record Stood (ss : List Strand) (j : ℕ) (b : Strand) : Type 0 where
  was : Strand
  there : slice_get ss j ≡ Some was
  read : b.read ≡ was.read
  changed : b.changed ≡ was.changed

stood : (ss : List Strand) (k : ℕ) (s : Strand) (ms : List Move) → slice_get ss k ≡ Some s → (j : ℕ) (b : Strand) → slice_get (slice_set ss k (without_first s ms)) j ≡ Some b → Stood ss j b
stood [] k s ms is j b there = cc
stood (x ∷ ss) zero s ms is zero b there =
    let e : without_first s ms ≡ b = cc in record { was = s; there = is; read = ap (λ (y : Strand). y.read) (sym e); changed = ap (λ (y : Strand). y.changed) (sym e) }
stood (x ∷ ss) zero s ms is (suc j) b there = record { was = b; there = there; read = refl; changed = refl }
stood (x ∷ ss) (suc k) s ms is zero b there = record { was = b; there = there; read = refl; changed = refl }
stood (x ∷ ss) (suc k) s ms is (suc j) b there =
    let t = stood ss k s ms is j b there in record { was = t.was; there = t.there; read = t.read; changed = t.changed }

apart_still : (ss : List Strand) (k : ℕ) (s : Strand) (ms : List Move) → slice_get ss k ≡ Some s → AreApart ss → AreApart (slice_set ss k (without_first s ms))
apart_still ss k s ms is apart i j a b first second other =
    let x = stood ss k s ms is i a first in
    let y = stood ss k s ms is j b second in
    let was = apart i j x.was y.was x.there y.there other in (
      (λ o changed read. was.0 o (subst (λ ts. IsThere ts o) x.changed changed) (subst (λ ts. IsThere ts o) y.read read)),
      (λ o changed theirs. was.1 o (subst (λ ts. IsThere ts o) x.changed changed) (subst (λ ts. IsThere ts o) y.changed theirs)),
    )

-- the next step is the next one of a lane
pub woven_more : (base : World) (steps : List Step) (at : ℕ) (outcomes : List Outcome) (ss : List Strand) (end : World) (k : ℕ) (s : Strand) (m : Move) (ms : List Move)
    → IsWoven base steps at outcomes ss end → AllInRange steps → m.position ≡ at → slice_get ss k ≡ Some s → s.moves ≡ m ∷ ms
    → IsWoven base steps (suc at) (outcomes ++ m.outcome ∷ []) (slice_set ss k (without_first s ms)) end
woven_more base steps at outcomes ss end k s m ms h all position is first =
    let u = h.now in
    let of : AreOf steps (m ∷ ms) = subst (AreOf steps) first (h.strands k s is).of_steps in
    let step_is : slice_get steps at ≡ Some m.step = ap (slice_get steps) (sym position) ∙ of 0 m refl in
    let range : IsTrue (in_range m.step) = range_at steps at m.step all step_is in
    let on : GoesOn steps u s = h.strands k s is in
    let course : Course s.read s.changed on.from (m ∷ ms) = subst (Course s.read s.changed on.from) first on.course in
    let does : Does s.read on.from m = course.0 in
    let own : AllOwn s.changed m.changes = course.1 in
    let one : play1 u m.step ≡ (apply_all m.changes u, m.outcome) = does u h.sound on.alike in record {
      now = apply_all m.changes u;
      played = play_more base steps at m.step step_is ∙ ap (λ p. then_step p m.step) h.played ∙ ap (λ (r : World × Outcome). (r.0, outcomes ++ r.1 ∷ [])) one;
      sound = subst IsSound (ap (λ (r : World × Outcome). r.0) one) (sound_step u m.step h.sound range);
      strands = going own on course.2 (λ i n e. of (suc i) n e);
      apart = apart_still ss k s ms is h.apart;
      leads = moved ss k s m ms is first (crossing own) u ∙ h.leads;
    }
  where
    crossing : AllOwn s.changed m.changes → (j : ℕ) (b : Strand) → slice_get ss j ≡ Some b → j ≢ k
        → (w : World) → after_moves b.moves (apply_all m.changes w) ≡ apply_all m.changes (after_moves b.moves w)
    crossing own j b there other w =
        let theirs : GoesOn steps h.now b = h.strands j b there in
        moves_cross s.changed b.read b.changed m.changes theirs.from b.moves own theirs.course (h.apart k j s b is there (λ e. other (sym e))).1 w

    stays : AllOwn s.changed m.changes → (j : ℕ) (b : Strand) → slice_get ss j ≡ Some b → j ≢ k → GoesOn steps (apply_all m.changes h.now) b
    stays own j b there other =
        let theirs : GoesOn steps h.now b = h.strands j b there in record {
          from = theirs.from;
          course = theirs.course;
          alike = λ q inside. all_outside s.changed b.read m.changes own (h.apart k j s b is there (λ e. other (sym e))).0 h.now q inside ∙ theirs.alike q inside;
          of_steps = theirs.of_steps;
        }

    goes : AllOwn s.changed m.changes → (on : GoesOn steps h.now s) → Course s.read s.changed (apply_all m.changes on.from) ms → AreOf steps ms → GoesOn steps (apply_all m.changes h.now) (without_first s ms)
    goes own on rest of = record {
      from = apply_all m.changes on.from;
      course = rest;
      alike = λ q inside. all_alike s.changed m.changes own h.now on.from q (on.alike q inside);
      of_steps = of;
    }

    going : AllOwn s.changed m.changes → (on : GoesOn steps h.now s) → Course s.read s.changed (apply_all m.changes on.from) ms → AreOf steps ms → Each (GoesOn steps (apply_all m.changes h.now)) (slice_set ss k (without_first s ms))
    going own on rest of j b there =
        elim (set_cases ss k (without_first s ms) j b there) [
          | inl a ↦ subst (GoesOn steps (apply_all m.changes h.now)) (sym a.1) (goes own on rest of)
          | inr a ↦ stays own j b a.1 a.0
        ]

-- ---- the end

used_up : (ss : List Strand) (w : World) → Each (λ (s : Strand). s.moves ≡ []) ss → after_strands ss w ≡ w
used_up [] w all = refl
used_up (s ∷ ss) w all = ap (λ (ms : List Move). after_strands ss (after_moves ms w)) (all 0 s refl) ∙ used_up ss w (λ k x is. all (suc k) x is)

pub woven_out : (base : World) (steps : List Step) (at : ℕ) (outcomes : List Outcome) (ss : List Strand) (end : World) → IsWoven base steps at outcomes ss end → Each (λ (s : Strand). s.moves ≡ []) ss
    → (play base (take at steps) ≡ (end, outcomes)) × IsSound end
woven_out base steps at outcomes ss end h none =
    let e : h.now ≡ end = sym (used_up ss h.now none) ∙ h.leads in
    (h.played ∙ ap (λ (w : World). (w, outcomes)) e, subst IsSound e h.sound)

-- ---- a lane under way

pub own_widens : (ts us : List Bool) (c : Change) → Grows ts us → IsOwn ts c → IsOwn us c
own_widens ts us (new_part o a) grows own = absurd own
own_widens ts us (new_value o p v) grows own = grows o own
own_widens ts us (new_object o x) grows own = absurd own
own_widens ts us (new_task i t) grows own = absurd own
own_widens ts us (new_link c k) grows own = absurd own
own_widens ts us (new_greatest o) grows own = absurd own
own_widens ts us (new_ending b) grows own = absurd own
own_widens ts us (new_next n) grows own = tt

pub all_own_widen : (ts us : List Bool) (cs : List Change) → Grows ts us → AllOwn ts cs → AllOwn us cs
all_own_widen ts us [] grows own = tt
all_own_widen ts us (c ∷ cs) grows own = (own_widens ts us c grows own.0, all_own_widen ts us cs grows own.1)

pub inside_widens : (ts us : List Bool) (q : Question) → Grows ts us → IsInside ts q → IsInside us q
inside_widens ts us (about_slot o p) grows inside = grows o inside
inside_widens ts us (about_header o) grows inside = tt
inside_widens ts us (about_children o) grows inside = tt
inside_widens ts us (about_contents o) grows inside = tt
inside_widens ts us (about_defines o) grows inside = tt
inside_widens ts us (about_verbs o) grows inside = tt
inside_widens ts us (about_task i) grows inside = tt
inside_widens ts us about_waiting grows inside = tt
inside_widens ts us (about_link c) grows inside = tt
inside_widens ts us (about_readers c) grows inside = tt
inside_widens ts us (about_connections o) grows inside = tt
inside_widens ts us about_connected grows inside = tt
inside_widens ts us about_greatest grows inside = tt
inside_widens ts us about_ending grows inside = tt

does_widen : (ts us : List Bool) (v : World) (m : Move) → Grows ts us → Does ts v m → Does us v m
does_widen ts us v m grows does w sound alike = does w sound (λ q inside. alike q (inside_widens ts us q grows inside))

pub course_more : (read changed read' changed' : List Bool) (v : World) (ms : List Move) (m : Move) → Grows read read' → Grows changed changed' → Course read changed v ms
    → Does read' (after_moves ms v) m → AllOwn changed' m.changes → Course read' changed' v (ms ++ m ∷ [])
course_more read changed read' changed' v [] m reads changes course does own = (does, own, tt)
course_more read changed read' changed' v (n ∷ ms) m reads changes course does own = (
  does_widen read read' v n reads course.0,
  all_own_widen changed changed' n.changes changes course.1,
  course_more read changed read' changed' (apply_all n.changes v) ms m reads changes course.2 does own,
)

pub after_more : (ms : List Move) (m : Move) (w : World) → after_moves (ms ++ m ∷ []) w ≡ apply_all m.changes (after_moves ms w)
after_more [] m w = refl
after_more (n ∷ ms) m w = after_more ms m (apply_all n.changes w)

pub each_more : {X : Type 0} (P : X → Type 0) (xs : List X) (x : X) → Each P xs → P x → Each P (xs ++ x ∷ [])
each_more P [] x all one zero y is =
    let e : x ≡ y = cc in subst P e one
each_more P [] x all one (suc k) y is = cc
each_more P (z ∷ xs) x all one zero y is =
    let e : z ≡ y = cc in subst P e (all 0 z refl)
each_more P (z ∷ xs) x all one (suc k) y is = each_more P xs x (λ j u e. all (suc j) u e) one k y is

-- one change more, seen together with those before
pub next_summed : (old n : ℕ) (w : World) → apply (new_next (max old n)) w ≡ apply (new_next n) (apply (new_next old) w)
next_summed old n w = ap (λ (x : ℕ). record w { next = x }) (omega arith)

pub value_summed : (net net' : List Change) (next : ℕ) (o : ℤ) (p : Text) (v : Datum) → ((w : World) → apply_all net' w ≡ apply (new_value o p v) (apply_all net w))
    → (w : World) → apply (new_next next) (apply_all net' w) ≡ apply (new_value o p v) (apply (new_next next) (apply_all net w))
value_summed net net' next o p v last w = ap (apply (new_next next)) (last w) ∙ beside_value o p v (new_next next) tt (apply_all net w)

pub nothing_summed : AreSummed [] 0 []
nothing_summed w = ap (λ (x : ℕ). record w { next = x }) (omega arith)

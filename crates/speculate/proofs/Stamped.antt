-- What stamps tell of answers.
use Rattle.std.proofs.Common.{◌≡◌, ◌≢◌, ◌⊎◌, ℕ, zero, suc, ◌+◌, ◌<◌, ◌≤◌, ℤ, false, List, [], ◌∷◌, map, take, length, get_or, Some, None, slice_get, slice_set, refl, sym, ap, subst, ◌∙◌, arith, inl, inr}
use Rattle.spec_value.specs.Datum.{Datum, Text}
use Rattle.spec_world.specs.World.{World}
use Rattle.spec_world.specs.Step.{Step}
use Rattle.spec_world.specs.Outcome.{Outcome}
use Rattle.spec_world.specs.Questions.{Question, about_header, about_children, about_contents, about_defines, about_slot, about_verbs, about_task, about_waiting, about_link, about_readers, about_connections, about_connected, about_greatest, about_ending, ask, Read, Agrees, Change, new_value, new_next, apply, apply_all}
use Rattle.view.specs.Sound.{IsSound}
use Rattle.view.specs.Meanings.{change_of}
use Rattle.view.specs.declared.change.Change as shown
use Rattle.view.specs.declared.change.Change.TheVariants.{Value}
use Rattle.world.specs.Late.{is_about_slot}
use Rattle.world.specs.Trace.{Trace, IsStart, world_now}
use Rattle.world.proofs.History.{next_unseen, answered_now}
use Rattle.world.proofs.Lightly.{all_unseen}
use Rattle.speculate.specs.declared.held.Held.{Held}
use Rattle.speculate.specs.declared.held.Held.TheVariants.{Empty, Loss, Holds}
use Rattle.speculate.specs.declared.slots_read.SlotsRead.{SlotsRead}
use Rattle.speculate.specs.declared.stamps.Stamps.{Stamps}
use Rattle.speculate.specs.BoardState.{BoardState, IsHonest, IsSeen, world_after}
use Rattle.speculate.specs.Fresh.{IsAmong, IsCovered, Covers, place, IsStill, IsFresh, Passes, Turns}
use Rattle.speculate.specs.Known.{AreStamped, KnowsFresh}
use Rattle.speculate.proofs.Elsewhere.{value_elsewhere}
use Rattle.speculate.proofs.Places.{held_at}
use Rattle.speculate.proofs.Plays.{play_none}
use Rattle.speculate.proofs.Taken.{taken_more, all_taken}

-- ---- stamps

-- what is fresh is fresh besides slots
pub fresh_others : (s : Stamps) (q : Question) (k : ℕ) → IsFresh s q k → s.others ≤ k
fresh_others s (about_header o) k fresh = fresh
fresh_others s (about_children o) k fresh = fresh
fresh_others s (about_contents o) k fresh = fresh
fresh_others s (about_defines o) k fresh = fresh
fresh_others s (about_slot o p) k fresh = fresh.0
fresh_others s (about_verbs o) k fresh = fresh
fresh_others s (about_task i) k fresh = fresh
fresh_others s about_waiting k fresh = fresh
fresh_others s (about_link c) k fresh = fresh
fresh_others s (about_readers c) k fresh = fresh
fresh_others s (about_connections o) k fresh = fresh
fresh_others s about_connected k fresh = fresh
fresh_others s about_greatest k fresh = fresh
fresh_others s about_ending k fresh = fresh

set_here : (ns : List ℕ) (i c n : ℕ) → slice_get (slice_set ns i c) i ≡ Some n → c ≡ n
set_here [] i c n is = cc
set_here (m ∷ ns) zero c n is = cc
set_here (m ∷ ns) (suc i) c n is = set_here ns i c n is

set_elsewhere : (ns : List ℕ) (i j c : ℕ) → i ≢ j → slice_get (slice_set ns i c) j ≡ slice_get ns j
set_elsewhere [] i j c other = refl
set_elsewhere (m ∷ ns) zero zero c other = absurd (other refl)
set_elsewhere (m ∷ ns) zero (suc j) c other = refl
set_elsewhere (m ∷ ns) (suc i) zero c other = refl
set_elsewhere (m ∷ ns) (suc i) (suc j) c other = set_elsewhere ns i j c (λ e. other (ap suc e))

-- the number is no other one
still_before : (old new : Stamps) (o r : ℤ) (n k : ℕ) → new.places.items ≡ slice_set old.places.items (place o) n → k < n → IsStill new r k → (place o ≢ place r) × IsStill old r k
still_before old new o r n k is less still =
    let P : List ℕ → Type 0 = λ ns. slice_get ns (place r) ≡ Some still.0 in
    let now : slice_get (slice_set old.places.items (place o) n) (place r) ≡ Some still.0 = subst P is still.1 in
    let other : place o ≢ place r = λ same.
    let Q : ℕ → Type 0 = λ i. slice_get (slice_set old.places.items i n) (place r) ≡ Some still.0 in
    let e = set_here old.places.items (place r) n still.0 (subst Q same now) in absurd (omega (arith, e, less, still.2)) in
    (other, (still.0, sym (set_elsewhere old.places.items (place o) (place r) n other) ∙ now, still.2))

-- another value in a slot of an object is not seen on others
other_object : (o r : ℤ) (p t : Text) (v : Datum) (w : World) → place o ≢ place r → ask (apply (new_value o p v) w) (about_slot r t) ≡ ask w (about_slot r t)
other_object o r p t v w other = value_elsewhere o p v w r t (λ same. other (ap place (sym same)))

-- an object's slots are stamped, and one of them gets another value
pub raised : (old new : Stamps) (o : ℤ) (p : Text) (v : Datum) (n : ℕ) → new.others ≡ old.others → new.places.items ≡ slice_set old.places.items (place o) n
    → Passes n old new (new_value o p v ∷ [])
raised old new o p v n same is (about_slot r t) k less fresh =
    let before = still_before old new o r n k is less fresh.1 in
    ((omega (arith, same, fresh.0), before.1), λ w. other_object o r p t v w before.0)
raised old new o p v n same is (about_header q) k less fresh = (omega (arith, same, fresh), λ w. all_unseen (new_value o p v ∷ []) w (about_header q) (refl, tt) refl)
raised old new o p v n same is (about_children q) k less fresh = (omega (arith, same, fresh), λ w. all_unseen (new_value o p v ∷ []) w (about_children q) (refl, tt) refl)
raised old new o p v n same is (about_contents q) k less fresh = (omega (arith, same, fresh), λ w. all_unseen (new_value o p v ∷ []) w (about_contents q) (refl, tt) refl)
raised old new o p v n same is (about_defines q) k less fresh = (omega (arith, same, fresh), λ w. all_unseen (new_value o p v ∷ []) w (about_defines q) (refl, tt) refl)
raised old new o p v n same is (about_verbs q) k less fresh = (omega (arith, same, fresh), λ w. all_unseen (new_value o p v ∷ []) w (about_verbs q) (refl, tt) refl)
raised old new o p v n same is (about_task i) k less fresh = (omega (arith, same, fresh), λ w. all_unseen (new_value o p v ∷ []) w (about_task i) (refl, tt) refl)
raised old new o p v n same is about_waiting k less fresh = (omega (arith, same, fresh), λ w. all_unseen (new_value o p v ∷ []) w about_waiting (refl, tt) refl)
raised old new o p v n same is (about_link c) k less fresh = (omega (arith, same, fresh), λ w. all_unseen (new_value o p v ∷ []) w (about_link c) (refl, tt) refl)
raised old new o p v n same is (about_readers c) k less fresh = (omega (arith, same, fresh), λ w. all_unseen (new_value o p v ∷ []) w (about_readers c) (refl, tt) refl)
raised old new o p v n same is (about_connections q) k less fresh = (omega (arith, same, fresh), λ w. all_unseen (new_value o p v ∷ []) w (about_connections q) (refl, tt) refl)
raised old new o p v n same is about_connected k less fresh = (omega (arith, same, fresh), λ w. all_unseen (new_value o p v ∷ []) w about_connected (refl, tt) refl)
raised old new o p v n same is about_greatest k less fresh = (omega (arith, same, fresh), λ w. all_unseen (new_value o p v ∷ []) w about_greatest (refl, tt) refl)
raised old new o p v n same is about_ending k less fresh = (omega (arith, same, fresh), λ w. all_unseen (new_value o p v ∷ []) w about_ending (refl, tt) refl)

pub raised_by : (old new : Stamps) (c : shown.Change) (o : ℤ) (p : Text) (v : Datum) (n : ℕ) → c ≡ Value o p v → new.others ≡ old.others → new.places.items ≡ slice_set old.places.items (place o) n
    → Passes n old new (change_of c ∷ [])
raised_by old new c o p v n is same raise = subst (λ (x : shown.Change). Passes n old new (change_of x ∷ [])) (sym is) (raised old new o p v n same raise)

-- the next step's number is in no answer
pub passed_by : (s : Stamps) (m n : ℕ) → Passes n s s (new_next m ∷ [])
passed_by s m n q k less fresh = (fresh, λ w. next_unseen m w q)

-- all are stamped
pub all_raised : (old new : Stamps) (c : Change) (n : ℕ) → new.others ≡ n → Passes n old new (c ∷ [])
all_raised old new c n is q k less fresh = absurd (omega (arith, fresh_others new q k fresh, is, less))

-- nothing changes
pub nothing_passes : (s : Stamps) (n : ℕ) → Passes n s s []
nothing_passes s n q k less fresh = (fresh, λ w. refl)

-- one change more of some
pub passes_more : (old now new : Stamps) (n : ℕ) (cs : List shown.Change) (i : ℕ) (c : shown.Change) → i < length cs → c ≡ get_or cs i c
    → Passes n old now (map change_of (take i cs)) → Passes n now new (change_of c ∷ []) → Passes n old new (map change_of (take (i + 1) cs))
passes_more old now new n cs i c within is before one q k less fresh =
    let last = one q k less fresh in
    let first = before q k less last.0 in
    (first.0, λ w. ap (λ (v : World). ask v q) (taken_more cs i c w within is) ∙ last.1 (apply_all (map change_of (take i cs)) w) ∙ first.1 w)

pub passes_all : (old new : Stamps) (n : ℕ) (cs : List shown.Change) (i : ℕ) → length cs ≤ i → Passes n old new (map change_of (take i cs)) → Passes n old new (map change_of cs)
passes_all old new n cs i end passes q k less fresh =
    let p = passes q k less fresh in
    (p.0, λ w. ap (λ (v : World). ask v q) (sym (all_taken cs i w end)) ∙ p.1 w)

-- changes that are made turn the world
pub passes_turn : (old new : Stamps) (n : ℕ) (cs : List Change) (v w : World) → w ≡ apply_all cs v → Passes n old new cs → Turns n old new v w
passes_turn old new n cs v w is passes q k less fresh =
    let p = passes q k less fresh in
    (p.0, ap (λ (x : World). ask x q) is ∙ p.1 v)

-- ---- what was asked

-- what is about no slot
pub covered_besides : (s : SlotsRead) (q : Question) → is_about_slot q ≡ false → IsCovered s q
covered_besides s (about_header o) e = tt
covered_besides s (about_children o) e = tt
covered_besides s (about_contents o) e = tt
covered_besides s (about_defines o) e = tt
covered_besides s (about_slot o p) e = cc
covered_besides s (about_verbs o) e = tt
covered_besides s (about_task i) e = tt
covered_besides s about_waiting e = tt
covered_besides s (about_link c) e = tt
covered_besides s (about_readers c) e = tt
covered_besides s (about_connections o) e = tt
covered_besides s about_connected e = tt
covered_besides s about_greatest e = tt
covered_besides s about_ending e = tt

-- a question more, which is covered
pub covers_more : (old new : Trace) (s s' : SlotsRead) (q : Question) → IsSound old.home → new.home ≡ old.home → Covers old.home old.reads s
    → ((o : ℤ) → IsAmong s o → IsAmong s' o) → IsCovered s' q
    → ((w : World) → IsStart old w → ask w q ≡ ask old.home q → ask (world_now old w) q ≡ ask (world_now old old.home) q → IsStart new w)
    → Covers new.home new.reads s'
covers_more old new s s' q sound home covers more covered kept w is alike =
    let alike_old : (r : Question) → IsCovered s' r → ask w r ≡ ask old.home r = λ r c. alike r c ∙ ap (λ (v : World). ask v r) home in
    let agrees : Agrees w old.reads = covers w is (λ r c. alike_old r (widened r c)) in
    let now = answered_now w old.home old.changes q (ask (apply_all old.changes old.home) q) is sound (alike_old q covered) refl in
    (kept w (is, agrees) (alike_old q covered) now).1
  where
    widened : (r : Question) → IsCovered s r → IsCovered s' r
    widened (about_header o) c = tt
    widened (about_children o) c = tt
    widened (about_contents o) c = tt
    widened (about_defines o) c = tt
    widened (about_slot o p) c = more o c
    widened (about_verbs o) c = tt
    widened (about_task i) c = tt
    widened about_waiting c = tt
    widened (about_link k) c = tt
    widened (about_readers k) c = tt
    widened (about_connections o) c = tt
    widened about_connected c = tt
    widened about_greatest c = tt
    widened about_ending c = tt

-- where no start goes, nothing more was asked
pub covers_still : (old new : Trace) (s : SlotsRead) → new.home ≡ old.home → Covers old.home old.reads s → ((w : World) → IsStart old w → IsStart new w) → Covers new.home new.reads s
covers_still old new s home covers kept w is alike =
    (kept w (is, covers w is (λ r c. alike r c ∙ ap (λ (v : World). ask v r) home))).1

-- ---- agreement

-- where all that may have been asked is fresh, a world agrees that answers what is fresh as the home does
pub fresh_agrees : (home w : World) (rs : List Read) (slots : SlotsRead) (s : Stamps) (k : ℕ) → IsSound w → Covers home rs slots → ((q : Question) → IsCovered slots q → IsFresh s q k)
    → ((q : Question) → IsFresh s q k → ask w q ≡ ask home q) → Agrees w rs
fresh_agrees home w rs slots s k sound covers fresh known = covers w sound (λ q c. known q (fresh q c))

-- stamps that are small enough for each object
pub all_fresh : (s : Stamps) (slots : SlotsRead) (k : ℕ) → s.others ≤ k → slots.more ≡ false
    → ((o : ℤ) → slots.first ≡ Some o → IsStill s o k) → ((o : ℤ) → slots.second ≡ Some o → IsStill s o k) → ((o : ℤ) → slots.third ≡ Some o → IsStill s o k)
    → (q : Question) → IsCovered slots q → IsFresh s q k
all_fresh s slots k others few first second third (about_slot o p) c =
    (others, elim c [ inl a ↦ first o a | inr b ↦ elim b [ inl a ↦ second o a | inr d ↦ elim d [ inl a ↦ third o a | inr e ↦ absurd (cc) ] ] ])
all_fresh s slots k others few first second third (about_header o) c = others
all_fresh s slots k others few first second third (about_children o) c = others
all_fresh s slots k others few first second third (about_contents o) c = others
all_fresh s slots k others few first second third (about_defines o) c = others
all_fresh s slots k others few first second third (about_verbs o) c = others
all_fresh s slots k others few first second third (about_task i) c = others
all_fresh s slots k others few first second third about_waiting c = others
all_fresh s slots k others few first second third (about_link n) c = others
all_fresh s slots k others few first second third (about_readers n) c = others
all_fresh s slots k others few first second third (about_connections o) c = others
all_fresh s slots k others few first second third about_connected c = others
all_fresh s slots k others few first second third about_greatest c = others
all_fresh s slots k others few first second third about_ending c = others

-- ---- boards

pub le_cases : (k n : ℕ) → k ≤ n → (k < n) ⊎ (k ≡ n)
le_cases zero zero below = inr refl
le_cases zero (suc n) below = inl (omega arith)
le_cases (suc k) zero below = absurd (omega arith)
le_cases (suc k) (suc n) below = elim (le_cases k n (omega arith)) [ inl less ↦ inl (omega (arith, less)) | inr same ↦ inr (ap suc same) ]

-- what a position holds knows what the board's stamps tell
pub knows_fresh : (b : BoardState) (s : Stamps) (at : ℕ) (h : Held) → IsHonest b → AreStamped b.base.plain b.steps (length b.outcomes) b.world.plain s
    → slice_get b.held at ≡ Some h → KnowsFresh h (length b.outcomes) s b.world.plain
knows_fresh b s at h honest stamped is = go h (held_at (IsSeen b.base.plain b.steps) b.held at h honest.seen is)
  where
    go : (x : Held) → IsSeen b.base.plain b.steps x → KnowsFresh x (length b.outcomes) s b.world.plain
    go Empty seen = tt
    go Loss seen = tt
    go (Holds g None) seen = tt
    go (Holds g (Some k)) seen = λ below q fresh. stamped q k below fresh ∙ ap (λ (v : World). ask v q) (sym seen)

-- one more step is committed
pub stamped_next : (base : World) (steps : List Step) (count more : ℕ) (v w : World) (old new : Stamps) → more ≡ suc count → world_after base steps more ≡ w
    → AreStamped base steps count v old → Turns more old new v w → AreStamped base steps more w new
stamped_next base steps count more v w old new is now stamped turns q k below fresh = elim less_or_same [ inl less ↦ before less | inr same ↦ last same ]
  where
    less_or_same : (k < more) ⊎ (k ≡ more)
    less_or_same = le_cases k more below

    before : k < more → ask w q ≡ ask (world_after base steps k) q
    before less =
        let t = turns q k less fresh in
        t.1 ∙ stamped q k (omega (arith, less, is)) t.0

    last : k ≡ more → ask w q ≡ ask (world_after base steps k) q
    last same = ap (λ (x : World). ask x q) (sym now) ∙ ap (λ (i : ℕ). ask (world_after base steps i) q) (sym same)

-- nothing is committed
pub stamped_still : (base : World) (steps : List Step) (count : ℕ) (v w : World) (s : Stamps) → w ≡ v → AreStamped base steps count v s → AreStamped base steps count w s
stamped_still base steps count v w s same stamped q k below fresh = ap (λ (x : World). ask x q) same ∙ stamped q k below fresh

pub stamped_first : (base : World) (steps : List Step) (s : Stamps) → AreStamped base steps 0 base s
stamped_first base steps s q k below fresh =
    let none : k ≡ 0 = omega arith in
    let is_now : world_after base steps k ≡ base = rw none (ap (λ (p : World × List Outcome). p.0) (play_none base steps)) in
    ap (λ (x : World). ask x q) (sym is_now)

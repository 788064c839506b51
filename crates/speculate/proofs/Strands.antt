-- Lanes, step by step.
use Rattle.std.proofs.Common.{inl, inr, ◌≡◌, ◌<◌, ◌≤◌, ◌+◌, ◌∙◌, ℕ, zero, suc, ℤ, Bool, List, [], ◌∷◌, ◌++◌, map, take, length, get_or, reverse, replicate, Some, slice_get, slice_set, Contains, refl, sym, ap, subst, add-one, arith}
use Rattle.std.proofs.lemmas.List.{reverse-reverse, reverse-append, map-set}
use Rattle.std.proofs.lemmas.Option.{slice_get_within, slice_get_read, get_or_from_slice_get}
use Rattle.spec_value.specs.Datum.{Datum, Text}
use Rattle.spec_world.specs.World.{World}
use Rattle.spec_world.specs.Step.{Step, AllInRange}
use Rattle.spec_world.specs.Outcome.{Outcome}
use Rattle.spec_world.specs.Questions.{Question, about_header, about_children, about_contents, about_defines, about_slot, about_verbs, about_task, about_waiting, about_link, about_readers, about_connections, about_connected, about_greatest, about_ending, Change, new_value, new_next, apply, apply_all}
use Rattle.spec_moo.specs.Steps.{play}
use Rattle.view.specs.Facets.{DoesLast}
use Rattle.view.specs.Sound.{IsSound}
use Rattle.world.specs.Marked.{IsOnThese}
use Rattle.speculate.specs.BoardState.{runs}
use Rattle.speculate.specs.Lanes.{IsInside, IsOwn, AllOwn, Does, after_moves, Strand, after_strands, Apart, AreApart, Each, GoesOn, IsWoven, DoesOn, HaveRun, HasRun, strand_of, LanesApart, ArePairApart, IsTaken}
use Rattle.speculate.specs.Tables.{IsThere, Grows}
use Rattle.speculate.specs.Moves.{Move}
use Rattle.speculate.specs.declared.held.Mark.TheVariants.{Kept}
use Rattle.speculate.specs.declared.lane.Lane.{Lane}
use Rattle.speculate.proofs.Plays.{play_none}
use Rattle.speculate.proofs.Stamped.{le_cases}
use Rattle.speculate.proofs.Woven.{course_more, after_more, each_more, own_widens, value_summed, woven_more, woven_out}

-- ---- what was asked

on_these_inside : (os : List ℤ) (ts : List Bool) → ((o : ℤ) → Contains os o → IsThere ts o) → (q : Question) → IsOnThese os q → IsInside ts q
on_these_inside os ts there (about_slot o p) on = there o on
on_these_inside os ts there (about_header o) on = tt
on_these_inside os ts there (about_children o) on = tt
on_these_inside os ts there (about_contents o) on = tt
on_these_inside os ts there (about_defines o) on = tt
on_these_inside os ts there (about_verbs o) on = tt
on_these_inside os ts there (about_task i) on = tt
on_these_inside os ts there about_waiting on = tt
on_these_inside os ts there (about_link c) on = tt
on_these_inside os ts there (about_readers c) on = tt
on_these_inside os ts there (about_connections o) on = tt
on_these_inside os ts there about_connected on = tt
on_these_inside os ts there about_greatest on = tt
on_these_inside os ts there about_ending on = tt

-- ---- changes of a step

own_suc : {X : Type 0} (f : X → Change) (ts us : List Bool) (cs : List X) (i : ℕ) (c : X) → Grows ts us → i < length cs → c ≡ get_or cs i c → IsOwn us (f c)
    → AllOwn ts (map f (take i cs)) → AllOwn us (map f (take (suc i) cs))
own_suc f ts us [] i c grows within is one all = absurd (omega (arith, within))
own_suc f ts us (d ∷ cs) zero c grows within is one all = (subst (λ x. IsOwn us (f x)) is one, tt)
own_suc f ts us (d ∷ cs) (suc i) c grows within is one all = (own_widens ts us (f d) grows all.0, own_suc f ts us cs i c grows (omega (arith, within)) is one all.1)

pub own_more : {X : Type 0} (f : X → Change) (ts us : List Bool) (cs : List X) (i : ℕ) (c : X) → Grows ts us → i < length cs → c ≡ get_or cs i c → IsOwn us (f c)
    → AllOwn ts (map f (take i cs)) → AllOwn us (map f (take (i + 1) cs))
own_more f ts us cs i c grows within is one all = subst (λ (n : ℕ). AllOwn us (map f (take n cs))) (sym (add-one i)) (own_suc f ts us cs i c grows within is one all)

all_taken : {X : Type 0} (xs : List X) (n : ℕ) → length xs ≤ n → take n xs ≡ xs
all_taken [] zero le = refl
all_taken [] (suc n) le = refl
all_taken (x ∷ xs) zero le = absurd (omega (arith, le))
all_taken (x ∷ xs) (suc n) le = ap (λ ys. x ∷ ys) (all_taken xs n (omega (arith, le)))

pub own_all : {X : Type 0} (f : X → Change) (ts : List Bool) (cs : List X) (i : ℕ) → length cs ≤ i → AllOwn ts (map f (take i cs)) → AllOwn ts (map f cs)
own_all f ts cs i end own = subst (λ xs. AllOwn ts (map f xs)) (all_taken cs i end) own

-- another value of a slot, with those before it
pub value_last : (net net' : List Change) (next : ℕ) (c : Change) (o : ℤ) (p : Text) (v : Datum) → c ≡ new_value o p v → DoesLast c net net'
    → (w : World) → apply (new_next next) (apply_all net' w) ≡ apply c (apply (new_next next) (apply_all net w))
value_last net net' next c o p v is last w =
    value_summed net net' next o p v (λ u. last u ∙ ap (λ (d : Change). apply d (apply_all net u)) is) w ∙ ap (λ (d : Change). apply d (apply (new_next next) (apply_all net w))) (sym is)

-- ---- a lane under way

-- one step more
pub went_on : (base now now' : World) (steps : List Step) (read changed read' changed' : List Bool) (net net' : List Change) (next next' : ℕ) (ms ms' : List Move) (m : Move) (os : List ℤ)
    → HaveRun base steps read changed net next ms → now ≡ after_moves ms base → slice_get steps m.position ≡ Some m.step → DoesOn os now m.step m.changes m.outcome
    → Grows read read' → ((o : ℤ) → Contains os o → IsThere read' o) → Grows changed changed' → AllOwn changed' m.changes
    → ((w : World) → apply (new_next next') (apply_all net' w) ≡ apply_all m.changes (apply (new_next next) (apply_all net w)))
    → ms' ≡ ms ++ m ∷ [] → now' ≡ apply_all m.changes now → HaveRun base steps read' changed' net' next' ms' × (now' ≡ after_moves ms' base)
went_on base now now' steps read changed read' changed' net net' next next' ms ms' m os run now_is is does reads there changes own sums told after =
    let D : World → Type 0 = λ v. DoesOn os v m.step m.changes m.outcome in
    let done : DoesOn os (after_moves ms base) m.step m.changes m.outcome = subst D now_is does in
    let inside : Does read' (after_moves ms base) m = λ w sound alike. done w sound (λ q on. alike q (on_these_inside os read' there q on)) in
    let whole : HaveRun base steps read' changed' net' next' (ms ++ m ∷ []) = record {
      course = course_more read changed read' changed' base ms m reads changes run.course inside own;
      summed = λ w. sums w ∙ ap (apply_all m.changes) (run.summed w) ∙ sym (after_more ms m w);
      of_steps = each_more (λ (n : Move). slice_get steps n.position ≡ Some n.step) ms m run.of_steps is;
    } in
    (subst (HaveRun base steps read' changed' net' next') (sym told) whole, after ∙ ap (apply_all m.changes) now_is ∙ sym (after_more ms m base) ∙ ap (λ (xs : List Move). after_moves xs base) (sym told))

-- what is told is turned
pub turned : (base : World) (steps : List Step) (read changed : List Bool) (net : List Change) (next : ℕ) (ms rs : List Move) → HaveRun base steps read changed net next ms → rs ≡ reverse ms
    → HaveRun base steps read changed net next (reverse rs)
turned base steps read changed net next ms rs run is = subst (HaveRun base steps read changed net next) (sym (ap (λ (xs : List Move). reverse xs) is ∙ reverse-reverse ms)) run

-- ---- lanes that are put together

mapped_at : {X Y : Type 0} (f : X → Y) (xs : List X) (k : ℕ) (y : Y) → slice_get (map f xs) k ≡ Some y → (x : X) × (slice_get xs k ≡ Some x) × (y ≡ f x)
mapped_at f [] k y is = cc
mapped_at f (x ∷ xs) zero y is =
    let e : f x ≡ y = cc in (x, refl, sym e)
mapped_at f (x ∷ xs) (suc k) y is = mapped_at f xs k y is

strands_apart : (ls : List Lane) → LanesApart ls → AreApart (map strand_of ls)
strands_apart ls apart i j a b first second other =
    let x = mapped_at strand_of ls i a first in
    let y = mapped_at strand_of ls j b second in
    let was = apart i j x.0 y.0 x.1 y.1 other in
    subst (λ (s : Strand). Apart s.changed b.read × Apart s.changed b.changed) (sym x.2) (subst (λ (t : Strand). Apart (strand_of x.0).changed t.read × Apart (strand_of x.0).changed t.changed) (sym y.2) was)

strands_go_on : (base : World) (steps : List Step) (ls : List Lane) → Each (HasRun base steps) ls → Each (GoesOn steps base) (map strand_of ls)
strands_go_on base steps ls all k s is =
    let x = mapped_at strand_of ls k s is in
    let run : HasRun base steps x.0 = all k x.0 x.1 in
    subst (GoesOn steps base) (sym x.2) (record { from = base; course = run.course; alike = λ q inside. refl; of_steps = run.of_steps })

-- before the first step
pub woven_first : (base end : World) (steps : List Step) (ls : List Lane) → IsSound base → Each (HasRun base steps) ls → LanesApart ls → end ≡ after_strands (map strand_of ls) base
    → IsWoven base steps 0 [] (map strand_of ls) end
woven_first base end steps ls sound all apart leads = record {
  now = base;
  played = play_none base steps;
  sound = sound;
  strands = strands_go_on base steps ls all;
  apart = strands_apart ls apart;
  leads = sym leads;
}

get_mapped : {X Y : Type 0} (f : X → Y) (xs : List X) (k : ℕ) (x : X) → slice_get xs k ≡ Some x → slice_get (map f xs) k ≡ Some (f x)
get_mapped f [] k x is = cc
get_mapped f (y ∷ xs) zero x is =
    let e : y ≡ x = cc in ap (λ z. Some (f z)) e
get_mapped f (y ∷ xs) (suc k) x is = get_mapped f xs k x is

-- the next step is told
pub woven_next : (base end : World) (steps : List Step) (at : ℕ) (os os' : List Outcome) (old new : List Lane) (k : ℕ) (m : Move)
    → IsWoven base steps at os (map strand_of old) end → AllInRange steps → IsTaken old k m new → m.position ≡ at → os' ≡ os ++ m.outcome ∷ [] → IsWoven base steps (at + 1) os' (map strand_of new) end
woven_next base end steps at os os' old new k m woven range taken position is =
    let more = woven_more base steps at os (map strand_of old) end k (strand_of taken.lane) m taken.rest woven range position (get_mapped strand_of old k taken.lane taken.was) taken.first in
    subst (λ (n : ℕ). IsWoven base steps n os' (map strand_of new) end) (omega arith)
    (subst (λ (xs : List Outcome). IsWoven base steps (suc at) xs (map strand_of new) end) (sym is)
    (subst (λ (ss : List Strand). IsWoven base steps (suc at) (os ++ m.outcome ∷ []) ss end) (sym taken.now) more))

-- all is told
pub woven_through : (base end : World) (steps : List Step) (at : ℕ) (os : List Outcome) (ls : List Lane) → IsWoven base steps at os (map strand_of ls) end → length steps ≤ at
    → Each (λ (l : Lane). l.told.items ≡ []) ls → (play base steps ≡ (end, os)) × IsSound end
woven_through base end steps at os ls woven through none =
    let out = woven_out base steps at os (map strand_of ls) end woven (λ k s is.
    let x = mapped_at strand_of ls k s is in
    ap (λ (t : Strand). t.moves) x.2 ∙ ap (λ (ms : List Move). reverse ms) (none k x.0 x.1)) in
    (ap (play base) (sym (all_taken steps at through)) ∙ out.0, out.1)

-- all lanes, which ran from a world on, are woven
pub all_woven : (base home : World) (steps : List Step) (ls apart_ls summed_ls : List Lane) (cs : List Change) (os : List Outcome) → home ≡ base → IsSound base → Each (HasRun home steps) ls
    → apart_ls ≡ ls → LanesApart apart_ls
    → summed_ls ≡ ls → ((b : World) (ss : List Step) → Each (HasRun b ss) summed_ls → (w : World) → apply_all cs w ≡ after_strands (map strand_of summed_ls) w)
    → ((b e : World) → IsWoven b steps 0 [] (map strand_of ls) e → (play b steps ≡ (e, os)) × IsSound e × (length os ≡ length steps))
    → (play base steps ≡ (apply_all cs base, os)) × IsSound (apply_all cs base) × (length os ≡ length steps)
all_woven base home steps ls apart_ls summed_ls cs os same sound ran as_apart apart as_summed summed woven =
    let run : Each (HasRun base steps) ls = subst (λ (w : World). Each (HasRun w steps) ls) same ran in
    let ends : apply_all cs base ≡ after_strands (map strand_of ls) base =
    summed base steps (subst (Each (HasRun base steps)) (sym as_summed) run) base ∙ ap (λ (xs : List Lane). after_strands (map strand_of xs) base) as_summed in
    woven base (apply_all cs base) (woven_first base (apply_all cs base) steps ls sound run (subst LanesApart as_apart apart) ends)

-- the last thing told is taken
pub taken : (old new : List Lane) (k : ℕ) (l l' : Lane) (m : Move) → slice_get old k ≡ Some l → new ≡ slice_set old k l' → l'.read ≡ l.read → l'.changed ≡ l.changed
    → l.told.items ≡ l'.told.items ++ m ∷ [] → IsTaken old k m new
taken old new k l l' m was now read changed told = record {
  lane = l;
  rest = reverse l'.told.items;
  was = was;
  first = ap (λ (ms : List Move). reverse ms) told ∙ reverse-append l'.told.items (m ∷ []);
  now = ap (map strand_of) now ∙ map-set strand_of old k l' ∙ ap (slice_set (map strand_of old) k) same;
}
  where
    same : strand_of l' ≡ record (strand_of l) { moves = reverse l'.told.items }
    same = ap (λ r. record { read = r; changed = l'.changed; moves = reverse l'.told.items }) read
        ∙ ap (λ c. record { read = l.read; changed = c; moves = reverse l'.told.items }) changed

-- one lane more
strands_suc : (ls : List Lane) (i : ℕ) (l : Lane) (w : World) → i < length ls → l ≡ get_or ls i l
    → after_strands (map strand_of (take (suc i) ls)) w ≡ after_moves (reverse l.told.items) (after_strands (map strand_of (take i ls)) w)
strands_suc [] i l w within is = absurd (omega (arith, within))
strands_suc (k ∷ ls) zero l w within is = ap (λ (x : Lane). after_moves (reverse x.told.items) w) (sym is)
strands_suc (k ∷ ls) (suc i) l w within is = strands_suc ls i l (after_moves (reverse k.told.items) w) (omega (arith, within)) is

-- the changes of one lane more
pub lane_more : (base : World) (steps : List Step) (ls : List Lane) (i : ℕ) (l : Lane) (all all' : List Change) → i < length ls → l ≡ get_or ls i l → Each (HasRun base steps) ls
    → ((w : World) → apply_all all' w ≡ apply (new_next l.next) (apply_all l.net (apply_all all w)))
    → ((w : World) → apply_all all w ≡ after_strands (map strand_of (take i ls)) w)
    → (w : World) → apply_all all' w ≡ after_strands (map strand_of (take (i + 1) ls)) w
lane_more base steps ls i l all all' within is run one before w =
    let ran : HasRun base steps l = run i l (slice_get_read ls (length ls) i l refl within is) in
    one w
    ∙ ran.summed (apply_all all w)
    ∙ ap (after_moves (reverse l.told.items)) (before w)
    ∙ sym (strands_suc ls i l w within is)
    ∙ ap (λ (n : ℕ). after_strands (map strand_of (take n ls)) w) (sym (add-one i))

-- pairs of lanes, one after another
pub pair_more : (ls : List Lane) (i n : ℕ) → ((j : ℕ) → j < n → ArePairApart ls i j) → ArePairApart ls i n → (j : ℕ) → j < n + 1 → ArePairApart ls i j
pair_more ls i n before one j below = elim (le_cases j n (omega (arith, below))) [ inl less ↦ before j less | inr same ↦ subst (ArePairApart ls i) (sym same) one ]

pub pair_all : (ls : List Lane) (i n : ℕ) → length ls ≤ n → ((j : ℕ) → j < n → ArePairApart ls i j) → (j : ℕ) → ArePairApart ls i j
pair_all ls i n end all j a b first second other =
    let within = slice_get_within ls j b second in all j (omega (arith, within, end)) a b first second other

pub lanes_more : (ls : List Lane) (n : ℕ) → ((i : ℕ) → i < n → (j : ℕ) → ArePairApart ls i j) → ((j : ℕ) → ArePairApart ls n j) → (i : ℕ) → i < n + 1 → (j : ℕ) → ArePairApart ls i j
lanes_more ls n before one i below = elim (le_cases i n (omega (arith, below))) [ inl less ↦ before i less | inr same ↦ subst (λ (k : ℕ). (j : ℕ) → ArePairApart ls k j) (sym same) one ]

pub lanes_all : (ls : List Lane) (n : ℕ) → length ls ≤ n → ((i : ℕ) → i < n → (j : ℕ) → ArePairApart ls i j) → LanesApart ls
lanes_all ls n end all i j a b first second other =
    let within = slice_get_within ls i a first in all i (omega (arith, within, end)) j a b first second other

pub pair_at : (ls : List Lane) (i j : ℕ) (x y : Lane) → i < length ls → j < length ls → x ≡ get_or ls i x → y ≡ get_or ls j y
    → Apart x.changed y.read × Apart x.changed y.changed → ArePairApart ls i j
pair_at ls i j x y here there is also apart a b first second other =
    let e : x ≡ a = is ∙ get_or_from_slice_get ls i a x first in
    let f : y ≡ b = also ∙ get_or_from_slice_get ls j b y second in
    subst (λ (l : Lane). Apart l.changed b.read × Apart l.changed b.changed) e
    (subst (λ (l : Lane). Apart x.changed l.read × Apart x.changed l.changed) f apart)

-- lanes of which all is told
pub used_more : (ls : List Lane) (n : ℕ) (l : Lane) → n < length ls → l ≡ get_or ls n l → l.told.items ≡ [] → ((i : ℕ) (a : Lane) → i < n → slice_get ls i ≡ Some a → a.told.items ≡ [])
    → (i : ℕ) (a : Lane) → i < n + 1 → slice_get ls i ≡ Some a → a.told.items ≡ []
used_more ls n l within is none before i a below there =
    elim (le_cases i n (omega (arith, below))) [
      | inl less ↦ before i a less there
      | inr same ↦
          let e : l ≡ a = is ∙ get_or_from_slice_get ls n a l (subst (λ (k : ℕ). slice_get ls k ≡ Some a) same there) in subst (λ (x : Lane). x.told.items ≡ []) e none
    ]

pub used_all : (ls : List Lane) (n : ℕ) → length ls ≤ n → ((i : ℕ) (a : Lane) → i < n → slice_get ls i ≡ Some a → a.told.items ≡ []) → Each (λ (l : Lane). l.told.items ≡ []) ls
used_all ls n end all i a there =
    let within = slice_get_within ls i a there in all i a (omega (arith, within, end)) there

pub strands_all : (ls : List Lane) (i : ℕ) (w : World) → length ls ≤ i → after_strands (map strand_of (take i ls)) w ≡ after_strands (map strand_of ls) w
strands_all [] zero w le = refl
strands_all [] (suc i) w le = refl
strands_all (l ∷ ls) zero w le = absurd (omega (arith, le))
strands_all (l ∷ ls) (suc i) w le = strands_all ls i (after_moves (reverse l.told.items) w) (omega (arith, le))

-- ---- marks

pub none_ran : (count : ℕ) → runs (replicate count Kept) ≡ 0
none_ran zero = refl
none_ran (suc count) = none_ran count

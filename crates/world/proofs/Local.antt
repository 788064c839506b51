-- What an answer becomes by changes follows from the answer before them, in worlds whose tasks and links are in order.
use Rattle.std.proofs.Common.{◌≡◌, ℤ, pos, int_le, Bool, true, false, cond, ◌&&◌, List, [], ◌∷◌, map, filter, Option, Some, None, option_map, IsTrue, refl, sym, ◌∙◌, ap}
use Rattle.std.specs.Option.{option_and_then}
use Rattle.std.specs.Ordering.{nat_cmp, int_cmp, int_eq, eq_by_cmp}
use Rattle.std.specs.Cmp.{int_cmp_total, Equal-is}
use Rattle.std.specs.Cmp.Lexicographic.{slice_cmp, nat_list_cmp_total}
use Rattle.std.specs.FinMap.{int_cmp-IsAntisymmetric, slice_cmp-IsAntisymmetric, nat_cmp-IsAntisymmetric}
use Rattle.std.specs.FinMap.Entries.{find-put}
use Rattle.spec_value.specs.Datum.{Datum, Text, fold_case, same_text}
use Rattle.spec_value.specs.Table.{Numbered, at, with, is_numbered, named, with_name}
use Rattle.spec_world.specs.World.{World, Object, Slot, Task, Link, object_at, with_object}
use Rattle.spec_world.specs.Inherit.{slot_of, slot_at, put_slot, with_slot}
use Rattle.spec_world.specs.Families.{change_at, change_object}
use Rattle.spec_world.specs.Links.{reads_on}
use Rattle.spec_world.proofs.Households.{at_changed, at_without}
use Rattle.spec_world.proofs.SlotTables.{text_turned, named_with, named_without}
use Rattle.spec_world.specs.Questions.{Question, about_header, about_children, about_contents, about_defines, about_slot, about_verbs, about_task, about_waiting, about_link, about_readers, about_connections, about_connected, about_greatest, about_ending, Answer, the_header, the_children, the_contents, the_defines, the_slot, the_verbs, the_task, the_waiting, the_link, the_readers, the_connections, the_connected, the_greatest, the_ending, ask, Part, put_header, put_children, put_contents, put_defines, put_verbs, put_slots, put_part, new_slot, slot_on, Change, new_part, new_value, new_object, new_task, new_link, new_greatest, new_ending, new_next, put_value, is_number, put_record, put_task, apply, apply_all}
use Rattle.world.specs.Picked.{pick, picked, changed}
use Rattle.world.proofs.Picked.{picked_put, picked_removed, sorted_changed}

abbrev pub same_number : ℤ → ℤ → Bool
same_number = eq_by_cmp int_cmp

abbrev pub same_name : Text → Text → Bool
same_name = eq_by_cmp (slice_cmp nat_cmp)

pub number_is : (q o : ℤ) → same_number q o ≡ true → q ≡ o
number_is q o e = int_cmp-IsAntisymmetric q o ((Equal-is (int_cmp q o)).0 e)

pub name_is : (s t : Text) → same_name s t ≡ true → s ≡ t
name_is s t e = slice_cmp-IsAntisymmetric nat_cmp-IsAntisymmetric s t ((Equal-is (slice_cmp nat_cmp s t)).0 e)

object_put : (w : World) (o q : ℤ) (y : Object) → object_at (with_object w o y) q ≡ cond (same_number q o) (Some y) (object_at w q)
object_put w o q y = find-put int_cmp int_cmp_total q o y w.objects

slot_put : (x : Object) (p r : Text) (t : Slot) → named (with_name x.slots p t) r ≡ cond (same_name r p) (Some t) (named x.slots r)
slot_put x p r t = find-put (slice_cmp nat_cmp) nat_list_cmp_total r p t x.slots

-- a facet that the change of one object leaves alone
pub facet_stays : {A : Type 0} (f : Object → A) (w : World) (o q : ℤ) (x y : Object) → object_at w o ≡ Some x → f y ≡ f x
    → option_map f (object_at (with_object w o y) q) ≡ option_map f (object_at w q)
facet_stays f w o q x y is same = ap (option_map f) (object_put w o q y) ∙ go (same_number q o) refl
  where
    go : (b : Bool) → same_number q o ≡ b → option_map f (cond b (Some y) (object_at w q)) ≡ option_map f (object_at w q)
    go true e = ap Some same ∙ sym (ap (option_map f) (ap (object_at w) (number_is q o e) ∙ is))
    go false e = refl

-- ---- what an answer becomes

abbrev pub filled : Slot → Datum → Slot
filled s v = record s { content = Some v }

abbrev pub refilled : Bool → Datum → Option Slot → Option Slot
refilled b v s = cond b (option_map (λ t. filled t v) s) s

pub slot_with : Part → Text → Option Slot → Option Slot
slot_with (new_slot p t) r s = cond (same_text (fold_case r) (fold_case p)) t s
slot_with _ r s = s

-- whether another record, or none, for a number is one for this number
pub hits : {X : Type 0} → ℤ → Option X → ℤ → Bool
hits n None q = int_eq q n
hits n (Some x) q = is_number n && int_eq q n

-- whether anything comes of another record, or none, for a number
pub acts : {X : Type 0} → ℤ → Option X → Bool
acts n None = true
acts n (Some x) = is_number n

-- a list of numbers, to which one comes, or from which it goes
abbrev numbers : Numbered (Unit {0}) → List ℤ
numbers es = map (λ e. e.0) es

abbrev entries : List ℤ → Numbered (Unit {0})
entries ns = map (λ n. (n, tt)) ns

abbrev renumbered : ℤ → Option (Unit {0}) → List ℤ → List ℤ
renumbered n u ns = numbers (changed int_cmp n u (entries ns))

abbrev if_so : {X : Type 0} → (X → Bool) → X → Option (Unit {0})
if_so p x = cond (p x) (Some tt) None

abbrev reads : ℤ → Task → Bool
reads c t = reads_on c t.waiting

abbrev belongs : ℤ → Link → Bool
belongs o k = int_eq k.person o

abbrev player_on : Link → Option ℤ
player_on k = cond (int_le (pos 0) k.person) (Some k.person) None

abbrev pub after : Change → Question → Answer → Answer
after (new_part o a) (about_header q) (the_header h) = the_header (cond (int_eq q o) (option_map (put_header a) h) h)
after (new_part o a) (about_children q) (the_children os) = the_children (cond (int_eq q o) (option_map (put_children a) os) os)
after (new_part o a) (about_contents q) (the_contents os) = the_contents (cond (int_eq q o) (option_map (put_contents a) os) os)
after (new_part o a) (about_defines q) (the_defines ts) = the_defines (cond (int_eq q o) (option_map (put_defines a) ts) ts)
after (new_part o a) (about_slot q r) (the_slot s) = the_slot (cond (int_eq q o) (option_map (slot_with a r) s) s)
after (new_part o a) (about_verbs q) (the_verbs vs) = the_verbs (cond (int_eq q o) (option_map (put_verbs a) vs) vs)
after (new_value o p v) (about_slot q r) (the_slot s) = the_slot (option_map (refilled (same_number q o && same_name (fold_case r) (fold_case p)) v) s)
after (new_object o x) (about_header q) (the_header h) = the_header (cond (hits o x q) (option_map (λ y. y.header) x) h)
after (new_object o x) (about_children q) (the_children os) = the_children (cond (hits o x q) (option_map (λ y. y.children) x) os)
after (new_object o x) (about_contents q) (the_contents os) = the_contents (cond (hits o x q) (option_map (λ y. y.contents) x) os)
after (new_object o x) (about_defines q) (the_defines ts) = the_defines (cond (hits o x q) (option_map (λ y. y.defines) x) ts)
after (new_object o x) (about_slot q r) (the_slot s) = the_slot (cond (hits o x q) (option_map (λ y. named y.slots (fold_case r)) x) s)
after (new_object o x) (about_verbs q) (the_verbs vs) = the_verbs (cond (hits o x q) (option_map (λ y. y.verbs) x) vs)
after (new_task i t) (about_task j) (the_task u) = the_task (cond (int_eq j i) t u)
after (new_task i t) about_waiting (the_waiting is) = the_waiting (renumbered i (option_and_then (if_so (λ _. true)) t) is)
after (new_task i t) (about_readers c) (the_readers is) = the_readers (renumbered i (option_and_then (if_so (reads c)) t) is)
after (new_link c k) (about_link d) (the_link l) = the_link (cond (hits c k d) k l)
after (new_link c k) (about_connections o) (the_connections cs) = the_connections (cond (acts c k) (renumbered c (option_and_then (if_so (belongs o)) k) cs) cs)
after (new_link c k) about_connected (the_connected ps) = the_connected (cond (acts c k) (changed int_cmp c (option_and_then player_on k) ps) ps)
after (new_greatest o) about_greatest a = the_greatest o
after (new_ending b) about_ending a = the_ending b
after c q a = a

unchanged : (b : Bool) (v : Datum) (s : Option Slot) → (b ≡ true → s ≡ None) → s ≡ refilled b v s
unchanged true v s none = none refl ∙ ap (option_map (λ t. filled t v)) (sym (none refl))
unchanged false v s none = refl

pub both_true : (a b : Bool) → (a && b) ≡ true → (a ≡ true) × (b ≡ true)
both_true true true e = (refl, refl)
both_true true false e = cc
both_true false b e = cc

slot_named : Option Object → Text → Option Slot
slot_named None t = None
slot_named (Some x) t = named x.slots t

slot_of_named : (x : Option Object) (p : Text) → slot_of x p ≡ slot_named x (fold_case p)
unfolding slot_named
slot_of_named None p = refl
slot_of_named (Some x) p = refl

here : (w : World) (o q : ℤ) (p r : Text) → (same_number q o && same_name (fold_case r) (fold_case p)) ≡ true → slot_at w q r ≡ slot_at w o p
here w o q p r e =
    let parts = both_true (same_number q o) (same_name (fold_case r) (fold_case p)) e in
    ap (λ (n : ℤ). slot_at w n r) (number_is q o parts.0) ∙ slot_of_named (object_at w o) r
    ∙ ap (slot_named (object_at w o)) (name_is (fold_case r) (fold_case p) parts.1) ∙ sym (slot_of_named (object_at w o) p)

nothing_slot : (w : World) (o q : ℤ) (p r : Text) (v : Datum) → slot_at w o p ≡ None
    → slot_on w q r ≡ option_map (refilled (same_number q o && same_name (fold_case r) (fold_case p)) v) (slot_on w q r)
nothing_slot w o q p r v none = go (object_at w q) refl
  where
    go : (y : Option Object) → object_at w q ≡ y
        → option_map (λ x. named x.slots (fold_case r)) y ≡ option_map (refilled (same_number q o && same_name (fold_case r) (fold_case p)) v) (option_map (λ x. named x.slots (fold_case r)) y)
    go None is = refl
    go (Some x) is = ap Some (unchanged _ v (named x.slots (fold_case r)) (λ e. ap (λ (z : Option Object). slot_of z r) (sym is) ∙ here w o q p r e ∙ none))

-- where there was no such slot
nothing_after : (w : World) (o : ℤ) (p : Text) (v : Datum) → slot_at w o p ≡ None → (q : Question) → ask w q ≡ after (new_value o p v) q (ask w q)
nothing_after w o p v none (about_header q) = refl
nothing_after w o p v none (about_children q) = refl
nothing_after w o p v none (about_contents q) = refl
nothing_after w o p v none (about_defines q) = refl
nothing_after w o p v none (about_slot q r) = ap the_slot (nothing_slot w o q p r v none)
nothing_after w o p v none (about_verbs q) = refl
nothing_after w o p v none (about_task i) = refl
nothing_after w o p v none about_waiting = refl
nothing_after w o p v none (about_link c) = refl
nothing_after w o p v none (about_readers c) = refl
nothing_after w o p v none (about_connections q) = refl
nothing_after w o p v none about_connected = refl
nothing_after w o p v none about_greatest = refl
nothing_after w o p v none about_ending = refl

abbrev revalued : Object → Text → Slot → Object
revalued x p t = record x { slots = with_name x.slots (fold_case p) t }

slot_after : (w : World) (o q : ℤ) (p r : Text) (v : Datum) (x : Object) (s : Slot) → object_at w o ≡ Some x → named x.slots (fold_case p) ≡ Some s
    → slot_on (with_object w o (revalued x p (filled s v))) q r ≡ option_map (refilled (same_number q o && same_name (fold_case r) (fold_case p)) v) (slot_on w q r)
slot_after w o q p r v x s is at_p =
    ap (option_map (λ (z : Object). named z.slots (fold_case r))) (object_put w o q (revalued x p (filled s v))) ∙ on_object (same_number q o) refl
  where
    on_name : (c : Bool) → same_name (fold_case r) (fold_case p) ≡ c → cond c (Some (filled s v)) (named x.slots (fold_case r)) ≡ refilled c v (named x.slots (fold_case r))
    on_name true e = sym (ap (option_map (λ t. filled t v)) (ap (named x.slots) (name_is (fold_case r) (fold_case p) e) ∙ at_p))
    on_name false e = refl

    the_same : (y : Option (Option Slot)) → y ≡ option_map (refilled false v) y
    the_same None = refl
    the_same (Some t) = refl

    on_object : (b : Bool) → same_number q o ≡ b
        → option_map (λ (z : Object). named z.slots (fold_case r)) (cond b (Some (revalued x p (filled s v))) (object_at w q))
        ≡ option_map (refilled (b && same_name (fold_case r) (fold_case p)) v) (slot_on w q r)
    on_object true e =
        ap Some (slot_put x (fold_case p) (fold_case r) (filled s v) ∙ on_name (same_name (fold_case r) (fold_case p)) refl)
        ∙ ap (λ (z : Option Object). option_map (refilled (same_name (fold_case r) (fold_case p)) v) (option_map (λ (y : Object). named y.slots (fold_case r)) z)) (sym (ap (object_at w) (number_is q o e) ∙ is))
    on_object false e = the_same (slot_on w q r)

-- where there was one
something_after : (w : World) (o : ℤ) (p : Text) (v : Datum) (x : Object) (s : Slot) → object_at w o ≡ Some x → named x.slots (fold_case p) ≡ Some s
    → (q : Question) → ask (with_object w o (revalued x p (filled s v))) q ≡ after (new_value o p v) q (ask w q)
something_after w o p v x s is at_p (about_header q) = ap the_header (facet_stays (λ z. z.header) w o q x (revalued x p (filled s v)) is refl)
something_after w o p v x s is at_p (about_children q) = ap the_children (facet_stays (λ z. z.children) w o q x (revalued x p (filled s v)) is refl)
something_after w o p v x s is at_p (about_contents q) = ap the_contents (facet_stays (λ z. z.contents) w o q x (revalued x p (filled s v)) is refl)
something_after w o p v x s is at_p (about_defines q) = ap the_defines (facet_stays (λ z. z.defines) w o q x (revalued x p (filled s v)) is refl)
something_after w o p v x s is at_p (about_slot q r) = ap the_slot (slot_after w o q p r v x s is at_p)
something_after w o p v x s is at_p (about_verbs q) = ap the_verbs (facet_stays (λ z. z.verbs) w o q x (revalued x p (filled s v)) is refl)
something_after w o p v x s is at_p (about_task i) = refl
something_after w o p v x s is at_p about_waiting = refl
something_after w o p v x s is at_p (about_link c) = refl
something_after w o p v x s is at_p (about_readers c) = refl
something_after w o p v x s is at_p (about_connections q) = refl
something_after w o p v x s is at_p about_connected = refl
something_after w o p v x s is at_p about_greatest = refl
something_after w o p v x s is at_p about_ending = refl

-- where another part of an object comes
facet_changed : {A : Type 0} (get : Object → A) (f : Object → Object) (g : A → A) → ((x : Object) → get (f x) ≡ g (get x)) → (w : World) (o q : ℤ)
    → option_map get (object_at (change_object w o f) q) ≡ cond (int_eq q o) (option_map g (option_map get (object_at w q))) (option_map get (object_at w q))
facet_changed get f g fits w o q = ap (option_map get) (at_changed w o q f) ∙ go (int_eq q o) (object_at w q)
  where
    go : (b : Bool) (y : Option Object) → option_map get (cond b (option_map f y) y) ≡ cond b (option_map g (option_map get y)) (option_map get y)
    go true None = refl
    go true (Some x) = ap Some (fits x)
    go false y = refl

slot_fits : (a : Part) (r : Text) (x : Object) → named (put_slots a x.slots) (fold_case r) ≡ slot_with a r (named x.slots (fold_case r))
unfolding slot_with
slot_fits (new_slot p None) r x =
    named_without x.slots (fold_case p) (fold_case r) ∙ ap (λ b. cond b None (named x.slots (fold_case r))) (text_turned (fold_case p) (fold_case r))
slot_fits (new_slot p (Some s)) r x = named_with x.slots (fold_case p) (fold_case r) s
slot_fits _ r x = refl

part_after : (o : ℤ) (a : Part) (w : World) (q : Question) → ask (change_object w o (put_part a)) q ≡ after (new_part o a) q (ask w q)
part_after o a w (about_header q) = ap the_header (facet_changed (λ x. x.header) (put_part a) (put_header a) (λ x. refl) w o q)
part_after o a w (about_children q) = ap the_children (facet_changed (λ x. x.children) (put_part a) (put_children a) (λ x. refl) w o q)
part_after o a w (about_contents q) = ap the_contents (facet_changed (λ x. x.contents) (put_part a) (put_contents a) (λ x. refl) w o q)
part_after o a w (about_defines q) = ap the_defines (facet_changed (λ x. x.defines) (put_part a) (put_defines a) (λ x. refl) w o q)
part_after o a w (about_slot q r) = ap the_slot (facet_changed (λ x. named x.slots (fold_case r)) (put_part a) (slot_with a r) (slot_fits a r) w o q)
part_after o a w (about_verbs q) = ap the_verbs (facet_changed (λ x. x.verbs) (put_part a) (put_verbs a) (λ x. refl) w o q)
part_after o a w q = rest (object_at w o)
  where
    rest : (x : Option Object) → ask (change_at w o (put_part a) x) q ≡ after (new_part o a) q (ask w q)
    rest None = refl
    rest (Some x) = refl

-- where another record, or none, comes
at_record : {X : Type 0} (m : Numbered X) (n q : ℤ) (x : Option X) → at (put_record m n x) q ≡ cond (hits n x q) x (at m q)
unfolding hits
at_record m n q None = at_without m n q
at_record m n q (Some x) = go (is_number n)
  where
    go : (b : Bool) → at (cond b (with m n x) m) q ≡ cond (b && int_eq q n) (Some x) (at m q)
    go true = find-put int_cmp int_cmp_total q n x m
    go false = refl

either_way : {A B : Type 0} (f : A → B) (b : Bool) (x y : A) → f (cond b x y) ≡ cond b (f x) (f y)
either_way f true x y = refl
either_way f false x y = refl

object_after : (o : ℤ) (x : Option Object) (w : World) (q : Question) → ask (record w { objects = put_record w.objects o x }) q ≡ after (new_object o x) q (ask w q)
object_after o x w (about_header q) = ap (λ y. the_header (option_map (λ z. z.header) y)) (at_record w.objects o q x) ∙ ap the_header (either_way (option_map (λ z. z.header)) (hits o x q) x (object_at w q))
object_after o x w (about_children q) = ap (λ y. the_children (option_map (λ z. z.children) y)) (at_record w.objects o q x) ∙ ap the_children (either_way (option_map (λ z. z.children)) (hits o x q) x (object_at w q))
object_after o x w (about_contents q) = ap (λ y. the_contents (option_map (λ z. z.contents) y)) (at_record w.objects o q x) ∙ ap the_contents (either_way (option_map (λ z. z.contents)) (hits o x q) x (object_at w q))
object_after o x w (about_defines q) = ap (λ y. the_defines (option_map (λ z. z.defines) y)) (at_record w.objects o q x) ∙ ap the_defines (either_way (option_map (λ z. z.defines)) (hits o x q) x (object_at w q))
object_after o x w (about_slot q r) = ap (λ y. the_slot (option_map (λ z. named z.slots (fold_case r)) y)) (at_record w.objects o q x) ∙ ap the_slot (either_way (option_map (λ z. named z.slots (fold_case r))) (hits o x q) x (object_at w q))
object_after o x w (about_verbs q) = ap (λ y. the_verbs (option_map (λ z. z.verbs) y)) (at_record w.objects o q x) ∙ ap the_verbs (either_way (option_map (λ z. z.verbs)) (hits o x q) x (object_at w q))
object_after o x w q = refl

-- ---- what is listed of tasks and links

-- worlds whose tasks and links are in order
pub record InOrder (w : World) : Type 0 where
  pub tasks : IsTrue (is_numbered w.tasks)
  pub links : IsTrue (is_numbered w.links)

picked_changed : {X Y : Type 0} (f : X → Option Y) (m : Numbered X) (n : ℤ) (x : Option X) → IsTrue (is_numbered m)
    → picked f (changed int_cmp n x m) ≡ changed int_cmp n (option_and_then f x) (picked f m)
picked_changed f m n None sorted = picked_removed int_cmp_total int_cmp-IsAntisymmetric f n m
picked_changed f m n (Some x) sorted = picked_put int_cmp_total int_cmp-IsAntisymmetric f n x m sorted

entries_back : (es : Numbered (Unit {0})) → entries (numbers es) ≡ es
entries_back [] = refl
entries_back (e ∷ es) = ap (λ ds. e ∷ ds) (entries_back es)

-- those for which a test holds are picked
numbers_if : {X : Type 0} (p : X → Bool) (m : Numbered X) → map (λ e. e.0) (filter (λ e. p e.1) m) ≡ numbers (picked (if_so p) m)
numbers_if p [] = refl
numbers_if p (e ∷ m) = go (p e.1) (numbers_if p m)
  where
    go : (b : Bool) → map (λ x. x.0) (filter (λ x. p x.1) m) ≡ numbers (picked (if_so p) m)
        → map (λ x. x.0) (cond b (e ∷ filter (λ x. p x.1) m) (filter (λ x. p x.1) m)) ≡ numbers (pick e.0 (cond b (Some tt) None) (picked (if_so p) m))
    go true rest = ap (λ ns. e.0 ∷ ns) rest
    go false rest = rest

all_numbers : {X : Type 0} (m : Numbered X) → map (λ e. e.0) m ≡ numbers (picked (if_so (λ _. true)) m)
all_numbers [] = refl
all_numbers (e ∷ m) = ap (λ ns. e.0 ∷ ns) (all_numbers m)

players_picked : (m : Numbered Link) → map (λ e. (e.0, (e.1).person)) (filter (λ e. int_le (pos 0) (e.1).person) m) ≡ picked player_on m
players_picked [] = refl
players_picked (e ∷ m) = go (int_le (pos 0) (e.1).person) (players_picked m)
  where
    go : (b : Bool) → map (λ x. (x.0, (x.1).person)) (filter (λ x. int_le (pos 0) (x.1).person) m) ≡ picked player_on m
        → map (λ x. (x.0, (x.1).person)) (cond b (e ∷ filter (λ x. int_le (pos 0) (x.1).person) m) (filter (λ x. int_le (pos 0) (x.1).person) m))
        ≡ pick e.0 (cond b (Some (e.1).person) None) (picked player_on m)
    go true rest = ap (λ ps. (e.0, (e.1).person) ∷ ps) rest
    go false rest = rest

picked_numbers : {X : Type 0} (p : X → Bool) (m : Numbered X) (n : ℤ) (x : Option X) → IsTrue (is_numbered m)
    → numbers (picked (if_so p) (changed int_cmp n x m)) ≡ renumbered n (option_and_then (if_so p) x) (numbers (picked (if_so p) m))
picked_numbers p m n x sorted =
    ap numbers (picked_changed (if_so p) m n x sorted)
    ∙ ap (λ es. numbers (changed int_cmp n (option_and_then (if_so p) x) es)) (sym (entries_back (picked (if_so p) m)))

numbers_changed : {X : Type 0} (p : X → Bool) (m : Numbered X) (n : ℤ) (x : Option X) → IsTrue (is_numbered m)
    → map (λ e. e.0) (filter (λ e. p e.1) (changed int_cmp n x m)) ≡ renumbered n (option_and_then (if_so p) x) (map (λ e. e.0) (filter (λ e. p e.1) m))
numbers_changed p m n x sorted =
    numbers_if p (changed int_cmp n x m) ∙ picked_numbers p m n x sorted ∙ ap (renumbered n (option_and_then (if_so p) x)) (sym (numbers_if p m))

all_changed : {X : Type 0} (m : Numbered X) (n : ℤ) (x : Option X) → IsTrue (is_numbered m)
    → map (λ e. e.0) (changed int_cmp n x m) ≡ renumbered n (option_and_then (if_so (λ _. true)) x) (map (λ e. e.0) m)
all_changed m n x sorted =
    all_numbers (changed int_cmp n x m) ∙ picked_numbers (λ _. true) m n x sorted
    ∙ ap (renumbered n (option_and_then (if_so (λ _. true)) x)) (sym (all_numbers m))

-- another task, or none
task_changed : (m : Numbered Task) (i : ℤ) (t : Option Task) → put_task m i t ≡ changed int_cmp i t m
task_changed m i None = refl
task_changed m i (Some t) = refl

task_at : (m : Numbered Task) (i j : ℤ) (t : Option Task) → at (put_task m i t) j ≡ cond (int_eq j i) t (at m j)
task_at m i j None = at_without m i j
task_at m i j (Some t) = find-put int_cmp int_cmp_total j i t m

task_after : (i : ℤ) (t : Option Task) (w : World) → IsTrue (is_numbered w.tasks) → (q : Question) → ask (record w { tasks = put_task w.tasks i t }) q ≡ after (new_task i t) q (ask w q)
task_after i t w sorted (about_task j) = ap the_task (task_at w.tasks i j t)
task_after i t w sorted about_waiting = ap (λ m. the_waiting (map (λ e. e.0) m)) (task_changed w.tasks i t) ∙ ap the_waiting (all_changed w.tasks i t sorted)
task_after i t w sorted (about_readers c) =
    ap (λ m. the_readers (map (λ e. e.0) (filter (λ e. reads c e.1) m))) (task_changed w.tasks i t) ∙ ap the_readers (numbers_changed (reads c) w.tasks i t sorted)
task_after i t w sorted (about_header q) = refl
task_after i t w sorted (about_children q) = refl
task_after i t w sorted (about_contents q) = refl
task_after i t w sorted (about_defines q) = refl
task_after i t w sorted (about_slot q r) = refl
task_after i t w sorted (about_verbs q) = refl
task_after i t w sorted (about_link c) = refl
task_after i t w sorted (about_connections o) = refl
task_after i t w sorted about_connected = refl
task_after i t w sorted about_greatest = refl
task_after i t w sorted about_ending = refl

-- another link, or none
record_changed : {X : Type 0} (m : Numbered X) (n : ℤ) (x : Option X) → put_record m n x ≡ cond (acts n x) (changed int_cmp n x m) m
unfolding acts
record_changed m n None = refl
record_changed m n (Some x) = refl

links_changed : (o : ℤ) (m : Numbered Link) (c : ℤ) (k : Option Link) → IsTrue (is_numbered m) → (b : Bool)
    → map (λ e. e.0) (filter (λ e. belongs o e.1) (cond b (changed int_cmp c k m) m))
    ≡ cond b (renumbered c (option_and_then (if_so (belongs o)) k) (map (λ e. e.0) (filter (λ e. belongs o e.1) m))) (map (λ e. e.0) (filter (λ e. belongs o e.1) m))
links_changed o m c k sorted true = numbers_changed (belongs o) m c k sorted
links_changed o m c k sorted false = refl

players_of : Numbered Link → List (ℤ × ℤ)
players_of m = map (λ e. (e.0, (e.1).person)) (filter (λ e. int_le (pos 0) (e.1).person) m)

players_changed : (m : Numbered Link) (c : ℤ) (k : Option Link) → IsTrue (is_numbered m) → (b : Bool)
    → players_of (cond b (changed int_cmp c k m) m) ≡ cond b (changed int_cmp c (option_and_then player_on k) (players_of m)) (players_of m)
unfolding players_of
players_changed m c k sorted true =
    players_picked (changed int_cmp c k m) ∙ picked_changed player_on m c k sorted ∙ ap (changed int_cmp c (option_and_then player_on k)) (sym (players_picked m))
players_changed m c k sorted false = refl

link_after : (c : ℤ) (k : Option Link) (w : World) → IsTrue (is_numbered w.links) → (q : Question) → ask (record w { links = put_record w.links c k }) q ≡ after (new_link c k) q (ask w q)
unfolding players_of
link_after c k w sorted (about_link d) = ap the_link (at_record w.links c d k)
link_after c k w sorted (about_connections o) =
    ap (λ m. the_connections (map (λ e. e.0) (filter (λ e. belongs o e.1) m))) (record_changed w.links c k) ∙ ap the_connections (links_changed o w.links c k sorted (acts c k))
link_after c k w sorted about_connected = ap (λ m. the_connected (players_of m)) (record_changed w.links c k) ∙ ap the_connected (players_changed w.links c k sorted (acts c k))
link_after c k w sorted (about_header q) = refl
link_after c k w sorted (about_children q) = refl
link_after c k w sorted (about_contents q) = refl
link_after c k w sorted (about_defines q) = refl
link_after c k w sorted (about_slot q r) = refl
link_after c k w sorted (about_verbs q) = refl
link_after c k w sorted (about_task i) = refl
link_after c k w sorted about_waiting = refl
link_after c k w sorted (about_readers d) = refl
link_after c k w sorted about_greatest = refl
link_after c k w sorted about_ending = refl

-- ---- each change keeps the order

changed_in_order : {X : Type 0} (m : Numbered X) (n : ℤ) (x : Option X) → IsTrue (is_numbered m) → IsTrue (is_numbered (changed int_cmp n x m))
changed_in_order m n x h = sorted_changed int_cmp_total int_cmp-IsAntisymmetric n x m h

record_in_order : {X : Type 0} (m : Numbered X) (n : ℤ) (x : Option X) → IsTrue (is_numbered m) → IsTrue (is_numbered (put_record m n x))
record_in_order m n None h = changed_in_order m n None h
record_in_order m n (Some x) h = go (is_number n)
  where
    go : (b : Bool) → IsTrue (is_numbered (cond b (with m n x) m))
    go true = changed_in_order m n (Some x) h
    go false = h

pub stays_in_order : (c : Change) (w : World) → InOrder w → InOrder (apply c w)
unfolding with_slot
stays_in_order (new_part o a) w h = go (object_at w o)
  where
    go : (x : Option Object) → InOrder (change_at w o (put_part a) x)
    go None = h
    go (Some x) = record { tasks = h.tasks; links = h.links }
stays_in_order (new_value o p v) w h = by_slot (slot_at w o p)
  where
    by_object : (s : Slot) (x : Option Object) → InOrder (put_slot w o p s x)
    by_object s None = h
    by_object s (Some x) = record { tasks = h.tasks; links = h.links }

    by_slot : (s : Option Slot) → InOrder (put_value w o p v s)
    by_slot None = h
    by_slot (Some s) = by_object (filled s v) (object_at w o)
stays_in_order (new_object o x) w h = record { tasks = h.tasks; links = h.links }
stays_in_order (new_task i None) w h = record { tasks = changed_in_order w.tasks i None h.tasks; links = h.links }
stays_in_order (new_task i (Some t)) w h = record { tasks = changed_in_order w.tasks i (Some t) h.tasks; links = h.links }
stays_in_order (new_link c k) w h = record { tasks = h.tasks; links = record_in_order w.links c k h.links }
stays_in_order (new_greatest o) w h = record { tasks = h.tasks; links = h.links }
stays_in_order (new_ending b) w h = record { tasks = h.tasks; links = h.links }
stays_in_order (new_next n) w h = record { tasks = h.tasks; links = h.links }

-- ---- each change

pub value_after : (o : ℤ) (p : Text) (v : Datum) (w : World) (q : Question) → ask (apply (new_value o p v) w) q ≡ after (new_value o p v) q (ask w q)
unfolding with_slot
value_after o p v w q = by_slot (slot_at w o p) refl
  where
    by_object : (s : Slot) (z : Option Object) → object_at w o ≡ z → slot_of z p ≡ Some s → ask (put_slot w o p (filled s v) z) q ≡ after (new_value o p v) q (ask w q)
    by_object s None is e = cc
    by_object s (Some x) is e = something_after w o p v x s is e q

    by_slot : (s : Option Slot) → slot_at w o p ≡ s → ask (put_value w o p v s) q ≡ after (new_value o p v) q (ask w q)
    by_slot None e = nothing_after w o p v e q
    by_slot (Some s) e = by_object s (object_at w o) refl e

one_after : (c : Change) (w : World) (q : Question) → InOrder w → ask (apply c w) q ≡ after c q (ask w q)
one_after (new_part o a) w q h = part_after o a w q
one_after (new_value o p v) w q h = value_after o p v w q
one_after (new_object o x) w q h = object_after o x w q
one_after (new_task i t) w q h = task_after i t w h.tasks q
one_after (new_link c k) w q h = link_after c k w h.links q
one_after c w (about_header q) h = refl
one_after c w (about_children q) h = refl
one_after c w (about_contents q) h = refl
one_after c w (about_defines q) h = refl
one_after c w (about_slot q r) h = refl
one_after c w (about_verbs q) h = refl
one_after c w (about_task i) h = refl
one_after c w about_waiting h = refl
one_after c w (about_link d) h = refl
one_after c w (about_readers d) h = refl
one_after c w (about_connections o) h = refl
one_after c w about_connected h = refl
one_after c w about_greatest h = refl
one_after c w about_ending h = refl

-- worlds that answer a question alike still do after changes
pub alike_after : (cs : List Change) (w v : World) (q : Question) → InOrder w → InOrder v → ask w q ≡ ask v q → ask (apply_all cs w) q ≡ ask (apply_all cs v) q
alike_after [] w v q w_order v_order e = e
alike_after (c ∷ cs) w v q w_order v_order e =
    alike_after cs (apply c w) (apply c v) q (stays_in_order c w w_order) (stays_in_order c v v_order) (one_after c w q w_order ∙ ap (after c q) e ∙ sym (one_after c v q v_order))

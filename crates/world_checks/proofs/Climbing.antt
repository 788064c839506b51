-- Ranks of objects along a way: a line of those that have none yet is climbed, and each of it gets its depth.
use Rattle.std.proofs.Common.{◌≡◌, ◌⊎◌, inl, inr, ◌∙◌, refl, sym, ap, subst, ℕ, zero, suc, ◌+◌, ◌<◌, ◌≤◌, ℤ, Bool, true, false, ◌||◌, List, [], ◌∷◌, ◌++◌, length, take, Some, None, IsTrue, arith}
use Rattle.std.specs.Prelude.{slice_get}
use Rattle.std.specs.Ordering.{int_eq}
use Rattle.std.specs.List.{list_all}
use Rattle.std.proofs.lemmas.List.Folds.{list_all-append, list_any-append}
use Rattle.std.proofs.lemmas.Option.{slice_get_within}
use Rattle.spec_value.proofs.Entries.{first_holds, second_holds, both_hold}
use Rattle.spec_value.proofs.Same.{integer_itself}
use Rattle.spec_world.specs.World.{World, Object, object_at}
use Rattle.spec_world.specs.WellFormed.{lists}
use Rattle.spec_world.proofs.Trees.{some_same, first_of, second_of, same_or_not, other}
use Rattle.world_checks.specs.Marks.{mark_of, may_mark}
use Rattle.world_checks.specs.Guessed.{IsDepth, AllMarked, AllListed, Ranked, MayBeRanked, FallsFrom, KeptBeside, Climbed, Settled}
use Rattle.world_checks.specs.Ways.{up_of}
use Rattle.world_checks.specs.declared.object_checks.way.Way.{Way}
use Rattle.world_checks.proofs.Placed.{Given, given_other, given_itself, place_of, listed_at}
use Rattle.world_checks.proofs.Depths.{no_depth}

-- ---- a list and one more behind it

pub at_end : (xs : List ℤ) (x : ℤ) (k : ℕ) (y : ℤ) → slice_get (xs ++ x ∷ []) k ≡ Some y → (slice_get xs k ≡ Some y) ⊎ ((k ≡ length xs) × (y ≡ x))
at_end [] x zero y is = inr (refl, some_same (sym is))
at_end [] x (suc k) y is = cc
at_end (z ∷ xs) x zero y is = inl is
at_end (z ∷ xs) x (suc k) y is = go (at_end xs x k y is)
  where
    go : (slice_get xs k ≡ Some y) ⊎ ((k ≡ length xs) × (y ≡ x)) → (slice_get xs k ≡ Some y) ⊎ ((suc k ≡ suc (length xs)) × (y ≡ x))
    go (inl e) = inl e
    go (inr e) = inr (ap suc e.0, e.1)

not_in : (xs : List ℤ) (x o : ℤ) → lists (xs ++ x ∷ []) o ≡ false → (lists xs o ≡ false) × (int_eq o x ≡ false)
not_in xs x o h = go (lists xs o) (int_eq o x) refl refl (sym (list_any-append (int_eq o) xs (x ∷ [])) ∙ h)
  where
    go : (a b : Bool) → lists xs o ≡ a → int_eq o x ≡ b → (a || (b || false)) ≡ false → (lists xs o ≡ false) × (int_eq o x ≡ false)
    go true b e f h = cc
    go false true e f h = cc
    go false false e f h = (e, f)

at_least_there : (xs : List ℤ) (x o : ℤ) → IsTrue (lists xs o) → IsTrue (lists (xs ++ x ∷ []) o)
at_least_there xs x o h = list_any-append (int_eq o) xs (x ∷ []) ∙ first_of (lists xs o) _ h

is_there : (xs : List ℤ) (x : ℤ) → IsTrue (lists (xs ++ x ∷ []) x)
is_there xs x = list_any-append (int_eq x) xs (x ∷ []) ∙ second_of (lists xs x) _ (first_of (int_eq x x) false (integer_itself x))

one_longer : (xs : List ℤ) (x : ℤ) → length (xs ++ x ∷ []) ≡ suc (length xs)
one_longer [] x = refl
one_longer (y ∷ xs) x = ap suc (one_longer xs x)

-- on a line along which the depth falls no depth is twice
not_on_line : (depth : ℤ → ℕ) (total : ℕ) (line : List ℤ) (o : ℤ) → FallsFrom depth total line → depth o + length line ≤ total → lists line o ≡ false
not_on_line depth total line o falls le = go (lists line o) refl
  where
    go : (b : Bool) → lists line o ≡ b → lists line o ≡ false
    go false e = e
    go true e =
        let r = place_of line o e in
        let at = falls r.0 o r.1 in
        let lt = slice_get_within line r.0 o r.1 in
        absurd (omega (arith, at, lt, le))

-- ---- upwards

-- with a line of so many steps from one object to another number
pub record Climbing (depth : ℤ → ℕ) (w : World) (was is : List ℕ × List ℕ) (from here : ℤ) (line : List ℤ) (steps : ℕ) : Type 0 where
  pub falls : FallsFrom depth (depth from) line
  pub rest : depth here + length line ≡ depth from
  pub count : length line ≡ steps
  pub marked : IsTrue (list_all may_mark line)
  pub kept : KeptBeside line was is
  pub first : (here ≡ from) ⊎ IsTrue (lists line from)

module _ (way : Way) (w : World) (depth : ℤ → ℕ) (deep : IsDepth way w depth) where
  pub climb_begins : (was : List ℕ × List ℕ) (from : ℤ) (line : List ℤ) → line ≡ [] → Climbing depth w was was from from line 0
  climb_begins was from line e =
      subst (λ l. Climbing depth w was was from from l 0) (sym e)
      (record { falls = λ k o is. cc; rest = omega arith; count = refl; marked = refl; kept = λ o h. refl; first = inl refl })

  pub climb_step : (was is next : List ℕ × List ℕ) (from here : ℤ) (line : List ℤ) (steps : ℕ) (x : Object) → AllMarked w → object_at w here ≡ Some x → Given is next here 1
      → Climbing depth w was is from here line steps → Climbing depth w was next from (up_of way x) (line ++ here ∷ []) (steps + 1)
  climb_step was is next from here line steps x may at given c =
      record {
        falls = falls;
        rest = let r = c.rest in let d = deep.one_more here x at in let l = one_longer line here in omega (arith, r, d, l);
        count = let n = c.count in let l = one_longer line here in omega (arith, n, l);
        marked = list_all-append may_mark line (here ∷ []) ∙ both_hold (list_all may_mark line) _ c.marked (both_hold (may_mark here) true (may here x at) refl);
        kept = λ o h. let r = not_in line here o h in given_other is next here 1 o given r.1 ∙ c.kept o r.0;
        first = inr (first c.first);
      }
    where
      falls : FallsFrom depth (depth from) (line ++ here ∷ [])
      falls k o e = go (at_end line here k o e)
        where
          go : (slice_get line k ≡ Some o) ⊎ ((k ≡ length line) × (o ≡ here)) → depth o + k ≡ depth from
          go (inl f) = c.falls k o f
          go (inr f) = let d = ap depth f.1 in let r = c.rest in let n = f.0 in omega (arith, d, r, n)

      first : (here ≡ from) ⊎ IsTrue (lists line from) → IsTrue (lists (line ++ here ∷ []) from)
      first (inl e) = subst (λ z. IsTrue (lists (line ++ here ∷ []) z)) e (is_there line here)
      first (inr h) = at_least_there line here from h

  -- there is nothing here
  pub climbed_out : (was is : List ℕ × List ℕ) (from here : ℤ) (line : List ℤ) (steps : ℕ) → object_at w here ≡ None
      → Climbing depth w was is from here line steps → Climbed depth w was is from line 0
  climbed_out was is from here line steps none c =
      record {
        falls = c.falls;
        rest = let r = c.rest in let d = no_depth way w depth deep here none in omega (arith, r, d);
        marked = c.marked;
        kept = c.kept;
        first = λ x e. inl (first x e c.first);
      }
    where
      first : (x : Object) → object_at w from ≡ Some x → (here ≡ from) ⊎ IsTrue (lists line from) → IsTrue (lists line from)
      first x e (inl s) = let clash : None ≡ Some x = sym none ∙ ap (object_at w) s ∙ e in absurd (cc (clash))
      first x e (inr h) = h

  -- there is an object with a rank
  pub climbed_to : (was is : List ℕ × List ℕ) (from here : ℤ) (line : List ℤ) (steps : ℕ) (x : Object) → MayBeRanked depth w was → object_at w here ≡ Some x → 1 ≤ mark_of is here
      → Climbing depth w was is from here line steps → Climbed depth w was is from line (mark_of is here)
  climbed_to was is from here line steps x ranked at some c =
      record {
        falls = c.falls;
        rest = let r = c.rest in omega (arith, r, same);
        marked = c.marked;
        kept = c.kept;
        first = λ y e. first c.first;
      }
    where
      before : mark_of is here ≡ mark_of was here
      before = c.kept here (not_on_line depth (depth from) line here c.falls (let r = c.rest in omega (arith, r)))

      same : mark_of is here ≡ depth here
      same = before ∙ ranked here x at (omega (arith, before, some))

      first : (here ≡ from) ⊎ IsTrue (lists line from) → IsTrue (lists line from) ⊎ (mark_of is from ≡ depth from)
      first (inl e) = inr (subst (λ z. mark_of is z ≡ depth z) e same)
      first (inr h) = inl h

  -- there are no more objects
  pub climbed_all : (was is : List ℕ × List ℕ) (from here : ℤ) (line : List ℤ) (steps : ℕ) → depth from ≤ steps
      → Climbing depth w was is from here line steps → Climbed depth w was is from line 0
  climbed_all was is from here line steps le c =
      record {
        falls = c.falls;
        rest = let r = c.rest in let n = c.count in omega (arith, r, n, le);
        marked = c.marked;
        kept = c.kept;
        first = λ x e. inl (first x e c.first);
      }
    where
      first : (x : Object) → object_at w from ≡ Some x → (here ≡ from) ⊎ IsTrue (lists line from) → IsTrue (lists line from)
      first x e (inr h) = h
      first x e (inl s) =
          let d = deep.one_more from x e in
          let r = c.rest in
          let n = c.count in
          let same = ap depth s in
          absurd (omega (arith, d, r, n, same, le))

-- ---- and back

pub record Settling (depth : ℤ → ℕ) (total : ℕ) (line : List ℤ) (was is : List ℕ × List ℕ) (rank left : ℕ) : Type 0 where
  pub rest : rank + left ≡ total
  pub ranked : (k : ℕ) (o : ℤ) → left ≤ k → slice_get line k ≡ Some o → mark_of is o ≡ depth o
  pub kept : KeptBeside line was is

pub settle_begins : (depth : ℤ → ℕ) (total : ℕ) (line : List ℤ) (was : List ℕ × List ℕ) (rank : ℕ) → rank + length line ≡ total → Settling depth total line was was rank (length line)
settle_begins depth total line was rank e =
    record { rest = e; ranked = λ k o le at. absurd (let lt = slice_get_within line k o at in omega (arith, lt, le)); kept = λ o h. refl }

marked_there : (xs : List ℤ) (k : ℕ) (x : ℤ) → IsTrue (list_all may_mark xs) → slice_get xs k ≡ Some x → IsTrue (may_mark x)
marked_there [] k x h is = cc
marked_there (y ∷ xs) zero x h is = subst (λ z. IsTrue (may_mark z)) (some_same is) (first_holds (may_mark y) _ h)
marked_there (y ∷ xs) (suc k) x h is = marked_there xs k x (second_holds (may_mark y) _ h) is

pub settle_step : (depth : ℤ → ℕ) (total : ℕ) (line : List ℤ) (was is next : List ℕ × List ℕ) (rank left : ℕ) (number : ℤ) → FallsFrom depth total line → IsTrue (list_all may_mark line)
    → slice_get line left ≡ Some number → Given is next number (rank + 1) → Settling depth total line was is rank (left + 1) → Settling depth total line was next (rank + 1) left
settle_step depth total line was is next rank left number falls may at given s =
    record {
      rest = let r = s.rest in omega (arith, r);
      ranked = λ k o le on. go k o le on (same_or_not o number);
      kept = λ o h. given_other is next number (rank + 1) o given (apart o h (same_or_not o number)) ∙ s.kept o h;
    }
  where
    here : depth number ≡ rank + 1
    here = let f = falls left number at in let r = s.rest in omega (arith, f, r)

    go : (k : ℕ) (o : ℤ) → left ≤ k → slice_get line k ≡ Some o → (o ≡ number) ⊎ (int_eq o number ≡ false) → mark_of next o ≡ depth o
    go k o le on (inl e) =
        ap (mark_of next) e ∙ given_itself is next number (rank + 1) given (marked_there line left number may at) ∙ sym here ∙ ap depth (sym e)
    go k o le on (inr e) = given_other is next number (rank + 1) o given e ∙ s.ranked k o (omega (arith, le, not_here)) on
      where
        not_here : k ≡ left → ⊥
        not_here same = other o number e (some_same (sym on ∙ ap (slice_get line) same ∙ at))

    apart : (o : ℤ) → lists line o ≡ false → (o ≡ number) ⊎ (int_eq o number ≡ false) → int_eq o number ≡ false
    apart o h (inr e) = e
    apart o h (inl e) = let there : IsTrue (lists line o) = subst (λ z. IsTrue (lists line z)) (sym e) (listed_at line left number at) in absurd (cc (there, h))

pub settled : (depth : ℤ → ℕ) (total : ℕ) (line : List ℤ) (was is : List ℕ × List ℕ) (rank : ℕ) → Settling depth total line was is rank 0 → Settled depth was is line
settled depth total line was is rank s =
    record { ranked = λ o h. let r = place_of line o h in s.ranked r.0 o (omega arith) r.1; kept = s.kept }

-- ---- all of a list

pub record RankedTo (depth : ℤ → ℕ) (w : World) (numbers : List ℤ) (m : List ℕ × List ℕ) (count : ℕ) : Type 0 where
  pub may_be : MayBeRanked depth w m
  pub those : (k : ℕ) (o : ℤ) (x : Object) → k < count → slice_get numbers k ≡ Some o → object_at w o ≡ Some x → mark_of m o ≡ depth o

pub none_ranked : (depth : ℤ → ℕ) (w : World) (numbers : List ℤ) (m : List ℕ × List ℕ) → ((n : ℤ) → mark_of m n ≡ 0) → RankedTo depth w numbers m 0
none_ranked depth w numbers m h =
    record { may_be = λ o x e some. absurd (let none = h o in omega (arith, none, some)); those = λ k o x lt. absurd (omega arith) }

pub below_or : (k n : ℕ) → k < n + 1 → (k < n) ⊎ (k ≡ n)
below_or zero zero lt = inr refl
below_or zero (suc n) lt = inl (omega arith)
below_or (suc k) zero lt = absurd (omega arith)
below_or (suc k) (suc n) lt = go (below_or k n (omega arith))
  where
    go : (k < n) ⊎ (k ≡ n) → (suc k < suc n) ⊎ (suc k ≡ suc n)
    go (inl h) = inl (omega arith)
    go (inr h) = inr (ap suc h)

pub more_ranked : (depth : ℤ → ℕ) (w : World) (numbers line : List ℤ) (was is next : List ℕ × List ℕ) (count above : ℕ) (from : ℤ) → slice_get numbers count ≡ Some from
    → Climbed depth w was is from line above → Settled depth is next line → RankedTo depth w numbers was count → RankedTo depth w numbers next (count + 1)
more_ranked depth w numbers line was is next count above from at climbed settled r =
    record {
      may_be = λ o x e some. either_way o (r.may_be o x e) some (lists line o) refl;
      those = λ k o x lt on e. go k o x lt on e (lists line o) refl;
    }
  where
    either_way : (o : ℤ) → (1 ≤ mark_of was o → mark_of was o ≡ depth o) → 1 ≤ mark_of next o → (b : Bool) → lists line o ≡ b → mark_of next o ≡ depth o
    either_way o before some true h = settled.ranked o h
    either_way o before some false h = let same : mark_of next o ≡ mark_of was o = settled.kept o h ∙ climbed.kept o h in same ∙ before (omega (arith, same, some))

    here : (x : Object) → lists line from ≡ false → IsTrue (lists line from) ⊎ (mark_of is from ≡ depth from) → mark_of next from ≡ depth from
    here x h (inl there) = cc (there, h)
    here x h (inr same) = settled.kept from h ∙ same

    go : (k : ℕ) (o : ℤ) (x : Object) → k < count + 1 → slice_get numbers k ≡ Some o → object_at w o ≡ Some x → (b : Bool) → lists line o ≡ b → mark_of next o ≡ depth o
    go k o x lt on e true h = settled.ranked o h
    go k o x lt on e false h = which (below_or k count lt)
      where
        before : k < count → mark_of next o ≡ depth o
        before small = settled.kept o h ∙ climbed.kept o h ∙ r.those k o x small on e

        last : k ≡ count → mark_of next o ≡ depth o
        last same =
            let is_from : from ≡ o = some_same (sym at ∙ ap (slice_get numbers) (sym same) ∙ on) in
            subst (λ z. lists line z ≡ false → object_at w z ≡ Some x → mark_of next z ≡ depth z) is_from (λ g f. here x g (climbed.first x f)) h e

        which : (k < count) ⊎ (k ≡ count) → mark_of next o ≡ depth o
        which (inl small) = before small
        which (inr same) = last same

pub all_ranked : (depth : ℤ → ℕ) (w : World) (numbers : List ℤ) (m : List ℕ × List ℕ) (count : ℕ) → AllListed w numbers → length numbers ≤ count → RankedTo depth w numbers m count → Ranked depth w m
all_ranked depth w numbers m count all le r o x e =
    let p = place_of numbers o (all o x e) in
    r.those p.0 o x (let lt = slice_get_within numbers p.0 o p.1 in omega (arith, lt, le)) p.1 e

-- ---- what is taken from the end

pub popped : (whole left rest : List ℤ) (x : ℤ) → left ≡ take (length left) whole → left ≡ rest ++ x ∷ []
    → (rest ≡ take (length rest) whole) × (slice_get whole (length rest) ≡ Some x) × (length left ≡ length rest + 1)
popped whole left rest x e f =
    let same : rest ++ x ∷ [] ≡ take (length (rest ++ x ∷ [])) whole = subst (λ l. l ≡ take (length l) whole) f e in
    let r = go rest whole same in
    (r.0, r.1, ap length f ∙ one_longer rest x ∙ omega arith)
  where
    go : (rest whole : List ℤ) → rest ++ x ∷ [] ≡ take (length (rest ++ x ∷ [])) whole → (rest ≡ take (length rest) whole) × (slice_get whole (length rest) ≡ Some x)
    go [] [] h = absurd (cc)
    go [] (y ∷ ys) h = (refl, let same : x ≡ y = cc in ap Some (sym same))
    go (s ∷ ss) [] h = absurd (cc)
    go (s ∷ ss) (y ∷ ys) h =
        let head : s ≡ y = cc in
        let tail : ss ++ x ∷ [] ≡ take (length (ss ++ x ∷ [])) ys = cc in
        let r = go ss ys tail in
        ((λ i. head i ∷ r.0 i), r.1)

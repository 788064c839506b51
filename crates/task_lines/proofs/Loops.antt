-- One after another: values that are held, and entries.
use Rattle.std.proofs.Common.{◌≡◌, ◌∙◌, refl, sym, ap, subst, ℕ, suc, ◌+◌, ◌-◌, ◌<◌, ◌≤◌, ◌==◌, ◌&&◌, not, min, ◌^◌, Bool, false, List, [], ◌∷◌, ◌++◌, length, map, drop, drop-cons, get_or, Option, Some, None, IsTrue, append_assoc, length-append, arith}
use Rattle.std.specs.Prelude.{slice_get, option_map, if◌then◌else◌}
use Rattle.std.specs.Option.{option_copied}
use Rattle.std.specs.Borrow.{Bor}
use Rattle.std.specs.List.{list_all}
use Rattle.std.specs.Bool.{nat_lt}
use Rattle.std.proofs.lemmas.Bool.{ltb-true}
use Rattle.std.proofs.lemmas.Bool.Decides.{nat_tests}
use Rattle.spec_value.specs.Datum.{Datum, Text}
use Rattle.spec_value.proofs.Entries.{first_holds, second_holds}
use Rattle.spec_world.specs.World.{Frame, Entry, frame_entry, native_entry}
use Rattle.spec_world.specs.Checkpoint.{literal_lines}
use Rattle.moo_code.specs.Machine.{Outer}
use Rattle.moo_code.specs.Performing.{onto}
use Rattle.held_values.specs.declared.fits.Wanted.{Wanted}
use Rattle.held_values.specs.Wanted.{wanted_fits, all_fit}
use Rattle.line_fields.specs.Values.{is_readable}
use Rattle.task_lines.specs.Entries.{is_native, is_native_outer, is_end, verbs_with, may_stand, may_follow, outer_for}
use Rattle.task_lines.specs.Tasks.{EntryReads, AllRead}

-- ---- values

pub as_many_fit : (before : Option Datum) (ws : List Wanted) (vs : List Datum) → IsTrue (all_fit before ws vs) → length ws ≡ length vs
as_many_fit before [] [] h = refl
as_many_fit before [] (v ∷ vs) h = cc
as_many_fit before (w ∷ ws) [] h = cc
as_many_fit before (w ∷ ws) (v ∷ vs) h = ap suc (as_many_fit (Some v) ws vs (second_holds (wanted_fits w before v) _ h))

-- the next value, and those behind it
pub record NextHeld (before : Option Datum) (w : Wanted) (ws : List Wanted) (vs : List Datum) : Type 0 where
  pub value : Datum
  pub rest : List Datum
  pub are : vs ≡ value ∷ rest
  pub readable : IsTrue (is_readable value)
  pub fits : IsTrue (wanted_fits w before value)
  pub all_readable : IsTrue (list_all is_readable rest)
  pub all_fits : IsTrue (all_fit (Some value) ws rest)

pub next_wanted : (ws : List Wanted) (i : ℕ) (w d : Wanted) → i < length ws → w ≡ get_or ws i d → drop i ws ≡ w ∷ drop (i + 1) ws
next_wanted ws i w d small is = let next : suc i ≡ i + 1 = omega arith in drop-cons ws i d small ∙ ap (λ x. x ∷ drop (suc i) ws) (sym is) ∙ ap (λ n. w ∷ drop n ws) next

pub next_held : (before : Option Datum) (ws : List Wanted) (i : ℕ) (w d : Wanted) (vs : List Datum) → i < length ws → w ≡ get_or ws i d → IsTrue (all_fit before (drop i ws) vs)
    → IsTrue (list_all is_readable vs) → NextHeld before w (drop (i + 1) ws) vs
next_held before ws i w d vs small is h readable =
    go vs (subst (λ us. IsTrue (all_fit before us vs)) (next_wanted ws i w d small is) h) readable
  where
    go : (vs : List Datum) → IsTrue (all_fit before (w ∷ drop (i + 1) ws) vs) → IsTrue (list_all is_readable vs) → NextHeld before w (drop (i + 1) ws) vs
    go [] h r = cc
    go (v ∷ vs) h r = record {
      value = v;
      rest = vs;
      are = refl;
      readable = first_holds (is_readable v) _ r;
      fits = first_holds (wanted_fits w before v) _ h;
      all_readable = second_holds (is_readable v) _ r;
      all_fits = second_holds (wanted_fits w before v) _ h;
    }

pub none_left : (before : Option Datum) (ws : List Wanted) (vs : List Datum) → ws ≡ [] → IsTrue (all_fit before ws vs) → vs ≡ []
none_left before [] [] e h = refl
none_left before [] (v ∷ vs) e h = cc
none_left before (w ∷ ws) vs e h = absurd (cc)

pub last_pushed : (vs us : List Datum) (v : Datum) → us ≡ vs ++ v ∷ [] → slice_get us (length us - 1) ≡ Some v
last_pushed vs us v e = ap (λ xs. slice_get xs (length xs - 1)) e ∙ go vs
  where
    at_end : (vs : List Datum) → slice_get (vs ++ v ∷ []) (length vs) ≡ Some v
    at_end [] = refl
    at_end (u ∷ vs) = at_end vs

    go : (vs : List Datum) → slice_get (vs ++ v ∷ []) (length (vs ++ v ∷ []) - 1) ≡ Some v
    go vs = let count : length (vs ++ v ∷ []) - 1 ≡ length vs = (let both = length-append vs (v ∷ []) in omega (arith, both)) in ap (slice_get (vs ++ v ∷ [])) count ∙ at_end vs

-- the last one is what was held before
pub before_is : (o : Option (Bor Datum)) (items vs : List Datum) → option_copied o ≡ slice_get items (length items - 1) → items ≡ vs → option_map (λ (b : Bor Datum). b.now) o ≡ slice_get vs (length vs - 1)
before_is o items vs last same = same_values o ∙ last ∙ ap (λ xs. slice_get xs (length xs - 1)) same
  where
    same_values : (o : Option (Bor Datum)) → option_map (λ (b : Bor Datum). b.now) o ≡ option_copied o
    same_values None = refl
    same_values (Some b) = refl

pub onto_more : (vs : List Datum) (v : Datum) (st : List Datum) → onto (vs ++ v ∷ []) st ≡ v ∷ onto vs st
onto_more [] v st = refl
onto_more (u ∷ vs) v st = onto_more vs v (u ∷ st)

pub as_many_literals : (vs : List Datum) (rest : List Text) → length vs ≤ length (literal_lines vs ++ rest)
as_many_literals [] rest = omega arith
as_many_literals (v ∷ vs) rest = let more = as_many_literals vs rest in omega (arith, more)

-- ---- entries

pub is_last_is : (es : List Entry) (index count : ℕ) → length es + (index + 1) ≡ count → is_end es ≡ (index + 1 == count)
is_last_is [] index count e = let same : index + 1 ≡ count = omega (arith, e) in grind (arith, nat_tests, same)
is_last_is (d ∷ es) index count e = let less : index + 1 < count = omega (arith, e) in grind (arith, nat_tests, less)

pub native_outer : (is_fork : Bool) (e : Entry) (o : Outer) → o ≡ outer_for is_fork e → is_native_outer o ≡ is_native e
native_outer is_fork (frame_entry f) o h = ap is_native_outer h
native_outer is_fork (native_entry n) o h = ap is_native_outer h

few_verbs : (is_fork is_first is_last is_behind : Bool) (verbs : ℕ) (f : Frame) → IsTrue (may_stand is_fork is_first is_last is_behind verbs (frame_entry f)) → verbs < 50
few_verbs is_fork is_first is_last is_behind verbs f h = ltb-true verbs 50 (second_holds (not (is_fork && not is_first)) (nat_lt verbs 50) h)

pub verbs_more : (is_fork is_first is_last is_behind : Bool) (verbs : ℕ) (e : Entry) (native : Bool) → native ≡ is_native e → IsTrue (may_stand is_fork is_first is_last is_behind verbs e)
    → (if native then verbs else min (verbs + 1) (2 ^ 32 - 1)) ≡ verbs_with verbs e
verbs_more is_fork is_first is_last is_behind verbs (native_entry n) native is h = ap (λ b. if b then verbs else min (verbs + 1) (2 ^ 32 - 1)) is
verbs_more is_fork is_first is_last is_behind verbs (frame_entry f) native is h =
    ap (λ b. if b then verbs else min (verbs + 1) (2 ^ 32 - 1)) is
    ∙ (let few = few_verbs is_fork is_first is_last is_behind verbs f h in omega (arith, few))

-- the next entry, and those behind it
pub record NextEntry (is_fork : Bool) (index count : ℕ) (is_behind : Bool) (verbs : ℕ) (xs : List Entry) : Type 0 where
  pub entry : Entry
  pub rest : List Entry
  pub are : xs ≡ entry ∷ rest
  pub reads : EntryReads is_fork entry
  pub stands : IsTrue (may_stand is_fork (index == 0) (index + 1 == count) is_behind verbs entry)
  pub all : AllRead is_fork rest
  pub follows : IsTrue (may_follow is_fork false (is_native entry) (verbs_with verbs entry) rest)
  pub left : length rest + (index + 1) ≡ count

pub next_entry : (is_fork : Bool) (index count : ℕ) (is_behind : Bool) (verbs : ℕ) (xs : List Entry) → index < count → length xs + index ≡ count → AllRead is_fork xs
    → IsTrue (may_follow is_fork (index == 0) is_behind verbs xs) → NextEntry is_fork index count is_behind verbs xs
next_entry is_fork index count is_behind verbs [] less left h f = absurd (omega (arith, less, left))
next_entry is_fork index count is_behind verbs (e ∷ es) less left h f =
    let more : length es + (index + 1) ≡ count = omega (arith, left) in
    record {
      entry = e;
      rest = es;
      are = refl;
      reads = h.0;
      stands =
          subst (λ b. IsTrue (may_stand is_fork (index == 0) b is_behind verbs e)) (is_last_is es index count more)
          (first_holds (may_stand is_fork (index == 0) (is_end es) is_behind verbs e) _ f);
      all = h.1;
      follows = second_holds (may_stand is_fork (index == 0) (is_end es) is_behind verbs e) _ f;
      left = more;
    }

pub no_longer_first : (index : ℕ) → false ≡ (index + 1 == 0)
no_longer_first index = let some : 0 < index + 1 = omega arith in grind (arith, nat_tests, some)

-- one more behind those that are read
pub one_more : (done now ks : List Outer) (k : Outer) (g : Entry → Outer) (e : Entry) (es xs : List Entry) → now ≡ done ++ k ∷ [] → k ≡ g e → xs ≡ e ∷ es → done ++ map g xs ≡ ks → now ++ map g es ≡ ks
one_more done now ks k g e es xs pushed same are before =
    ap (λ os. os ++ map g es) pushed ∙ append_assoc done (k ∷ []) (map g es) ∙ ap (λ o. done ++ o ∷ map g es) same ∙ ap (λ ys. done ++ map g ys) (sym are) ∙ before

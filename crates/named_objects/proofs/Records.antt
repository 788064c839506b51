-- Records of a world's objects, one by one.
use Rattle.std.proofs.Common.{◌≡◌, ◌<◌, ◌≤◌, ℕ, zero, suc, ◌+◌, ℤ, Bool, false, List, [], ◌∷◌, ◌++◌, map, length, take, get_or, Option, Some, None, IsSomeAnd, refl, sym, ap, subst, ◌∙◌, arith, slice_get}
use Rattle.std.proofs.lemmas.List.{map_more, take_all}
use Rattle.spec_value.specs.Table.{Numbered}
use Rattle.spec_world.specs.World.{World, Object}
use Rattle.upwards.specs.declared.nearest.Upwards.{Upwards}
use Rattle.upwards.specs.declared.nearest.Nearest.{Nearest}
use Rattle.upwards.specs.declared.nearest.Nearest.TheVariants.{Unknown}
use Rattle.upwards.specs.Ways.{IsWay, HaveWays, IsRight, IsKnown, own_nearest, parents_of}
use Rattle.named_objects.specs.declared.record.ObjectRecord.{ObjectRecord}
use Rattle.named_objects.specs.Told.{Told, told, shown_object, AreObjects}
use Rattle.named_objects.specs.Ways.{IsPlace, AreParents, LeadsUp, numbers_of, defines_of, filled_of, names_at}
use Rattle.named_objects.proofs.PropertyNames.{get_within, read_at}
use Rattle.named_objects.proofs.SlotsNamed.{slots_are_those}
use Rattle.named_objects.proofs.Tables.{found_at}
use Rattle.named_objects.proofs.WorldPlaces.{defines_in, numbers_in, way_up}

head_same : {A : Type 0} (x y : A) (xs ys : List A) → (x ∷ xs) ≡ (y ∷ ys) → x ≡ y
head_same x y xs ys e = cc

tail_same : {A : Type 0} (x y : A) (xs ys : List A) → (x ∷ xs) ≡ (y ∷ ys) → xs ≡ ys
tail_same x y xs ys e = cc

none_left : {A : Type 0} (x : A) (xs : List A) → [] ≡ (x ∷ xs) → ⊥
none_left x xs e = cc

entry_at : {A : Type 0} (xs : List A) (i : ℕ) → i < length xs → (x : A) × (slice_get xs i ≡ Some x)
entry_at [] i h = absurd (omega arith)
entry_at (x ∷ xs) zero h = (x, refl)
entry_at (x ∷ xs) (suc i) h = entry_at xs i (omega arith)

pub some_more : {A : Type 0} (o : Option A) (P Q : A → Type 0) → IsSomeAnd o P → ((x : A) → P x → Q x) → IsSomeAnd o Q
some_more None P Q h f = h
some_more (Some x) P Q h f = f x h

module _ (w : World) where
  pub record_at : (rs : List ObjectRecord) (es : Numbered Object) → map told rs ≡ map (shown_object w) es → (k : ℕ) (e : ℤ × Object) → slice_get es k ≡ Some e
      → (r : ObjectRecord) × (slice_get rs k ≡ Some r) × (told r ≡ shown_object w e)
  record_at rs [] h k e is = cc
  record_at [] (f ∷ es) h k e is = absurd (none_left (shown_object w f) (map (shown_object w) es) h)
  record_at (r ∷ rs) (f ∷ es) h zero e is =
      let same : f ≡ e = cc in
      (r, refl, head_same (told r) (shown_object w f) (map told rs) (map (shown_object w) es) h ∙ ap (shown_object w) same)
  record_at (r ∷ rs) (f ∷ es) h (suc k) e is = record_at rs es (tail_same (told r) (shown_object w f) (map told rs) (map (shown_object w) es) h) k e is

  same_numbers : (rs : List ObjectRecord) (es : Numbered Object) → map told rs ≡ map (shown_object w) es → numbers_of rs ≡ numbers_in es
  same_numbers [] [] h = refl
  same_numbers [] (f ∷ es) h = absurd (none_left (shown_object w f) (map (shown_object w) es) h)
  same_numbers (r ∷ rs) [] h = absurd (none_left (told r) (map told rs) (sym h))
  same_numbers (r ∷ rs) (f ∷ es) h =
      let one = ap (λ (t : Told). t.number) (head_same (told r) (shown_object w f) (map told rs) (map (shown_object w) es) h) in
      let later = same_numbers rs es (tail_same (told r) (shown_object w f) (map told rs) (map (shown_object w) es) h) in
      λ n. one n ∷ later n

  same_defines : (rs : List ObjectRecord) (es : Numbered Object) → map told rs ≡ map (shown_object w) es → defines_of rs ≡ defines_in es
  same_defines [] [] h = refl
  same_defines [] (f ∷ es) h = absurd (none_left (shown_object w f) (map (shown_object w) es) h)
  same_defines (r ∷ rs) [] h = absurd (none_left (told r) (map told rs) (sym h))
  same_defines (r ∷ rs) (f ∷ es) h =
      let one = ap (λ (t : Told). t.defines) (head_same (told r) (shown_object w f) (map told rs) (map (shown_object w) es) h) in
      let later = same_defines rs es (tail_same (told r) (shown_object w f) (map told rs) (map (shown_object w) es) h) in
      λ n. one n ∷ later n

  pub as_many : (rs : List ObjectRecord) (es : Numbered Object) → map told rs ≡ map (shown_object w) es → length rs ≡ length es
  as_many [] [] h = refl
  as_many [] (f ∷ es) h = absurd (none_left (shown_object w f) (map (shown_object w) es) h)
  as_many (r ∷ rs) [] h = absurd (none_left (told r) (map told rs) (sym h))
  as_many (r ∷ rs) (f ∷ es) h = ap suc (as_many rs es (tail_same (told r) (shown_object w f) (map told rs) (map (shown_object w) es) h))

  module _ (rs : List ObjectRecord) (ps : List (Option ℕ)) (are : AreObjects w rs) (places : AreParents rs ps) where
    count : length ps ≡ length w.objects
    count = places.count ∙ as_many rs w.objects are.all

    each : (k : ℕ) (o : ℤ) (x : Object) → slice_get w.objects k ≡ Some (o, x) → IsPlace (numbers_in w.objects) x.header.parent (get_or ps k None)
    each k o x e =
        let r = record_at rs w.objects are.all k (o, x) e in
        let parent : (r.0).header.parent ≡ x.header.parent = ap (λ (t : Told). t.header.parent) r.2 in
        subst (λ n. IsPlace (numbers_in w.objects) n (get_or ps k None)) parent
        (subst (λ ns. IsPlace ns (r.0).header.parent (get_or ps k None)) (same_numbers rs w.objects are.all) (places.each k r.0 r.1))

    have_ways : HaveWays ps
    have_ways i lt =
        let e = entry_at w.objects i (subst (λ n. i < n) count lt) in
        let way = way_up w ps are.well_formed count each i (e.0).0 (e.0).1 e.1 in
        (way.0, way.1)

    leads_up : (u : Upwards) → parents_of u ≡ ps → IsKnown (filled_of rs) u → LeadsUp w rs u
    leads_up u same known =
        record {
          count = ap length same ∙ places.count;
          known = known;
          ways = λ k o x e.
              let way = way_up w ps are.well_formed count each k o x e in (
                way.0,
                subst (λ qs. IsWay qs (Some k) way.0) (sym same) way.1,
                ap (λ ds. names_at ds way.0) (same_defines rs w.objects are.all) ∙ way.2,
              );
        }

    -- what is found with all that is known at first
    pub looked : (all : Upwards) (ns : List Nearest) (found : Option Upwards) → parents_of all ≡ ps → length ns ≡ length rs
        → ((k : ℕ) → k < length rs → get_or ns k Unknown ≡ own_nearest k (get_or (filled_of rs) k false))
        → ((filled : List Bool) → length ns ≡ length ps → ((k : ℕ) → k < length ps → get_or ns k Unknown ≡ own_nearest k (get_or filled k false)) → IsRight filled all)
        → ((filled : List Bool) → IsRight filled all → HaveWays (parents_of all) → IsSomeAnd found (λ u. (parents_of u ≡ parents_of all) × IsKnown filled u))
        → IsSomeAnd found (λ u. LeadsUp w rs u)
    looked all ns found same many own right search =
        let first = right (filled_of rs) (many ∙ sym places.count) (λ k lt. own k (subst (λ n. k < n) places.count lt)) in
        some_more found (λ u. (parents_of u ≡ parents_of all) × IsKnown (filled_of rs) u) (λ u. LeadsUp w rs u) (search (filled_of rs) first (subst HaveWays (sym same) have_ways))
        (λ u k. leads_up u (k.0 ∙ same) k.1)

  -- ---- a record's own names

  -- it has as many slots as there are names along its way
  pub count_here : (rs : List ObjectRecord) (u : Upwards) (k : ℕ) (o : ℤ) (x : Object) (r : ObjectRecord) (are : AreObjects w rs) (leads : LeadsUp w rs u) (e : slice_get w.objects k ≡ Some (o, x))
      → r ≡ get_or rs k r → (n : ℕ) → n ≡ length r.slots.items → n ≡ length (names_at (defines_of rs) (leads.ways k o x e).0)
  count_here rs u k o x r are leads e at n count =
      let q = record_at rs w.objects are.all k (o, x) e in
      let same : r ≡ q.0 = at ∙ read_at rs k q.0 r q.1 in
      let there = found_at w.objects k o x are.well_formed.objects_in_order e in
      count ∙ ap (λ (z : ObjectRecord). length z.slots.items) same ∙ ap (λ (t : Told). length t.slots) q.2 ∙ (slots_are_those w o x are.well_formed there).0
      ∙ ap length (sym (leads.ways k o x e).2)

  pub there_too : (rs : List ObjectRecord) (k : ℕ) (e : ℤ × Object) → AreObjects w rs → slice_get w.objects k ≡ Some e → k < length rs
  there_too rs k e are h = let lt = get_within w.objects k e h in omega (arith, lt, as_many rs w.objects are.all)

  pub entry_here : (rs : List ObjectRecord) (k : ℕ) → AreObjects w rs → k < length rs → (e : ℤ × Object) × (slice_get w.objects k ≡ Some e)
  entry_here rs k are lt = entry_at w.objects k (subst (λ n. k < n) (as_many rs w.objects are.all) lt)

  pub all_taken : (rs : List ObjectRecord) (k : ℕ) → AreObjects w rs → length rs ≤ k → take k w.objects ≡ w.objects
  all_taken rs k are le = take_all k w.objects (omega (arith, le, as_many rs w.objects are.all))

-- one more of both
pub one_more : {A B : Type 0} (g : B → A) (xs new : List A) (es : List B) (i : ℕ) (y : A) (e : B) → new ≡ xs ++ y ∷ [] → slice_get es i ≡ Some e → xs ≡ map g (take i es) → y ≡ g e
    → new ≡ map g (take (i + 1) es)
one_more g xs new es i y e now at before here =
    now ∙ (λ n. before n ++ here n ∷ []) ∙ ap (λ z. map g (take i es) ++ g z ∷ []) (sym (read_at es i e e at)) ∙ sym (map_more g es i e (get_within es i e at))

pub some_is : {A : Type 0} (o : Option A) (x : A) (P : A → Type 0) → o ≡ Some x → IsSomeAnd o P → P x
some_is o x P e h = subst (λ p. IsSomeAnd p P) e h

pub none_is : {A : Type 0} (o : Option A) (P : A → Type 0) → o ≡ None → IsSomeAnd o P → ⊥
none_is o P e h = subst (λ p. IsSomeAnd p P) e h

-- Objects are put one by one, each behind those before it.
use Rattle.std.proofs.Common.{◌≡◌, ◌≤◌, ℕ, zero, suc, ◌+◌, ℤ, pos, negsuc, List, [], ◌∷◌, map, take, drop, Some, Result, Ok, Err, OnOk, refl, sym, ap, ◌∙◌, add-one, arith, cond, slice_get, neg_ℤ, int_le, int_cmp, Greater, IsTrue}
use Rattle.std.specs.Ordering.{ordering_reverse}
use Rattle.std.specs.Cmp.{int_cmp_total}
use Rattle.std.specs.FinMap.Entries.{below_all, by_order}
use Rattle.std.proofs.lemmas.Bool.{leb-true, le-leb}
use Rattle.spec_value.specs.Datum.{Text}
use Rattle.spec_value.specs.Table.{Numbered, at, with, is_numbered}
use Rattle.spec_value.proofs.Entries.{first_holds, second_holds, both_hold}
use Rattle.spec_world.specs.World.{World, Object, object_at}
use Rattle.spec_world.specs.WellFormed.{IsWellFormed}
use Rattle.spec_world.specs.Questions.{is_number, put_record}
use Rattle.named_objects.specs.declared.record.ObjectRecord.{ObjectRecord}
use Rattle.named_objects.specs.Told.{Told, told, shown_object, object_names}
use Rattle.named_objects.proofs.Tables.{below_at, found_at}

module _ {X : Type 0} where
  pub next_put : (es : Numbered X) (i : ℕ) (k : ℤ) (x : X) → IsTrue (is_numbered es) → slice_get es i ≡ Some (k, x) → with (take i es) k x ≡ take (suc i) es
  next_put [] i k x h e = cc
  next_put (f ∷ es) zero k x h e = let same : f ≡ (k, x) = cc in ap (λ (g : ℤ × X). g ∷ []) (sym same)
  next_put (f ∷ es) (suc i) k x h e =
      let below = below_at f.0 es i k x (first_holds (below_all int_cmp f.0 es) (is_numbered es) h) e in
      let above : int_cmp k f.0 ≡ Greater = int_cmp_total.antisymm k f.0 ∙ ap ordering_reverse below in
      ap (λ r. by_order r ((k, x) ∷ f ∷ take i es) ((f.0, x) ∷ take i es) (f ∷ with (take i es) k x)) above
      ∙ ap (λ fs. f ∷ fs) (next_put es i k x (second_holds (below_all int_cmp f.0 es) (is_numbered es) h) e)

-- objects have numbers up to the greatest
in_numbers : (o g : ℤ) → IsTrue (int_le (pos 0) o) → IsTrue (int_le o g) → IsTrue (int_le g (pos 999999)) → IsTrue (int_le o (pos 999999))
in_numbers (pos o) (pos g) h k l = let a : o ≤ g = leb-true o g k in let b : g ≤ 999999 = leb-true g 999999 l in le-leb o 999999 (omega arith)
in_numbers (pos o) (negsuc g) h k l = cc
in_numbers (negsuc o) g h k l = cc

-- what is left of records, of their objects and of their names, where so many objects are put
pub record Stands (w : World) (i : ℕ) (rs : List ObjectRecord) (names : List (List Text)) : Type 0 where
  pub records : map told rs ≡ map (shown_object w) (drop i w.objects)
  pub names_left : names ≡ map (λ (e : ℤ × Object). object_names w e.0) (drop i w.objects)

-- ---- the next object

pub record NextObject (w : World) (i : ℕ) (r : ObjectRecord) (rs : List ObjectRecord) (name : List Text) (names : List (List Text)) : Type 0 where
  pub number : ℤ
  pub object : Object
  pub there : object_at w number ≡ Some object
  pub is_told : told r ≡ shown_object w (number, object)
  pub has_number : r.number ≡ number
  pub is_named : name ≡ object_names w number
  pub put : put_record (take i w.objects) number (Some object) ≡ take (i + 1) w.objects
  pub later : Stands w (i + 1) rs names

head_same : {A : Type 0} (x y : A) (xs ys : List A) → (x ∷ xs) ≡ (y ∷ ys) → x ≡ y
head_same x y xs ys e = cc

tail_same : {A : Type 0} (x y : A) (xs ys : List A) → (x ∷ xs) ≡ (y ∷ ys) → xs ≡ ys
tail_same x y xs ys e = cc

some_left : {A : Type 0} (x : A) (xs : List A) → (x ∷ xs) ≡ [] → ⊥
some_left x xs e = cc

dropped : {A : Type 0} (xs : List A) (i : ℕ) (x : A) (later : List A) → drop i xs ≡ x ∷ later → (slice_get xs i ≡ Some x) × (drop (suc i) xs ≡ later)
dropped [] zero x later h = cc
dropped [] (suc i) x later h = cc
dropped (y ∷ xs) zero x later h = let a : y ≡ x = cc in let b : xs ≡ later = cc in (ap (λ z. Some z) a, b)
dropped (y ∷ xs) (suc i) x later h = dropped xs i x later h

pub next_object : (w : World) (i : ℕ) (r : ObjectRecord) (rs : List ObjectRecord) (name : List Text) (names : List (List Text)) → IsWellFormed w → Stands w i (r ∷ rs) (name ∷ names) → NextObject w i r rs name names
next_object w i r rs name names h s = go (drop i w.objects) refl s.records s.names_left
  where
    numbered : (o : ℤ) (x : Object) → object_at w o ≡ Some x → IsTrue (is_number o)
    numbered o x at =
        let n = h.numbers o x at in
        let g = second_holds (int_le (neg_ℤ (pos 1)) w.greatest) (int_le w.greatest (pos 999999)) h.greatest_in_range in
        both_hold (int_le (pos 0) o) (int_le o (pos 999999)) (first_holds (int_le (pos 0) o) (int_le o w.greatest) n)
        (in_numbers o w.greatest (first_holds (int_le (pos 0) o) (int_le o w.greatest) n) (second_holds (int_le (pos 0) o) (int_le o w.greatest) n) g)

    go : (es : Numbered Object) → drop i w.objects ≡ es → told r ∷ map told rs ≡ map (shown_object w) (drop i w.objects) → name ∷ names ≡ map (λ (e : ℤ × Object). object_names w e.0) (drop i w.objects)
        → NextObject w i r rs name names
    go [] is a b = absurd (some_left (told r) (map told rs) (a ∙ ap (map (shown_object w)) is))
    go (e ∷ es) is a b =
        let d = dropped w.objects i e es is in
        let there = found_at w.objects i e.0 e.1 h.objects_in_order d.0 in
        let a1 : (told r ∷ map told rs) ≡ (shown_object w e ∷ map (shown_object w) es) = a ∙ ap (map (shown_object w)) is in
        let b1 : (name ∷ names) ≡ (object_names w e.0 ∷ map (λ (f : ℤ × Object). object_names w f.0) es) = b ∙ ap (map (λ (f : ℤ × Object). object_names w f.0)) is in
        let told_so = head_same (told r) (shown_object w e) (map told rs) (map (shown_object w) es) a1 in
        let next : drop (i + 1) w.objects ≡ es = ap (λ n. drop n w.objects) (add-one i) ∙ d.1 in
        record {
          number = e.0;
          object = e.1;
          there = there;
          is_told = told_so;
          has_number = ap (λ (t : Told). t.number) told_so;
          is_named = head_same name (object_names w e.0) names (map (λ (f : ℤ × Object). object_names w f.0) es) b1;
          put = ap (λ b. cond b (with (take i w.objects) e.0 e.1) (take i w.objects)) (numbered e.0 e.1 there) ∙ next_put w.objects i e.0 e.1 h.objects_in_order d.0 ∙ ap (λ n. take n w.objects) (sym (add-one i));
          later =
              record {
                records = tail_same (told r) (shown_object w e) (map told rs) (map (shown_object w) es) a1 ∙ ap (map (shown_object w)) (sym next);
                names_left = tail_same name (object_names w e.0) names (map (λ (f : ℤ × Object). object_names w f.0) es) b1 ∙ ap (map (λ (f : ℤ × Object). object_names w f.0)) (sym next);
              };
        }

-- where no records or no names are left, all objects are put
pub all_put : {A B : Type 0} (f : A → B) (es : List A) (i : ℕ) → [] ≡ map f (drop i es) → take i es ≡ es
all_put f [] zero h = refl
all_put f [] (suc i) h = refl
all_put f (e ∷ es) zero h = cc
all_put f (e ∷ es) (suc i) h = ap (λ fs. e ∷ fs) (all_put f es i h)

pub on_ok : {A E : Type 0} (r : Result A E) {P Q : Type 0} → OnOk r P → (P → Q) → OnOk r Q
on_ok (Ok x) h f = f h
on_ok (Err e) h f = tt

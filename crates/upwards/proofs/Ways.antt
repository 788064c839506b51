-- Going upwards from a record, place by place.
use Rattle.std.proofs.Common.{◌≡◌, ◌⊎◌, inl, inr, ◌<◌, ◌≢◌, ℕ, zero, suc, ◌+◌, Bool, false, List, [], ◌∷◌, length, get_or, set, Option, Some, None, IsTrue, refl, sym, ap, subst, ◌∙◌, cond, arith}
use Rattle.std.proofs.lemmas.List.{get_or-set_same, get_or-set_other}
use Rattle.std.proofs.Math.ListN.{length-set}
use Rattle.std.proofs.lemmas.Bool.{cases_eq}
use Rattle.upwards.specs.Ways.{IsWay, IsRight, IsKnown, Says, first_filled, nearest_of, is_known, first_known}
use Rattle.upwards.specs.declared.nearest.Upwards.{Upwards}
use Rattle.upwards.specs.declared.nearest.Nearest.{Nearest}
use Rattle.upwards.specs.declared.nearest.Nearest.TheVariants.{Unknown, Absent, At}

-- ---- lines

some_same : {A : Type 0} (x y : A) → ◌≡◌ {A = Option A} (Some x) (Some y) → x ≡ y
some_same x y e = cc

pub way_place : (parents : List (Option ℕ)) (p : ℕ) (is : List ℕ) → IsWay parents (Some p) is
    → (p < length parents) × ((later : List ℕ) × (is ≡ p ∷ later) × IsWay parents (get_or parents p None) later)
way_place parents p [] h = cc
way_place parents p (i ∷ is) h =
    let same : i ≡ p = sym (some_same p i h.0) in
    (subst (λ k. k < length parents) same h.1, (is, ap (λ k. k ∷ is) same, subst (λ k. IsWay parents (get_or parents k None) is) same h.2))

pub one_way : (parents : List (Option ℕ)) (o : Option ℕ) (is js : List ℕ) → IsWay parents o is → IsWay parents o js → is ≡ js
one_way parents o [] [] h k = refl
one_way parents o [] (j ∷ js) h k = let e : None ≡ Some j = sym h ∙ k.0 in cc
one_way parents o (i ∷ is) [] h k = let e : None ≡ Some i = sym k ∙ h.0 in cc
one_way parents o (i ∷ is) (j ∷ js) h k =
    let same : i ≡ j = some_same i j (sym h.0 ∙ k.0) in
    let later = one_way parents (get_or parents j None) is js (subst (λ n. IsWay parents (get_or parents n None) is) same h.2) k.2 in
    λ n. same n ∷ later n

-- ---- one place further

-- the line from the place above, and what it finds
pub record Further (filled : List Bool) (parents : List (Option ℕ)) (p : ℕ) (is : List ℕ) : Type 0 where
  pub later : List ℕ
  pub is_way : IsWay parents (Some p) later
  pub shorter : length later + 1 ≡ length is
  pub finds : first_filled filled later ≡ first_filled filled is

pub go_on : (filled : List Bool) (parents : List (Option ℕ)) (place p : ℕ) (is : List ℕ) → IsWay parents (Some place) is → get_or filled place false ≡ false
    → Some p ≡ get_or parents place None → Further filled parents p is
go_on filled parents place p is h empty up =
    let w = way_place parents place is h in
    record {
      later = w.1.0;
      is_way = subst (λ o. IsWay parents o w.1.0) (sym up) w.1.2;
      shorter = let e : length is ≡ suc (length w.1.0) = ap length w.1.1 in omega (arith, e);
      finds = sym (ap (first_filled filled) w.1.1 ∙ ap (λ b. cond b (Some place) (first_filled filled w.1.0)) empty);
    }

pub come_out : (filled : List Bool) (parents : List (Option ℕ)) (place : ℕ) (is : List ℕ) → IsWay parents (Some place) is → get_or filled place false ≡ false
    → None ≡ get_or parents place None → first_filled filled is ≡ None
come_out filled parents place is h empty up =
    let w = way_place parents place is h in
    ap (first_filled filled) w.1.1 ∙ ap (λ b. cond b (Some place) (first_filled filled w.1.0)) empty ∙ ends w.1.0 (subst (λ o. IsWay parents o w.1.0) (sym up) w.1.2)
  where
    ends : (later : List ℕ) → IsWay parents None later → first_filled filled later ≡ None
    ends [] k = refl
    ends (i ∷ later) k = let e : None ≡ Some i = k.0 in cc

-- ---- what is known

pub says_unknown : (filled : List Bool) (parents : List (Option ℕ)) (i : ℕ) (n : Nearest) → Says filled parents i n → n ≡ Unknown → get_or filled i false ≡ false
says_unknown filled parents i n h e = subst (Says filled parents i) e h

pub says_known : (filled : List Bool) (parents : List (Option ℕ)) (i : ℕ) (n : Nearest) → Says filled parents i n → IsTrue (is_known n)
    → (is : List ℕ) → IsWay parents (Some i) is → n ≡ nearest_of (first_filled filled is)
says_known filled parents i Unknown h k is l = cc
says_known filled parents i Absent h k is l = h is l
says_known filled parents i (At j) h k is l = h is l

pub not_unknown : (n : Nearest) → (n ≡ Unknown → ⊥) → IsTrue (is_known n)
not_unknown Unknown h = absurd (h refl)
not_unknown Absent h = refl
not_unknown (At j) h = refl

pub nearest_known : (m : Option ℕ) → IsTrue (is_known (nearest_of m))
nearest_known None = refl
nearest_known (Some i) = refl

pub says_found : (filled : List Bool) (parents : List (Option ℕ)) (i : ℕ) (n : Nearest) → IsTrue (is_known n)
    → ((is : List ℕ) → IsWay parents (Some i) is → n ≡ nearest_of (first_filled filled is)) → Says filled parents i n
says_found filled parents i Unknown k h = cc
says_found filled parents i Absent k h = h
says_found filled parents i (At j) k h = h

-- what a place is known by, whatever stands for those that are not there
abbrev pub Known : List Nearest → ℕ → Nearest → Type 0
Known nearest p n = (d : Nearest) → p < length nearest → n ≡ get_or nearest p d

pub right_unknown : (filled : List Bool) (u : Upwards) → IsRight filled u → (p : ℕ) (is : List ℕ) → IsWay u.parents.items (Some p) is
    → (n : Nearest) → Known u.nearest.items p n → n ≡ Unknown → get_or filled p false ≡ false
right_unknown filled u r p is h n k e =
    let w = way_place u.parents.items p is h in
    let there : p < length u.nearest.items = omega (arith, w.0, r.same) in
    says_unknown filled u.parents.items p (get_or u.nearest.items p Unknown) (r.says p w.0) (sym (k Unknown there) ∙ e)

pub right_known : (filled : List Bool) (u : Upwards) → IsRight filled u → (p : ℕ) (is : List ℕ) → IsWay u.parents.items (Some p) is
    → (n : Nearest) → Known u.nearest.items p n → (n ≡ Unknown → ⊥) → n ≡ nearest_of (first_filled filled is)
right_known filled u r p is h n k ne =
    let w = way_place u.parents.items p is h in
    let there : p < length u.nearest.items = omega (arith, w.0, r.same) in
    let here : n ≡ get_or u.nearest.items p Unknown = k Unknown there in
    here ∙ says_known filled u.parents.items p (get_or u.nearest.items p Unknown) (r.says p w.0) (subst (λ z. IsTrue (is_known z)) here (not_unknown n ne)) is h

pub wholly_known : (filled : List Bool) (u : Upwards) → IsKnown filled u → (p : ℕ) (is : List ℕ) → IsWay u.parents.items (Some p) is
    → (n : Nearest) → Known u.nearest.items p n → n ≡ nearest_of (first_filled filled is)
wholly_known filled u r p is h n k =
    let w = way_place u.parents.items p is h in
    let there : p < length u.nearest.items = omega (arith, w.0, r.same) in
    k Unknown there ∙ r.says p is h

pub found_at : (d : ℕ) (m : Option ℕ) → At d ≡ nearest_of m → Some d ≡ m
found_at d None e = cc
found_at d (Some i) e = cc

pub found_none : (n : Nearest) (m : Option ℕ) → n ≡ nearest_of m → ((d : ℕ) → n ≡ At d → ⊥) → None ≡ m
found_none n None e h = refl
found_none n (Some i) e h = absurd (h i e)

-- ---- a place about which more is known

module _ (filled : List Bool) (u v : Upwards) (p : ℕ) (n : Nearest) (same : v.parents.items ≡ u.parents.items) (now : v.nearest.items ≡ set u.nearest.items p n) where
  pub noted_here : p < length u.nearest.items → get_or v.nearest.items p Unknown ≡ n
  noted_here there = ap (λ ns. get_or ns p Unknown) now ∙ get_or-set_same u.nearest.items p n Unknown there

  pub noted_there : (i : ℕ) → i ≢ p → get_or v.nearest.items i Unknown ≡ get_or u.nearest.items i Unknown
  noted_there i ne = ap (λ ns. get_or ns i Unknown) now ∙ get_or-set_other u.nearest.items p i n Unknown ne

  known_within : (ns : List Nearest) (i : ℕ) → IsTrue (is_known (get_or ns i Unknown)) → i < length ns
  known_within [] i h = cc
  known_within (m ∷ ns) zero h = omega arith
  known_within (m ∷ ns) (suc i) h = let later = known_within ns i h in omega arith

  -- what was known stays known
  pub noted_known : IsTrue (is_known n) → (i : ℕ) → IsTrue (is_known (get_or u.nearest.items i Unknown)) → IsTrue (is_known (get_or v.nearest.items i Unknown))
  noted_known k i h = go (cases_eq i p)
    where
      go : (i ≡ p) ⊎ (i ≡ p → ⊥) → IsTrue (is_known (get_or v.nearest.items i Unknown))
      go (inl e) =
          subst (λ j. IsTrue (is_known (get_or v.nearest.items j Unknown))) (sym e)
          (subst (λ m. IsTrue (is_known m)) (sym (noted_here (subst (λ j. j < length u.nearest.items) e (known_within u.nearest.items i h)))) k)
      go (inr e) = subst (λ m. IsTrue (is_known m)) (sym (noted_there i e)) h

  pub noted_right : IsRight filled u → (is : List ℕ) → IsWay u.parents.items (Some p) is → n ≡ nearest_of (first_filled filled is) → IsRight filled v
  noted_right r is h found =
      record {
        same = ap length now ∙ length-set u.nearest.items p n ∙ r.same ∙ sym (ap length same);
        says = λ i lt. subst (λ ps. Says filled ps i (get_or v.nearest.items i Unknown)) (sym same) (go i (subst (λ ps. i < length ps) same lt) (cases_eq i p));
      }
    where
      there : p < length u.nearest.items
      there = let w = way_place u.parents.items p is h in omega (arith, w.0, r.same)

      here : Says filled u.parents.items p n
      here = says_found filled u.parents.items p n (subst (λ m. IsTrue (is_known m)) (sym found) (nearest_known (first_filled filled is)))
          (λ js k. found ∙ ap (λ ks. nearest_of (first_filled filled ks)) (one_way u.parents.items (Some p) is js h k))

      go : (i : ℕ) → i < length u.parents.items → (i ≡ p) ⊎ (i ≡ p → ⊥) → Says filled u.parents.items i (get_or v.nearest.items i Unknown)
      go i lt (inl e) = subst (λ j. Says filled u.parents.items j (get_or v.nearest.items j Unknown)) (sym e) (subst (Says filled u.parents.items p) (sym (noted_here there)) here)
      go i lt (inr e) = subst (Says filled u.parents.items i) (sym (noted_there i e)) (r.says i lt)

pub all_known : (filled : List Bool) (u : Upwards) → IsRight filled u → first_known (length u.parents.items) u → IsKnown filled u
all_known filled u r k =
    record {
      same = r.same;
      says = λ i is h.
          let w = way_place u.parents.items i is h in
          says_known filled u.parents.items i (get_or u.nearest.items i Unknown) (r.says i w.0) (k i w.0) is h;
    }

-- The names along places, by those places alone that are filled.
use Rattle.std.proofs.Common.{◌≡◌, ◌<◌, ◌≤◌, ◌⊎◌, inl, inr, ℕ, zero, suc, ◌+◌, ℤ, true, false, List, [], ◌∷◌, ◌++◌, length, get_or, take, Option, Some, None, refl, sym, ap, subst, ◌∙◌, cond, append_assoc, arith, slice_get, int_cmp, is_eq, Ordering, Less, Equal, Greater}
use Rattle.std.proofs.lemmas.List.{append-nil, length-append, length-map, length-take, map_more, take_all, get_or-map, get_or_push, get_or_append_left}
use Rattle.std.proofs.lemmas.Bool.{cases_eq, cases_Bool, true≢false}
use Rattle.std.specs.Cmp.{int_cmp_total, tied_itself}
use Rattle.std.specs.FinMap.{int_cmp-IsAntisymmetric}
use Rattle.std.specs.BTreeMap.{BTreeMap, get, get_by}
use Rattle.spec_value.specs.Datum.{Text}
use Rattle.named_objects.specs.declared.record.ObjectRecord.{ObjectRecord}
use Rattle.upwards.specs.Ways.{IsWay, first_filled}
use Rattle.named_objects.specs.Ways.{IsPlace, numbers_of, defines_of, is_filled, filled_of, names_at}

-- ---- where a record is not filled it defines nothing

unfilled : (records : List ObjectRecord) (i : ℕ) → get_or (filled_of records) i false ≡ false → get_or (defines_of records) i [] ≡ []
unfilled [] i h = refl
unfilled (r ∷ records) zero h = go r.lists.defines.items h
  where
    go : (ts : List Text) → is_filled ts ≡ false → ts ≡ []
    go [] e = refl
    go (t ∷ ts) e = cc
unfilled (r ∷ records) (suc i) h = unfilled records i h

filled : (records : List ObjectRecord) (i : ℕ) → get_or (filled_of records) i false ≡ true → 0 < length (get_or (defines_of records) i [])
filled [] i h = cc
filled (r ∷ records) zero h = go r.lists.defines.items h
  where
    go : (ts : List Text) → is_filled ts ≡ true → 0 < length ts
    go [] e = cc
    go (t ∷ ts) e = omega arith
filled (r ∷ records) (suc i) h = filled records i h

-- ---- the next record along a line that is filled

pub none_filled : (records : List ObjectRecord) (line : List ℕ) → None ≡ first_filled (filled_of records) line → names_at (defines_of records) line ≡ []
none_filled records [] h = refl
none_filled records (i ∷ is) h = go (cases_Bool (get_or (filled_of records) i false)) (none_filled records is)
  where
    go : (get_or (filled_of records) i false ≡ true) ⊎ (get_or (filled_of records) i false ≡ false) → (None ≡ first_filled (filled_of records) is → names_at (defines_of records) is ≡ [])
        → names_at (defines_of records) (i ∷ is) ≡ []
    go (inl e) more = let k : None ≡ Some i = h ∙ ap (λ b. cond b (Some i) (first_filled (filled_of records) is)) e in cc
    go (inr e) more =
        let k : None ≡ first_filled (filled_of records) is = h ∙ ap (λ b. cond b (Some i) (first_filled (filled_of records) is)) e in
        (λ n. unfilled records i e n ++ more k n)

-- the line behind it, and the names of both
pub record Next (records : List ObjectRecord) (parents : List (Option ℕ)) (line : List ℕ) (p : ℕ) : Type 0 where
  pub within : p < length parents
  pub some : 0 < length (get_or (defines_of records) p [])
  pub later : List ℕ
  pub is_way : IsWay parents (get_or parents p None) later
  pub names : names_at (defines_of records) line ≡ get_or (defines_of records) p [] ++ names_at (defines_of records) later

pub next : (records : List ObjectRecord) (parents : List (Option ℕ)) (o : Option ℕ) (line : List ℕ) (p : ℕ) → IsWay parents o line → Some p ≡ first_filled (filled_of records) line → Next records parents line p
next records parents o [] p l h = cc
next records parents o (i ∷ is) p l h = go (cases_Bool (get_or (filled_of records) i false)) (next records parents (get_or parents i None) is p l.2)
  where
    go : (get_or (filled_of records) i false ≡ true) ⊎ (get_or (filled_of records) i false ≡ false) → (Some p ≡ first_filled (filled_of records) is → Next records parents is p) → Next records parents (i ∷ is) p
    go (inl e) more =
        let same : Some p ≡ Some i = h ∙ ap (λ b. cond b (Some i) (first_filled (filled_of records) is)) e in
        let at : i ≡ p = let t : Some p ≡ Some i = same in cc in
        record {
          within = subst (λ k. k < length parents) at l.1;
          some = filled records p (subst (λ k. get_or (filled_of records) k false ≡ true) at e);
          later = is;
          is_way = subst (λ k. IsWay parents (get_or parents k None) is) at l.2;
          names = ap (λ k. get_or (defines_of records) k [] ++ names_at (defines_of records) is) at;
        }
    go (inr e) more =
        let k : Some p ≡ first_filled (filled_of records) is = h ∙ ap (λ b. cond b (Some i) (first_filled (filled_of records) is)) e in
        let n = more k in
        record {
          within = n.within;
          some = n.some;
          later = n.later;
          is_way = n.is_way;
          names = ap (λ ts. ts ++ names_at (defines_of records) is) (unfilled records i e) ∙ n.names;
        }

-- ---- what a read of a record defines

read_defines : (records : List ObjectRecord) (i : ℕ) (r : ObjectRecord) → i < length records → r ≡ get_or records i r → get_or (defines_of records) i [] ≡ r.lists.defines.items
read_defines records i r lt at = get_or-map (λ (z : ObjectRecord). z.lists.defines.items) records i r [] lt ∙ ap (λ (z : ObjectRecord). z.lists.defines.items) (sym at)

-- ---- places by numbers

get_front : {X : Type 0} (xs : List X) (z : X) (i : ℕ) (x : X) → slice_get xs i ≡ Some x → slice_get (xs ++ z ∷ []) i ≡ Some x
get_front [] z i x h = cc
get_front (y ∷ xs) z zero x h = h
get_front (y ∷ xs) z (suc i) x h = get_front xs z i x h

get_last : {X : Type 0} (xs : List X) (z : X) → slice_get (xs ++ z ∷ []) (length xs) ≡ Some z
get_last [] z = refl
get_last (y ∷ xs) z = get_last xs z

-- one of the first, or the last
get_either : {X : Type 0} (xs : List X) (z : X) (i : ℕ) (x : X) → slice_get (xs ++ z ∷ []) i ≡ Some x → (slice_get xs i ≡ Some x) ⊎ (z ≡ x)
get_either [] z zero x h = let e : z ≡ x = cc in inr e
get_either [] z (suc i) x h = cc
get_either (y ∷ xs) z zero x h = inl h
get_either (y ∷ xs) z (suc i) x h = get_either xs z i x h

place_other : (ns : List ℤ) (m n : ℤ) (o : Option ℕ) → (m ≡ n → ⊥) → IsPlace ns n o → IsPlace (ns ++ m ∷ []) n o
place_other ns m n None ne h = λ k e. go k (get_either ns m k n e)
  where
    go : (k : ℕ) → (slice_get ns k ≡ Some n) ⊎ (m ≡ n) → ⊥
    go k (inl e) = h k e
    go k (inr e) = ne e
place_other ns m n (Some k) ne h = get_front ns m k n h

place_more : (ns : List ℤ) (m : ℤ) (i : ℕ) (old new : ℤ → Option ℕ) → i ≡ length ns → ((n : ℤ) → IsPlace ns n (old n)) → ((q : ℤ) → new q ≡ cond (is_eq (int_cmp m q)) (Some i) (old q))
    → (n : ℤ) → IsPlace (ns ++ m ∷ []) n (new n)
place_more ns m i old new count h updates n = subst (IsPlace (ns ++ m ∷ []) n) (sym (updates n)) (go (int_cmp m n) refl)
  where
    apart : (r : Ordering) → int_cmp m n ≡ r → is_eq r ≡ false → m ≡ n → ⊥
    apart r e no_tie same =
        let clash : true ≡ false = sym (ap is_eq (tied_itself int_cmp_total m)) ∙ ap (λ k. is_eq (int_cmp m k)) same ∙ ap is_eq e ∙ no_tie in
        true≢false clash

    go : (r : Ordering) → int_cmp m n ≡ r → IsPlace (ns ++ m ∷ []) n (cond (is_eq r) (Some i) (old n))
    go Less e = place_other ns m n (old n) (apart Less e refl) (h n)
    go Greater e = place_other ns m n (old n) (apart Greater e refl) (h n)
    go Equal e =
        let same : m ≡ n = int_cmp-IsAntisymmetric m n e in
        subst (λ k. slice_get (ns ++ m ∷ []) k ≡ Some n) (sym count) (get_last ns m ∙ ap (λ (k : ℤ). Some k) same)

-- one record more
pub places_next : (records : List ObjectRecord) (i : ℕ) (r : ObjectRecord) (old new : ℤ → Option ℕ) → i < length records → r ≡ get_or records i r
    → ((n : ℤ) → IsPlace (numbers_of (take i records)) n (old n)) → ((q : ℤ) → new q ≡ cond (is_eq (int_cmp r.number q)) (Some i) (old q))
    → (n : ℤ) → IsPlace (numbers_of (take (i + 1) records)) n (new n)
places_next records i r old new lt at h updates n =
    let more : numbers_of (take (i + 1) records) ≡ numbers_of (take i records) ++ r.number ∷ [] =
    map_more (λ (z : ObjectRecord). z.number) records i r lt ∙ ap (λ (z : ObjectRecord). numbers_of (take i records) ++ z.number ∷ []) (sym at) in
    let count : i ≡ length (numbers_of (take i records)) = omega (arith, length-map (take i records) (λ (z : ObjectRecord). z.number), length-take i records, lt) in
    subst (λ ns. IsPlace ns n (new n)) (sym more) (place_more (numbers_of (take i records)) r.number i old new count h updates n)

pub places_all : (records : List ObjectRecord) (i : ℕ) (places : ℤ → Option ℕ) → length records ≤ i → ((n : ℤ) → IsPlace (numbers_of (take i records)) n (places n))
    → (n : ℤ) → IsPlace (numbers_of records) n (places n)
places_all records i places all h n = subst (λ (rs : List ObjectRecord). IsPlace (numbers_of rs) n (places n)) (take_all i records all) (h n)

-- ---- parents by their places

pub get_within : {X : Type 0} (xs : List X) (i : ℕ) (x : X) → slice_get xs i ≡ Some x → i < length xs
get_within [] i x h = cc
get_within (y ∷ xs) zero x h = omega arith
get_within (y ∷ xs) (suc i) x h = let later = get_within xs i x h in omega arith

pub read_at : {X : Type 0} (xs : List X) (i : ℕ) (x d : X) → slice_get xs i ≡ Some x → get_or xs i d ≡ x
read_at [] i x d h = cc
read_at (y ∷ xs) zero x d h = let e : y ≡ x = cc in e
read_at (y ∷ xs) (suc i) x d h = read_at xs i x d h

pub parents_next : (records : List ObjectRecord) (ps new : List (Option ℕ)) (i : ℕ) (r : ObjectRecord) (o : Option ℕ) → length ps ≡ i → new ≡ ps ++ o ∷ [] → r ≡ get_or records i r
    → IsPlace (numbers_of records) r.header.parent o
    → ((k : ℕ) (s : ObjectRecord) → k < i → slice_get records k ≡ Some s → IsPlace (numbers_of records) s.header.parent (get_or ps k None))
    → (k : ℕ) (s : ObjectRecord) → k < i + 1 → slice_get records k ≡ Some s → IsPlace (numbers_of records) s.header.parent (get_or new k None)
parents_next records ps new i r o count now at here before k s lt e = go (cases_eq k i)
  where
    go : (k ≡ i) ⊎ (k ≡ i → ⊥) → IsPlace (numbers_of records) s.header.parent (get_or new k None)
    go (inl same) =
        let is : r ≡ s = at ∙ ap (λ j. get_or records j r) (sym same) ∙ read_at records k s r e in
        let last : get_or new k None ≡ o = ap (λ zs. get_or zs k None) now ∙ get_or_push ps o None k (count ∙ sym same) in
        subst (λ (z : ObjectRecord). IsPlace (numbers_of records) z.header.parent (get_or new k None)) is (subst (IsPlace (numbers_of records) r.header.parent) (sym last) here)
    go (inr ne) =
        let below : k < i = omega arith in
        let first : get_or new k None ≡ get_or ps k None = ap (λ zs. get_or zs k None) now ∙ get_or_append_left ps (o ∷ []) None k (omega (arith, below, count)) in
        subst (IsPlace (numbers_of records) s.header.parent) (sym first) (before k s below e)

-- ---- the names so far, and those from the next record on that is filled

pub done : (records : List ObjectRecord) (later : List ℕ) (names all : List Text) (definer : Option ℕ) → definer ≡ None → definer ≡ first_filled (filled_of records) later
    → names ++ names_at (defines_of records) later ≡ all → names ≡ all
done records later names all definer none finds whole = sym (append-nil names) ∙ ap (λ ts. names ++ ts) (sym (none_filled records later (sym none ∙ finds))) ∙ whole

-- with those of the next one
pub record More (records : List ObjectRecord) (parents : List (Option ℕ)) (names all : List Text) (p : ℕ) (r : ObjectRecord) : Type 0 where
  pub within : p < length parents
  pub some : 0 < length r.lists.defines.items
  pub room : length names + length r.lists.defines.items ≤ length all
  pub later : List ℕ
  pub is_way : IsWay parents (get_or parents p None) later
  pub whole : (names ++ r.lists.defines.items) ++ names_at (defines_of records) later ≡ all

pub more : (records : List ObjectRecord) (parents : List (Option ℕ)) (o : Option ℕ) (later : List ℕ) (names all : List Text) (definer : Option ℕ) (p : ℕ) (r : ObjectRecord) → definer ≡ Some p
    → IsWay parents o later → definer ≡ first_filled (filled_of records) later → names ++ names_at (defines_of records) later ≡ all → p < length records → r ≡ get_or records p r → More records parents names all p r
more records parents o later names all definer p r is way finds whole lt at =
    let n = next records parents o later p way (sym is ∙ finds) in
    let own : get_or (defines_of records) p [] ≡ r.lists.defines.items = read_defines records p r lt at in
    let on : names_at (defines_of records) later ≡ r.lists.defines.items ++ names_at (defines_of records) n.later = n.names ∙ ap (λ ts. ts ++ names_at (defines_of records) n.later) own in
    let all_of : (names ++ r.lists.defines.items) ++ names_at (defines_of records) n.later ≡ all = append_assoc names r.lists.defines.items (names_at (defines_of records) n.later) ∙ ap (λ ts. names ++ ts) (sym on) ∙ whole in
    record {
      within = n.within;
      some = subst (λ ts. 0 < length ts) own n.some;
      room = omega (arith, ap length all_of, length-append (names ++ r.lists.defines.items) (names_at (defines_of records) n.later), length-append names r.lists.defines.items);
      later = n.later;
      is_way = n.is_way;
      whole = all_of;
    }

pub within_parents : (records : List ObjectRecord) (parents : List (Option ℕ)) (o : Option ℕ) (later : List ℕ) (definer : Option ℕ) (p : ℕ) → definer ≡ Some p
    → IsWay parents o later → definer ≡ first_filled (filled_of records) later → p < length parents
within_parents records parents o later definer p is way finds = let n = next records parents o later p way (sym is ∙ finds) in n.within

pub some_names : (records : List ObjectRecord) (parents : List (Option ℕ)) (o : Option ℕ) (later : List ℕ) (definer : Option ℕ) (p : ℕ) → definer ≡ Some p
    → IsWay parents o later → definer ≡ first_filled (filled_of records) later → 0 < length (names_at (defines_of records) later)
some_names records parents o later definer p is way finds =
    let n = next records parents o later p way (sym is ∙ finds) in
    omega (arith, ap length n.names, length-append (get_or (defines_of records) p []) (names_at (defines_of records) n.later), n.some)

-- ---- what a map of places finds

pub found_place : (m : BTreeMap ℤ ℕ) (k key : ℤ) (o : Option ℕ) → o ≡ get_by (int_cmp key) m → key ≡ k → o ≡ get int_cmp m k
found_place m k key o e same = e ∙ ap (λ (j : ℤ). get int_cmp m j) same

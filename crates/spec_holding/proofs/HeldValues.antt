-- Values that are held, one by one beside the others or in a list, fit their kinds.
use Rattle.std.proofs.Common.{◌≡◌, ℕ, zero, suc, Bool, true, false, List, [], ◌∷◌, ◌++◌, length, pred, replicate, Option, Some, None, option_map, IsTrue, refl, sym, ap, subst}
use Rattle.spec_value.specs.Datum.{Datum, integer, object, text, error, list, Data, append, joined}
use Rattle.spec_value.proofs.Entries.{first_holds, second_holds, both_hold}
use Rattle.spec_program.specs.Construct.{Construct}
use Rattle.spec_program.specs.Place.{Kind, any_value, any_list, code_list, Part, part}
use Rattle.spec_world.specs.WellFormed.{kind_fits, kinds_fit, held_fits}
use Rattle.spec_moo.specs.Held.{Way, beside, before_list, listed, spliced, in_last, held_with}

pub same_some : {X : Type 0} (a b : X) → Some a ≡ Some b → a ≡ b
same_some {X} a b e = ap or e
  where
    or : Option X → X
    or None = a
    or (Some x) = x

abbrev pub Fit : List Kind → List Datum → Type 0
Fit ks vs = IsTrue (kinds_fit ks vs)

-- ---- beside the others

pub fits_beside : (ks : List Kind) (k : Kind) (hs : List Datum) (v : Datum) → Fit ks hs → IsTrue (kind_fits k v) → Fit (ks ++ k ∷ []) (hs ++ v ∷ [])
fits_beside [] k [] v h i = both_hold (kind_fits k v) true i refl
fits_beside [] k (u ∷ us) v h i = cc
fits_beside (x ∷ ks) k [] v h i = cc
fits_beside (x ∷ ks) k (u ∷ us) v h i =
    both_hold (kind_fits x u) _ (first_holds (kind_fits x u) _ h) (fits_beside ks k us v (second_holds (kind_fits x u) _ h) i)

pub any_fits : (v : Datum) → IsTrue (kind_fits any_value v)
any_fits v = refl

pub one_more : (c : Construct) (ks : List Kind) (around : ℕ) (x : Part) (hs vs : List Datum) (v : Datum)
    → Some (part c ks) ≡ Some x → IsTrue (held_fits around x.held hs) → Some (hs ++ v ∷ []) ≡ Some vs → Fit (ks ++ any_value ∷ []) vs
one_more c ks around x hs vs v e h k =
    subst (Fit (ks ++ any_value ∷ [])) (same_some _ vs k)
    (fits_beside ks any_value hs v (subst (λ (y : Part). IsTrue (held_fits around y.held hs)) (sym (same_some _ x e)) h) (any_fits v))

-- ---- in the list at the end

none_empty : (P : Type 0) (ks : List Kind) (k : Kind) → Fit (ks ++ k ∷ []) [] → P
none_empty P [] k h = cc
none_empty P (x ∷ ks) k h = cc

in_later : (f : Data → Data) (h u : Datum) (us : List Datum) → in_last f (h ∷ u ∷ us) ≡ option_map (λ ws. h ∷ ws) (in_last f (u ∷ us))
in_later f (integer n) u us = refl
in_later f (object n) u us = refl
in_later f (text n) u us = refl
in_later f (error n) u us = refl
in_later f (list n) u us = refl

last_fits : (f : Data → Data) (ks : List Kind) (hs vs : List Datum) → Fit (ks ++ any_list ∷ []) hs → in_last f hs ≡ Some vs → Fit (ks ++ any_list ∷ []) vs
last_fits f [] [] vs h e = cc
last_fits f [] (list xs ∷ []) vs h e = subst (Fit (any_list ∷ [])) (same_some _ vs e) refl
last_fits f [] (list xs ∷ u ∷ us) vs h e = cc
last_fits f [] (integer n ∷ us) vs h e = cc
last_fits f [] (object n ∷ us) vs h e = cc
last_fits f [] (text n ∷ us) vs h e = cc
last_fits f [] (error n ∷ us) vs h e = cc
last_fits f (k ∷ ks) [] vs h e = cc
last_fits f (k ∷ ks) (u ∷ []) vs h e = none_empty _ ks any_list (second_holds (kind_fits k u) _ h)
last_fits f (k ∷ ks) (u ∷ w ∷ us) vs h e =
    go (λ ws. last_fits f ks (w ∷ us) ws (second_holds (kind_fits k u) _ h)) (in_last f (w ∷ us)) refl (subst (λ o. o ≡ Some vs) (in_later f u w us) e)
  where
    go : ((ws : List Datum) → in_last f (w ∷ us) ≡ Some ws → Fit (ks ++ any_list ∷ []) ws) → (o : Option (List Datum)) → in_last f (w ∷ us) ≡ o
        → option_map (λ ws. u ∷ ws) o ≡ Some vs → Fit ((k ∷ ks) ++ any_list ∷ []) vs
    go more None is i = cc
    go more (Some ws) is i =
        subst (Fit ((k ∷ ks) ++ any_list ∷ [])) (same_some _ vs i) (both_hold (kind_fits k u) _ (first_holds (kind_fits k u) _ h) (more ws is))

-- a value or its items go there
abbrev pub lists_on : Way → Bool
lists_on listed = true
lists_on spliced = true
lists_on y = false

pub list_fits : (y : Way) (ks : List Kind) (hs vs : List Datum) (v : Datum) → IsTrue (lists_on y) → Fit (ks ++ any_list ∷ []) hs → held_with y hs v ≡ Some vs
    → Fit (ks ++ any_list ∷ []) vs
list_fits listed ks hs vs v i h e = last_fits (λ xs. append xs v) ks hs vs h e
list_fits spliced ks hs vs (list ys) i h e = last_fits (λ xs. joined xs ys) ks hs vs h e
list_fits spliced ks hs vs (integer n) i h e = cc
list_fits spliced ks hs vs (object n) i h e = cc
list_fits spliced ks hs vs (text n) i h e = cc
list_fits spliced ks hs vs (error n) i h e = cc
list_fits beside ks hs vs v i h e = cc
list_fits before_list ks hs vs v i h e = cc

-- the list so far is then the list of codes
as_code : (v : Datum) → IsTrue (kind_fits any_list v) → IsTrue (kind_fits code_list v)
as_code (list xs) h = refl
as_code (integer n) h = cc
as_code (object n) h = cc
as_code (text n) h = cc
as_code (error n) h = cc

pub as_codes : (ks : List Kind) (vs : List Datum) → Fit (ks ++ any_list ∷ []) vs → Fit (ks ++ code_list ∷ []) vs
as_codes [] [] h = cc
as_codes [] (v ∷ vs) h = both_hold (kind_fits code_list v) _ (as_code v (first_holds (kind_fits any_list v) _ h)) (second_holds (kind_fits any_list v) _ h)
as_codes (k ∷ ks) [] h = cc
as_codes (k ∷ ks) (v ∷ vs) h = both_hold (kind_fits k v) _ (first_holds (kind_fits k v) _ h) (as_codes ks vs (second_holds (kind_fits k v) _ h))

-- ---- so many values

pub so_many : (n : ℕ) (vs : List Datum) → length vs ≡ n → Fit (replicate n any_value) vs
so_many zero [] e = refl
so_many zero (v ∷ vs) e = cc
so_many (suc n) [] e = cc
so_many (suc n) (v ∷ vs) e = so_many n vs (ap pred e)

pub just_so_many : (n : ℕ) (vs : List Datum) → Fit (replicate n any_value) vs → length vs ≡ n
just_so_many zero [] h = refl
just_so_many zero (v ∷ vs) h = cc
just_so_many (suc n) [] h = cc
just_so_many (suc n) (v ∷ vs) h = ap suc (just_so_many n vs h)

pub one_longer : (hs : List Datum) (v : Datum) → length (hs ++ v ∷ []) ≡ suc (length hs)
one_longer [] v = refl
one_longer (u ∷ us) v = ap suc (one_longer us v)

pub none_held : (hs : List Datum) → Fit [] hs → hs ≡ []
none_held [] h = refl
none_held (u ∷ us) h = cc

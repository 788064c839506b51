-- What lists, calls of functions and operators hold fits each of their parts.
use Rattle.std.proofs.Common.{◌≡◌, ℕ, zero, suc, List, [], ◌∷◌, ◌++◌, Option, Some, None, IsTrue, refl, sym, ap, subst}
use Rattle.spec_value.specs.Datum.{Datum, integer, object, text, error, list, no_data, Text}
use Rattle.spec_program.specs.Tree.{Arguments, no_arguments, argument, splice, listing, call}
use Rattle.spec_program.specs.Construct.{Construct, of_expr}
use Rattle.spec_program.specs.Place.{holds, any_list, any_value, Part, argument_parts, nth, part}
use Rattle.spec_world.specs.WellFormed.{held_fits, kinds_fit}
use Rattle.spec_moo.specs.Held.{listed, spliced, argument_ways, nth_way, held_with}
use Rattle.spec_moo.specs.Holding.{FirstHolds, NextHolds, OperandsHold}

abbrev one_list : List Datum → Type 0
one_list hs = IsTrue (kinds_fit (any_list ∷ []) hs)

some : {X : Type 0} (a b : X) → Some a ≡ Some b → a ≡ b
some {X} a b e = ap or e
  where
    or : Option X → X
    or None = a
    or (Some x) = x

-- each part of it holds one list
part_holds : (es : Arguments) (n : ℕ) (x : Part) → nth (argument_parts (any_list ∷ []) es) n ≡ Some x → x.held ≡ holds (any_list ∷ [])
part_holds no_arguments n x e = cc
part_holds (argument a es) zero x e = sym (ap (λ (p : Part). p.held) (some _ x e))
part_holds (splice a es) zero x e = sym (ap (λ (p : Part). p.held) (some _ x e))
part_holds (argument a es) (suc n) x e = part_holds es n x e
part_holds (splice a es) (suc n) x e = part_holds es n x e

-- a value or its items go to the end of it
listed_holds : (hs vs : List Datum) (v : Datum) → one_list hs → held_with listed hs v ≡ Some vs → one_list vs
listed_holds (list xs ∷ []) vs v h k = subst one_list (some _ vs k) refl
listed_holds (list xs ∷ u ∷ us) vs v h k = cc
listed_holds [] vs v h k = cc
listed_holds (integer n ∷ us) vs v h k = cc
listed_holds (object n ∷ us) vs v h k = cc
listed_holds (text n ∷ us) vs v h k = cc
listed_holds (error n ∷ us) vs v h k = cc

spliced_holds : (hs vs : List Datum) (v : Datum) → one_list hs → held_with spliced hs v ≡ Some vs → one_list vs
spliced_holds (list xs ∷ []) vs (list ys) h k = subst one_list (some _ vs k) refl
spliced_holds (list xs ∷ []) vs (integer n) h k = cc
spliced_holds (list xs ∷ []) vs (object n) h k = cc
spliced_holds (list xs ∷ []) vs (text n) h k = cc
spliced_holds (list xs ∷ []) vs (error n) h k = cc
spliced_holds (list xs ∷ u ∷ us) vs v h k = cc
spliced_holds [] vs v h k = cc
spliced_holds (integer n ∷ us) vs v h k = cc
spliced_holds (object n ∷ us) vs v h k = cc
spliced_holds (text n ∷ us) vs v h k = cc
spliced_holds (error n ∷ us) vs v h k = cc

item_holds : (es : Arguments) (n : ℕ) (x : Part) (hs vs : List Datum) (v : Datum) → nth (argument_parts (any_list ∷ []) es) n ≡ Some x → one_list hs
    → held_with (nth_way (argument_ways es) n) hs v ≡ Some vs → one_list vs
item_holds no_arguments n x hs vs v e h k = cc
item_holds (argument a es) zero x hs vs v e h k = listed_holds hs vs v h k
item_holds (splice a es) zero x hs vs v e h k = spliced_holds hs vs v h k
item_holds (argument a es) (suc n) x hs vs v e h k = item_holds es n x hs vs v e h k
item_holds (splice a es) (suc n) x hs vs v e h k = item_holds es n x hs vs v e h k

next_holds : (es : Arguments) (around n : ℕ) (x y : Part) (hs vs : List Datum) (v : Datum)
    → nth (argument_parts (any_list ∷ []) es) n ≡ Some x → IsTrue (held_fits around x.held hs) → held_with (nth_way (argument_ways es) n) hs v ≡ Some vs
    → nth (argument_parts (any_list ∷ []) es) (suc n) ≡ Some y → IsTrue (held_fits around y.held vs)
next_holds es around n x y hs vs v e h k f =
    subst (λ z. IsTrue (held_fits around z vs)) (sym (part_holds es (suc n) y f))
    (item_holds es n x hs vs v e (subst (λ z. IsTrue (held_fits around z hs)) (part_holds es n x e) h) k)

pub lists_hold : (es : Arguments) → FirstHolds (of_expr (listing es)) × NextHolds (of_expr (listing es))
lists_hold es = ((λ around x e. subst (λ z. IsTrue (held_fits around z (list no_data ∷ []))) (sym (part_holds es 0 x e)) refl), next_holds es)

pub calls_hold : (f : Text) (es : Arguments) → FirstHolds (of_expr (call f es)) × NextHolds (of_expr (call f es))
calls_hold f es = ((λ around x e. subst (λ z. IsTrue (held_fits around z (list no_data ∷ []))) (sym (part_holds es 0 x e)) refl), next_holds es)

-- ---- the operands so far

abbrev none_held : List Datum → Type 0
none_held hs = IsTrue (kinds_fit [] hs)

first_beside : (hs : List Datum) (v : Datum) → none_held hs → IsTrue (kinds_fit (any_value ∷ []) (hs ++ v ∷ []))
first_beside [] v h = refl
first_beside (u ∷ us) v h = cc

second_beside : (hs : List Datum) (v : Datum) → IsTrue (kinds_fit (any_value ∷ []) hs) → IsTrue (kinds_fit (any_value ∷ any_value ∷ []) (hs ++ v ∷ []))
second_beside [] v h = cc
second_beside (u ∷ []) v h = refl
second_beside (u ∷ w ∷ us) v h = cc

two_hold : (a b : Construct) (around n : ℕ) (x y : Part) (hs vs : List Datum) (v : Datum)
    → nth (part a [] ∷ part b (any_value ∷ []) ∷ []) n ≡ Some x → IsTrue (held_fits around x.held hs) → Some (hs ++ v ∷ []) ≡ Some vs
    → nth (part a [] ∷ part b (any_value ∷ []) ∷ []) (suc n) ≡ Some y → IsTrue (held_fits around y.held vs)
two_hold a b around zero x y hs vs v e h k f =
    subst (λ (z : Part). IsTrue (held_fits around z.held vs)) (some _ y f)
    (subst (λ us. IsTrue (kinds_fit (any_value ∷ []) us)) (some _ vs k) (first_beside hs v (subst (λ (z : Part). IsTrue (held_fits around z.held hs)) (sym (some _ x e)) h)))
two_hold a b around (suc n) x y hs vs v e h k f = cc

three_hold : (a b c : Construct) (around n : ℕ) (x y : Part) (hs vs : List Datum) (v : Datum)
    → nth (part a [] ∷ part b (any_value ∷ []) ∷ part c (any_value ∷ any_value ∷ []) ∷ []) n ≡ Some x → IsTrue (held_fits around x.held hs)
    → Some (hs ++ v ∷ []) ≡ Some vs → nth (part a [] ∷ part b (any_value ∷ []) ∷ part c (any_value ∷ any_value ∷ []) ∷ []) (suc n) ≡ Some y
    → IsTrue (held_fits around y.held vs)
three_hold a b c around zero x y hs vs v e h k f = two_hold a b around zero x y hs vs v e h k f
three_hold a b c around (suc zero) x y hs vs v e h k f =
    subst (λ (z : Part). IsTrue (held_fits around z.held vs)) (some _ y f)
    (subst (λ us. IsTrue (kinds_fit (any_value ∷ any_value ∷ []) us)) (some _ vs k)
    (second_beside hs v (subst (λ (z : Part). IsTrue (held_fits around z.held hs)) (sym (some _ x e)) h)))
three_hold a b c around (suc (suc n)) x y hs vs v e h k f = cc

pub operands_hold : OperandsHold
operands_hold op a b c =
    (two_hold (of_expr a) (of_expr b), two_hold (of_expr a) (of_expr b), two_hold (of_expr a) (of_expr b), three_hold (of_expr a) (of_expr b) (of_expr c))

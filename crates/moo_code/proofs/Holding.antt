-- What a construct holds before its first part, and beside a part's value.
use Rattle.std.proofs.Common.{◌≡◌, ℕ, suc, List, [], ◌∷◌, ◌++◌, length, length-append, true, false, Option, Some, None, refl, sym, ap, ◌∙◌, arith}
use Rattle.std.specs.Prelude.{option_map}
use Rattle.spec_value.specs.Datum.{Datum, Data, integer, object, text, error, list, no_data, append, joined}
use Rattle.spec_program.specs.Tree.{listing, call}
use Rattle.spec_program.specs.Construct.{Construct, of_expr}
use Rattle.spec_moo.specs.Held.{Way, beside, before_list, listed, spliced, held_at_first, in_last, held_with}
use Rattle.moo_code.specs.Instruction.{Unraised}
use Rattle.moo_code.specs.Layout.{received, opens}
use Rattle.moo_code.specs.Stands.{first_size}
use Rattle.moo_code.proofs.Fits.{IsList, after_count}

pub first_held_is : (c : Construct) → length (held_at_first c) ≡ first_size c
first_held_is (of_expr (listing es)) = refl
first_held_is (of_expr (call f es)) = refl
first_held_is c = refl

pub first_list : (c : Construct) → opens c ≡ true → held_at_first c ≡ list no_data ∷ []
first_list (of_expr (listing es)) h = refl
first_list (of_expr (call f es)) h = refl
first_list c h = cc

pub first_none : (c : Construct) → opens c ≡ false → held_at_first c ≡ []
first_none (of_expr (listing es)) h = cc
first_none (of_expr (call f es)) h = cc
first_none c h = refl

length_or : ℕ → Option (List Datum) → ℕ
length_or n None = n
length_or n (Some vs) = length vs

some_length : (vs us : List Datum) → Some vs ≡ Some us → length us ≡ length vs
unfolding length_or
some_length vs us e = sym (ap (λ o. length_or 0 o) e)

later_in : (f : Data → Data) (v : Datum) (hs us : List Datum) (o : Option (List Datum)) → ((ws : List Datum) → o ≡ Some ws → length ws ≡ length hs) → option_map (λ ws. v ∷ ws) o ≡ Some us → length us ≡ suc (length hs)
later_in f v hs us None r e = cc
later_in f v hs us (Some ws) r e = some_length (v ∷ ws) us e ∙ ap suc (r ws refl)

in_last_length : (f : Data → Data) (hs us : List Datum) → in_last f hs ≡ Some us → length us ≡ length hs
in_last_length f [] us e = cc
in_last_length f (list xs ∷ []) us e = some_length (list (f xs) ∷ []) us e
in_last_length f (list xs ∷ v ∷ hs) us e = later_in f (list xs) (v ∷ hs) us (in_last f (v ∷ hs)) (in_last_length f (v ∷ hs)) e
in_last_length f (integer n ∷ hs) us e = later_in f (integer n) hs us (in_last f hs) (in_last_length f hs) e
in_last_length f (object n ∷ hs) us e = later_in f (object n) hs us (in_last f hs) (in_last_length f hs) e
in_last_length f (text n ∷ hs) us e = later_in f (text n) hs us (in_last f hs) (in_last_length f hs) e
in_last_length f (error n ∷ hs) us e = later_in f (error n) hs us (in_last f hs) (in_last_length f hs) e

-- how many values there are after a value that a list receives
pub held_count_after : (w : Way) (n : ℕ) (u : Unraised) (hs us : List Datum) (v : Datum) → IsList w → n ≡ length hs → held_with w hs v ≡ Some us → length us ≡ after_count (received w n u) (length hs) 1
held_count_after beside n u hs us v i k e = absurd i
held_count_after before_list n u hs us v i k e = let m = some_length (hs ++ v ∷ list no_data ∷ []) us e in omega (arith, m, length-append hs (v ∷ list no_data ∷ []))
held_count_after listed n u hs us v i k e = in_last_length (λ xs. append xs v) hs us e
held_count_after spliced n u hs us (list ys) i k e = in_last_length (λ xs. joined xs ys) hs us e
held_count_after spliced n u hs us (integer y) i k e = cc
held_count_after spliced n u hs us (object y) i k e = cc
held_count_after spliced n u hs us (text y) i k e = cc
held_count_after spliced n u hs us (error y) i k e = cc

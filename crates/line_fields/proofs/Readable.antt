-- Texts, and lists of texts and objects, nest no deeper than literals that are read.
use Rattle.std.proofs.Common.{◌≡◌, ℕ, suc, max, ℤ, List, [], ◌∷◌, IsTrue, nat_le, refl, arith, subst, sym}
use Rattle.std.specs.List.{list_all}
use Rattle.spec_value.specs.Datum.{Text, is_text, text, list, of_list, in_number_range, is_value}
use Rattle.spec_value.proofs.Entries.{both_hold}
use Rattle.spec_world.specs.Checkpoint.{object_list, text_list}
use Rattle.spec_checkpoint.proofs.Fields.{values_hold, objects_hold, texts_hold}
use Rattle.moo_value.specs.Depth.{data_depth}
use Rattle.line_fields.specs.Values.{nests_no_deeper, is_readable}

pub text_readable : (t : Text) → IsTrue (is_text t) → IsTrue (is_readable (text t))
text_readable t h = both_hold (is_text t) (nests_no_deeper (text t)) h refl

none_below : (n : ℕ) → n ≡ 0 → max 0 n ≡ 0
none_below n e = omega arith

objects_flat : (os : List ℤ) → data_depth (of_list (object_list os)) ≡ 0
objects_flat [] = refl
objects_flat (o ∷ os) = none_below (data_depth (of_list (object_list os))) (objects_flat os)

pub objects_readable : (os : List ℤ) → IsTrue (list_all in_number_range os) → IsTrue (is_readable (list (of_list (object_list os))))
objects_readable os h =
    both_hold (is_value (list (of_list (object_list os)))) (nests_no_deeper (list (of_list (object_list os)))) (values_hold (object_list os) (objects_hold os h))
    (subst (λ n. IsTrue (nat_le (suc n) 100000)) (sym (objects_flat os)) refl)

texts_flat : (ts : List Text) → data_depth (of_list (text_list ts)) ≡ 0
texts_flat [] = refl
texts_flat (t ∷ ts) = none_below (data_depth (of_list (text_list ts))) (texts_flat ts)

pub texts_readable : (ts : List Text) → IsTrue (list_all is_text ts) → IsTrue (is_readable (list (of_list (text_list ts))))
texts_readable ts h =
    both_hold (is_value (list (of_list (text_list ts)))) (nests_no_deeper (list (of_list (text_list ts)))) (values_hold (text_list ts) (texts_hold ts h))
    (subst (λ n. IsTrue (nat_le (suc n) 100000)) (sym (texts_flat ts)) refl)

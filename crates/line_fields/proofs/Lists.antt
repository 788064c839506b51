-- Lists of objects, and of texts, as lists of values.
use Rattle.std.proofs.Common.{◌≡◌, ℕ, zero, suc, ◌<◌, ℤ, List, [], ◌∷◌, ◌++◌, length, get_or, refl, ap, sym, ◌∙◌, arith}
use Rattle.spec_value.specs.Datum.{Text, Datum, object, text, list, of_list, to_list}
use Rattle.spec_world.specs.Checkpoint.{object_list, text_list}

pub list_back : (vs : List Datum) → to_list (of_list vs) ≡ vs
list_back [] = refl
list_back (v ∷ vs) = ap (λ us. v ∷ us) (list_back vs)

pub of_list_same : (vs us : List Datum) → of_list vs ≡ of_list us → vs ≡ us
of_list_same vs us e = sym (list_back vs) ∙ ap to_list e ∙ list_back us

pub items_same : (vs us : List Datum) → list (of_list vs) ≡ list (of_list us) → vs ≡ us
items_same vs us e = let same : of_list vs ≡ of_list us = cc in of_list_same vs us same

pub objects_more : (os : List ℤ) (o : ℤ) → object_list (os ++ o ∷ []) ≡ object_list os ++ object o ∷ []
objects_more [] o = refl
objects_more (p ∷ os) o = ap (λ vs. object p ∷ vs) (objects_more os o)

pub objects_same : (os ps : List ℤ) → object_list os ≡ object_list ps → os ≡ ps
objects_same [] [] e = refl
objects_same [] (p ∷ ps) e = cc
objects_same (o ∷ os) [] e = cc
objects_same (o ∷ os) (p ∷ ps) e = let rest : os ≡ ps = objects_same os ps cc in let first : o ≡ p = cc in cc

pub object_there : (os : List ℤ) (i : ℕ) (d : Datum) → i < length (object_list os) → (o : ℤ) × (get_or (object_list os) i d ≡ object o)
object_there [] i d l = absurd (omega arith)
object_there (o ∷ os) zero d l = (o, refl)
object_there (o ∷ os) (suc i) d l = object_there os i d (omega arith)

pub texts_more : (ts : List Text) (t : Text) → text_list (ts ++ t ∷ []) ≡ text_list ts ++ text t ∷ []
texts_more [] t = refl
texts_more (u ∷ ts) t = ap (λ vs. text u ∷ vs) (texts_more ts t)

pub texts_same : (ts us : List Text) → text_list ts ≡ text_list us → ts ≡ us
texts_same [] [] e = refl
texts_same [] (u ∷ us) e = cc
texts_same (t ∷ ts) [] e = cc
texts_same (t ∷ ts) (u ∷ us) e = let rest : ts ≡ us = texts_same ts us cc in let first : t ≡ u = cc in cc

pub text_there : (ts : List Text) (i : ℕ) (d : Datum) → i < length (text_list ts) → (t : Text) × (get_or (text_list ts) i d ≡ text t)
text_there [] i d l = absurd (omega arith)
text_there (t ∷ ts) zero d l = (t, refl)
text_there (t ∷ ts) (suc i) d l = text_there ts i d (omega arith)

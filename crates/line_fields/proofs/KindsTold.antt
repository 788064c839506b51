-- Lists whose items are all of one kind, or not.
use Rattle.std.proofs.Common.{◌≡◌, ℕ, zero, suc, ◌<◌, ◌&&◌, Bool, true, false, List, [], ◌∷◌, length, get_or, refl, ap, sym, ◌∙◌, arith}
use Rattle.std.specs.Prelude.{ℤ}
use Rattle.std.specs.List.{list_all}
use Rattle.spec_value.specs.Datum.{Text, Datum, integer, object, text, error, list, Data, of_list}
use Rattle.spec_world.specs.Checkpoint.{object_list, text_list}
use Rattle.spec_checkpoint.proofs.Fields.{list_back}
use Rattle.spec_faults.specs.Literals.{is_string, is_object_value, is_list_of}

pub no_list : (test : Datum → Bool) (v : Datum) → ((xs : Data) → v ≡ list xs → ⊥) → is_list_of test v ≡ false
no_list test (list xs) h = absurd (h xs refl)
no_list test (integer z) h = refl
no_list test (object z) h = refl
no_list test (text t) h = refl
no_list test (error e) h = refl

list_is : (test : Datum → Bool) (v : Datum) (vs : List Datum) → v ≡ list (of_list vs) → is_list_of test v ≡ list_all test vs
list_is test v vs e = ap (is_list_of test) e ∙ ap (list_all test) (list_back vs)

never : (b : Bool) → (b && false) ≡ false
never true = refl
never false = refl

one_not : (test : Datum → Bool) (vs : List Datum) (i : ℕ) (d : Datum) → i < length vs → test (get_or vs i d) ≡ false → list_all test vs ≡ false
one_not test [] i d l h = absurd (omega (arith, l))
one_not test (v ∷ vs) zero d l h = ap (λ b. b && list_all test vs) h
one_not test (v ∷ vs) (suc i) d l h = ap (λ b. test v && b) (one_not test vs i d (omega (arith, l)) h) ∙ never (test v)

pub not_all : (test : Datum → Bool) (v : Datum) (vs : List Datum) (i : ℕ) (d x : Datum) → v ≡ list (of_list vs) → i < length vs → x ≡ get_or vs i d → test x ≡ false → is_list_of test v ≡ false
not_all test v vs i d x e l is h = list_is test v vs e ∙ one_not test vs i d l (ap test (sym is) ∙ h)

-- ---- objects

pub no_object : (v : Datum) → ((z : ℤ) → v ≡ object z → ⊥) → is_object_value v ≡ false
no_object (object z) h = absurd (h z refl)
no_object (integer z) h = refl
no_object (text t) h = refl
no_object (error e) h = refl
no_object (list xs) h = refl

all_objects : (os : List ℤ) → list_all is_object_value (object_list os) ≡ true
all_objects [] = refl
all_objects (o ∷ os) = all_objects os

pub objects_told : (v : Datum) (vs : List Datum) (os : List ℤ) → v ≡ list (of_list vs) → object_list os ≡ vs → is_list_of is_object_value v ≡ true
objects_told v vs os e is = list_is is_object_value v vs e ∙ ap (list_all is_object_value) (sym is) ∙ all_objects os

-- ---- texts

pub no_text : (v : Datum) → ((t : Text) → v ≡ text t → ⊥) → is_string v ≡ false
no_text (text t) h = absurd (h t refl)
no_text (integer z) h = refl
no_text (object z) h = refl
no_text (error e) h = refl
no_text (list xs) h = refl

all_texts : (ts : List Text) → list_all is_string (text_list ts) ≡ true
all_texts [] = refl
all_texts (t ∷ ts) = all_texts ts

pub texts_told : (v : Datum) (vs : List Datum) (ts : List Text) → v ≡ list (of_list vs) → text_list ts ≡ vs → is_list_of is_string v ≡ true
texts_told v vs ts e is = list_is is_string v vs e ∙ ap (list_all is_string) (sym is) ∙ all_texts ts

-- What a command line gave, as a value.
use Rattle.std.proofs.Common.{◌≡◌, ℕ, ℤ, Bool, true, false, List, [], ◌∷◌, length, get_or, Option, Some, None, MatchOption, refl, ap, sym, subst, ◌∙◌, arith}
use Rattle.spec_value.specs.Datum.{Text, Datum, integer, object, text, error, list, Data, no_data, item, of_list}
use Rattle.spec_faults.specs.Literals.{is_start}
use Rattle.line_fields.proofs.Lists.{items_same}

pub record SixParts (v : Datum) : Type 0 where
  pub argstr : Text
  pub dobj : ℤ
  pub dobjstr : Text
  pub prepstr : Text
  pub iobj : ℤ
  pub iobjstr : Text
  pub are : v ≡ list (item (text argstr) (item (object dobj) (item (text dobjstr) (item (text prepstr) (item (object iobj) (item (text iobjstr) no_data))))))

start_parts : (v : Datum) → is_start v ≡ true → SixParts v
start_parts (list (item (text a) (item (object o) (item (text b) (item (text c) (item (object p) (item (text d) no_data))))))) h =
    record { argstr = a; dobj = o; dobjstr = b; prepstr = c; iobj = p; iobjstr = d; are = refl }
start_parts _ h = cc

same_list : (xs ys : Data) → list xs ≡ list ys → xs ≡ ys
same_list xs ys e = cc

pub six_items : (vs : List Datum) (p : SixParts (list (of_list vs))) → vs ≡ text p.argstr ∷ object p.dobj ∷ text p.dobjstr ∷ text p.prepstr ∷ object p.iobj ∷ text p.iobjstr ∷ []
six_items vs p = items_same vs (text p.argstr ∷ object p.dobj ∷ text p.dobjstr ∷ text p.prepstr ∷ object p.iobj ∷ text p.iobjstr ∷ []) p.are

unless : (b : Bool) → (b ≡ true → ⊥) → b ≡ false
unless true h = absurd (h refl)
unless false h = refl

-- not as many
pub not_six : (vs : List Datum) → (length vs ≡ 6 → ⊥) → is_start (list (of_list vs)) ≡ false
not_six vs h = unless (is_start (list (of_list vs))) (λ e. h (ap length (six_items vs (start_parts (list (of_list vs)) e))))

-- an item of another kind
pub no_object_at : (vs : List Datum) (x y d : Datum) → x ≡ get_or vs 1 d → y ≡ get_or vs 4 d → ((z w : ℤ) → x ≡ object z → y ≡ object w → ⊥) → is_start (list (of_list vs)) ≡ false
no_object_at vs x y d a b h =
    unless (is_start (list (of_list vs)))
    (λ e. let p = start_parts (list (of_list vs)) e in
    let six = six_items vs p in h p.dobj p.iobj (a ∙ ap (λ us. get_or us 1 d) six) (b ∙ ap (λ us. get_or us 4 d) six))

pub no_list_start : (v : Datum) → ((xs : Data) → v ≡ list xs → ⊥) → is_start v ≡ false
no_list_start (list xs) h = absurd (h xs refl)
no_list_start (integer z) h = refl
no_list_start (object z) h = refl
no_list_start (text t) h = refl
no_list_start (error e) h = refl

pub no_text_last : (vs : List Datum) (x d : Datum) (o : Option Text) → x ≡ get_or vs 5 d → o ≡ None → MatchOption o ((t : Text) → x ≡ text t → ⊥) (λ t. x ≡ text t) → is_start (list (of_list vs)) ≡ false
no_text_last vs x d o a e m =
    unless (is_start (list (of_list vs)))
    (λ s. let p = start_parts (list (of_list vs)) s in
    subst (λ q. MatchOption q ((t : Text) → x ≡ text t → ⊥) (λ t. x ≡ text t)) e m p.iobjstr (a ∙ ap (λ us. get_or us 5 d) (six_items vs p)))

-- ---- all six

six : (vs : List Datum) (a b c e f g : Datum) → length vs ≡ 6 → vs ≡ get_or vs 0 a ∷ get_or vs 1 b ∷ get_or vs 2 c ∷ get_or vs 3 e ∷ get_or vs 4 f ∷ get_or vs 5 g ∷ []
six (x ∷ y ∷ z ∷ u ∷ v ∷ w ∷ []) a b c e f g h = refl
six _ a b c e f g h = absurd (omega (arith, h))

-- a text, or an object, that stands there
pub record TextThere (vs : List Datum) (n : ℕ) : Type 0 where
  pub default : Datum
  pub found : Text
  pub is : get_or vs n default ≡ text found

pub record ObjectThere (vs : List Datum) (n : ℕ) : Type 0 where
  pub default : Datum
  pub found : ℤ
  pub is : get_or vs n default ≡ object found

pub text_there : (vs : List Datum) (n : ℕ) (x d : Datum) (o : Option Text) (t : Text) → x ≡ get_or vs n d → o ≡ Some t → MatchOption o ((t : Text) → x ≡ text t → ⊥) (λ t. x ≡ text t) → TextThere vs n
text_there vs n x d o t a e m = record { default = d; found = t; is = sym a ∙ subst (λ q. MatchOption q ((t : Text) → x ≡ text t → ⊥) (λ t. x ≡ text t)) e m }

pub object_there : (vs : List Datum) (n : ℕ) (x d : Datum) (o : Option ℤ) (z : ℤ) → x ≡ get_or vs n d → o ≡ Some z → MatchOption o ((z : ℤ) → x ≡ object z → ⊥) (λ z. x ≡ object z) → ObjectThere vs n
object_there vs n x d o z a e m = record { default = d; found = z; is = sym a ∙ subst (λ q. MatchOption q ((z : ℤ) → x ≡ object z → ⊥) (λ z. x ≡ object z)) e m }

pub six_there : (vs : List Datum) → length vs ≡ 6 → TextThere vs 0 → ObjectThere vs 1 → TextThere vs 2 → TextThere vs 3 → ObjectThere vs 4 → TextThere vs 5 → is_start (list (of_list vs)) ≡ true
six_there vs h a b c e f g =
    ap (λ us. is_start (list (of_list us))) (six vs a.default b.default c.default e.default f.default g.default h)
    ∙ (λ i. is_start (list (item (a.is i) (item (b.is i) (item (c.is i) (item (e.is i) (item (f.is i) (item (g.is i) no_data))))))))

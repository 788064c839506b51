-- What is at a key of a table, and what is put there.
use Rattle.std.proofs.Common.{◌≡◌, ℕ, suc, ◌<◌, ◌≤◌, ◌-◌, ℤ, pos, negsuc, List, [], ◌∷◌, Option, Some, None, Bool, true, false, not, cond, IsTrue, nat_lt, refl, sym, ◌∙◌, ap, subst, arith, All, is_some}
use Rattle.std.proofs.lemmas.Bool.Decides.{nat_tests}
use Rattle.std.specs.Ordering.{nat_cmp, int_cmp, eq_by_cmp, is_eq}
use Rattle.std.specs.declared.cmp.Ordering.{Ordering}
use Rattle.std.specs.declared.cmp.Ordering.TheVariants.{Less, Equal, Greater}
use Rattle.std.specs.Cmp.{unsigned_tied}
use borrow.Author.Tests.{eqb-true}
use Rattle.std.specs.FinMap.{find, put}
use Rattle.std.specs.FinMap.Entries.{by_order}
use Rattle.spec_value.specs.Table.{at, with, without}
use Rattle.spec_world.specs.Questions.{is_number, put_record}
use Rattle.world_table.specs.Entries.{without as without_key}
use Rattle.world_table.specs.Revised.{Revises}
use Rattle.world.specs.Numbered.{keyed, numbered, signed_key, signed}
use Rattle.world.specs.Revised.{RevisesRecord}

order_of : {A B : Type 0} (f : A → B) (r : Ordering) (x y z : A) → by_order r (f x) (f y) (f z) ≡ f (by_order r x y z)
order_of f Less x y z = refl
order_of f Equal x y z = refl
order_of f Greater x y z = refl

-- ---- keys that are read in their order

module _ (f : ℕ → ℤ) (order : (a b : ℕ) → int_cmp (f a) (f b) ≡ nat_cmp a b) where
  pub at_key : {X : Type 0} (es : List (ℕ × X)) (k : ℕ) → at (keyed f es) (f k) ≡ find nat_cmp k es
  at_key [] k = refl
  at_key (e ∷ es) k = λ i. cond (is_eq (order k e.0 i)) (Some e.1) (at_key es k i)

  pub with_key : {X : Type 0} (es : List (ℕ × X)) (k : ℕ) (x : X) → with (keyed f es) (f k) x ≡ keyed f (put nat_cmp k x es)
  with_key [] k x = refl
  with_key (e ∷ es) k x =
      (λ i. by_order (order k e.0 i) ((f k, x) ∷ (f e.0, e.1) ∷ keyed f es) ((f e.0, x) ∷ keyed f es) ((f e.0, e.1) ∷ with_key es k x i))
      ∙ order_of (keyed f) (nat_cmp k e.0) ((k, x) ∷ e ∷ es) ((e.0, x) ∷ es) (e ∷ put nat_cmp k x es)

  kept_or_not : {X : Type 0} (b : Bool) (e : ℕ × X) (es : List (ℕ × X)) → cond b ((f e.0, e.1) ∷ keyed f es) (keyed f es) ≡ keyed f (cond b (e ∷ es) es)
  kept_or_not true e es = refl
  kept_or_not false e es = refl

  pub without_at : {X : Type 0} (es : List (ℕ × X)) (k : ℕ) → without (keyed f es) (f k) ≡ keyed f (without_key k es)
  without_at [] k = refl
  without_at (e ∷ es) k =
      (λ i. cond (not (is_eq (order k e.0 i))) ((f e.0, e.1) ∷ without_at es k i) (without_at es k i))
      ∙ kept_or_not (not (eq_by_cmp nat_cmp k e.0)) e (without_key k es)

-- ---- natural numbers

pub positive_cmp : (a b : ℕ) → int_cmp (pos a) (pos b) ≡ nat_cmp a b
positive_cmp a b = grind (arith, nat_tests)

pub at_positive : {X : Type 0} (es : List (ℕ × X)) (k : ℕ) → at (numbered es) (pos k) ≡ find nat_cmp k es
at_positive es k = at_key pos positive_cmp es k

pub at_negative : {X : Type 0} (es : List (ℕ × X)) (k : ℕ) → at (numbered es) (negsuc k) ≡ None
at_negative [] k = refl
at_negative (e ∷ es) k = at_negative es k

pub with_positive : {X : Type 0} (es : List (ℕ × X)) (k : ℕ) (x : X) → with (numbered es) (pos k) x ≡ numbered (put nat_cmp k x es)
with_positive es k x = with_key pos positive_cmp es k x

pub without_positive : {X : Type 0} (es : List (ℕ × X)) (k : ℕ) → without (numbered es) (pos k) ≡ numbered (without_key k es)
without_positive es k = without_at pos positive_cmp es k

-- a record that was changed where it lies
pub record_revised : {X : Type 0} (Makes : X → X → Type 0) (n : ℤ) (k : ℕ) (old new : List (ℕ × X)) → n ≡ pos k → Revises Makes k old new
    → RevisesRecord Makes n (numbered old) (numbered new)
record_revised Makes n k old new is r =
    subst (λ (m : ℤ). RevisesRecord Makes m (numbered old) (numbered new)) (sym is) (record {
      before = r.before;
      after = r.after;
      found = at_positive old k ∙ r.found;
      made = r.made;
      records = ap numbered r.entries ∙ sym (with_positive old k r.after);
    })

pub without_negative : {X : Type 0} (es : List (ℕ × X)) (k : ℕ) → without (numbered es) (negsuc k) ≡ numbered es
without_negative [] k = refl
without_negative (e ∷ es) k = ap (λ rest. (pos e.0, e.1) ∷ rest) (without_negative es k)

-- ---- integers of 32 bits

pub signed_cmp : (a b : ℕ) → int_cmp (signed_key a) (signed_key b) ≡ nat_cmp a b
signed_cmp a b = go (nat_lt a 2147483648) refl (nat_lt b 2147483648) refl
  where
    go : (p : Bool) → nat_lt a 2147483648 ≡ p → (q : Bool) → nat_lt b 2147483648 ≡ q
        → int_cmp (cond p (negsuc (2147483647 - a)) (pos (a - 2147483648))) (cond q (negsuc (2147483647 - b)) (pos (b - 2147483648))) ≡ nat_cmp a b
    go true e true h = grind (arith, nat_tests)
    go true e false h = grind (arith, nat_tests)
    go false e true h = grind (arith, nat_tests)
    go false e false h = grind (arith, nat_tests)

pub at_signed : {X : Type 0} (es : List (ℕ × X)) (i : ℤ) (k : ℕ) → signed_key k ≡ i → at (signed es) i ≡ find nat_cmp k es
at_signed es i k is = ap (at (signed es)) (sym is) ∙ at_key signed_key signed_cmp es k

pub with_signed : {X : Type 0} (es : List (ℕ × X)) (i : ℤ) (k : ℕ) (x : X) → signed_key k ≡ i → with (signed es) i x ≡ signed (put nat_cmp k x es)
with_signed es i k x is = ap (λ j. with (signed es) j x) (sym is) ∙ with_key signed_key signed_cmp es k x

pub without_signed : {X : Type 0} (es : List (ℕ × X)) (i : ℤ) (k : ℕ) → signed_key k ≡ i → without (signed es) i ≡ signed (without_key k es)
without_signed es i k is = ap (without (signed es)) (sym is) ∙ without_at signed_key signed_cmp es k

-- ---- another record, or none

pub none_at : {X : Type 0} (es : List (ℕ × X)) (n : ℤ) (k : ℕ) → n ≡ pos k → put_record (numbered es) n None ≡ numbered (without_key k es)
none_at es n k is = ap (λ m. put_record (numbered es) m None) is ∙ without_positive es k

pub none_below : {X : Type 0} (es : List (ℕ × X)) (n : ℤ) (k : ℕ) → n ≡ negsuc k → put_record (numbered es) n None ≡ numbered es
none_below es n k is = ap (λ m. put_record (numbered es) m None) is ∙ without_negative es k

one_if : {X : Type 0} (es : List (ℕ × X)) (n : ℤ) (x : X) (b : Bool) → is_number n ≡ b → put_record (numbered es) n (Some x) ≡ cond b (with (numbered es) n x) (numbered es)
one_if es n x b is = ap (λ c. cond c (with (numbered es) n x) (numbered es)) is

pub one_at : {X : Type 0} (es : List (ℕ × X)) (n : ℤ) (k : ℕ) (x : X) → n ≡ pos k → k ≤ 999999 → put_record (numbered es) n (Some x) ≡ numbered (put nat_cmp k x es)
one_at es n k x is le =
    ap (λ m. put_record (numbered es) m (Some x)) is ∙ one_if es (pos k) x true (grind (arith, nat_tests)) ∙ with_positive es k x

pub none_above : {X : Type 0} (es : List (ℕ × X)) (n : ℤ) (k : ℕ) (x : X) → n ≡ pos k → 999999 < k → put_record (numbered es) n (Some x) ≡ numbered es
none_above es n k x is lt = ap (λ m. put_record (numbered es) m (Some x)) is ∙ one_if es (pos k) x false (grind (arith, nat_tests))

pub one_below : {X : Type 0} (es : List (ℕ × X)) (n : ℤ) (k : ℕ) (x : X) → n ≡ negsuc k → put_record (numbered es) n (Some x) ≡ numbered es
one_below es n k x is = ap (λ m. put_record (numbered es) m (Some x)) is

pub any_below : {X : Type 0} (es : List (ℕ × X)) (n : ℤ) (k : ℕ) (x : Option X) → n ≡ negsuc k → put_record (numbered es) n x ≡ numbered es
any_below es n k None is = none_below es n k is
any_below es n k (Some x) is = one_below es n k x is

-- a key at which there is a record is in a table's range
pub key_within : {X : Type 0} (es : List (ℕ × X)) (k bound : ℕ) → All (λ e. e.0 < bound) es → IsTrue (is_some (find nat_cmp k es)) → k < bound
key_within [] k bound all there = cc
key_within (e ∷ es) k bound all there =
    elim (eq_by_cmp nat_cmp k e.0) as (λ b. eq_by_cmp nat_cmp k e.0 ≡ b → IsTrue (is_some (cond b (Some e.1) (find nat_cmp k es))) → k < bound) [
      | true ↦ λ t _. let same : k ≡ e.0 = eqb-true k e.0 (sym (unsigned_tied k e.0) ∙ t) in let here : e.0 < bound = all 0 e (omega arith) in omega arith
      | false ↦ λ t h. key_within es k bound (λ j d lt. all (suc j) d (omega arith)) h
    ] refl there

pub key_of_there : {X : Type 0} (es : List (ℕ × X)) (n : ℤ) (k bound : ℕ) → All (λ e. e.0 < bound) es → n ≡ pos k → IsTrue (is_some (at (numbered es) n)) → k < bound
key_of_there es n k bound all is there =
    key_within es k bound all (subst (λ (o : Option _). IsTrue (is_some o)) (ap (λ (m : ℤ). at (numbered es) m) is ∙ at_positive es k) there)

-- What a reader of one field tells of its test.
use Rattle.std.proofs.Common.{◌≡◌, Bool, false, Result, Err, Option, Some, None, IfOk, is_some, alloc_error, refl, ap, sym, subst, ◌∙◌}
use Rattle.std.specs.Prelude.{option_map}
use Rattle.std.specs.Option.{ok_or}
use Rattle.spec_value.specs.Datum.{integer, object, text, error, list, Datum}
use Rattle.spec_faults.specs.Plain.{passes}
use Rattle.spec_faults.specs.Literals.{any, is_string}
use Rattle.line_fields.specs.Said.{Says, string_in}
use Rattle.checkpoint_lines.specs.declared.fault.DecodeError.{DecodeError}
use Rattle.checkpoint_lines.specs.declared.fault.DecodeError.TheVariants.{Line, Memory}
use Rattle.checkpoint_lines.specs.declared.fault.FaultKind.{FaultKind}
use Rattle.checkpoint_lines.specs.declared.row.Row.{Row}
use Rattle.checkpoint_lines.specs.Told.{row_fault, Checks}

module _ {A : Type 0} (o : Option A) (res : Result A DecodeError) (r : Row) (k : FaultKind) (test : Bool) (known : res ≡ ok_or o (row_fault r k)) where
  -- it is found where the test passes
  pub checks_found : is_some o ≡ test → Checks res r k test
  checks_found = go o known
    where
      go : (p : Option A) → res ≡ ok_or p (row_fault r k) → is_some p ≡ test → Checks res r k test
      go None is e = subst (λ s. Checks s r k test) (sym is) (sym e, refl)
      go (Some x) is e = subst (λ s. Checks s r k test) (sym is) (sym e)

module _ {A B : Type 0} (o : Option A) (f : A → B) (res : Result A DecodeError) (r : Row) (k : FaultKind) (test : Bool) (said : Option B) where
  some_says : (p : Option A) → Says (option_map f p) test said → is_some p ≡ test
  some_says None s = sym s
  some_says (Some x) s = sym s.0

  pub checks_says : res ≡ ok_or o (row_fault r k) → Says (option_map f o) test said → Checks res r k test
  checks_says known s = checks_found o res r k test known (some_says o s)

  pub ok_says : res ≡ ok_or o (row_fault r k) → Says (option_map f o) test said → IfOk res (λ x. said ≡ Some (f x))
  ok_says = go o
    where
      go : (p : Option A) → res ≡ ok_or p (row_fault r k) → Says (option_map f p) test said → IfOk res (λ x. said ≡ Some (f x))
      go None is s = subst (λ q. IfOk q (λ x. said ≡ Some (f x))) (sym is) tt
      go (Some x) is s = subst (λ q. IfOk q (λ x. said ≡ Some (f x))) (sym is) s.1

-- want of memory tells nothing of the row
pub checks_memory : {A : Type 0} (res : Result A DecodeError) (e : DecodeError) (r : Row) (k : FaultKind) (test : Bool) → res ≡ Err e → e ≡ Memory alloc_error → Checks res r k test
checks_memory {A} res e r k test was is = subst (λ s. Checks s r k test) (sym was) (subst (λ d. Checks {A = A} (Err d) r k test) (sym is) tt)

-- ---- literals

pub some_any : (o : Option Datum) → is_some o ≡ passes any o
some_any None = refl
some_any (Some v) = refl

pub some_string : (o : Option Datum) → is_some (string_in o) ≡ passes is_string o
some_string None = refl
some_string (Some (integer z)) = refl
some_string (Some (object z)) = refl
some_string (Some (text t)) = refl
some_string (Some (error e)) = refl
some_string (Some (list xs)) = refl

-- where no value is found, none passes
pub none_passes : (test : Datum → Bool) (o : Option Datum) → passes any o ≡ false → passes test o ≡ false
none_passes test None h = refl
none_passes test (Some v) h = cc

pub checks_less : {A B : Type 0} (res : Result A DecodeError) (last : Result B DecodeError) (e d : DecodeError) (r : Row) (k : FaultKind) (a b : Bool)
    → (a ≡ false → b ≡ false) → res ≡ Err e → last ≡ Err d → e ≡ d → Checks res r k a → Checks last r k b
checks_less {A} {B} res last e d r k a b on was is same c = subst (λ s. Checks s r k b) (sym is) (go d same)
  where
    go : (f : DecodeError) → e ≡ f → Checks {A = B} (Err f) r k b
    go (Line n j) eq = let h = subst (λ s. Checks s r k a) (was ∙ ap Err eq) c in (on h.0, h.1)
    go (Memory m) eq = tt

-- What a read of a property answers, from what was asked.
use Rattle.std.proofs.Common.{◌≡◌, ℤ, Bool, true, false, ◌||◌, Option, Some, None, refl, sym, ap, ◌∙◌, if◌then◌else◌}
use Rattle.std.specs.Prelude.{IfSome}
use Rattle.spec_value.specs.Datum.{Datum, object, text, Text, ErrorCode, permission_denied}
use Rattle.spec_value.specs.Answer.{gives, raises}
use Rattle.spec_world.specs.World.{World, Object, Slot, object_at}
use Rattle.spec_world.specs.Inherit.{slot_of, slot_at, property_value}
use Rattle.spec_world.specs.Permissions as act
use Rattle.spec_world.specs.Permissions.{may, is_wizard, owns_or, on_slot}
use Rattle.spec_moo.specs.Properties.{BuiltInProperty, built_in, found, read, read_slot, read_valid, read_object}
use Rattle.rules.specs.BuiltIn.{built_in_at}
use Rattle.rules.specs.Reading.{missing_error, read_named}
use Rattle.spec_world.specs.Agreeing.{ObjectsAgree}
use Rattle.view.specs.Writing.{IsReadBy}
use Rattle.rules.proofs.Walks.{settled_value}

-- ---- which property it is

pub read_as : (w : World) (who o : ℤ) (p : Text) (x name : Datum) → object o ≡ x → text p ≡ name → read w who x name ≡ read_object w who o p (object_at w o)
unfolding read
read_as w who o p x name x_is name_is = sym (λ i. read w who (x_is i) (name_is i))

pub of_built_in : (w : World) (who o : ℤ) (p : Text) (b : BuiltInProperty) → built_in p ≡ Some b → read_object w who o p (object_at w o) ≡ built_in_at (object_at w o) b
of_built_in w who o p b is = go (object_at w o)
  where
    go : (x : Option Object) → read_object w who o p x ≡ built_in_at x b
    go None = refl
    go (Some x) = ap (read_valid w who o p x) is

pub of_own : (w : World) (who o : ℤ) (p : Text) → built_in p ≡ None → read_object w who o p (object_at w o) ≡ read_named w who o p (object_at w o)
of_own w who o p is = go (object_at w o)
  where
    go : (x : Option Object) → read_object w who o p x ≡ read_named w who o p x
    go None = refl
    go (Some x) = ap (read_valid w who o p x) is

-- ---- one that is no built-in property

pub no_slot : (w : World) (who o : ℤ) (p : Text) (e : ErrorCode) → slot_at w o p ≡ None → missing_error (object_at w o) ≡ e → read_named w who o p (object_at w o) ≡ raises e
no_slot w who o p e is error = go (object_at w o) ∙ ap raises error
  where
    go : (x : Option Object) → read_named w who o p x ≡ raises (missing_error x)
    go None = refl
    go (Some x) = ap (read_slot w who o p) is

with_slot : (w : World) (who o : ℤ) (p : Text) (s : Slot) → slot_at w o p ≡ Some s → read_named w who o p (object_at w o) ≡ read_slot w who o p (Some s)
with_slot w who o p s is = go (object_at w o) is
  where
    go : (x : Option Object) → slot_of x p ≡ Some s → read_named w who o p x ≡ read_slot w who o p (Some s)
    go None e = cc
    go (Some x) e = ap (read_slot w who o p) is

-- a slot's owner, everyone by its bit, and wizards
pub may_read : (w : World) (who o : ℤ) (p : Text) (s : Slot) → slot_at w o p ≡ Some s → may w who (act.read_slot o p) ≡ (is_wizard w who || owns_or who s.owner s.readable)
unfolding may
may_read w who o p s is = ap (λ x. is_wizard w who || on_slot x (λ t. owns_or who t.owner t.readable)) is

answered : (w : World) (who o : ℤ) (p : Text) (s : Slot) (b : Bool) → slot_at w o p ≡ Some s → (is_wizard w who || owns_or who s.owner s.readable) ≡ b
    → read_named w who o p (object_at w o) ≡ (if b then found (property_value w o p) else raises permission_denied)
answered w who o p s b is may_so =
    with_slot w who o p s is ∙ ap (λ a. if a then found (property_value w o p) else raises permission_denied) (may_read w who o p s is ∙ may_so)

pub refused_read : (w : World) (who o : ℤ) (p : Text) (s : Slot) → slot_at w o p ≡ Some s → (is_wizard w who || owns_or who s.owner s.readable) ≡ false
    → read_named w who o p (object_at w o) ≡ raises permission_denied
refused_read w who o p s is barred = answered w who o p s false is barred

pub allowed_read : (w : World) (who o : ℤ) (p : Text) (s : Slot) (v : Option Datum) → slot_at w o p ≡ Some s → (is_wizard w who || owns_or who s.owner s.readable) ≡ true → property_value w o p ≡ v
    → read_named w who o p (object_at w o) ≡ found v
allowed_read w who o p s v is granted value = answered w who o p s true is granted ∙ ap found value

-- a value that its owner reads, or anyone by its bit
pub read_by : (w : World) (who o : ℤ) (p : Text) (v : Datum) → ObjectsAgree w → IsReadBy who o p v w → read_named w who o p (object_at w o) ≡ gives v
read_by w who o p v agree r =
    allowed_read w who o p r.slot (Some v) r.there (ap (λ b. is_wizard w who || b) r.allowed ∙ or_true (is_wizard w who))
    (settled_value w o p (Some r.slot) (Some v) agree r.there (r.held, refl))
  where
    or_true : (b : Bool) → (b || true) ≡ true
    or_true true = refl
    or_true false = refl

-- ---- what is lent

module _ {V B : Type 0} (holds : V → World → Type 0) (now : V → World → World) (view : V) (value : B → Datum) (who o : ℤ) (p : Text) where
  -- the value of a property that is no built-in one
  pub lent_read : (r : Option B) → ((w : World) → holds view w → ObjectsAgree (now view w))
      → IfSome r (λ v. (w : World) → holds view w → IsReadBy who o p (value v) (now view w))
      → IfSome r (λ v. (w : World) → holds view w → read_object (now view w) who o p (object_at (now view w) o) ≡ gives (value v))
  lent_read None agree told = told
  lent_read (Some v) agree told = λ w is.
      of_own (now view w) who o p (told w is).plain ∙ read_by (now view w) who o p (value v) (agree w is) (told w is)

-- What a write of a property does, from what was asked.
use Rattle.std.proofs.Common.{◌≡◌, ℤ, Bool, true, false, ◌||◌, Result, Ok, Err, Option, Some, None, refl, sym, ap, ◌∙◌, subst, if◌then◌else◌}
use Rattle.std.specs.Prelude.{option_map, IfOk}
use Rattle.spec_value.specs.Datum.{Datum, object, text, Text, ErrorCode, permission_denied, type_mismatch, invalid_indirection}
use Rattle.spec_world.specs.World.{World, Object, Header, Slot, object_at}
use Rattle.spec_world.specs.Inherit.{slot_of, slot_at, with_slot}
use Rattle.spec_world.specs.Permissions as act
use Rattle.spec_world.specs.Permissions.{may, is_wizard, owns_or, on_slot, of_object}
use Rattle.spec_world.specs.Questions.{Change, new_value, new_part, new_header, put_part, header_at, apply, put_value}
use Rattle.spec_world.specs.Families.{change_at}
use Rattle.spec_moo.specs.Properties.{BuiltInProperty, own_contents, own_location, built_in, Written, wrote, refused, writing, with_built_in, write_slot, write_built_in, write_valid, write_object, write}
use Rattle.moo_value.specs.Errors.{code_of}
use Rattle.moo_value.specs.declared.error.MooError.{MooError}
use Rattle.view.specs.Law.{Goes, Tells}
use Rattle.view.specs.BuiltIn.{attribute_of}
use Rattle.rules.specs.Reading.{missing_error}
use Rattle.view.specs.Writing.{MayWrite, IsWrittenBy}
use Rattle.rules.specs.Writing.{IsWritten, IsSimplyWritten, write_named, built_in_written, place_error, owner_may}
use Rattle.view.specs.declared.built_in.Attribute.{Attribute}
use Rattle.view.specs.declared.built_in.Attribute.TheVariants.{Name, Owner, Flag as FlagOf}
use Rattle.view.specs.declared.built_in.Flag.TheVariants.{Programmer, Wizard, Readable, Writable, Fertile}

-- ---- what several calls do to a view

module _ {V : Type 0} (holds : V → World → Type 0) (now : V → World → World) where
  -- what two calls tell, and what follows
  pub told_both : (a b c : V) (P Q : World → Type 0) → Tells holds now a b P → Tells holds now b c Q → Tells holds now a c (λ w. P w × Q w)
  told_both a b c P Q first second w is =
      let s = second w is in
      let f = first w s.0 in
      (f.0, (s.1.0 ∙ f.1.0, (f.1.1, subst Q f.1.0 s.1.1)))

  pub told_so : (a b : V) (P Q : World → Type 0) → Tells holds now a b P → ((w : World) → P w → Q w) → Tells holds now a b Q
  told_so a b P Q told so w is = let t = told w is in (t.0, (t.1.0, so (now a w) t.1.1))

  -- a write that is refused changes nothing
  pub refused_told : (a b : V) (W : World → Written) (e : MooError) → Tells holds now a b (λ w. W w ≡ refused (code_of e))
      → Goes holds now a b (λ before after. (W before ≡ refused (code_of e)) × (after ≡ before))
  refused_told a b W e told w is = let t = told w is in (t.0, (t.1.1, t.1.0))

  -- one that is allowed is the change
  pub written_told : (a b c : V) (W : World → Written) (P : World → Type 0) (change : Change) → Tells holds now a b P
      → Goes holds now b c (λ before after. after ≡ apply change before) → ((w : World) → P w → W w ≡ wrote (apply change w))
      → Goes holds now a c (λ before after. W before ≡ wrote after)
  written_told a b c W P change told goes so w is =
      let g = goes w is in
      let t = told w g.0 in
      (t.0, so (now a w) t.1.1 ∙ ap wrote (ap (apply change) (sym t.1.0) ∙ sym g.1))

  -- what is written, said in other words
  pub written_as : {A : Type 0} (a b : V) (W U : World → Written) → ((w : World) → W w ≡ U w) → (r : Result A MooError)
      → Goes holds now a b (λ before after. IsWritten before after (W before) r) → Goes holds now a b (λ before after. IsWritten before after (U before) r)
  written_as a b W U same r goes w is = let g = goes w is in (g.0, subst (λ (x : Written). IsWritten (now a w) (now b w) x r) (same (now a w)) g.1)

-- ---- which property it is

pub write_as : (w : World) (who o : ℤ) (p : Text) (v x name : Datum) → object o ≡ x → text p ≡ name → write_object w who o p v (object_at w o) ≡ write w who x name v
unfolding write
write_as w who o p v x name x_is name_is = λ i. write w who (x_is i) (name_is i) v

pub of_built_in : (w : World) (who o : ℤ) (p : Text) (v : Datum) (b : BuiltInProperty) → built_in p ≡ Some b → write_object w who o p v (object_at w o) ≡ built_in_written w who o v b (object_at w o)
of_built_in w who o p v b is = go (object_at w o)
  where
    go : (x : Option Object) → write_object w who o p v x ≡ built_in_written w who o v b x
    go None = refl
    go (Some x) = ap (write_valid w who o p v x) is

pub of_own : (w : World) (who o : ℤ) (p : Text) (v : Datum) → built_in p ≡ None → write_object w who o p v (object_at w o) ≡ write_named w who o p v (object_at w o)
of_own w who o p v is = go (object_at w o)
  where
    go : (x : Option Object) → write_object w who o p v x ≡ write_named w who o p v x
    go None = refl
    go (Some x) = ap (write_valid w who o p v x) is

-- ---- one that is no built-in property

pub no_slot : (w : World) (who o : ℤ) (p : Text) (v : Datum) (e : ErrorCode) → slot_at w o p ≡ None → missing_error (object_at w o) ≡ e → write_named w who o p v (object_at w o) ≡ refused e
no_slot w who o p v e is error = go (object_at w o) ∙ ap refused error
  where
    go : (x : Option Object) → write_named w who o p v x ≡ refused (missing_error x)
    go None = refl
    go (Some x) = ap (write_slot w who o p v) is

with_slot_so : (w : World) (who o : ℤ) (p : Text) (v : Datum) (s : Slot) → slot_at w o p ≡ Some s → write_named w who o p v (object_at w o) ≡ write_slot w who o p v (Some s)
with_slot_so w who o p v s is = go (object_at w o) is
  where
    go : (x : Option Object) → slot_of x p ≡ Some s → write_named w who o p v x ≡ write_slot w who o p v (Some s)
    go None e = cc
    go (Some x) e = ap (write_slot w who o p v) is

may_write : (w : World) (who o : ℤ) (p : Text) (s : Slot) → slot_at w o p ≡ Some s → may w who (act.write_slot o p) ≡ (is_wizard w who || owns_or who s.owner s.writable)
unfolding may
may_write w who o p s is = ap (λ x. is_wizard w who || on_slot x (λ t. owns_or who t.owner t.writable)) is

answered : (w : World) (who o : ℤ) (p : Text) (v : Datum) (s : Slot) (b : Bool) → slot_at w o p ≡ Some s → (is_wizard w who || owns_or who s.owner s.writable) ≡ b
    → write_named w who o p v (object_at w o) ≡ (if b then wrote (with_slot w o p (record s { content = Some v })) else refused permission_denied)
answered w who o p v s b is so =
    with_slot_so w who o p v s is ∙ ap (λ a. if a then wrote (with_slot w o p (record s { content = Some v })) else refused permission_denied) (may_write w who o p s is ∙ so)

pub refused_write : (w : World) (who o : ℤ) (p : Text) (v : Datum) (s : Slot) → slot_at w o p ≡ Some s → (is_wizard w who || owns_or who s.owner s.writable) ≡ false
    → write_named w who o p v (object_at w o) ≡ refused permission_denied
refused_write w who o p v s is barred = answered w who o p v s false is barred

pub allowed_write : (w : World) (who o : ℤ) (p : Text) (v : Datum) (s : Slot) → slot_at w o p ≡ Some s → (is_wizard w who || owns_or who s.owner s.writable) ≡ true
    → write_named w who o p v (object_at w o) ≡ wrote (apply (new_value o p v) w)
allowed_write w who o p v s is granted = answered w who o p v s true is granted ∙ ap (λ x. wrote (put_value w o p v x)) (sym is)

-- what all may do a wizard may too
or_all : (a b : Bool) → b ≡ true → (a || b) ≡ true
or_all true b is = refl
or_all false b is = is

-- a slot that a programmer writes who owns it, or which all may write
pub simply_written : (w u : World) (who o : ℤ) (p : Text) (v : Datum) (b : Bool) → built_in p ≡ None → IsWrittenBy who o p v b w u → IsSimplyWritten b who (object o) (text p) v w u
unfolding write
simply_written w u who o p v true none h =
    let may : MayWrite who o p w = h.0 in
    of_own w who o p v none ∙ allowed_write w who o p v may.slot may.there (or_all (is_wizard w who) (owns_or who may.slot.owner may.slot.writable) may.allowed) ∙ ap wrote (sym h.1)
simply_written w u who o p v false none h = h

module _ {V E : Type 0} (holds : V → World → Type 0) (now : V → World → World) (who : ℤ) (v : Datum) where
  pub simply_told : (a b : V) (o : ℤ) (p : Text) (r : Result Bool E) → built_in p ≡ None → IfOk r (λ q. Goes holds now a b (IsWrittenBy who o p v q))
      → IfOk r (λ q. Goes holds now a b (IsSimplyWritten q who (object o) (text p) v))
  simply_told a b o p (Err e) none goes = tt
  simply_told a b o p (Ok q) none goes = λ w is. let g = goes w is in (g.0, simply_written (now a w) (now b w) who o p v q none g.1)

  -- the same of values that are an object and a text
  pub simply_as : (a b : V) (o : ℤ) (p : Text) (x name : Datum) (r : Result Bool E) → object o ≡ x → text p ≡ name → IfOk r (λ q. Goes holds now a b (IsSimplyWritten q who (object o) (text p) v))
      → IfOk r (λ q. Goes holds now a b (IsSimplyWritten q who x name v))
  simply_as a b o p x name (Err e) x_is name_is goes = tt
  simply_as a b o p x name (Ok q) x_is name_is goes = λ w is.
      let g = goes w is in
      (g.0, subst (λ (y : Datum). IsSimplyWritten q who x y v (now a w) (now b w)) name_is (subst (λ (y : Datum). IsSimplyWritten q who y (text p) v (now a w) (now b w)) x_is g.1))

-- ---- built-in ones

pub nowhere_written : (w : World) (who o : ℤ) (v : Datum) (b : BuiltInProperty) → header_at w o ≡ None → built_in_written w who o v b (object_at w o) ≡ refused invalid_indirection
nowhere_written w who o v b gone = go (object_at w o) gone
  where
    go : (x : Option Object) → option_map (λ y. y.header) x ≡ None → built_in_written w who o v b x ≡ refused invalid_indirection
    go None e = refl
    go (Some x) e = cc

-- where an object is and what it holds nobody writes
pub place_kept : (w : World) (who o : ℤ) (v : Datum) (e : ErrorCode) → place_error (object_at w o) ≡ e → built_in_written w who o v own_location (object_at w o) ≡ refused e
unfolding may
place_kept w who o v e error = go (object_at w o) ∙ ap refused error
  where
    go : (x : Option Object) → built_in_written w who o v own_location x ≡ refused (place_error x)
    go None = refl
    go (Some x) = refl

pub contents_kept : (w : World) (who o : ℤ) (v : Datum) (e : ErrorCode) → place_error (object_at w o) ≡ e → built_in_written w who o v own_contents (object_at w o) ≡ refused e
unfolding may
contents_kept w who o v e error = go (object_at w o) ∙ ap refused error
  where
    go : (x : Option Object) → built_in_written w who o v own_contents x ≡ refused (place_error x)
    go None = refl
    go (Some x) = refl

-- by the header alone, and for wizards
may_by_header : (w : World) (who o : ℤ) (a : Attribute) (x : Object) → object_at w o ≡ Some x → may w who (writing o (attribute_of a)) ≡ (is_wizard w who || owner_may x.header who (attribute_of a))
unfolding may
may_by_header w who o Name x is = ap (λ y. is_wizard w who || of_object y (λ z. owner_may z.header who (attribute_of Name))) is
may_by_header w who o Owner x is = refl
may_by_header w who o (FlagOf Programmer) x is = refl
may_by_header w who o (FlagOf Wizard) x is = refl
may_by_header w who o (FlagOf Readable) x is = ap (λ y. is_wizard w who || of_object y (λ z. owner_may z.header who (attribute_of (FlagOf Readable)))) is
may_by_header w who o (FlagOf Writable) x is = ap (λ y. is_wizard w who || of_object y (λ z. owner_may z.header who (attribute_of (FlagOf Writable)))) is
may_by_header w who o (FlagOf Fertile) x is = ap (λ y. is_wizard w who || of_object y (λ z. owner_may z.header who (attribute_of (FlagOf Fertile)))) is

-- what an attribute's value makes of an object with a header
abbrev pub Makes : Header → Attribute → Datum → Option Header → Type 0
Makes h a v k = (x : Object) → x.header ≡ h → with_built_in x (attribute_of a) v ≡ option_map (λ j. record x { header = j }) k

module _ (w : World) (who o : ℤ) (a : Attribute) (v : Datum) (h : Header) (is : header_at w o ≡ Some h) where
  by_object : (W : Written) → ((x : Object) → object_at w o ≡ Some x → x.header ≡ h → built_in_written w who o v (attribute_of a) (Some x) ≡ W) → built_in_written w who o v (attribute_of a) (object_at w o) ≡ W
  by_object W each = go (object_at w o) refl
    where
      go : (y : Option Object) → object_at w o ≡ y → built_in_written w who o v (attribute_of a) y ≡ W
      go None e = let none : header_at w o ≡ None = ap (option_map (λ z. z.header)) e in cc
      go (Some x) e = let some : header_at w o ≡ Some x.header = ap (option_map (λ z. z.header)) e in each x e (cc)

  pub mistyped : Makes h a v None → built_in_written w who o v (attribute_of a) (object_at w o) ≡ refused type_mismatch
  mistyped makes = by_object (refused type_mismatch) (λ x at same. ap (write_built_in w o (may w who (writing o (attribute_of a)))) (makes x same))

  allowed_so : (x : Object) → object_at w o ≡ Some x → x.header ≡ h → (b : Bool) → (is_wizard w who || owner_may h who (attribute_of a)) ≡ b → may w who (writing o (attribute_of a)) ≡ b
  allowed_so x at same b so = may_by_header w who o a x at ∙ ap (λ j. is_wizard w who || owner_may j who (attribute_of a)) same ∙ so

  pub barred : (k : Header) → Makes h a v (Some k) → (is_wizard w who || owner_may h who (attribute_of a)) ≡ false → built_in_written w who o v (attribute_of a) (object_at w o) ≡ refused permission_denied
  barred k makes so =
      by_object (refused permission_denied)
      (λ x at same. ap (write_built_in w o (may w who (writing o (attribute_of a)))) (makes x same) ∙ ap (λ b. write_built_in w o b (Some (record x { header = k }))) (allowed_so x at same false so))

  pub changed : (k : Header) → Makes h a v (Some k) → (is_wizard w who || owner_may h who (attribute_of a)) ≡ true → built_in_written w who o v (attribute_of a) (object_at w o) ≡ wrote (apply (new_part o (new_header k)) w)
  changed k makes so =
      by_object (wrote (apply (new_part o (new_header k)) w))
      (λ x at same. ap (write_built_in w o (may w who (writing o (attribute_of a)))) (makes x same)
      ∙ ap (λ b. write_built_in w o b (Some (record x { header = k }))) (allowed_so x at same true so)
      ∙ ap (λ y. wrote (change_at w o (put_part (new_header k)) y)) (sym at))

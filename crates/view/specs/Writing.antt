-- Slots that programmers write.
use Rattle.std.specs.Prelude.{◌≡◌, ℕ, ℤ, Bool, true, false, List, Option, Some, None, option_map, slice_get, slice_set}
use Rattle.spec_value.specs.Answer.{gives}
use Rattle.spec_value.specs.Datum.{Datum, Text, fold_case, integer}
use Rattle.spec_value.specs.Operators.{BinaryOperator, binary_value}
use Rattle.spec_value.specs.Table.{Named, named, with_name}
use Rattle.spec_world.specs.World.{World, Object, Slot}
use Rattle.spec_moo.specs.Properties.{built_in}
use Rattle.spec_world.specs.Inherit.{slot_at}
use Rattle.spec_world.specs.Permissions.{owns_or}
use Rattle.spec_world.specs.Questions.{Change, apply, apply_all, new_value}

-- a programmer owns a slot that there is, or all may write it
pub record MayWrite (programmer : ℤ) (object : ℤ) (name : Text) (w : World) : Type 0 where
  pub slot : Slot
  pub there : slot_at w object name ≡ Some slot
  pub allowed : owns_or programmer slot.owner slot.writable ≡ true

-- a slot got another value, or nothing changed
abbrev pub IsWrittenBy : ℤ → ℤ → Text → Datum → Bool → World → World → Type 0
IsWrittenBy programmer object name value true before after = MayWrite programmer object name before × (after ≡ apply (new_value object name value) before)
IsWrittenBy programmer object name value false before after = after ≡ before

-- a programmer owns a slot that there is and that holds this value, or all may read it, and no property that every object has hides it
pub record IsReadBy (programmer : ℤ) (object : ℤ) (name : Text) (value : Datum) (w : World) : Type 0 where
  pub slot : Slot
  pub there : slot_at w object name ≡ Some slot
  pub allowed : owns_or programmer slot.owner slot.readable ≡ true
  pub held : slot.content ≡ Some value
  pub plain : built_in name ≡ None

-- a slot that a programmer may read holds an integer, and one that the programmer may write gets what an operator gives of that and another one
pub record IsReckoned (programmer : ℤ) (object : ℤ) (name : Text) (operator : BinaryOperator) (second number : ℤ) (before after : World) : Type 0 where
  pub first : ℤ
  pub read : IsReadBy programmer object name (integer first) before
  pub answer : binary_value operator (integer first) (integer second) ≡ gives (integer number)
  pub written : IsWrittenBy programmer object name (integer number) true before after

-- it got that, or nothing changed
abbrev pub IsUpdatedBy : ℤ → ℤ → Text → BinaryOperator → ℤ → Option ℤ → World → World → Type 0
IsUpdatedBy programmer object name operator second (Some number) before after = IsReckoned programmer object name operator second number before after
IsUpdatedBy programmer object name operator second None before after = after ≡ before

-- slots of which a programmer gave one another value
pub record AreRewritten (programmer : ℤ) (name : Text) (value : Datum) (old new : Named Slot) : Type 0 where
  pub slot : Slot
  pub there : named old (fold_case name) ≡ Some slot
  pub allowed : owns_or programmer slot.owner slot.writable ≡ true
  pub slots : Some new ≡ option_map (λ s. with_name old (fold_case name) (record s { content = Some value })) (named old (fold_case name))

-- an object with such slots
pub record IsRewritten (programmer : ℤ) (name : Text) (value : Datum) (old new : Object) : Type 0 where
  pub slot : Slot
  pub there : named old.slots (fold_case name) ≡ Some slot
  pub allowed : owns_or programmer slot.owner slot.writable ≡ true
  pub object : Some new ≡ option_map (λ s. record old { slots = with_name old.slots (fold_case name) (record s { content = Some value }) }) (named old.slots (fold_case name))

-- changes do what others do, and then a slot gets another value
abbrev pub GoesFurther : ℤ → Text → Datum → List Change → List Change → Type 0
GoesFurther object name value old new = (w : World) → apply_all new w ≡ apply (new_value object name value) (apply_all old w)

-- a change gives a slot a value
pub record Gives (object : ℤ) (name : Text) (change : Change) : Type 0 where
  pub spelled : Text
  pub value : Datum
  pub same : fold_case spelled ≡ fold_case name
  pub is : change ≡ new_value object spelled value

-- a change gives a slot this value in place of another one
pub record IsRenewed (object : ℤ) (name : Text) (value : Datum) (old new : Change) : Type 0 where
  pub spelled : Text
  pub before : Datum
  pub same : fold_case spelled ≡ fold_case name
  pub was : old ≡ new_value object spelled before
  pub is : new ≡ new_value object spelled value

-- a change that gives a slot a value gives it this one
pub record IsRevalued (value : Datum) (old new : Change) : Type 0 where
  pub object : ℤ
  pub name : Text
  pub before : Datum
  pub was : old ≡ new_value object name before
  pub is : new ≡ new_value object name value

-- changes of which the one at a place gives its slot this value
pub record AreRevalued (value : Datum) (place : ℕ) (old new : List Change) : Type 0 where
  pub before : Change
  pub after : Change
  pub there : slice_get old place ≡ Some before
  pub revalued : IsRevalued value before after
  pub is : new ≡ slice_set old place after

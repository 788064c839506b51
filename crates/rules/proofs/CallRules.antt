-- Which verb a call runs, from what was asked.
use Rattle.std.proofs.Common.{◌≡◌, ℤ, ◌&&◌, Result, Ok, Err, Option, Some, None, refl, sym, ap, ◌∙◌, subst}
use Rattle.std.specs.Prelude.{option_map}
use Rattle.spec_value.specs.Datum.{object, text, Text, Data}
use Rattle.spec_world.specs.World.{World, Object, Header, object_at}
use Rattle.spec_world.specs.Questions.{header_at}
use Rattle.spec_world.specs.Agreeing.{ObjectsAgree}
use Rattle.spec_world.specs.VerbNames.{any_spells}
use Rattle.spec_world.specs.VerbsSought.{Sought, first_on, find_verb}
use Rattle.spec_moo.specs.Scene.{Scene}
use Rattle.spec_moo.specs.Pending.{Pending}
use Rattle.spec_moo.specs.Effects.Calls.{on_object_effect, found_effect, verb_effect, above_definer}
use Rattle.moo_value.specs.declared.error.MooError.{MooError}
use Rattle.rules.proofs.Walks.{ancestors_none}
use Rattle.rules.specs.Calling.{call_effect, or_missing, verb_error, verb_found}

pub called : (w : World) (o : ℤ) (word : Text) (f : Result Sought MooError) → verb_found w o word (object_at w o) ≡ f
    → (s : Scene) (p : Pending) (xs : Data) → s.world ≡ w → verb_effect s p (object o) (text word) xs ≡ call_effect s p (object o) (text word) xs f
called w o word f is s p xs same =
    go (object_at s.world o) ∙ ap (call_effect s p (object o) (text word) xs) (subst (λ (v : World). verb_found v o word (object_at v o) ≡ f) (sym same) is)
  where
    by_verb : (v : Option Sought) → found_effect s p o word xs v ≡ call_effect s p (object o) (text word) xs (or_missing v)
    by_verb None = refl
    by_verb (Some v) = refl

    go : (x : Option Object) → on_object_effect s p o word xs x ≡ call_effect s p (object o) (text word) xs (verb_found s.world o word x)
    go None = refl
    go (Some x) = by_verb (find_verb s.world o word)

-- ---- a verb that is found stands on the line of an object

nobody : (w : World) (o : ℤ) (word : Text) → ObjectsAgree w → object_at w o ≡ None → find_verb w o word ≡ None
unfolding find_verb first_on
nobody w o word sound is = ap (first_on w (λ v. v.callable && any_spells v.names word)) (ancestors_none w o sound is)

pub found_there : (w : World) (o : ℤ) (word : Text) (f : Sought) → ObjectsAgree w → find_verb w o word ≡ Some f → verb_found w o word (object_at w o) ≡ Ok f
found_there w o word f sound is = go (object_at w o) refl
  where
    go : (x : Option Object) → object_at w o ≡ x → verb_found w o word x ≡ Ok f
    go None e = let none = nobody w o word sound e in cc
    go (Some x) e = ap or_missing is

pub none_there : (w : World) (o : ℤ) (word : Text) (e : MooError) → find_verb w o word ≡ None → verb_error (object_at w o) ≡ e → verb_found w o word (object_at w o) ≡ Err e
none_there w o word e is error = go (object_at w o) ∙ ap (λ (m : MooError). Err m) error
  where
    go : (x : Option Object) → verb_found w o word x ≡ Err (verb_error x)
    go None = refl
    go (Some x) = ap or_missing is

-- ---- above a definer

pub passed_above : (w : World) (word : Text) (o : ℤ) (h : Header) (f : Option Sought) → header_at w o ≡ Some h → find_verb w h.parent word ≡ f → above_definer w word (object_at w o) ≡ f
passed_above w word o h f is found = go (object_at w o) is
  where
    go : (x : Option Object) → option_map (λ y. y.header) x ≡ Some h → above_definer w word x ≡ f
    go None e = cc
    go (Some x) e = let same : x.header ≡ h = cc in ap (λ k. find_verb w k.parent word) same ∙ found

pub passed_nowhere : (w : World) (word : Text) (o : ℤ) → header_at w o ≡ None → above_definer w word (object_at w o) ≡ None
passed_nowhere w word o gone = go (object_at w o) gone
  where
    go : (x : Option Object) → option_map (λ y. y.header) x ≡ None → above_definer w word x ≡ None
    go None e = refl
    go (Some x) e = cc

-- What a built-in function leaves of a world that stands.
use Rattle.std.proofs.Common.{◌≡◌, ℤ, Bool, true, false, not, List, [], ◌∷◌, Option, Some, None, Result, Ok, Err, OnOk, refl, sym, ap, ◌∙◌, subst, IsTrue, zero, if◌then◌else◌}
use Rattle.std.specs.Prelude.{IfOk, pos}
use Rattle.spec_value.specs.Datum.{Datum, object, text, Text, property_not_found, invalid_argument, ErrorCode}
use Rattle.spec_value.specs.Answer.{Answer}
use Rattle.spec_world.specs.World.{World, Object, object_at}
use Rattle.spec_world.specs.Inherit.{slot_at}
use Rattle.spec_world.specs.Permissions.{may, write_slot}
use Rattle.spec_world.specs.ObjectLaws.{Defines}
use Rattle.spec_world.proofs.Trees.{some_same}
use Rattle.spec_moo.specs.Scene.{Scene, in_world}
use Rattle.spec_moo.specs.NativeEffect.{Caller, NativeEffect, answers, complains, begins, waits, dies, becomes}
use Rattle.spec_moo.specs.Natives.Rows.{if_there}
use Rattle.spec_moo.specs.Natives.Properties.{defines_it, clear_property_row}
use Rattle.moo_value.specs.Answers.{answer_of}
use Rattle.moo_value.specs.declared.error.MooError.{MooError}
use Rattle.view.specs.Law.{Goes}
use Rattle.rules.specs.Lines.{AreAgreeing}
use Rattle.rules.specs.Standing.{IsStanding}
use Rattle.rules.proofs.InheritStanding.{content_stands}
use Rattle.builtins_view.specs.Said.{Does, with_programmer}

-- ---- effects

abbrev pub world_left : NativeEffect → World
world_left (answers s a) = s.world
world_left (complains s f) = s.world
world_left (begins s n d body args) = s.world
world_left (waits s why) = s.world
world_left (dies s) = s.world
world_left (becomes s who) = s.world

abbrev pub LeavesWell : NativeEffect → Type 0
LeavesWell e = IsStanding (world_left e)

-- where a test fails, nothing has changed
pub tested : (b : Bool) (e f : NativeEffect) → LeavesWell f → (b ≡ true → LeavesWell e) → LeavesWell (if b then e else f)
tested true e f h more = more refl
tested false e f h more = h

pub there : {X : Type 0} (s : Scene) (err : ErrorCode) (o : Option X) (f : X → NativeEffect) → IsStanding s.world
    → ((x : X) → o ≡ Some x → LeavesWell (f x)) → LeavesWell (if_there s err o f)
there s err None f h more = h
there s err (Some x) f h more = more x refl

-- ---- calls

-- where a world stands, a row leaves it so
abbrev pub Keeping : (Scene → Caller → NativeEffect) → Type 0
Keeping row = (s : Scene) (c : Caller) → IsStanding s.world → LeavesWell (row s c)

-- some scene of a world, and some caller
some_scene : World → Scene
some_scene w =
    record {
      world = w;
      number = 0;
      moment = 0;
      key = [];
      ticks_left = 0;
      words_used = 0;
      ids_used = 0;
      lines_kept = 0;
      task = None;
      output = [];
      queued = [];
      closed = [];
      checkpoint = false;
    }

some_caller : Caller
some_caller =
    record {
      player = pos 0;
      call = record { this = pos 0; caller = pos 0; definer = pos 0; programmer = pos 0; verb = []; debug = false };
      start = record { argstr = []; dobj = pos 0; dobjstr = []; prepstr = []; iobj = pos 0; iobjstr = [] };
      callers = [];
    }

does_well : (row : Scene → Caller → NativeEffect) (w u : World) (who : ℤ) (a : Answer) → Keeping row → Does row w u who a → IsStanding w → IsStanding u
does_well row w u who a keeps does h =
    subst IsStanding (ap world_left (does (some_scene w) some_caller)) (keeps (in_world (some_scene w) w) (with_programmer some_caller who) h)

-- the worlds that a view allows after a call of that row
pub goes_well : {V : Type 0} (holds : V → World → Type 0) (now : V → World → World) (old new : V) (row : Scene → Caller → NativeEffect) (who : ℤ) (a : Answer)
    → Keeping row → Goes holds now old new (λ before after. Does row before after who a) → AreAgreeing holds now old → AreAgreeing holds now new
goes_well holds now old new row who a keeps told known w left = let t = told w left in does_well row (now old w) (now new w) who a keeps t.1 (known w t.0)

pub leaves_well : {V E : Type 0} (holds : V → World → Type 0) (now : V → World → World) (old new : V) (row : Scene → Caller → NativeEffect) (who : ℤ) (r : Result (Result Datum MooError) E)
    → Keeping row → IfOk r (λ a. Goes holds now old new (λ before after. Does row before after who (answer_of a))) → AreAgreeing holds now old → OnOk r (AreAgreeing holds now new)
leaves_well holds now old new row who (Err e) keeps told known = tt
leaves_well holds now old new row who (Ok a) keeps told known = goes_well holds now old new row who (answer_of a) keeps told known

-- ---- `clear_property`

not_so : (b : Bool) → not b ≡ true → b ≡ false
not_so true h = cc
not_so false h = refl

pub clear_property_keeps : (args : List Datum) → Keeping (λ s c. clear_property_row s c args)
clear_property_keeps (object o ∷ text p ∷ []) s c h =
    there s invalid_argument (object_at s.world o) _ h (λ y e. there s property_not_found (slot_at s.world o p) _ h (λ t d.
    there s invalid_argument (object_at s.world o) _ h (λ x e.
    tested (may s.world c.call.programmer (write_slot o p)) _ _ h (λ k1.
    tested (not (defines_it x p)) _ _ h (λ k2. content_stands s.world o p t (record t { content = None }) h d (λ z is k. never x z e is (not_so _ k2) k))))))
  where
    never : (x z : Object) → object_at s.world o ≡ Some x → object_at s.world o ≡ Some z → defines_it x p ≡ false → Defines z p → IsTrue false
    never x z e is known k = let same : x ≡ z = some_same (sym e ∙ is) in let clash : defines_it z p ≡ false = subst (λ y. defines_it y p ≡ false) same known in absurd (cc (clash, k))
clear_property_keeps _ s c h = h

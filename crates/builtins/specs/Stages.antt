-- How a built-in function goes on that has waited for a verb.
use Rattle.std.specs.Prelude.{ℤ, List, [], ◌∷◌, Option, Some, None}
use Rattle.spec_value.specs.Datum.{Datum, object, is_true}
use Rattle.spec_moo.specs.Scene.{Scene}
use Rattle.spec_moo.specs.NativeEffect.{Caller, NativeEffect}
use Rattle.spec_moo.specs.Natives.Rows.{answers_with, zero_value}
use Rattle.spec_moo.specs.Natives.Objects.{accepted, told_to_enter, recycle_now}
use Rattle.spec_moo.specs.Natives.Verbs.{eval_stage}
use Rattle.builtins.specs.declared.builtin_deeds.stages.Stage.{Stage}
use Rattle.builtins.specs.declared.builtin_deeds.stages.Stage.TheVariants.{Evaluated, Created, Recycled, Asked, Left, Ended}

-- with the value of the verb
abbrev pub stage_does : Stage → Scene → Caller → Datum → NativeEffect
stage_does Evaluated s c v = eval_stage s v
stage_does (Created x) s c v = answers_with s x
stage_does (Recycled o) s c v = answers_with (recycle_now s o) zero_value
stage_does (Asked what place) s c v = accepted s c what place (is_true v)
stage_does (Left what place before) s c v = told_to_enter s c what place before
stage_does Ended s c v = answers_with s zero_value

-- ---- arguments that are objects

abbrev pub number_of : Datum → Option ℤ
number_of (object o) = Some o
number_of v = None

abbrev pub one_object : List Datum → Option ℤ
one_object (object o ∷ []) = Some o
one_object vs = None

abbrev pub two_objects : List Datum → Option (ℤ × ℤ)
two_objects (object o ∷ object p ∷ []) = Some (o, p)
two_objects vs = None

abbrev pub three_objects : List Datum → Option (ℤ × ℤ × ℤ)
three_objects (object o ∷ object p ∷ object q ∷ []) = Some (o, p, q)
three_objects vs = None

-- ---- how `recycle` and `move` go on by them

abbrev pub recycle_stage : Option ℤ → Stage
recycle_stage None = Ended
recycle_stage (Some o) = Recycled o

abbrev pub asked_stage : Option (ℤ × ℤ) → Stage
asked_stage None = Ended
asked_stage (Some p) = Asked p.0 p.1

abbrev pub left_stage : Option (ℤ × ℤ × ℤ) → Stage
left_stage None = Ended
left_stage (Some p) = Left p.0 p.1 p.2

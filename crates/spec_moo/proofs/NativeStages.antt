-- A built-in that has got the value of a verb calls another verb as a later stage alone.
use Rattle.std.proofs.Common.{ℕ, zero, suc, ◌<◌, Bool, true, false, ℤ, List, [], ◌∷◌, Option, Some, None, arith, if◌then◌else◌}
use Rattle.std.specs.Prelude.{◌&&◌, ◌||◌, not}
use Rattle.spec_value.specs.Datum.{Datum, object, Data, Text, is_true, invalid_argument, recursive_move, move_refused}
use Rattle.spec_world.specs.World.{Native, NativeName, move_native, create_native, recycle_native, eval_native}
use Rattle.spec_world.specs.VerbsSought.{Sought, find_verb}
use Rattle.spec_world.specs.Permissions.{is_wizard}
use Rattle.spec_world.specs.Whereabouts.{is_inside}
use Rattle.spec_moo.specs.Scene.{Scene}
use Rattle.spec_moo.specs.NativeEffect as N
use Rattle.spec_moo.specs.NativeEffect.{Caller, NativeEffect}
use Rattle.spec_moo.specs.Natives.{native_turn}
use Rattle.spec_moo.specs.Natives.Rows.{Check, unless, wants, is_valid, is_valid_or_none}
use Rattle.spec_moo.specs.Natives.Objects.{calls_found, is_there, told_to_enter, gone_over, move_now, move_checked, accepted, staged}
use Rattle.spec_moo.specs.Sizes.{native_stages}
use Rattle.spec_moo.specs.Laws.{StagesRise}

-- a verb that is called is called as a stage with fewer than so many to come
abbrev Later : ℕ → NativeEffect → Type 0
Later k (N.begins s m d body args) = native_stages m < k
Later k e = Unit {0}

unless_later : (k : ℕ) (s : Scene) (ks : List Check) (e : NativeEffect) → Later k e → Later k (unless s ks e)
unless_later k s [] e h = h
unless_later k s (c ∷ cs) e h = go c.holds (unless_later k s cs e h)
  where
    go : (b : Bool) → Later k (unless s cs e) → Later k (if b then unless s cs e else N.refuses s c.otherwise)
    go true g = g
    go false g = tt

found_later : (k : ℕ) (s : Scene) (c : Caller) (n : Native) (o : ℤ) (word : Text) (args : Data) (e : NativeEffect) (f : Option Sought)
    → native_stages n < k → Later k e → Later k (calls_found s c n o word args e f)
found_later k s c n o word args e None less h = h
found_later k s c n o word args e (Some f) less h = less

either_later : (k : ℕ) (b : Bool) (e f : NativeEffect) → Later k e → Later k f → Later k (if b then e else f)
either_later k true e f h g = h
either_later k false e f h g = g

enter_later : (k : ℕ) (s : Scene) (c : Caller) (what place before : ℤ) → 1 < k → Later k (told_to_enter s c what place before)
enter_later k s c what place before h =
    either_later k (is_there s what place && is_valid s place) _ _ (found_later k s c _ place _ _ _ (find_verb s.world place _) h tt) tt

over_later : (k : ℕ) (s : Scene) (c : Caller) (what place before : ℤ) → 2 < k → Later k (gone_over s c what place before)
over_later k s c what place before h =
    found_later k s c _ before _ _ _ (find_verb s.world before _) h (enter_later k s c what place before (omega arith))

now_later : (k : ℕ) (s : Scene) (c : Caller) (what place : ℤ) → 2 < k → Later k (move_now s c what place)
now_later k s c what place h = either_later k (is_there s what place) _ _ tt (over_later k _ c what place _ h)

accepted_later : (k : ℕ) (s : Scene) (c : Caller) (what place : ℤ) (let_in : Bool) → 2 < k → Later k (accepted s c what place let_in)
accepted_later k s c what place let_in h =
    unless_later k s (wants (let_in || is_wizard s.world c.call.programmer) move_refused ∷ []) (move_checked s c what place (move_now s c what place))
    (unless_later k s
    (wants (is_valid s what && is_valid_or_none s place) invalid_argument ∷ wants (not (is_inside s.world what place)) recursive_move ∷ [])
    (move_now s c what place)
    (now_later k s c what place h))

staged_later : (s : Scene) (c : Caller) (name : NativeName) (n : ℕ) (args : List Datum) (v : Datum)
    → Later (native_stages (record { name = name; stage = n; arguments = args })) (staged s c name n args v)
staged_later s c move_native (suc zero) (object what ∷ object place ∷ []) v = accepted_later 3 s c what place (is_true v) (omega arith)
staged_later s c move_native (suc (suc zero)) (object what ∷ object place ∷ object before ∷ []) v = enter_later 2 s c what place before (omega arith)
staged_later s c create_native n args v = tt
staged_later s c recycle_native n (object o ∷ []) v = tt
staged_later s c _ _ _ v = tt

pub stages_rise : StagesRise
unfolding native_turn
stages_rise s c n v = go n.name n.stage n.arguments
  where
    go : (name : NativeName) (k : ℕ) (args : List Datum) → Later (native_stages (record { name = name; stage = k; arguments = args })) (native_turn s c (record { name = name; stage = k; arguments = args }) v)
    go eval_native k args = tt
    go move_native k args = staged_later s c move_native k args v
    go create_native k args = staged_later s c create_native k args v
    go recycle_native k args = staged_later s c recycle_native k args v

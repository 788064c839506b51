-- Effects that suit an operation at the end of its construct: for rows.
use Rattle.std.proofs.Common.{◌≡◌, ℕ, length, arith, List, [], ◌∷◌, Bool, true, false, cond, Option, Some, None}
use Rattle.std.specs.Prelude.{ℤ, codes}
use Rattle.spec_value.specs.Datum.{Datum, integer, object, text, error, list, Data, Text, same_text}
use Rattle.spec_value.specs.Answer.{Answer, is_allowed}
use Rattle.spec_program.specs.Tree.{Expr}
use Rattle.spec_program.specs.Construct.{Construct, of_expr}
use Rattle.spec_world.specs.World.{Object, object_at}
use Rattle.spec_world.specs.VerbsSought.{Sought, find_verb}
use Rattle.spec_moo.specs.Scene.{Scene}
use Rattle.spec_moo.specs.Pending.{Pending}
use Rattle.spec_moo.specs.Leaving.{Failure}
use Rattle.spec_moo.specs.Effect.{Effect, hands, errs, answered, on_one, on_two, on_three}
use Rattle.spec_moo.specs.Effects.Access.{Stored, in_variable, in_property, not_stored, stored_effect}
use Rattle.spec_moo.specs.Effects.Calls.{with_arguments, found_effect, on_object_effect, verb_effect, verb_call_effect, above_definer, function_effect, call_effect}
use Rattle.spec_moo.proofs.EffectTests.{of_answer, of_if, of_one, of_two, of_three}
use Rattle.moo_code.specs.Instruction.{Unraised, as_value, placed}
use Rattle.moo_code.specs.Machine.{place_for}
use Rattle.moo_code.specs.Layout.{Layout, size}
use Rattle.moo_code.proofs.Fits.{Suited}

module _ (e : Expr) (after : ℕ) (to : ℕ → ℕ) (ns : List ℕ) (l : Layout) (at : place_for after (placed to ns) 0 ≡ to 0) where
  -- what an expression's operation may do
  abbrev pub Fine : Effect → Type 0
  Fine = Suited (of_expr e) (place_for after (placed to ns)) to l as_value

  pub wrong : (s : Scene) (f : Failure) → Fine (errs s f)
  wrong s f = (at, tt)

  pub value : (s : Scene) (v : Datum) → Fine (hands s v)
  value s v = (at, tt)

  pub answer : (s : Scene) (a : Answer) → Fine (answered s a)
  answer s a = of_answer Fine wrong s a (value s)

  pub one_answers : (s : Scene) (f : Datum → Answer) (vs : List Datum) → Fine (on_one s (λ x. answered s (f x)) vs)
  one_answers s f vs = of_one Fine wrong s _ vs (λ x. answer s (f x))

  pub two_answer : (s : Scene) (f : Datum → Datum → Answer) (vs : List Datum) → Fine (on_two s (λ x y. answered s (f x y)) vs)
  two_answer s f vs = of_two Fine wrong s _ vs (λ x y. answer s (f x y))

  pub three_answer : (s : Scene) (f : Datum → Datum → Datum → Answer) (vs : List Datum) → Fine (on_three s (λ x y z. answered s (f x y z)) vs)
  three_answer s f vs = of_three Fine wrong s _ vs (λ x y z. answer s (f x y z))

  pub storing : (s : Scene) (v : Datum) (r : Stored) → Fine (stored_effect s v r)
  storing s v (in_variable x u) = value s v
  storing s v (in_property w) = (at, tt)
  storing s v (not_stored c) = (at, tt)

  -- ---- calls, which are the last instruction
  module _ (last : size l ≡ 0) where
    found : (s : Scene) (p : Pending) (o : ℤ) (word : Text) (xs : Data) (f : Option Sought) → Fine (found_effect s p o word xs f)
    found s p o word xs None = (at, tt)
    found s p o word xs (Some f) = (at, tt, last)

    on_object : (s : Scene) (p : Pending) (o : ℤ) (word : Text) (xs : Data) (x : Option Object) → Fine (on_object_effect s p o word xs x)
    on_object s p o word xs None = (at, tt)
    on_object s p o word xs (Some x) = found s p o word xs (find_verb s.world o word)

    on_verb : (s : Scene) (p : Pending) (x y : Datum) (xs : Data) → Fine (verb_effect s p x y xs)
    on_verb s p (object o) (text word) xs = on_object s p o word xs (object_at s.world o)
    on_verb s p (object o) (integer n) xs = (at, tt)
    on_verb s p (object o) (object n) xs = (at, tt)
    on_verb s p (object o) (error n) xs = (at, tt)
    on_verb s p (object o) (list n) xs = (at, tt)
    on_verb s p (integer o) y xs = (at, tt)
    on_verb s p (text o) y xs = (at, tt)
    on_verb s p (error o) y xs = (at, tt)
    on_verb s p (list o) y xs = (at, tt)

    on_function : (s : Scene) (p : Pending) (g : Text) (xs : Data) → Fine (function_effect s p g xs)
    on_function s p g xs = of_if Fine (same_text g (codes "pass")) _ _ (found s p _ _ xs (above_definer s.world p.frame.call.verb (object_at s.world p.frame.call.definer))) (at, tt, last)

    with_all : (s : Scene) (f : Data → Effect) (v : Datum) → ((xs : Data) → Fine (f xs)) → Fine (with_arguments s f v)
    with_all s f (list xs) h = of_if Fine (is_allowed (list xs)) _ _ (h xs) (at, tt)
    with_all s f (integer n) h = (at, tt)
    with_all s f (object n) h = (at, tt)
    with_all s f (text n) h = (at, tt)
    with_all s f (error n) h = (at, tt)

    pub calling_verb : (s : Scene) (p : Pending) (vs : List Datum) → Fine (verb_call_effect s p vs)
    calling_verb s p vs = of_three Fine wrong s _ vs (λ o w v. with_all s (λ xs. verb_effect s p o w xs) v (λ xs. on_verb s p o w xs))

    pub calling_function : (s : Scene) (p : Pending) (g : Text) (vs : List Datum) → Fine (call_effect s p g vs)
    calling_function s p g vs = of_one Fine wrong s _ vs (λ v. with_all s (λ xs. function_effect s p g xs) v (λ xs. on_function s p g xs))

-- ---- any operation, with as many values as it takes

module _ (c : Construct) (after : ℕ) (to : ℕ → ℕ) (ns : List ℕ) (l : Layout) (u : Unraised) where
  abbrev pub Good : Effect → Type 0
  Good = Suited c (place_for after (placed to ns)) to l u

  pub good_one : (s : Scene) (f : Datum → Effect) (vs : List Datum) → length vs ≡ 1 → ((v : Datum) → Good (f v)) → Good (on_one s f vs)
  good_one s f [] n h = absurd (omega (arith, n))
  good_one s f (v ∷ []) n h = h v
  good_one s f (v ∷ w ∷ vs) n h = absurd (omega (arith, n))

  pub good_two : (s : Scene) (f : Datum → Datum → Effect) (vs : List Datum) → length vs ≡ 2 → ((v w : Datum) → Good (f v w)) → Good (on_two s f vs)
  good_two s f [] n h = absurd (omega (arith, n))
  good_two s f (v ∷ []) n h = absurd (omega (arith, n))
  good_two s f (v ∷ w ∷ []) n h = h v w
  good_two s f (v ∷ w ∷ y ∷ vs) n h = absurd (omega (arith, n))

  pub good_if : (b : Bool) (e f : Effect) → Good e → Good f → Good (cond b e f)
  good_if true e f h k = h
  good_if false e f h k = k

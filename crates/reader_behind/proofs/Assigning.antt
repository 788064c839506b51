-- What is read behind an operand where it is assigned to, and where it is not.
use Rattle.std.proofs.Common.{◌≡◌, ℕ, zero, suc, Bool, true, false, ◌&&◌, List, [], ◌∷◌, Option, Some, None, refl, arith}
use Rattle.std.specs.Prelude.{◌==◌}
use Rattle.std.proofs.lemmas.Bool.Decides.{nat_tests}
use Rattle.spec_program.specs.Tokens.{Placed, assign}
use Rattle.spec_program.specs.Tree.{Expr, Target}
use Rattle.spec_program.specs.Reading.{is_sign}
use Rattle.spec_program.specs.ReadExpressions.{Found}
use Rattle.spec_program.specs.Frames as f
use Rattle.spec_program.specs.Frames.{an_expression, Frames, push}
use Rattle.spec_reader.specs.Next.{Next, reads_expression, reads_operators, goes, stops, on, if_there}
use Rattle.spec_reader.specs.Ends.{past_sign}
use Rattle.spec_reader.specs.Behind.{assigned_or, is_any_level, target_read, target_part}
use Rattle.moo_reader.specs.Views.{target_if, as_target}
use Rattle.reader_behind.specs.Assigning.{is_assigned}

pub any_level : (k : ℕ) → (k == 0) ≡ is_any_level k
any_level zero = refl
any_level (suc k) = grind (arith, nat_tests)

not_there : (x y : Next) (p : Placed) (ts : List Placed) (c : Bool) → c ≡ false → on (goes x) (goes y) (if_there c p ts) ≡ goes y (p ∷ ts)
not_there x y p ts true h = cc
not_there x y p ts false h = refl

there : (x y : Next) (p : Placed) (ts : List Placed) (c : Bool) → c ≡ true → on (goes x) (goes y) (if_there c p ts) ≡ on (goes x) stops (if_there c p ts)
there x y p ts true h = refl
there x y p ts false h = cc

pub is_assigned_to : (x y : Next) (k : ℕ) (ts : List Placed) → is_assigned k ts ≡ true → assigned_or x y (is_any_level k) ts ≡ past_sign assign x ts
is_assigned_to x y zero [] h = cc
is_assigned_to x y zero (p ∷ ts) h = there x y p ts (is_sign assign p.token) h
is_assigned_to x y (suc k) ts h = cc

pub is_not_assigned : (x y : Next) (k : ℕ) (ts : List Placed) → is_assigned k ts ≡ false → assigned_or x y (is_any_level k) ts ≡ goes y ts
is_not_assigned x y zero [] h = refl
is_not_assigned x y zero (p ∷ ts) h = not_there x y p ts (is_sign assign p.token) h
is_not_assigned x y (suc k) ts h = refl

pub target_is_assigned : (b : Bool) (k : ℕ) (e : Found) (o : Option Target) (t : Target) (fs : Frames an_expression) (ts : List Placed)
    → o ≡ Some t → is_assigned k ts ≡ true
    → target_read b k e o fs ts ≡ past_sign assign (reads_expression b 0 (push (f.assigned_to (target_part e) t) fs)) ts
target_is_assigned b k e o t fs ts h a =
    rw h (is_assigned_to (reads_expression b 0 (push (f.assigned_to (target_part e) t) fs)) (reads_operators b k e fs) k ts a)

by_target : (b : Bool) (k : ℕ) (e : Found) (o : Option Target) (fs : Frames an_expression) (ts : List Placed)
    → is_assigned k ts ≡ false → target_read b k e o fs ts ≡ goes (reads_operators b k e fs) ts
by_target b k e None fs ts h = refl
by_target b k e (Some t) fs ts h =
    is_not_assigned (reads_expression b 0 (push (f.assigned_to (target_part e) t) fs)) (reads_operators b k e fs) k ts h

pub target_is_not : (b : Bool) (k : ℕ) (e : Found) (c : Bool) (tree : Expr) (fs : Frames an_expression) (ts : List Placed)
    → (c && is_assigned k ts) ≡ false → target_read b k e (target_if c tree) fs ts ≡ goes (reads_operators b k e fs) ts
target_is_not b k e true tree fs ts h = by_target b k e (as_target tree) fs ts h
target_is_not b k e false tree fs ts h = refl

-- An argument is put before those after it, and arguments before what follows them.
use Rattle.std.proofs.Common.{◌≡◌, ◌<◌, ℕ, zero, suc, List, [], ◌∷◌, length, drop, refl, ap, arith}
use Rattle.std.specs.Prelude.{get_or}
use Rattle.spec_moo.specs.Held.{listed, spliced}
use Rattle.spec_moo.specs.Effects.Handlers.{argument_count}
use Rattle.spec_program.specs.Construct.{of_expr}
use Rattle.spec_program.specs.Tree.{Arguments, no_arguments, argument, splice}
use Rattle.moo_tree.specs.ExpressionView.{arguments_of}
use Rattle.moo_tree.specs.declared.expression.Argument.{Argument}
use Rattle.moo_tree.specs.declared.expression.Argument.TheVariants.{Value, Splice}
use Rattle.moo_code.specs.Instruction.{Unraised}
use Rattle.moo_code.specs.Layout.{Around, Layout, stop, inner, taken, expr_layout, arguments_layout}
use Rattle.moo_program.specs.Drafting.{State, over}

pub arguments_counted : (es : List Argument) → argument_count (arguments_of es) ≡ length es
arguments_counted [] = refl
arguments_counted (Value e ∷ es) = ap suc (arguments_counted es)
arguments_counted (Splice e ∷ es) = ap suc (arguments_counted es)

pub argument_next : (x : Around) (n : ℕ) (u : Unraised) (es : List Argument) (i : ℕ) (d : Argument) (s : State) → i < length es
    → over (arguments_layout x n u (arguments_of (get_or es i d ∷ [])) stop) (over (arguments_layout x n u (arguments_of (drop (suc i) es)) stop) s) ≡ over (arguments_layout x n u (arguments_of (drop i es)) stop) s
argument_next x n u [] i d s h = absurd (omega arith)
argument_next x n u (Value e ∷ es) zero d s h = refl
argument_next x n u (Splice e ∷ es) zero d s h = refl
argument_next x n u (Value e ∷ es) (suc i) d s h = argument_next x n u es i d s (omega arith)
argument_next x n u (Splice e ∷ es) (suc i) d s h = argument_next x n u es i d s (omega arith)

pub arguments_over : (x : Around) (n : ℕ) (u : Unraised) (es : Arguments) (l : Layout) (s : State)
    → over (arguments_layout x n u es l) s ≡ over (arguments_layout x n u es stop) (over l s)
arguments_over x n u no_arguments l s = refl
arguments_over x n u (argument e more) l s = ap (over (inner (taken listed n u (of_expr e)) (expr_layout x e) stop)) (arguments_over x n u more l s)
arguments_over x n u (splice e more) l s = ap (over (inner (taken spliced n u (of_expr e)) (expr_layout x e) stop)) (arguments_over x n u more l s)

-- Codes and their start are put before what follows them.
use Rattle.std.proofs.Common.{◌≡◌, ◌<◌, ℕ, zero, suc, List, [], ◌∷◌, length, refl, ap, sym, ◌∙◌, arith}
use Rattle.spec_moo.specs.Effects.Handlers.{no_codes}
use Rattle.spec_program.specs.Tree.{no_arguments, argument, splice, Codes, any_code, codes_in}
use Rattle.moo_tree.specs.ExpressionView.{arguments_of}
use Rattle.moo_tree.specs.declared.expression.Argument.{Argument}
use Rattle.moo_tree.specs.declared.expression.Argument.TheVariants.{Value, Splice}
use Rattle.moo_code.specs.Instruction.{Unraised, begin_part}
use Rattle.moo_code.specs.Layout.{Around, Layout, stop, own, arguments_layout, codes_layout, begin_codes, end_codes}
use Rattle.moo_program.specs.Drafting.{State, over, with_own}
use Rattle.moo_program.proofs.ArgumentRows.{arguments_over}

pub begin_none : (es : List Argument) (s : State) → length es ≡ 0
    → over (begin_codes (codes_in (arguments_of es)) stop) s ≡ with_own (begin_part 1 0 1 (no_codes ∷ [])) (1 ∷ []) s
begin_none [] s h = refl
begin_none (e ∷ es) s h = absurd (omega arith)

pub begin_listed : (es : List Argument) (s : State) → 0 < length es
    → over (begin_codes (codes_in (arguments_of es)) stop) s ≡ with_own (begin_part 0 0 2 (no_codes ∷ [])) (2 ∷ []) s
begin_listed [] s h = absurd (omega arith)
begin_listed (Value e ∷ es) s h = refl
begin_listed (Splice e ∷ es) s h = refl

pub begin_over : (cs : Codes) (l : Layout) (s : State) → over (begin_codes cs l) s ≡ over (begin_codes cs stop) (over l s)
begin_over any_code l s = refl
begin_over (codes_in no_arguments) l s = refl
begin_over (codes_in (argument e es)) l s = refl
begin_over (codes_in (splice e es)) l s = refl

pub codes_none : (x : Around) (n : ℕ) (u : Unraised) (es : List Argument) (s : State) → length es ≡ 0
    → over (codes_layout x n u (codes_in (arguments_of es)) stop) s ≡ s
codes_none x n u [] s h = refl
codes_none x n u (e ∷ es) s h = absurd (omega arith)

end_listed : (es : List Argument) (s : State) → 0 < length es → over (end_codes (arguments_of es) stop) s ≡ with_own (begin_part 1 1 1 []) (1 ∷ []) s
end_listed [] s h = absurd (omega arith)
end_listed (Value e ∷ es) s h = refl
end_listed (Splice e ∷ es) s h = refl

pub codes_listed : (x : Around) (n : ℕ) (u : Unraised) (es : List Argument) (s : State) → 0 < length es
    → over (codes_layout x n u (codes_in (arguments_of es)) stop) s ≡ over (arguments_layout x n u (arguments_of es) stop) (with_own (begin_part 1 1 1 []) (1 ∷ []) s)
codes_listed x n u es s h =
    arguments_over x n u (arguments_of es) (end_codes (arguments_of es) stop) s ∙ ap (over (arguments_layout x n u (arguments_of es) stop)) (end_listed es s h)

pub codes_over : (x : Around) (n : ℕ) (u : Unraised) (cs : Codes) (l : Layout) (s : State)
    → over (codes_layout x n u cs l) s ≡ over (codes_layout x n u cs stop) (over l s)
codes_over x n u any_code l s = refl
codes_over x n u (codes_in no_arguments) l s = refl
codes_over x n u (codes_in (argument e es)) l s =
    arguments_over x n u (argument e es) (own (begin_part 1 1 1 []) (1 ∷ []) l) s ∙ sym (arguments_over x n u (argument e es) (own (begin_part 1 1 1 []) (1 ∷ []) stop) (over l s))
codes_over x n u (codes_in (splice e es)) l s =
    arguments_over x n u (splice e es) (own (begin_part 1 1 1 []) (1 ∷ []) l) s ∙ sym (arguments_over x n u (splice e es) (own (begin_part 1 1 1 []) (1 ∷ []) stop) (over l s))

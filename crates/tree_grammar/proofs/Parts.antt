-- A list is of the grammar by its first part and the others, and so is its height.
use Rattle.std.proofs.Common.{◌≡◌, ◌≢◌, ◌≤◌, ◌<◌, ◌+◌, ◌∙◌, ℕ, suc, length, drop, get_or, Option, IsTrue, ap, subst, Bool, true, false, ◌&&◌, ◌||◌, not, List, [], ◌∷◌, refl, sym, arith}
use Rattle.std.proofs.Math.Nat.{zero-max, max-le, le-max_left, le-max_right, le_trans}
use Rattle.std.proofs.Math.Seq.{drop-cons}
use Rattle.spec_value.specs.Datum.{Text, same_text}
use Rattle.spec_value.proofs.Same.{same_texts}
use Rattle.std.specs.Prelude.{if◌then◌else◌, max}
use Rattle.spec_program.specs.Trees.{may_name, codes_fit, program_fits, arms_fit, codes_height, program_height, arms_height, is_name, expr_fits, arguments_fit, items_fit, has_argument, has_item, has_branch, has_arm, rest_once, takes_rest, arguments_height, items_height}
use Rattle.moo_tree.specs.ExpressionView.{arguments_of, items_of, codes_of}
use Rattle.moo_tree.specs.StatementView.{branches_of, arms_of, program_of}
use Rattle.moo_tree.specs.declared.statement.Branch.{Branch}
use Rattle.moo_tree.specs.declared.statement.Arm.{Arm}
use Rattle.moo_tree.specs.declared.expression.Argument.{Argument}
use Rattle.moo_tree.specs.declared.expression.Argument.TheVariants.{Value, Splice}
use Rattle.moo_tree.specs.declared.expression.Item.{Item}
use Rattle.moo_tree.specs.declared.expression.Item.TheVariants.{Required, Optional, Rest, Default}
use Rattle.tree_grammar.specs.Parts.{one_argument_fits, one_argument_height, one_item_fits, one_item_height, one_is_rest}

pub more_arguments : (b : Bool) (a : Argument) (es : List Argument) → arguments_fit b (arguments_of (a ∷ es)) ≡ (one_argument_fits b a && arguments_fit b (arguments_of es))
more_arguments b (Value e) es = refl
more_arguments b (Splice e) es = refl

pub higher_arguments : (a : Argument) (es : List Argument) → arguments_height (arguments_of (a ∷ es)) ≡ max (one_argument_height a) (arguments_height (arguments_of es))
higher_arguments (Value e) es = refl
higher_arguments (Splice e) es = refl

and_again : (a b c : Bool) → (a && (b && c)) ≡ ((a && b) && c)
and_again true b c = refl
and_again false b c = refl

pub more_items : (b : Bool) (x : Item) (xs : List Item) → items_fit b (items_of (x ∷ xs)) ≡ (one_item_fits b x && items_fit b (items_of xs))
more_items b (Required x) xs = refl
more_items b (Optional x) xs = refl
more_items b (Rest x) xs = refl
more_items b (Default x e) xs = and_again (is_name x) (expr_fits b e) (items_fit b (items_of xs))

pub higher_items : (x : Item) (xs : List Item) → items_height (items_of (x ∷ xs)) ≡ max (one_item_height x) (items_height (items_of xs))
higher_items (Required x) xs = sym (zero-max (items_height (items_of xs)))
higher_items (Optional x) xs = sym (zero-max (items_height (items_of xs)))
higher_items (Rest x) xs = sym (zero-max (items_height (items_of xs)))
higher_items (Default x e) xs = refl

pub some_argument : (es : List Argument) → 1 ≤ length es → true ≡ has_argument (arguments_of es)
some_argument [] h = absurd (omega arith)
some_argument (Value e ∷ es) h = refl
some_argument (Splice e ∷ es) h = refl

pub some_item : (xs : List Item) → 1 ≤ length xs → true ≡ has_item (items_of xs)
some_item [] h = absurd (omega arith)
some_item (Required x ∷ xs) h = refl
some_item (Optional x ∷ xs) h = refl
some_item (Rest x ∷ xs) h = refl
some_item (Default x e ∷ xs) h = refl

pub some_branch : (bs : List Branch) → 1 ≤ length bs → true ≡ has_branch (branches_of bs)
some_branch [] h = absurd (omega arith)
some_branch (b ∷ bs) h = refl

pub some_arm : (arms : List Arm) → 1 ≤ length arms → true ≡ has_arm (arms_of arms)
some_arm [] h = absurd (omega arith)
some_arm (a ∷ more) h = refl

pub rest_first : (x : Item) (xs : List Item) → rest_once (items_of (x ∷ xs)) ≡ (if one_is_rest x then not (takes_rest (items_of xs)) else rest_once (items_of xs))
rest_first (Required x) xs = refl
rest_first (Optional x) xs = refl
rest_first (Rest x) xs = refl
rest_first (Default x e) xs = refl

pub rest_among : (x : Item) (xs : List Item) → takes_rest (items_of (x ∷ xs)) ≡ (one_is_rest x || takes_rest (items_of xs))
rest_among (Required x) xs = refl
rest_among (Optional x) xs = refl
rest_among (Rest x) xs = refl
rest_among (Default x e) xs = refl

-- ---- one handler more

fits_on : (a b c : Bool) → IsTrue (a && b) → (a && (b && c)) ≡ c
fits_on true true c h = refl
fits_on true false c h = cc
fits_on false b c h = cc

low_on : (h k m r : ℕ) → max h k ≤ r → m ≤ r → max h (max k m) ≤ r
low_on h k m r both more =
    let first : h ≤ r = le_trans (le-max_left h k) both in
    let second : k ≤ r = le_trans (le-max_right h k) both in
    max-le first (max-le second more)

pub arms_on : (loops : List (Option Text)) (all : List Arm) (i : ℕ) (arm : Arm) (room : ℕ) → i < length all → arm ≡ get_or all i arm
    → IsTrue ((may_name arm.variable && codes_fit false (codes_of arm.codes)) && program_fits loops (program_of arm.body.items))
    → max (codes_height (codes_of arm.codes)) (program_height (program_of arm.body.items)) ≤ room
    → (arms_fit loops (arms_of all) ≡ arms_fit loops (arms_of (drop i all))) × (arms_height (arms_of (drop i all)) ≤ room → arms_height (arms_of all) ≤ room)
    → (arms_fit loops (arms_of all) ≡ arms_fit loops (arms_of (drop (i + 1) all))) × (arms_height (arms_of (drop (i + 1) all)) ≤ room → arms_height (arms_of all) ≤ room)
arms_on loops all i arm room within at fits low h =
    let one : suc i ≡ i + 1 = omega arith in
    let rest : List Arm = drop (i + 1) all in
    let front : drop i all ≡ arm ∷ rest = drop-cons all i arm within ∙ ap (λ n. get_or all i arm ∷ drop n all) one ∙ ap (λ a. a ∷ rest) (sym at) in
    let name = may_name arm.variable && codes_fit false (codes_of arm.codes) in (
      h.0 ∙ ap (λ arms. arms_fit loops (arms_of arms)) front ∙ fits_on name (program_fits loops (program_of arm.body.items)) (arms_fit loops (arms_of rest)) fits,
      λ more. h.1 (subst (λ arms. arms_height (arms_of arms) ≤ room) (sym front) (low_on (codes_height (codes_of arm.codes)) (program_height (program_of arm.body.items)) (arms_height (arms_of rest)) room low more)),
    )

-- ---- texts of other lengths

same_or_not : (b : Bool) (s t : List ℕ) → same_text s t ≡ b → length s ≢ length t → false ≡ same_text s t
same_or_not true s t e h = absurd (h (ap length (same_texts s t e)))
same_or_not false s t e h = sym e

pub other_length : (s t : List ℕ) → length s ≢ length t → false ≡ same_text s t
other_length s t h = same_or_not (same_text s t) s t refl h

-- Lists of the same parts are the same.
use Rattle.std.proofs.Common.{◌≡◌, ◌↔◌, ◌<◌, ◌≤◌, ℕ, zero, suc, Bool, IsTrue, List, [], ◌∷◌, length, map, sym, ◌∙◌, ap, refl, arith}
use Rattle.std.specs.Prelude.{get_or}
use Rattle.spec_program.specs.Tree.{Arguments, no_arguments, argument, splice, Items, no_items, required, optional, remaining, defaulted, Statement, Program, the_end, seq, Branches, no_branches, on, Arms, no_arms, except}
use Rattle.moo_tree.specs.Depth.{arguments_depth, items_depth, statement_depth, program_depth, branches_depth, arms_depth}
use Rattle.moo_tree.specs.ExpressionView.{arguments_of, items_of, codes_of}
use Rattle.moo_tree.specs.StatementView.{program_of, branches_of, branch_of, arms_of, arm_of}
use Rattle.moo_tree.specs.declared.statement.Branch.{Branch}
use Rattle.moo_tree.specs.declared.statement.Arm.{Arm}
use Rattle.moo_tree.specs.declared.expression.Argument.{Argument}
use Rattle.moo_tree.specs.declared.expression.Argument.TheVariants.{Value, Splice}
use Rattle.moo_tree.specs.declared.expression.Item.{Item}
use Rattle.moo_tree.specs.declared.expression.Item.TheVariants.{Required, Optional, Rest, Default}

first_arguments : Arguments → List Argument
first_arguments no_arguments = []
first_arguments (argument e more) = Value e ∷ first_arguments more
first_arguments (splice e more) = Splice e ∷ first_arguments more

arguments_back : (es : List Argument) → first_arguments (arguments_of es) ≡ es
unfolding first_arguments
arguments_back [] = refl
arguments_back (Value e ∷ es) = ap (λ ts. Value e ∷ ts) (arguments_back es)
arguments_back (Splice e ∷ es) = ap (λ ts. Splice e ∷ ts) (arguments_back es)

pub equal_arguments : (xs ys : List Argument) → arguments_of xs ≡ arguments_of ys → xs ≡ ys
equal_arguments xs ys e = sym (arguments_back xs) ∙ ap first_arguments e ∙ arguments_back ys

first_items : Items → List Item
first_items no_items = []
first_items (required x more) = Required x ∷ first_items more
first_items (optional x more) = Optional x ∷ first_items more
first_items (remaining x more) = Rest x ∷ first_items more
first_items (defaulted x e more) = Default x e ∷ first_items more

items_back : (xs : List Item) → first_items (items_of xs) ≡ xs
unfolding first_items
items_back [] = refl
items_back (Required x ∷ xs) = ap (λ ts. Required x ∷ ts) (items_back xs)
items_back (Optional x ∷ xs) = ap (λ ts. Optional x ∷ ts) (items_back xs)
items_back (Rest x ∷ xs) = ap (λ ts. Rest x ∷ ts) (items_back xs)
items_back (Default x e ∷ xs) = ap (λ ts. Default x e ∷ ts) (items_back xs)

pub equal_items : (xs ys : List Item) → items_of xs ≡ items_of ys → xs ≡ ys
equal_items xs ys e = sym (items_back xs) ∙ ap first_items e ∙ items_back ys

-- a part nests no deeper than all of them
pub argument_within : (es : List Argument) (i : ℕ) (d : Argument) → i < length es → arguments_depth (arguments_of (get_or es i d ∷ [])) ≤ arguments_depth (arguments_of es)
argument_within [] i d h = absurd (omega arith)
argument_within (Value e ∷ es) zero d h = omega arith
argument_within (Splice e ∷ es) zero d h = omega arith
argument_within (Value e ∷ es) (suc i) d h = omega (arith, argument_within es i d (omega arith))
argument_within (Splice e ∷ es) (suc i) d h = omega (arith, argument_within es i d (omega arith))

pub item_within : (xs : List Item) (i : ℕ) (d : Item) → i < length xs → items_depth (items_of (get_or xs i d ∷ [])) ≤ items_depth (items_of xs)
item_within [] i d h = absurd (omega arith)
item_within (Required x ∷ xs) zero d h = omega arith
item_within (Optional x ∷ xs) zero d h = omega arith
item_within (Rest x ∷ xs) zero d h = omega arith
item_within (Default x e ∷ xs) zero d h = omega arith
item_within (Required x ∷ xs) (suc i) d h = omega (arith, item_within xs i d (omega arith))
item_within (Optional x ∷ xs) (suc i) d h = omega (arith, item_within xs i d (omega arith))
item_within (Rest x ∷ xs) (suc i) d h = omega (arith, item_within xs i d (omega arith))
item_within (Default x e ∷ xs) (suc i) d h = omega (arith, item_within xs i d (omega arith))

-- ---- statements

first_statements : Program → List Statement
first_statements the_end = []
first_statements (seq s p) = s ∷ first_statements p

statements_back : (ss : List Statement) → first_statements (program_of ss) ≡ ss
unfolding first_statements
statements_back [] = refl
statements_back (s ∷ ss) = ap (λ ts. s ∷ ts) (statements_back ss)

pub equal_statements : (xs ys : List Statement) → program_of xs ≡ program_of ys → xs ≡ ys
equal_statements xs ys e = sym (statements_back xs) ∙ ap first_statements e ∙ statements_back ys

each_branch : Branches → List Branches
each_branch no_branches = []
each_branch (on c p more) = on c p no_branches ∷ each_branch more

branches_each : (bs : List Branch) → each_branch (branches_of bs) ≡ map branch_of bs
unfolding each_branch
branches_each [] = refl
branches_each (b ∷ bs) = ap (λ ts. branch_of b ∷ ts) (branches_each bs)

joined_branches : List Branches → Branches
joined_branches [] = no_branches
joined_branches (no_branches ∷ bs) = joined_branches bs
joined_branches (on c p more ∷ bs) = on c p (joined_branches bs)

branches_joined : (bs : List Branch) → joined_branches (map branch_of bs) ≡ branches_of bs
unfolding joined_branches
branches_joined [] = refl
branches_joined (b ∷ bs) = ap (λ ts. on b.condition (program_of b.body.items) ts) (branches_joined bs)

pub equal_branches : (xs ys : List Branch) → branches_of xs ≡ branches_of ys → map branch_of xs ≡ map branch_of ys
equal_branches xs ys e = sym (branches_each xs) ∙ ap each_branch e ∙ branches_each ys

pub branches_equal : (xs ys : List Branch) → map branch_of xs ≡ map branch_of ys → branches_of xs ≡ branches_of ys
branches_equal xs ys e = sym (branches_joined xs) ∙ ap joined_branches e ∙ branches_joined ys

each_arm : Arms → List Arms
each_arm no_arms = []
each_arm (except x cs p more) = except x cs p no_arms ∷ each_arm more

arms_each : (more : List Arm) → each_arm (arms_of more) ≡ map arm_of more
unfolding each_arm
arms_each [] = refl
arms_each (a ∷ more) = ap (λ ts. arm_of a ∷ ts) (arms_each more)

joined_arms : List Arms → Arms
joined_arms [] = no_arms
joined_arms (no_arms ∷ more) = joined_arms more
joined_arms (except x cs p rest ∷ more) = except x cs p (joined_arms more)

arms_joined : (more : List Arm) → joined_arms (map arm_of more) ≡ arms_of more
unfolding joined_arms
arms_joined [] = refl
arms_joined (a ∷ more) = ap (λ ts. except a.variable (codes_of a.codes) (program_of a.body.items) ts) (arms_joined more)

pub equal_arms : (xs ys : List Arm) → arms_of xs ≡ arms_of ys → map arm_of xs ≡ map arm_of ys
equal_arms xs ys e = sym (arms_each xs) ∙ ap each_arm e ∙ arms_each ys

pub arms_equal : (xs ys : List Arm) → map arm_of xs ≡ map arm_of ys → arms_of xs ≡ arms_of ys
arms_equal xs ys e = sym (arms_joined xs) ∙ ap joined_arms e ∙ arms_joined ys

-- what is made of each is the same at every place
pub mapped_at : {A B : Type 0} (f : A → B) (xs ys : List A) (i : ℕ) (d e : A) → i < length xs → map f xs ≡ map f ys → f (get_or xs i d) ≡ f (get_or ys i e)
mapped_at f [] ys i d e h eq = absurd (omega arith)
mapped_at f (x ∷ xs) [] i d e h eq = absurd (cc)
mapped_at f (x ∷ xs) (y ∷ ys) zero d e h eq = cc
mapped_at f (x ∷ xs) (y ∷ ys) (suc i) d e h eq = mapped_at f xs ys i d e (omega arith) cc

pub statement_within : (ss : List Statement) (i : ℕ) (d : Statement) → i < length ss → statement_depth (get_or ss i d) ≤ program_depth (program_of ss)
statement_within [] i d h = absurd (omega arith)
statement_within (s ∷ ss) zero d h = omega arith
statement_within (s ∷ ss) (suc i) d h = omega (arith, statement_within ss i d (omega arith))

pub branch_within : (bs : List Branch) (i : ℕ) (d : Branch) → i < length bs → branches_depth (branch_of (get_or bs i d)) ≤ branches_depth (branches_of bs)
branch_within [] i d h = absurd (omega arith)
branch_within (b ∷ bs) zero d h = omega arith
branch_within (b ∷ bs) (suc i) d h = omega (arith, branch_within bs i d (omega arith))

pub arm_within : (more : List Arm) (i : ℕ) (d : Arm) → i < length more → arms_depth (arm_of (get_or more i d)) ≤ arms_depth (arms_of more)
arm_within [] i d h = absurd (omega arith)
arm_within (a ∷ more) zero d h = omega arith
arm_within (a ∷ more) (suc i) d h = omega (arith, arm_within more i d (omega arith))

pub same_programs : (r : Bool) (ss ts : List Statement) → (IsTrue r ↔ ss ≡ ts) → (IsTrue r ↔ program_of ss ≡ program_of ts)
same_programs r ss ts h = (λ t. ap program_of (h.0 t), λ e. h.1 (equal_statements ss ts e))

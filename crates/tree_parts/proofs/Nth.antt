-- The part that has so many before it: of parts one after another, and of those that stand for items of a list.
use Rattle.std.proofs.Common.{◌≡◌, ℕ, zero, suc, ◌+◌, ◌*◌, ◌<◌, ◌≤◌, List, [], ◌∷◌, ◌++◌, length, Some, None, take, drop, refl, ap, arith, slice_get}
use Rattle.spec_program.specs.Construct.{of_expr, of_statement, of_program}
use Rattle.spec_program.specs.Place.{Kind, any_list, Part, part, nth, argument_parts, item_parts, program_parts, branch_parts, arm_parts, arm_kinds, codes_kind, code_parts}
use Rattle.moo_tree.specs.ExpressionView.{arguments_of, items_of, codes_of}
use Rattle.moo_tree.specs.StatementView.{program_of, branches_of, arms_of}
use Rattle.moo_tree.specs.declared.expression.Argument.{Argument}
use Rattle.moo_tree.specs.declared.expression.Argument.TheVariants.{Value, Splice}
use Rattle.moo_tree.specs.declared.expression.Item.{Item}
use Rattle.moo_tree.specs.declared.expression.Item.TheVariants.{Required, Optional, Rest, Default}
use Rattle.moo_tree.specs.declared.statement.Statement.{Statement}
use Rattle.moo_tree.specs.declared.statement.Branch.{Branch}
use Rattle.moo_tree.specs.declared.statement.Arm.{Arm}
use Rattle.tree_parts.specs.Parts.{argument_expr}

pub nth_past : (ps : List Part) (n : ℕ) → length ps ≤ n → nth ps n ≡ None
nth_past [] n h = refl
nth_past (p ∷ ps) zero h = absurd (omega arith)
nth_past (p ∷ ps) (suc n) h = nth_past ps n (omega arith)

pub nth_before : (ps qs : List Part) (n : ℕ) → n < length ps → nth (ps ++ qs) n ≡ nth ps n
nth_before [] qs n h = absurd (omega arith)
nth_before (p ∷ ps) qs zero h = refl
nth_before (p ∷ ps) qs (suc n) h = nth_before ps qs n (omega arith)

pub nth_behind : (ps qs : List Part) (n m : ℕ) → n ≡ length ps + m → nth (ps ++ qs) n ≡ nth qs m
nth_behind [] qs n m h = ap (nth qs) (omega arith)
nth_behind (p ∷ ps) qs zero m h = absurd (omega arith)
nth_behind (p ∷ ps) qs (suc n) m h = nth_behind ps qs n m (omega arith)

pub nth_on : (p : Part) (ps : List Part) (n m : ℕ) → n ≡ suc m → nth (p ∷ ps) n ≡ nth ps m
nth_on p ps n m h = rw h refl

-- ---- arguments

pub arguments_counted : (kinds : List Kind) (es : List Argument) → length (argument_parts kinds (arguments_of es)) ≡ length es
arguments_counted kinds [] = refl
arguments_counted kinds (Value e ∷ es) = ap suc (arguments_counted kinds es)
arguments_counted kinds (Splice e ∷ es) = ap suc (arguments_counted kinds es)

pub argument_at : (kinds : List Kind) (es : List Argument) (n : ℕ) (x : Argument) → slice_get es n ≡ Some x → nth (argument_parts kinds (arguments_of es)) n ≡ Some (part (of_expr (argument_expr x)) kinds)
argument_at kinds [] n x h = absurd (cc)
argument_at kinds (Value e ∷ es) zero x h = cc
argument_at kinds (Splice e ∷ es) zero x h = cc
argument_at kinds (Value e ∷ es) (suc n) x h = argument_at kinds es n x h
argument_at kinds (Splice e ∷ es) (suc n) x h = argument_at kinds es n x h

-- ---- items

pub items_counted : (xs : List Item) → length (item_parts (items_of xs)) ≡ length xs
items_counted [] = refl
items_counted (Required x ∷ xs) = ap suc (items_counted xs)
items_counted (Optional x ∷ xs) = ap suc (items_counted xs)
items_counted (Rest x ∷ xs) = ap suc (items_counted xs)
items_counted (Default x e ∷ xs) = ap suc (items_counted xs)

pub item_at : (xs : List Item) (n : ℕ) (x : Item) (p : Part) → slice_get xs n ≡ Some x → item_parts (items_of (x ∷ [])) ≡ p ∷ [] → nth (item_parts (items_of xs)) n ≡ Some p
item_at [] n x p h e = absurd (cc)
item_at (Required y ∷ xs) zero x p h e = cc
item_at (Optional y ∷ xs) zero x p h e = cc
item_at (Rest y ∷ xs) zero x p h e = cc
item_at (Default y d ∷ xs) zero x p h e = cc
item_at (Required y ∷ xs) (suc n) x p h e = item_at xs n x p h e
item_at (Optional y ∷ xs) (suc n) x p h e = item_at xs n x p h e
item_at (Rest y ∷ xs) (suc n) x p h e = item_at xs n x p h e
item_at (Default y d ∷ xs) (suc n) x p h e = item_at xs n x p h e

-- ---- statements and branches

pub statements_counted : (ss : List Statement) → length (program_parts (program_of ss)) ≡ length ss
statements_counted [] = refl
statements_counted (s ∷ ss) = ap suc (statements_counted ss)

pub statement_at : (ss : List Statement) (n : ℕ) (s : Statement) → slice_get ss n ≡ Some s → nth (program_parts (program_of ss)) n ≡ Some (part (of_statement s) [])
statement_at [] n s h = absurd (cc)
statement_at (t ∷ ss) zero s h = cc
statement_at (t ∷ ss) (suc n) s h = statement_at ss n s h

pub branches_counted : (bs : List Branch) → length (branch_parts (branches_of bs)) ≡ 2 * length bs
branches_counted [] = refl
branches_counted (b ∷ bs) = omega (arith, branches_counted bs)

pub branch_at : (bs : List Branch) (i n m : ℕ) (b : Branch) → slice_get bs i ≡ Some b → n ≡ 2 * i + m → m < 2 → nth (branch_parts (branches_of bs)) n ≡ nth (branch_parts (branches_of (b ∷ []))) m
branch_at [] i n m b h e l = absurd (cc)
branch_at (x ∷ bs) zero n zero b h e l = let k : n ≡ 0 = omega arith in rw k (cc)
branch_at (x ∷ bs) zero n (suc zero) b h e l = let k : n ≡ 1 = omega arith in rw k (cc)
branch_at (x ∷ bs) zero n (suc (suc m)) b h e l = absurd (omega arith)
branch_at (x ∷ bs) (suc i) zero m b h e l = absurd (omega arith)
branch_at (x ∷ bs) (suc i) (suc zero) m b h e l = absurd (omega arith)
branch_at (x ∷ bs) (suc i) (suc (suc n)) m b h e l = branch_at bs i n m b h (omega arith) l

-- ---- arms

pub arms_counted : (arms : List Arm) → length (arm_kinds (arms_of arms)) ≡ length arms
arms_counted [] = refl
arms_counted (a ∷ arms) = ap suc (arms_counted arms)

pub arms_and_list_counted : (arms : List Arm) (k : Kind) → length (arm_kinds (arms_of arms) ++ k ∷ []) ≡ length arms + 1
arms_and_list_counted [] k = refl
arms_and_list_counted (a ∷ arms) k = omega (arith, arms_and_list_counted arms k)

-- of the codes of the first arm behind these
pub arm_code : (before : List Kind) (a : Arm) (arms : List Arm) (n : ℕ) → n < length (code_parts (before ++ any_list ∷ []) (codes_of a.codes)) → nth (arm_parts before (arms_of (a ∷ arms))) n ≡ nth (code_parts (before ++ any_list ∷ []) (codes_of a.codes)) n
arm_code before a arms n h =
    nth_before (code_parts (before ++ any_list ∷ []) (codes_of a.codes)) (part (of_program (program_of a.body.items)) [] ∷ arm_parts (before ++ codes_kind (codes_of a.codes) ∷ []) (arms_of arms)) n h

pub arm_body : (before : List Kind) (a : Arm) (arms : List Arm) (n : ℕ) → n ≡ length (code_parts (before ++ any_list ∷ []) (codes_of a.codes)) → nth (arm_parts before (arms_of (a ∷ arms))) n ≡ Some (part (of_program (program_of a.body.items)) [])
arm_body before a arms n h =
    nth_behind (code_parts (before ++ any_list ∷ []) (codes_of a.codes)) (part (of_program (program_of a.body.items)) [] ∷ arm_parts (before ++ codes_kind (codes_of a.codes) ∷ []) (arms_of arms)) n 0 (omega arith)

pub arm_on : (before : List Kind) (a : Arm) (arms : List Arm) (n m : ℕ) → n ≡ length (code_parts (before ++ any_list ∷ []) (codes_of a.codes)) + suc m → nth (arm_parts before (arms_of (a ∷ arms))) n ≡ nth (arm_parts (before ++ codes_kind (codes_of a.codes) ∷ []) (arms_of arms)) m
arm_on before a arms n m h =
    nth_behind (code_parts (before ++ any_list ∷ []) (codes_of a.codes)) (part (of_program (program_of a.body.items)) [] ∷ arm_parts (before ++ codes_kind (codes_of a.codes) ∷ []) (arms_of arms)) n (suc m) h

-- at an arm, the arms before it and it with those behind it
pub kinds_more : (arms : List Arm) (i j : ℕ) (a : Arm) → slice_get arms i ≡ Some a → j ≡ suc i → arm_kinds (arms_of (take j arms)) ≡ arm_kinds (arms_of (take i arms)) ++ codes_kind (codes_of a.codes) ∷ []
kinds_more [] i j a h e = absurd (cc)
kinds_more (x ∷ arms) zero j a h e =
    let same : x ≡ a = cc in rw (e, same) refl
kinds_more (x ∷ arms) (suc i) j a h e = rw e (ap (λ ks. codes_kind (codes_of x.codes) ∷ ks) (kinds_more arms i (suc i) a h refl))

pub arms_from : (arms : List Arm) (i j : ℕ) (a : Arm) → slice_get arms i ≡ Some a → j ≡ suc i → drop i arms ≡ a ∷ drop j arms
arms_from [] i j a h e = absurd (cc)
arms_from (x ∷ arms) zero j a h e = let same : x ≡ a = cc in rw (e, same) refl
arms_from (x ∷ arms) (suc i) j a h e = rw e (arms_from arms i (suc i) a h refl)

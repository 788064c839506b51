-- Steps of targets.
use Rattle.std.proofs.Common.{◌≡◌, ℕ, [], Bool, true, false, ◌&&◌, ◌++◌, Option, Some, None, refl, ap, ◌∙◌}
use Rattle.std.specs.Prelude.{not}
use Rattle.spec_value.specs.Datum.{Text}
use Rattle.spec_program.specs.Tree.{Expr, variable, index, range, Target, to_variable, to_index, to_range}
use Rattle.spec_program.specs.ReadExpressions as by
use Rattle.moo_reader.specs.Views.{as_target, target_if, stepped}

step : (t : Option Target) (f : Target → Target) → stepped t f ≡ by.stepped t false f
step None f = refl
step (Some t) f = refl

no_step : (t : Option Target) (f : Target → Target) → None ≡ by.stepped t true f
no_step None f = refl
no_step (Some t) f = refl

pub index_step : (b r : Bool) (a i : Expr) → target_if (b && not r) (index a i) ≡ by.stepped (target_if b a) r (λ t. to_index t i)
index_step true false a i = step (as_target a) (λ t. to_index t i)
index_step true true a i = no_step (as_target a) (λ t. to_index t i)
index_step false false a i = refl
index_step false true a i = refl

pub range_step : (b r : Bool) (a i j : Expr) → target_if (b && not r) (range a i j) ≡ by.stepped (target_if b a) r (λ t. to_range t i j)
range_step true false a i j = step (as_target a) (λ t. to_range t i j)
range_step true true a i j = no_step (as_target a) (λ t. to_range t i j)
range_step false false a i j = refl
range_step false true a i j = refl

pub indexed : (x a i : by.Found) (b r d : Bool) (bs : by.Braces) → x ≡ by.found_at a.line (index a.tree i.tree) (a.nodes ++ i.nodes) → d ≡
    (b && not r)
    → record (by.whole x) { target = target_if d x.tree } ≡ by.index_of (record { found = a; target = target_if b a.tree; ranged = r; braces = bs }) i
indexed x a i b r d bs h e =
    ap (λ c. record (by.whole x) { target = target_if c x.tree }) e
    ∙ ap (λ y. record (by.whole y) { target = target_if (b && not r) y.tree }) h
    ∙ ap (λ t. record (by.whole (by.found_at a.line (index a.tree i.tree) (a.nodes ++ i.nodes))) { target = t }) (index_step b r a.tree i.tree)

pub ranged : (x a i j : by.Found) (b r d : Bool) (bs : by.Braces) → x ≡ by.found_at a.line (range a.tree i.tree j.tree)
    (a.nodes ++ (i.nodes ++ j.nodes)) → d ≡ (b && not r)
    → record (by.whole x) { target = target_if d x.tree; ranged = true } ≡ by.range_of
    (record { found = a; target = target_if b a.tree; ranged = r; braces = bs }) i j
ranged x a i j b r d bs h e =
    ap (λ c. record (by.whole x) { target = target_if c x.tree; ranged = true }) e
    ∙ ap (λ y. record (by.whole y) { target = target_if (b && not r) y.tree; ranged = true }) h
    ∙ ap (λ t. record (by.whole (by.found_at a.line (range a.tree i.tree j.tree) (a.nodes ++ (i.nodes ++ j.nodes)))) { target = t; ranged = true })
    (range_step b r a.tree i.tree j.tree)

pub property_found : (x o p : by.Found) → x ≡ (by.property_of o p).found → record (by.whole x) { target = target_if true x.tree } ≡ by.property_of o p
property_found x o p h = ap (λ y. record (by.whole y) { target = target_if true y.tree }) h

pub variable_is_target : (x : by.Found) (line : ℕ) (name : Text) → x ≡ by.found_at line (variable name) []
    → record (by.whole x) { target = target_if true x.tree } ≡ by.assignable (by.found_at line (variable name) []) (to_variable name)
variable_is_target x line name h = ap (λ y. record (by.whole y) { target = target_if true y.tree }) h

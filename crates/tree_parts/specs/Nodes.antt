-- What lent parts of trees mean, and what is held.
use Rattle.std.specs.Prelude.{suc, List, [], ◌∷◌, ◌++◌, replicate}
use Rattle.spec_program.specs.Construct.{Construct, of_expr, of_target, of_default, of_statement, of_program}
use Rattle.spec_program.specs.Place as place
use Rattle.moo_tree.specs.ExpressionView.{codes_of}
use Rattle.moo_tree.specs.StatementView.{program_of, arms_of}
use Rattle.tree_parts.specs.declared.node.Node.{Node}
use Rattle.tree_parts.specs.declared.node.Node.TheVariants.{Expression, Target, Default, Statement, Program}
use Rattle.tree_parts.specs.declared.holds.Values.{Values}
use Rattle.tree_parts.specs.declared.holds.Values.TheVariants.{Any, AnyAndList, Target as OfTarget, TargetAndOne, Codes, Arms, ArmsAndList}
use Rattle.tree_parts.specs.declared.holds.Holds.{Holds}
use Rattle.tree_parts.specs.declared.holds.Holds.TheVariants.{Values as ValuesOf, ListWalk, RangeWalk, WhyLeft}

abbrev pub construct_of : Node → Construct
construct_of (Expression e) = of_expr e.now
construct_of (Target t) = of_target t.now
construct_of (Default x e) = of_default x.now e.now
construct_of (Statement s) = of_statement s.now
construct_of (Program ss) = of_program (program_of ss.now)

abbrev pub kinds_of : Values → List place.Kind
kinds_of (Any n) = replicate n place.any_value
kinds_of (AnyAndList n) = replicate n place.any_value ++ place.any_list ∷ []
kinds_of (OfTarget t) = replicate (place.arity t.now) place.any_value
kinds_of (TargetAndOne t) = replicate (suc (place.arity t.now)) place.any_value
kinds_of (Codes c) = place.codes_kind (codes_of c.now) ∷ []
kinds_of (Arms arms) = place.arm_kinds (arms_of arms.now)
kinds_of (ArmsAndList arms) = place.arm_kinds (arms_of arms.now) ++ place.any_list ∷ []

abbrev pub holds_of : Holds → place.Holds
holds_of (ValuesOf v) = place.holds (kinds_of v)
holds_of ListWalk = place.walks_list
holds_of RangeWalk = place.walks_range
holds_of WhyLeft = place.why_left

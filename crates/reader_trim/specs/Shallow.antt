-- What may stand in the place of a tree or a scatter: the same, unless it is too deep.
use Rattle.std.specs.Prelude.{◌≡◌, Bool, List, None, is_some}
use Rattle.spec_program.specs.Tree.{Expr}
use Rattle.spec_program.specs.Reading.{Node}
use Rattle.spec_program.specs.ReadPrograms.{too_deep}
use Rattle.spec_program.specs.Similar.{Similar}
use Rattle.moo_tree.specs.ExpressionView.{items_of}
use Rattle.moo_reader.specs.Views.{target_if}
use Rattle.moo_reader.specs.declared.found.Scattering.{Scattering}

-- a target stays one
pub record IsShallowOperand (ns : List Node) (is_target : Bool) (e d : Expr) : Type 0 where
  pub same : too_deep ns ≡ None → e ≡ d
  pub target : is_some (target_if is_target e) ≡ is_some (target_if is_target d)

-- with few nodes
abbrev pub IsFew : Scattering → Scattering → Type 0
IsFew s t = Similar s.nodes t.nodes (items_of s.items.items) (items_of t.items.items)

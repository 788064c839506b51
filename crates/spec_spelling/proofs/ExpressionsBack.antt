-- Each construct in its turn: expressions are read back from the tokens of their canonical spelling.
use Rattle.spec_program.specs.Tree.{Expr, literal, variable, own_length, unary, binary, both, either, conditional, listing, call, property, verb_call, index, range, caught, assignment, scatter, Arguments, no_arguments, argument, splice, Codes, any_code, codes_in, Fallback, the_code, instead, Target, to_variable, to_property, to_index, to_range, Items, no_items, required, optional, remaining, defaulted}
use Rattle.spec_program.proofs.OperatorsBack.{Back, whole_back, unary_back, binary_back, both_back, either_back}
use Rattle.spec_program.proofs.OperandsBack.{conditional_back, literal_back, variable_back, length_back}
use Rattle.spec_program.proofs.StepsBack.{index_back, range_back, property_back}
use Rattle.spec_program.proofs.ArgumentsBack.{Backs, call_back, arguments_back}
use Rattle.spec_program.proofs.VerbsBack.{verb_back}
use Rattle.spec_spelling.specs.ReadBack.{ExpressionReadBack, ArgumentsReadBack, CodesReadBack}
use Rattle.spec_spelling.proofs.ListsBack.{listing_back}
use Rattle.spec_spelling.proofs.CatchesBack.{CodesBack, FallbackBack, caught_back, codes_back}
use Rattle.spec_spelling.proofs.AssignmentsBack.{TargetBacks, assignment_back}
use Rattle.spec_spelling.proofs.ScattersBack.{ItemsBacks, scatter_back}

mutual
  pub back : (e : Expr) → Back e
  back (literal v) = literal_back v
  back (variable x) = variable_back x
  back own_length = length_back
  back (unary u a) = unary_back u a (back a)
  back (binary op a c) = binary_back op a c (back a) (back c)
  back (both a c) = both_back a c (back a) (back c)
  back (either a c) = either_back a c (back a) (back c)
  back (conditional c x y) = conditional_back c x y (back c) (back x) (back y)
  back (listing es) = listing_back es (all_back es)
  back (call f es) = call_back f es (all_back es)
  back (property o p) = property_back o p (back o) (back p)
  back (verb_call o v es) = verb_back o v es (back o) (back v) (all_back es)
  back (index x i) = index_back x i (back x) (back i)
  back (range x i j) = range_back x i j (back x) (back i) (back j)
  back (caught e c d) = caught_back e c d (back e) (all_codes_back c) (fallback_back d)
  back (assignment x e) = assignment_back x e (target_back x) (back e)
  back (scatter xs e) = scatter_back xs e (items_back xs) (back e)

  pub all_back : (es : Arguments) → Backs es
  all_back no_arguments = tt
  all_back (argument e more) = (back e, all_back more)
  all_back (splice e more) = (back e, all_back more)

  pub all_codes_back : (c : Codes) → CodesBack c
  all_codes_back any_code = tt
  all_codes_back (codes_in es) = all_back es

  pub fallback_back : (d : Fallback) → FallbackBack d
  fallback_back the_code = tt
  fallback_back (instead e) = back e

  pub target_back : (x : Target) → TargetBacks x
  target_back (to_variable x) = tt
  target_back (to_property o p) = (back o, back p)
  target_back (to_index x i) = (target_back x, back i)
  target_back (to_range x i j) = (target_back x, back i, back j)

  pub items_back : (xs : Items) → ItemsBacks xs
  items_back no_items = tt
  items_back (required x more) = items_back more
  items_back (optional x more) = items_back more
  items_back (remaining x more) = items_back more
  items_back (defaulted x e more) = (back e, items_back more)

pub expression_read_back : ExpressionReadBack
expression_read_back e n b ts us h l i lo st =
    let g = whole_back (back e) n b ts us h l i lo st in record { line = g.line; nodes = g.nodes; reads = g.reads }

pub arguments_read_back : ArgumentsReadBack
arguments_read_back es n b ts us h l i =
    let g = arguments_back es (all_back es) n b ts us h l i in record { nodes = g.nodes; reads = g.reads }

pub codes_read_back : CodesReadBack
codes_read_back c n b ts us h l i lo st e =
    let g = codes_back c (all_codes_back c) n b ts us h l i (record { loose = lo; stops = st; comma = e }) in record { nodes = g.nodes; reads = g.reads }

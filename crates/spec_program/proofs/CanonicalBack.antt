-- Each construct in its turn: an expression is read back from the tokens of its canonical spelling.
use Rattle.std.proofs.Common.{Bool, ◌&&◌, IsTrue}
use Rattle.spec_value.proofs.Entries.{first_holds, second_holds}
use Rattle.spec_program.specs.Tree.{Expr, literal, variable, own_length, unary, binary, both, either, conditional, listing, call, property, verb_call, index, range, caught, assignment, scatter, Arguments, no_arguments, argument, splice}
use Rattle.spec_program.specs.CanonicalLaws.{is_simple, all_simple, SimpleReadBack}
use Rattle.spec_program.proofs.OperatorsBack.{Back, whole_back, unary_back, binary_back, both_back, either_back}
use Rattle.spec_program.proofs.OperandsBack.{conditional_back, literal_back, variable_back, length_back}
use Rattle.spec_program.proofs.StepsBack.{index_back, range_back, property_back}
use Rattle.spec_program.proofs.ArgumentsBack.{Backs, call_back}
use Rattle.spec_program.proofs.VerbsBack.{verb_back}

one : (a b : Bool) → IsTrue (a && b) → IsTrue a
one a b h = first_holds a b h

other : (a b : Bool) → IsTrue (a && b) → IsTrue b
other a b h = second_holds a b h

mutual
  back : (e : Expr) → IsTrue (is_simple e) → Back e
  back (literal v) h = literal_back v
  back (variable x) h = variable_back x
  back own_length h = length_back
  back (unary u a) h = unary_back u a (back a h)
  back (binary op a c) h = binary_back op a c (back a (one (is_simple a) (is_simple c) h)) (back c (other (is_simple a) (is_simple c) h))
  back (both a c) h = both_back a c (back a (one (is_simple a) (is_simple c) h)) (back c (other (is_simple a) (is_simple c) h))
  back (either a c) h = either_back a c (back a (one (is_simple a) (is_simple c) h)) (back c (other (is_simple a) (is_simple c) h))
  back (conditional c x y) h =
      let k = other (is_simple c) (is_simple x && is_simple y) h in
      conditional_back c x y (back c (one (is_simple c) (is_simple x && is_simple y) h)) (back x (one (is_simple x) (is_simple y) k)) (back y (other (is_simple x) (is_simple y) k))
  back (listing es) h = absurd (cc h)
  back (call f es) h = call_back f es (all_back es h)
  back (property o p) h = property_back o p (back o (one (is_simple o) (is_simple p) h)) (back p (other (is_simple o) (is_simple p) h))
  back (verb_call o v es) h =
      let k = other (is_simple o) (is_simple v && all_simple es) h in
      verb_back o v es (back o (one (is_simple o) (is_simple v && all_simple es) h)) (back v (one (is_simple v) (all_simple es) k)) (all_back es (other (is_simple v) (all_simple es) k))
  back (index x i) h = index_back x i (back x (one (is_simple x) (is_simple i) h)) (back i (other (is_simple x) (is_simple i) h))
  back (range x i j) h =
      let k = other (is_simple x) (is_simple i && is_simple j) h in
      range_back x i j (back x (one (is_simple x) (is_simple i && is_simple j) h)) (back i (one (is_simple i) (is_simple j) k)) (back j (other (is_simple i) (is_simple j) k))
  back (caught e codes d) h = absurd (cc h)
  back (assignment t e) h = absurd (cc h)
  back (scatter xs e) h = absurd (cc h)

  all_back : (es : Arguments) → IsTrue (all_simple es) → Backs es
  all_back no_arguments h = tt
  all_back (argument e more) h = (back e (one (is_simple e) (all_simple more) h), all_back more (other (is_simple e) (all_simple more) h))
  all_back (splice e more) h = (back e (one (is_simple e) (all_simple more) h), all_back more (other (is_simple e) (all_simple more) h))

pub simple_read_back : SimpleReadBack
simple_read_back e n b ts us s h l i lo st =
    let g = whole_back (back e s) n b ts us h l i lo st in record { line = g.line; nodes = g.nodes; reads = g.reads }

use Rattle.std.proofs.Common.{◌≡◌, [], ◌∷◌, w32}
use Rattle.std.proofs.lemmas.Int.{to_z-of_z}
use Rattle.spec_value.specs.Datum.{object as object_of}
use Rattle.builtins.proofs.builtins_staged.recycling.call_verb.Goals as goal

pub returns-clause-left : goal.returns-clause-left
returns-clause-left g c =
    let object = to_z-of_z w32 c.args.object c.ranges.object in
    let arguments : c.in_ok-arguments.arguments.items ≡ object_of c.args.object ∷ [] = rw object at c.in_ok-arguments.ensures in
    rw (object, arguments, c.in_ok-word.ensures, c.new.ensures.items) at c.in_ok-begun.ensures.left

use Rattle.std.proofs.Common.{◌≡◌, drop, map}
use Rattle.spec_value.specs.Datum.{fold_case}
use Rattle.spec_moo.specs.Properties.{row_of}
use Rattle.view.specs.BuiltIn.{property_of}
use Rattle.view.proofs.built_in.named_in.Given as goal

abbrev pub invariant-loop-word : goal.invariant-loop-word
invariant-loop-word l =
    row_of (map (λ r. (r.0.now, property_of r.1)) (drop l.word-index l.rows)) (fold_case l.name)
    ≡ row_of (map (λ r. (r.0.now, property_of r.1)) l.rows) (fold_case l.name)

use Rattle.std.proofs.Common.{◌≡◌, is_some, drop}
use Rattle.std.specs.List.{list_all}
use Rattle.spec_value.specs.Datum.{fold_case}
use Rattle.spec_value.specs.Table.{named}
use Rattle.spec_world.specs.Inherit.{content_of}
use Rattle.world_checks.proofs.object_checks.names.are_filled.Given as goal

abbrev pub invariant-loop-name : goal.invariant-loop-name
invariant-loop-name l =
    list_all (λ t. is_some (content_of (named l.slots (fold_case t)))) l.names ≡ list_all (λ t. is_some (content_of (named l.slots (fold_case t)))) (drop l.name-index l.names)

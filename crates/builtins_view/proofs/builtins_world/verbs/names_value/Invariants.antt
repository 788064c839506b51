use Rattle.std.proofs.Common.{◌≡◌, ◌++◌, drop}
use Rattle.spec_moo.specs.Natives.Properties.{as_texts}
use Rattle.spec_moo.specs.Natives.Verbs.{verb_names}
use Rattle.builtins_view.proofs.builtins_world.verbs.names_value.Given as goal

abbrev pub invariant-loop-verb : goal.invariant-loop-verb
invariant-loop-verb l = l.items.items ++ as_texts (verb_names (drop l.verb-index l.verbs)) ≡ as_texts (verb_names l.verbs)

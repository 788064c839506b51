use Rattle.std.proofs.Common.{◌≡◌, ◌++◌, drop}
use Rattle.spec_moo.specs.Natives.Properties.{as_texts}
use Rattle.builtins_view.proofs.builtins_world.values.texts_value.Given as goal

abbrev pub invariant-loop-text : goal.invariant-loop-text
invariant-loop-text l = l.items.items ++ as_texts (drop l.text-index l.texts) ≡ as_texts l.texts

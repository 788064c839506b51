use Rattle.std.proofs.Common.{◌≡◌, ◌+◌, drop}
use Rattle.std.specs.Prelude.{option_map}
use Rattle.spec_moo.specs.Natives.Verbs.{place_of_word}
use Rattle.builtins_view.proofs.builtins_world.own_verb.place_of_word.Given as goal

abbrev pub invariant-loop-place : goal.invariant-loop-place
invariant-loop-place l = option_map (λ n. l.place + n) (place_of_word l.word (drop l.place l.verbs)) ≡ place_of_word l.word l.verbs

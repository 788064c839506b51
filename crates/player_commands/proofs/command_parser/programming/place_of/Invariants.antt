use Rattle.std.proofs.Common.{◌≡◌, ◌+◌, drop}
use Rattle.std.specs.Prelude.{option_map}
use Rattle.spec_moo.specs.Natives.Verbs.{place_of_word}
use Rattle.player_commands.proofs.command_parser.programming.place_of.Given as goal

abbrev pub invariant-loop-place : goal.invariant-loop-place
invariant-loop-place l = place_of_word l.word l.verbs ≡ option_map (λ k. k + l.place) (place_of_word l.word (drop l.place l.verbs))

use Rattle.std.proofs.Common.{◌≡◌, ◌∷◌}
use Rattle.std.specs.Prelude.{drop, string_bytes, IsTrue}
use Rattle.spec_value.specs.Datum.{is_text}
use Rattle.spec_world.specs.Words.{spaced}
use Rattle.player_commands.proofs.command_lines.parts.push_spaced.Given as goal

abbrev pub invariant-loop-word : goal.invariant-loop-word
invariant-loop-word l =
    IsTrue (is_text (string_bytes l.text))
    × (spaced (string_bytes l.initial.text ∷ l.words) ≡ spaced (string_bytes l.text ∷ drop l.word-index l.words))

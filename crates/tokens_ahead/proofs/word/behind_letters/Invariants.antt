use Rattle.std.proofs.Common.{◌≡◌, ◌++◌, IsTrue, drop}
use Rattle.std.specs.List.{list_all}
use Rattle.spec_value.specs.Datum.{Text}
use Rattle.spec_program.specs.Names.{is_word_character}
use Rattle.tokens_ahead.proofs.word.behind_letters.Given as goal

abbrev pub invariant-loop-byte : goal.invariant-loop-byte
invariant-loop-byte l =
    ((r : Text) → l.rest ≡ drop l.byte-index l.word ++ r → l.fn.text ≡ l.word ++ r)
    × (IsTrue (list_all is_word_character (drop l.byte-index l.word)) → IsTrue (list_all is_word_character l.word))

-- A text of some tokens, of which none is left.
use Rattle.std.proofs.Common.{◌≡◌, ◌∙◌, ◌++◌, [], ◌∷◌, List, length, Bool, true, IsTrue, sym, ap, append-nil, arith}
use Rattle.spec_value.specs.Datum.{Text}
use Rattle.spec_program.specs.Tree.{Program}
use Rattle.spec_program.specs.Tokens.{Token}
use Rattle.spec_program.specs.ReadPrograms.{program, parsed}
use Rattle.spec_program.specs.Trees.{is_tree}
use Rattle.spec_spelling.specs.ProgramTokens.{program_tokens}
use Rattle.tokens_ahead.specs.Bare.{bare}
use Rattle.tokens_ahead.proofs.Bare.{nothing_bare}
use Rattle.tokens_ahead.proofs.ReadBack.{read_back}

no_character : (v : Text) → length v ≡ 0 → bare v ≡ []
no_character [] e = nothing_bare
no_character (c ∷ v) e = absurd (omega (arith, e))

pub none_left : (v w : Text) → bare v ≡ bare w → length v ≡ 0 → bare w ≡ []
none_left v w b e = sym b ∙ no_character v e

pub all_taken : (t r : Text) (ks : List Token) → bare t ≡ ks ++ bare r → bare r ≡ [] → bare t ≡ ks
all_taken t r ks b e = b ∙ ap (λ js. ks ++ js) e ∙ append-nil ks

pub known_by_tokens : (t : Text) (p : Program) → IsTrue (is_tree p) → bare t ≡ program_tokens p → parsed t ≡ program p
known_by_tokens t p h e = read_back t p h e

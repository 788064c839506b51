-- A text with the tokens of a tree's canonical spelling has that tree.
use Rattle.std.proofs.Common.{◌≡◌, [], IsTrue, refl, subst, ◌∙◌}
use Rattle.spec_value.specs.Datum.{Text}
use Rattle.spec_program.specs.Tree.{Program}
use Rattle.spec_program.specs.Tokens.{tokens_of}
use Rattle.spec_program.specs.ReadPrograms.{program, parsed, parsed_tokens}
use Rattle.spec_program.specs.Trees.{is_tree}
use Rattle.spec_program.specs.CanonicalTokens.{Laid}
use Rattle.spec_spelling.specs.ProgramTokens.{program_tokens}
use Rattle.spec_spelling.proofs.ProgramsBack.{program_read_back}
use Rattle.tokens_ahead.specs.Bare.{bare}
use Rattle.tokens_ahead.proofs.Bare.{bare_laid}

from_tokens : (u : Text) → parsed u ≡ parsed_tokens (tokens_of u)
unfolding parsed
from_tokens u = refl

pub read_back : (u : Text) (p : Program) → IsTrue (is_tree p) → bare u ≡ program_tokens p → parsed u ≡ program p
read_back u p h e = from_tokens u ∙ program_read_back p (tokens_of u) h (subst (λ ks. Laid ks (tokens_of u) []) e (bare_laid u))

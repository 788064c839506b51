-- Lines of a text, each with its line end: what each is cut into stands on its line.
use Rattle.std.proofs.Common.{ℕ, suc, List, [], ◌∷◌, ◌++◌, refl, sym, subst, append_assoc}
use Rattle.spec_value.specs.Datum.{Text}
use Rattle.spec_program.specs.Names.{is_word_character}
use Rattle.spec_program.specs.Tokens.{Token, Placed}
use Rattle.spec_program.specs.ReadPrograms.{joined_lines}
use Rattle.spec_program.specs.Spelling.{deeper}
use Rattle.spec_program.specs.CanonicalTokens.{Laid, none}
use Rattle.spec_spelling.proofs.Begins.{laid_on}
use Rattle.spec_spelling.proofs.Pieces.{never, CutInto, blank, placed, are_laid, Piece, empty, space, followed}

-- whatever lines may stand behind them; `behind` is the line of these
pub record Lines (ls : List Text) (ks : List Token) : Type 0 where
  pub behind : ℕ → ℕ
  pub tokens : ℕ → List Placed → List Placed
  pub cuts : (line : ℕ) (more : List Text) (us : List Placed) → CutInto (behind line) (joined_lines more) us
      → CutInto line (joined_lines (ls ++ more)) (tokens line us)
  pub laid : (line : ℕ) (us : List Placed) → Laid ks (tokens line us) us

pub no_lines : Lines [] []
no_lines = record { behind = λ line. line; tokens = λ line us. us; cuts = λ line more us k. k; laid = λ line us. none }

pub one_line : {w : Text} {ks : List Token} → Piece is_word_character w ks → Lines (w ∷ []) ks
one_line {w} {ks} p =
    record {
      behind = λ line. suc line;
      tokens = λ line us. placed line ks us;
      cuts = λ line more us k. p.goes line (10 ∷ joined_lines more) us refl (blank 10 refl k);
      laid = λ line us. are_laid line ks us;
    }

pub lines_on : {ls ms : List Text} {ks js : List Token} → Lines ls ks → Lines ms js → Lines (ls ++ ms) (ks ++ js)
lines_on {ls} {ms} {ks} {js} a b = record { behind = λ line. b.behind (a.behind line); tokens = both; cuts = cuts; laid = laid }
  where
    both : ℕ → List Placed → List Placed
    both line us = a.tokens line (b.tokens (a.behind line) us)

    cuts : (line : ℕ) (more : List Text) (us : List Placed) → CutInto (b.behind (a.behind line)) (joined_lines more) us
        → CutInto line (joined_lines ((ls ++ ms) ++ more)) (a.tokens line (b.tokens (a.behind line) us))
    cuts line more us k =
        subst (λ ns. CutInto line (joined_lines ns) (a.tokens line (b.tokens (a.behind line) us))) (sym (append_assoc ls ms more))
        (a.cuts line (ms ++ more) (b.tokens (a.behind line) us) (b.cuts (a.behind line) more us k))

    laid : (line : ℕ) (us : List Placed) → Laid (ks ++ js) (a.tokens line (b.tokens (a.behind line) us)) us
    laid line us = laid_on (a.laid line (b.tokens (a.behind line) us)) (b.laid (a.behind line) us)

-- ---- behind spaces

pub data Indent : Text → Type 0 where
  flush : Indent []
  further : {indent : Text} → Indent indent → Indent (32 ∷ indent)

pub deeper_indent : {indent : Text} → Indent indent → Indent (deeper indent)
deeper_indent i = further (further i)

indent_piece : {indent : Text} → Indent indent → Piece never indent []
indent_piece flush = empty
indent_piece (further i) = followed space (indent_piece i)

pub indented : {indent w : Text} {ks : List Token} → Indent indent → Piece is_word_character w ks → Lines ((indent ++ w) ∷ []) ks
indented i p = one_line (followed (indent_piece i) p)

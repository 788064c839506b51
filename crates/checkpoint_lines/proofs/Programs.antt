-- What comes of the canonical lines of a program.
use Rattle.std.proofs.Common.{◌≡◌, ℕ, List, [], ◌∷◌, ◌++◌, IsTrue, Option, Some, None, refl, ap, sym, subst, ◌∙◌}
use Rattle.spec_value.specs.Datum.{Text}
use Rattle.spec_program.specs.Tree.{Program}
use Rattle.spec_program.specs.Tokens as meant
use Rattle.spec_program.specs.Trees.{is_tree}
use Rattle.spec_program.specs.Spelling.{canonical_lines}
use Rattle.spec_program.specs.ReadPrograms.{Parsed, program, faulty, parsed, parsed_lines, joined_lines}
use Rattle.spec_spelling.proofs.ProgramsCut.{lines_read_back}
use Rattle.spec_world.specs.Checkpoint.{with_line_ends}
use Rattle.spec_checkpoint.specs.Lines.{are_lines}
use Rattle.spec_checkpoint.proofs.CodeUnbroken.{code_is_lines}
use Rattle.spec_checkpoint.proofs.Lines.{whole_lines_read_once}
use Rattle.spec_faults.specs.Codes.{told, program_of}
use Rattle.spec_faults.proofs.Spelling.{programs_spelled, programs_told}
use Rattle.moo_compiler.proofs.Texts.{ends_joined}
use Rattle.syntax_fault.specs.declared.fault.SyntaxFault.{SyntaxFault}
use Rattle.syntax_fault.specs.Meaning.{kind_meant, OfKind, IsFault}

pub read_back : (p : Program) (t : Text) → IsTrue (is_tree p) → t ≡ with_line_ends (canonical_lines p) → parsed t ≡ program p
read_back p t h e = ap parsed (e ∙ ends_joined (canonical_lines p)) ∙ lines_read_back p h

pub one_program : (p q : Program) → program p ≡ program q → p ≡ q
one_program p q e = cc

no_kind : (o : Option meant.FaultKind) (line : ℕ) (p : Program) → OfKind o line (program p) → ⊥
no_kind None line p h = h
no_kind (Some k) line p h = cc

pub no_fault : (e : SyntaxFault) (p : Program) → IsFault e (program p) → ⊥
no_fault e p h = no_kind (kind_meant e.kind) e.line p h

-- ---- the program that lines are told as

pub fault_none : (e : SyntaxFault) (q : Parsed) (ts : List Text) → IsFault e q → told q ts ≡ None
fault_none e (faulty f) ts h = refl
fault_none e (program p) ts h = absurd (no_fault e p h)

pub no_program : (e : SyntaxFault) (t : Text) (ts : List Text) → IsFault e (parsed t) → t ≡ with_line_ends ts → None ≡ program_of ts
no_program e t ts h is = sym (fault_none e (parsed_lines ts) ts (subst (λ u. IsFault e (parsed u)) (is ∙ ends_joined ts) h))

pub its_program : (p : Program) (t : Text) (ts : List Text) → IsTrue (is_tree p) → t ≡ joined_lines (canonical_lines p) → IsTrue (are_lines ts) → t ≡ with_line_ends ts → Some p ≡ program_of ts
its_program p t ts h e lines is =
    let same : canonical_lines p ≡ ts = whole_lines_read_once (canonical_lines p) ts (code_is_lines p h) lines (ends_joined (canonical_lines p) ∙ sym e ∙ is) in
    sym (programs_told p h) ∙ ap program_of same

pub not_its_lines : (p : Program) (t : Text) (ts : List Text) → parsed t ≡ program p → (t ≡ joined_lines (canonical_lines p) → ⊥) → t ≡ with_line_ends ts → None ≡ program_of ts
not_its_lines p t ts got other is = go (program_of ts) refl
  where
    go : (o : Option Program) → program_of ts ≡ o → None ≡ program_of ts
    go None e = sym e
    go (Some q) e =
        let s = programs_spelled ts q e in
        let same : q ≡ p = one_program q p (sym (lines_read_back q s.tree) ∙ ap parsed_lines s.spelled ∙ ap parsed (sym (is ∙ ends_joined ts)) ∙ got) in
        absurd (other (is ∙ ends_joined ts ∙ ap joined_lines (sym s.spelled) ∙ ap (λ r. joined_lines (canonical_lines r)) same))

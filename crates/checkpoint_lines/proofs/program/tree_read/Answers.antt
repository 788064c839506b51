use Rattle.std.proofs.Common.{◌≡◌, true, Some, ap, sym, subst, ◌∙◌}
use Rattle.spec_program.specs.Spelling.{canonical_lines}
use Rattle.spec_program.specs.ReadPrograms.{joined_lines}
use Rattle.spec_program.proofs.ParsedFits.{parsed_is_tree}
use Rattle.syntax_fault.specs.Meaning.{IsFault}
use Rattle.moo_compiler.proofs.Texts.{ends_joined}
use Rattle.checkpoint_lines.proofs.Programs.{read_back, one_program, no_fault, no_program, its_program, not_its_lines}
use Rattle.checkpoint_lines.proofs.program.tree_read.Goals as goal

pub returns-in_default-clause-reads : goal.returns-in_default-clause-reads
returns-in_default-clause-reads c = λ p h e. absurd (no_fault c.in_default.field-0 p (subst (λ q. IsFault c.in_default.field-0 q) (read_back p c.args.text.now h e) (rw c.in_default.is at c.in_ok-answer.ensures)))

pub returns-then-is_spelling-clause-reads : goal.returns-then-is_spelling-clause-reads
returns-then-is_spelling-clause-reads c = λ p h e.
    let got = rw c.in-Ok.is at c.in_ok-answer.ensures in ap Some (one_program c.in-Ok.tree p (sym got ∙ read_back p c.args.text.now h e))

pub returns-else-is_spelling-clause-reads : goal.returns-else-is_spelling-clause-reads
returns-else-is_spelling-clause-reads c = λ p h e.
    let got = rw c.in-Ok.is at c.in_ok-answer.ensures in
    let same = one_program c.in-Ok.tree p (sym got ∙ read_back p c.args.text.now h e) in
    let made : c.in_ok-is_spelling.is_spelling ≡ true = c.in_ok-is_spelling.ensures.1 (e ∙ ends_joined (canonical_lines p) ∙ ap (λ q. joined_lines (canonical_lines q)) (sym same)) in
    absurd (cc (made, c.if-is_spelling.false))

pub returns-in_default-clause-tells : goal.returns-in_default-clause-tells
returns-in_default-clause-tells c = λ ts lines e. no_program c.in_default.field-0 c.args.text.now ts (rw c.in_default.is at c.in_ok-answer.ensures) e

pub returns-then-is_spelling-clause-tells : goal.returns-then-is_spelling-clause-tells
returns-then-is_spelling-clause-tells c = λ ts lines e.
    let got = rw c.in-Ok.is at c.in_ok-answer.ensures in
    its_program c.in-Ok.tree c.args.text.now ts (parsed_is_tree c.args.text.now c.in-Ok.tree got) (c.in_ok-is_spelling.ensures.0 c.if-is_spelling.true) lines e

pub returns-else-is_spelling-clause-tells : goal.returns-else-is_spelling-clause-tells
returns-else-is_spelling-clause-tells c = λ ts lines e.
    let got = rw c.in-Ok.is at c.in_ok-answer.ensures in
    let other : c.args.text.now ≡ joined_lines (canonical_lines c.in-Ok.tree) → ⊥ = λ is. let made = c.in_ok-is_spelling.ensures.1 is in absurd (cc (made, c.if-is_spelling.false)) in
    not_its_lines c.in-Ok.tree c.args.text.now ts got other e

use Rattle.std.proofs.Common.{ap, sym, ◌∙◌}
use Rattle.spec_program.specs.ReadPrograms.{joined_lines}
use Rattle.spec_program.specs.Spelling.{canonical_lines}
use Rattle.moo_compiler.proofs.Texts.{one_read}
use Rattle.moo_compiler.proofs.program.Program.same.Goals as goal

pub returns : goal.returns
returns c = (
  λ yes. one_read _ _ _ _ (c.are_same.ensures.0 yes) c.text.ensures.read c.text-2.ensures.read,
  λ same. c.are_same.ensures.1 (c.text.ensures.lines ∙ ap (λ p. joined_lines (canonical_lines p)) same ∙ sym c.text-2.ensures.lines),
)

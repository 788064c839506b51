use Rattle.std.proofs.Common.{◌++◌, length, [], ◌∷◌}
use Rattle.spec_program.specs.Spelling.{canonical_lines}
use Rattle.object_lines.proofs.ObjectParts.{front_within}
use Rattle.object_lines.proofs.Rows.{verb_tree}
use Rattle.std.proofs.lemmas.Result.{err_from_is_err_and}
use Rattle.checkpoint_lines.proofs.Giving.{gives_passed}
use Rattle.checkpoint_lines.proofs.Going.{passed_on, then_fails, then_goes}
use Rattle.spec_faults.specs.Awaited.{verb, code, of_verb}
use Rattle.object_lines.proofs.verb.next_verb.Goals as goal

pub returns-in_err-head : goal.returns-in_err-head
returns-in_err-head c = record {
  reads = λ v rest h l.
      let memory = c.in_err-head.ensures.reads v (length (canonical_lines v.program)) (canonical_lines v.program ++ rest) h (front_within (canonical_lines v.program) rest) l in
      let passed = err_from_is_err_and c.from_residual.result c.from_residual.ensures.1 in
      gives_passed c.from_residual.result passed.0 _ passed.1 (cc (passed.2, memory));
  tells = let passed = err_from_is_err_and c.from_residual.result c.from_residual.ensures.1 in passed_on c.from_residual.result passed.0 c.in_err-head.field-0.0 c.args.lines.now _ (verb ∷ []) (λ _. []) passed.1 passed.2 c.in_err-head.ensures.tells;
}

pub returns-in_err-program : goal.returns-in_err-program
returns-in_err-program c = record {
  reads = λ v rest h l.
      let head = c.in_ok-head.ensures.reads v (length (canonical_lines v.program)) (canonical_lines v.program ++ rest) h (front_within (canonical_lines v.program) rest) l in
      let memory = c.in_err-program.ensures.reads v.program rest (verb_tree v h) head.0.lines head.1 in
      let passed = err_from_is_err_and c.from_residual-in_err-program.result c.from_residual-in_err-program.ensures.1 in
      gives_passed c.from_residual-in_err-program.result passed.0 _ passed.1 (cc (passed.2, memory));
  tells = let passed = err_from_is_err_and c.from_residual-in_err-program.result c.from_residual-in_err-program.ensures.1 in passed_on c.from_residual-in_err-program.result passed.0 c.in_err-program.field-0.0 c.args.lines.now _ (verb ∷ []) (λ _. []) passed.1 passed.2 (then_fails c.in_err-program.field-0.0 (verb ∷ []) (code c.in_ok-head.head.lines [] of_verb ∷ []) [] c.in_ok-head.ensures.tells (c.in_err-program.ensures.tells of_verb));
}

pub returns : goal.returns
returns c = record {
  reads = λ v rest h l.
      let head = c.in_ok-head.ensures.reads v (length (canonical_lines v.program)) (canonical_lines v.program ++ rest) h (front_within (canonical_lines v.program) rest) l in
      let tree = c.in_ok-program.ensures.reads v.program rest (verb_tree v h) head.0.lines head.1 in
      (c.verb.ensures v (length (canonical_lines v.program)) head.0 tree.0, tree.1);
  tells = then_goes (verb ∷ []) (code c.in_ok-head.head.lines [] of_verb ∷ []) [] [] c.in_ok-head.ensures.tells (c.in_ok-program.ensures.tells of_verb);
}

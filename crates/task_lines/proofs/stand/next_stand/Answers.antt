use Rattle.std.proofs.Common.{◌∷◌, [], true, IsTrue, refl, ap, sym, subst, ◌∙◌}
use Rattle.spec_value.proofs.Entries.{both_hold}
use Rattle.spec_world.specs.Checkpoint.{path, part_numbers}
use Rattle.moo_code.specs.Paths.{path_of}
use Rattle.tree_parts.proofs.Told.{numbers_told}
use Rattle.line_fields.specs.Fields.{word, is_field, is_word}
use Rattle.line_fields.proofs.Words.{word_path}
use Rattle.spec_faults.specs.Cutting.{field_at}
use Rattle.checkpoint_lines.proofs.Giving.{gives_and, gives_found}
use Rattle.std.proofs.lemmas.Result.{err_from_is_err_and}
use Rattle.checkpoint_lines.proofs.Giving.{gives_passed}
use Rattle.task_lines.specs.Wanting.{StandsWith}
use Rattle.task_lines.proofs.HeldRows.{place_headed, place_misspelt, place_stand, stand_passed}
use Rattle.task_lines.proofs.stand.next_stand.Goals as goal

pub returns-in_err-row : goal.returns-in_err-row
returns-in_err-row c = record {
  reads = λ f rest stands places fit compiled l.
      let told = ap path (numbers_told f.pieces) in
      let is = subst (λ t. IsTrue (is_word t)) (sym told) (word_path (path_of f.pieces) places) in
      let memory = c.in_err-row.ensures.reads (word (path (part_numbers f.pieces)) ∷ []) rest refl (both_hold (is_field (word (path (part_numbers f.pieces)))) true is refl) refl l in
      let passed = err_from_is_err_and c.from_residual.result c.from_residual.ensures.1 in
      gives_passed c.from_residual.result passed.0 _ passed.1 (cc (passed.2, memory));
  tells =
      let passed = err_from_is_err_and c.from_residual.result c.from_residual.ensures.1 in
      stand_passed c.args.is_fork c.args.program.now c.from_residual.result passed.0 _ _ _ passed.1 (cc (passed.2))
      (λ room. place_headed _ c.args.lines.now c.args.is_fork c.args.program.now (c.in_err-row.ensures.tells room));
}

pub returns-in_err-path : goal.returns-in_err-path
returns-in_err-path c = record {
  reads = λ f rest stands places fit compiled l.
      let told = ap path (numbers_told f.pieces) in
      let is = subst (λ t. IsTrue (is_word t)) (sym told) (word_path (path_of f.pieces) places) in
      let row = c.in_ok-row.ensures.reads (word (path (part_numbers f.pieces)) ∷ []) rest refl (both_hold (is_field (word (path (part_numbers f.pieces)))) true is refl) refl l in
      let memory = c.in_err-path.ensures.reads (path_of f.pieces) places (ap (λ ts. field_at ts 1) row.0.0 ∙ told) in
      let passed = err_from_is_err_and c.from_residual-in_err-path.result c.from_residual-in_err-path.ensures.1 in
      gives_passed c.from_residual-in_err-path.result passed.0 _ passed.1 (cc (passed.2, memory));
  tells =
      let passed = err_from_is_err_and c.from_residual-in_err-path.result c.from_residual-in_err-path.ensures.1 in
      stand_passed c.args.is_fork c.args.program.now c.from_residual-in_err-path.result passed.0 _ _ _ passed.1 (cc (passed.2))
      (λ room. let row = c.in_ok-row.ensures.tells room in place_misspelt _ _ c.in_ok-row.row c.args.is_fork c.args.program.now row.0 row.1 _ c.in_err-path.ensures.tells);
}

pub returns : goal.returns
returns c = record {
  reads = λ f rest stands places fit compiled l.
      let told = ap path (numbers_told f.pieces) in
      let is = subst (λ t. IsTrue (is_word t)) (sym told) (word_path (path_of f.pieces) places) in
      let row = c.in_ok-row.ensures.reads (word (path (part_numbers f.pieces)) ∷ []) rest refl (both_hold (is_field (word (path (part_numbers f.pieces)))) true is refl) refl l in
      let path = c.in_ok-path.ensures.reads (path_of f.pieces) places (ap (λ ts. field_at ts 1) row.0.0 ∙ told) in
      let found = c.in_ok-found.ensures.reads f stands fit compiled (c.deref.ensures.value ∙ path) in
      gives_and c.ok_or.result _ _ (gives_found c.in_ok-found.found c.ok_or.result c.fault.result _ c.ok_or.ensures.value found) row.1;
  tells =
      place_stand _ _ c.in_ok-row.row c.args.is_fork c.args.program.now c.in_ok-path.path.items c.in_ok-found.found c.ok_or.result c.fault.result c.in_ok-row.ensures.tells c.in_ok-path.ensures.tells c.in_ok-path.ensures.said
      (subst (λ ns. StandsWith c.args.is_fork c.args.program.now ns c.in_ok-found.found) c.deref.ensures.value c.in_ok-found.ensures.tells) c.fault.ensures c.ok_or.ensures.value;
}

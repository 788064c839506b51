use Rattle.std.proofs.Common.{◌<◌, ◌^◌, refl, arith, ◌∷◌, [], codes, ◌≡◌, ap}
use Rattle.spec_world.specs.Checkpoint.{verb_line}
use Rattle.checkpoint_lines.specs.Rows.{Left}
use Rattle.checkpoint_lines.proofs.Rests.{rest_small}
use Rattle.checkpoint_lines.proofs.Giving.{gives_and}
use Rattle.object_lines.specs.Parts.{IsHead}
use Rattle.object_lines.proofs.Rows.{verb_row, verb_are_fields}
use Rattle.std.proofs.lemmas.Result.{err_from_is_err_and}
use Rattle.checkpoint_lines.proofs.Giving.{gives_passed}
use Rattle.checkpoint_lines.proofs.Going.{passed_on, row_read, if_map}
use Rattle.object_lines.proofs.RowFaults.{verb_next, verb_row_is}
use Rattle.spec_faults.specs.Awaited.{verb, code, of_verb, goes_on}
use Rattle.spec_faults.specs.Forms.{string, object_number, other, object_part, preposition, how_many, verb_form}
use Rattle.spec_faults.specs.Plain.{are_bits, number_in}
use Rattle.spec_faults.specs.Cutting.{field_at}
use Rattle.checkpoint_lines.specs.Told.{line_fields}
use Rattle.object_lines.proofs.verb.next_head.Goals as goal

pub returns-in_err-row : goal.returns-in_err-row
returns-in_err-row c = record {
  reads = λ v n rest h m l.
      let room = rest_small (verb_line v n) rest l.1 in let small : n < 2 ^ 64 = omega (arith, room.0) in
      let memory = c.in_err-row.ensures.reads (verb_row v n) rest refl (verb_are_fields v h n small) refl l in
      let passed = err_from_is_err_and c.from_residual.result c.from_residual.ensures.1 in
      gives_passed c.from_residual.result passed.0 _ passed.1 (cc (passed.2, memory));
  tells = let passed = err_from_is_err_and c.from_residual.result c.from_residual.ensures.1 in passed_on c.from_residual.result passed.0 c.in_err-row.field-0.0 c.args.lines.now _ (verb ∷ []) (λ h. code h.lines [] of_verb ∷ []) passed.1 passed.2 (λ room. c.in_err-row.ensures.tells room verb (string ∷ object_number ∷ other (are_bits (codes "rwxd")) ∷ object_part ∷ preposition ∷ object_part ∷ how_many ∷ []) verb_next verb_row_is refl refl);
}

pub returns : goal.returns
returns c = record {
  reads = λ v n rest h m l.
      let room = rest_small (verb_line v n) rest l.1 in let small : n < 2 ^ 64 = omega (arith, room.0) in
      let row = c.in_ok-row.ensures.reads (verb_row v n) rest refl (verb_are_fields v h n small) refl l in
      let few : n < 2 ^ 63 = omega (arith, row.0.1) in
      gives_and c.head_of.result (λ g. IsHead g v n) (Left c.next_with.new.self rest) (c.head_of.ensures.reads v n h few row.0.0) row.1;
  tells = row_read c.head_of.result c.args.lines.now c.next_with.new.self c.in_ok-row.row verb verb_form verb_next (λ h. code h.lines [] of_verb ∷ []) verb_row_is (λ room. let row = c.in_ok-row.ensures.tells room in (row.0, (c.head_of.ensures.tells row.1 row.0.filled, if_map c.head_of.result (λ h. number_in (field_at (line_fields c.in_ok-row.row) 7) ≡ h.lines) (λ h. verb_next (line_fields c.in_ok-row.row) ≡ goes_on (code h.lines [] of_verb ∷ [])) (c.head_of.ensures.many row.1 row.0.filled) (λ h e. ap (λ n. goes_on (code n [] of_verb ∷ [])) e))));
}

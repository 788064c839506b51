use Rattle.std.proofs.Common.{◌≡◌, ◌∙◌, rules, w32, SFits, to_z, of_z, ◌∷◌, ◌++◌, length, refl, subst, codes, []}
use Rattle.spec_world.specs.Checkpoint.{counted, verb_lines}
use Rattle.checkpoint_lines.specs.Rows.{Left}
use Rattle.object_lines.specs.Parts.{each_slot}
use Rattle.object_lines.proofs.Ranges.{object_number}
use Rattle.object_lines.proofs.ObjectParts.{slots_told, behind_number, object_parts, object_in_range, object_is, object_slots, object_verbs}
use Rattle.std.proofs.lemmas.Int.{to_z-of_z}
use Rattle.std.proofs.lemmas.Result.{err_from_is_err_and}
use Rattle.checkpoint_lines.proofs.Giving.{gives_passed}
use Rattle.checkpoint_lines.proofs.Going.{passed_on, first_fails, later_fails, then_goes}
use Rattle.object_lines.proofs.Families.{object_line, slots_line, verbs_line}
use Rattle.object_lines.specs.ObjectAwaited.{family_awaited}
use Rattle.spec_faults.specs.Awaited.{group}
use Rattle.spec_faults.specs.Awaited as awaited
use Rattle.object_lines.proofs.object.next_object.Goals as goal

pub returns-in_err-number : goal.returns-in_err-number
returns-in_err-number c = record {
  reads = λ w o x rest f is h l.
      let range = object_number w o x f is in
      let memory = c.in_err-number.ensures.reads o (behind_number w o x rest) refl (object_in_range o x h) range.0 range.1 (subst (λ ts. Left c.args.lines.now ts) (object_parts w o x rest) l) in
      let passed = err_from_is_err_and c.from_residual.result c.from_residual.ensures.1 in
      gives_passed c.from_residual.result passed.0 _ passed.1 (cc (passed.2, memory));
  tells = let passed = err_from_is_err_and c.from_residual.result c.from_residual.ensures.1 in passed_on c.from_residual.result passed.0 c.in_err-number.field-0.0 c.args.lines.now _ (group awaited.each_object) (λ _. []) passed.1 passed.2 (first_fails c.in_err-number.field-0.0 c.args.lines.now ((object_line ∷ [])) (family_awaited ++ (slots_line ∷ []) ++ (verbs_line ∷ [])) c.in_err-number.ensures.tells);
}

pub returns-in_err-family : goal.returns-in_err-family
returns-in_err-family c = record {
  reads = λ w o x rest f is h l.
      let range = object_number w o x f is in
      let number = c.in_ok-number.ensures.reads o (behind_number w o x rest) refl (object_in_range o x h) range.0 range.1 (subst (λ ts. Left c.args.lines.now ts) (object_parts w o x rest) l) in
      let memory = c.in_err-family.ensures.reads x (counted (codes "slots") (length (slots_told w o)) ∷ (each_slot (slots_told w o) ++ (verb_lines x.verbs ++ rest))) (object_is o x h) number.1 in
      let passed = err_from_is_err_and c.from_residual-in_err-family.result c.from_residual-in_err-family.ensures.1 in
      gives_passed c.from_residual-in_err-family.result passed.0 _ passed.1 (cc (passed.2, memory));
  tells = let so_1 = c.in_ok-number.ensures.tells in let passed = err_from_is_err_and c.from_residual-in_err-family.result c.from_residual-in_err-family.ensures.1 in passed_on c.from_residual-in_err-family.result passed.0 c.in_err-family.field-0.0 c.args.lines.now _ (group awaited.each_object) (λ _. []) passed.1 passed.2 (later_fails c.in_err-family.field-0.0 ((object_line ∷ [])) (family_awaited) ((slots_line ∷ []) ++ (verbs_line ∷ [])) so_1 c.in_err-family.ensures.tells);
}

pub returns-in_err-slots : goal.returns-in_err-slots
returns-in_err-slots c = record {
  reads = λ w o x rest f is h l.
      let range = object_number w o x f is in
      let number = c.in_ok-number.ensures.reads o (behind_number w o x rest) refl (object_in_range o x h) range.0 range.1 (subst (λ ts. Left c.args.lines.now ts) (object_parts w o x rest) l) in
      let family = c.in_ok-family.ensures.reads x (counted (codes "slots") (length (slots_told w o)) ∷ (each_slot (slots_told w o) ++ (verb_lines x.verbs ++ rest))) (object_is o x h) number.1 in
      let memory = c.in_err-slots.ensures.reads (slots_told w o) (verb_lines x.verbs ++ rest) (object_slots o x h w is) family.1 in
      let passed = err_from_is_err_and c.from_residual-in_err-slots.result c.from_residual-in_err-slots.ensures.1 in
      gives_passed c.from_residual-in_err-slots.result passed.0 _ passed.1 (cc (passed.2, memory));
  tells = let so_1 = c.in_ok-number.ensures.tells in let so_2 = then_goes ((object_line ∷ [])) [] (family_awaited) [] so_1 c.in_ok-family.ensures.tells in let passed = err_from_is_err_and c.from_residual-in_err-slots.result c.from_residual-in_err-slots.ensures.1 in passed_on c.from_residual-in_err-slots.result passed.0 c.in_err-slots.field-0.0 c.args.lines.now _ (group awaited.each_object) (λ _. []) passed.1 passed.2 (later_fails c.in_err-slots.field-0.0 ((object_line ∷ []) ++ family_awaited) ((slots_line ∷ [])) ((verbs_line ∷ [])) so_2 c.in_err-slots.ensures.tells);
}

pub returns-in_err-verbs : goal.returns-in_err-verbs
returns-in_err-verbs c = record {
  reads = λ w o x rest f is h l.
      let range = object_number w o x f is in
      let number = c.in_ok-number.ensures.reads o (behind_number w o x rest) refl (object_in_range o x h) range.0 range.1 (subst (λ ts. Left c.args.lines.now ts) (object_parts w o x rest) l) in
      let family = c.in_ok-family.ensures.reads x (counted (codes "slots") (length (slots_told w o)) ∷ (each_slot (slots_told w o) ++ (verb_lines x.verbs ++ rest))) (object_is o x h) number.1 in
      let slots = c.in_ok-slots.ensures.reads (slots_told w o) (verb_lines x.verbs ++ rest) (object_slots o x h w is) family.1 in
      let memory = c.in_err-verbs.ensures.reads x.verbs rest (object_verbs o x h) slots.1 in
      let passed = err_from_is_err_and c.from_residual-in_err-verbs.result c.from_residual-in_err-verbs.ensures.1 in
      gives_passed c.from_residual-in_err-verbs.result passed.0 _ passed.1 (cc (passed.2, memory));
  tells = let so_1 = c.in_ok-number.ensures.tells in let so_2 = then_goes ((object_line ∷ [])) [] (family_awaited) [] so_1 c.in_ok-family.ensures.tells in let so_3 = then_goes ((object_line ∷ []) ++ family_awaited) [] ((slots_line ∷ [])) [] so_2 c.in_ok-slots.ensures.tells in let passed = err_from_is_err_and c.from_residual-in_err-verbs.result c.from_residual-in_err-verbs.ensures.1 in passed_on c.from_residual-in_err-verbs.result passed.0 c.in_err-verbs.field-0.0 c.args.lines.now _ (group awaited.each_object) (λ _. []) passed.1 passed.2 (later_fails c.in_err-verbs.field-0.0 ((object_line ∷ []) ++ family_awaited ++ (slots_line ∷ [])) ((verbs_line ∷ [])) ([]) so_3 c.in_err-verbs.ensures.tells);
}

pub returns : goal.returns
returns c = record {
  reads = λ w o x rest f is h l.
      let range = object_number w o x f is in
      let number = c.in_ok-number.ensures.reads o (behind_number w o x rest) refl (object_in_range o x h) range.0 range.1 (subst (λ ts. Left c.args.lines.now ts) (object_parts w o x rest) l) in
      let family = c.in_ok-family.ensures.reads x (counted (codes "slots") (length (slots_told w o)) ∷ (each_slot (slots_told w o) ++ (verb_lines x.verbs ++ rest))) (object_is o x h) number.1 in
      let slots = c.in_ok-slots.ensures.reads (slots_told w o) (verb_lines x.verbs ++ rest) (object_slots o x h w is) family.1 in
      let verbs = c.in_ok-verbs.ensures.reads x.verbs rest (object_verbs o x h) slots.1 in
      let number_fits : SFits w32 c.in_ok-number.number = search rules in
      let number_is : to_z w32 (of_z w32 c.in_ok-number.number) ≡ o = to_z-of_z w32 c.in_ok-number.number number_fits ∙ number.0 in (
        λ i. record {
          number = number_is i;
          header = family.0.0 i;
          children = family.0.1.children i;
          contents = family.0.1.contents i;
          defines = family.0.1.defines i;
          slots = slots.0 i;
          verbs = verbs.0 i;
        },
        verbs.1,
      );
  tells = let so_1 = c.in_ok-number.ensures.tells in let so_2 = then_goes ((object_line ∷ [])) [] (family_awaited) [] so_1 c.in_ok-family.ensures.tells in let so_3 = then_goes ((object_line ∷ []) ++ family_awaited) [] ((slots_line ∷ [])) [] so_2 c.in_ok-slots.ensures.tells in let so_4 = then_goes ((object_line ∷ []) ++ family_awaited ++ (slots_line ∷ [])) [] ((verbs_line ∷ [])) [] so_3 c.in_ok-verbs.ensures.tells in so_4;
}

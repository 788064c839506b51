use Rattle.std.proofs.Common.{rules, w32, SFits, to_z, of_z, ◌≡◌, ◌∷◌, refl, ap, sym, subst, ◌∙◌, [], codes}
use Rattle.line_fields.specs.Bits.{bits_of_slot}
use Rattle.checkpoint_lines.specs.Rows.{Left}
use Rattle.spec_faults.specs.Cutting.{field_at}
use Rattle.object_lines.proofs.Rows.{content_spelled, slot_row, slot_spelled, slot_owner, slot_content, slot_nests, slot_fields}
use Rattle.std.proofs.lemmas.Int.{to_z-of_z}
use Rattle.std.proofs.lemmas.Result.{err_from_is_err_and}
use Rattle.checkpoint_lines.proofs.Giving.{gives_passed}
use Rattle.checkpoint_lines.proofs.Going.{passed_on, one_fails_in_row, one_row, one_stands}
use Rattle.object_lines.proofs.RowFaults.{slot_owner_fails, slot_bits_fail, slot_content_fails, slot_stands}
use Rattle.spec_faults.specs.Awaited.{one, goes_on}
use Rattle.spec_faults.specs.Forms.{other, object_number, content, slot_form}
use Rattle.spec_faults.specs.Plain.{are_bits}
use Rattle.object_lines.proofs.slot.next_slot.Goals as goal

pub returns-in_err-row : goal.returns-in_err-row
returns-in_err-row c = record {
  reads = λ s rest h l.
      let memory = c.in_err-row.ensures.reads (slot_row s) rest refl (slot_fields s h) refl (subst (λ t. Left c.args.lines.now (t ∷ rest)) (sym (slot_spelled s)) l) in
      let passed = err_from_is_err_and c.from_residual.result c.from_residual.ensures.1 in
      gives_passed c.from_residual.result passed.0 _ passed.1 (cc (passed.2, memory));
  tells = let passed = err_from_is_err_and c.from_residual.result c.from_residual.ensures.1 in passed_on c.from_residual.result passed.0 c.in_err-row.field-0.0 c.args.lines.now _ (one slot_form ∷ []) (λ _. []) passed.1 passed.2 (λ room. c.in_err-row.ensures.tells room (one slot_form) (object_number ∷ other (are_bits (codes "rwc")) ∷ content ∷ []) (λ _. goes_on []) (one_row slot_form) refl refl);
}

pub returns-in_err-owner : goal.returns-in_err-owner
returns-in_err-owner c = record {
  reads = λ s rest h l.
      let row = c.in_ok-row.ensures.reads (slot_row s) rest refl (slot_fields s h) refl (subst (λ t. Left c.args.lines.now (t ∷ rest)) (sym (slot_spelled s)) l) in
      let never = c.in_err-owner.ensures.reads s.owner (slot_owner s h) (ap (λ ts. field_at ts 1) row.0.0) in
      absurd (cc (never));
  tells = let passed = err_from_is_err_and c.from_residual-in_err-owner.result c.from_residual-in_err-owner.ensures.1 in one_fails_in_row c.from_residual-in_err-owner.result passed.0 c.in_err-owner.field-0.0 c.args.lines.now c.next_with.new.self _ c.in_ok-row.row slot_form (λ _. []) passed.1 passed.2 (λ room. let row = c.in_ok-row.ensures.tells room in (row.0, slot_owner_fails c.in_ok-row.row row.1 row.0.filled c.object.result c.in_err-owner.field-0.0 c.in_err-owner.was c.object.ensures.tells));
}

pub returns-in_err-bits : goal.returns-in_err-bits
returns-in_err-bits c = record {
  reads = λ s rest h l.
      let row = c.in_ok-row.ensures.reads (slot_row s) rest refl (slot_fields s h) refl (subst (λ t. Left c.args.lines.now (t ∷ rest)) (sym (slot_spelled s)) l) in
      let owner = c.in_ok-owner.ensures.reads s.owner (slot_owner s h) (ap (λ ts. field_at ts 1) row.0.0) in
      let never = c.in_err-bits.ensures.reads s (ap (λ ts. field_at ts 2) row.0.0) in
      absurd (cc (never));
  tells = let passed = err_from_is_err_and c.from_residual-in_err-bits.result c.from_residual-in_err-bits.ensures.1 in one_fails_in_row c.from_residual-in_err-bits.result passed.0 c.in_err-bits.field-0.0 c.args.lines.now c.next_with.new.self _ c.in_ok-row.row slot_form (λ _. []) passed.1 passed.2 (λ room. let row = c.in_ok-row.ensures.tells room in (row.0, slot_bits_fail c.in_ok-row.row row.1 row.0.filled c.slot_bits.result c.in_err-bits.field-0.0 c.in_err-bits.was c.slot_bits.ensures.tells));
}

pub returns-in_err-content : goal.returns-in_err-content
returns-in_err-content c = record {
  reads = λ s rest h l.
      let row = c.in_ok-row.ensures.reads (slot_row s) rest refl (slot_fields s h) refl (subst (λ t. Left c.args.lines.now (t ∷ rest)) (sym (slot_spelled s)) l) in
      let owner = c.in_ok-owner.ensures.reads s.owner (slot_owner s h) (ap (λ ts. field_at ts 1) row.0.0) in
      let bits = c.in_ok-bits.ensures.reads s (ap (λ ts. field_at ts 2) row.0.0) in
      let memory = c.in_err-content.ensures.reads s.content (slot_content s h) (slot_nests s h) ((ap (λ ts. field_at ts 3) row.0.0) ∙ content_spelled s.content) in
      let passed = err_from_is_err_and c.from_residual-in_err-content.result c.from_residual-in_err-content.ensures.1 in
      gives_passed c.from_residual-in_err-content.result passed.0 _ passed.1 (cc (passed.2, memory));
  tells = let passed = err_from_is_err_and c.from_residual-in_err-content.result c.from_residual-in_err-content.ensures.1 in one_fails_in_row c.from_residual-in_err-content.result passed.0 c.in_err-content.field-0.0 c.args.lines.now c.next_with.new.self _ c.in_ok-row.row slot_form (λ _. []) passed.1 passed.2 (λ room. let row = c.in_ok-row.ensures.tells room in (row.0, slot_content_fails c.in_ok-row.row row.1 row.0.filled c.content.result c.in_err-content.field-0.0 c.in_err-content.was c.content.ensures.tells c.in_ok-owner.ensures.tells c.in_ok-bits.ensures.tells));
}

pub returns : goal.returns
returns c = record {
  reads = λ s rest h l.
      let row = c.in_ok-row.ensures.reads (slot_row s) rest refl (slot_fields s h) refl (subst (λ t. Left c.args.lines.now (t ∷ rest)) (sym (slot_spelled s)) l) in
      let owner = c.in_ok-owner.ensures.reads s.owner (slot_owner s h) (ap (λ ts. field_at ts 1) row.0.0) in
      let bits = c.in_ok-bits.ensures.reads s (ap (λ ts. field_at ts 2) row.0.0) in
      let content = c.in_ok-content.ensures.reads s.content (slot_content s h) (slot_nests s h) ((ap (λ ts. field_at ts 3) row.0.0) ∙ content_spelled s.content) in
      let owned : c.in_ok-owner.owner ≡ s.owner = cc (owner) in
      let owner_fits : SFits w32 c.in_ok-owner.owner = search rules in
      let owner_is : to_z w32 (of_z w32 c.in_ok-owner.owner) ≡ s.owner = to_z-of_z w32 c.in_ok-owner.owner owner_fits ∙ owned in
      let bit : c.in_ok-bits.bits ≡ bits_of_slot s = cc (bits) in
      let same : c.slot.result ≡ s = c.slot.ensures ∙ (λ i. record { content = content i; owner = owner_is i; readable = (bit i).readable; writable = (bit i).writable; changeable = (bit i).changeable }) in
      (same, row.1);
  tells = one_stands c.args.lines.now c.next_with.new.self c.in_ok-row.row slot_form (λ room. let row = c.in_ok-row.ensures.tells room in (row.0, slot_stands c.in_ok-row.row row.1 row.0.filled c.in_ok-owner.ensures.tells c.in_ok-bits.ensures.tells c.in_ok-content.ensures.tells));
}

use Rattle.std.proofs.Common.{rules, w32, SFits, to_z, of_z, ◌≡◌, refl, ap, sym, ◌∙◌, ◌∷◌, [], true, false}
use Rattle.spec_world.specs.Checkpoint.{programming_held}
use Rattle.spec_faults.specs.Cutting.{field_at}
use Rattle.object_lines.proofs.Ranges.{connection_number}
use Rattle.object_lines.proofs.HeldParts.{nothing_is, programming_is, never_other}
use Rattle.object_lines.proofs.Rows.{link_row, link_connection, link_number, link_person, link_value, link_fields}
use Rattle.std.proofs.lemmas.Int.{to_z-of_z}
use Rattle.std.proofs.lemmas.Result.{err_from_is_err_and}
use Rattle.checkpoint_lines.proofs.Giving.{gives_passed}
use Rattle.checkpoint_lines.proofs.Going.{passed_on, one_fails_in_row, no_memory, one_row, one_stands, checks_fail, failed}
use Rattle.object_lines.proofs.RowFaults.{link_number_fails, link_person_fails, link_value_fails, link_stands}
use Rattle.object_lines.proofs.FieldKinds.{no_literal, literal_passes}
use Rattle.spec_faults.specs.Awaited.{one, goes_on}
use Rattle.spec_faults.specs.Forms.{connection, object_number, value, link_form}
use Rattle.spec_faults.specs.Literals.{is_literal, is_programming, any}
use Rattle.checkpoint_lines.specs.Rows.{row_fields}
use Rattle.object_lines.specs.Held.{is_known}
use Rattle.checkpoint_lines.specs.declared.fault.FaultKind.TheVariants as kind
use Rattle.checkpoint_lines.proofs.Telling.{row_faulty}
use Rattle.object_lines.proofs.link.next_link.Goals as goal

pub returns-in_err-row : goal.returns-in_err-row
returns-in_err-row c = record {
  reads = λ n k rest h l.
      let memory = c.in_err-row.ensures.reads (link_row (n, k)) rest refl (link_fields n k h) refl l in
      let passed = err_from_is_err_and c.from_residual.result c.from_residual.ensures.1 in
      gives_passed c.from_residual.result passed.0 _ passed.1 (cc (passed.2, memory));
  tells = let passed = err_from_is_err_and c.from_residual.result c.from_residual.ensures.1 in passed_on c.from_residual.result passed.0 c.in_err-row.field-0.0 c.args.lines.now _ (one link_form ∷ []) (λ _. []) passed.1 passed.2 (λ room. c.in_err-row.ensures.tells room (one link_form) (connection ∷ object_number ∷ value (is_literal is_programming) ∷ []) (λ _. goes_on []) (one_row link_form) refl refl);
}

pub returns-in_err-number : goal.returns-in_err-number
returns-in_err-number c = record {
  reads = λ n k rest h l.
      let row = c.in_ok-row.ensures.reads (link_row (n, k)) rest refl (link_fields n k h) refl l in
      let never = c.in_err-number.ensures.reads n (link_number n k h) (connection_number n (link_connection n k h)).0 (connection_number n (link_connection n k h)).1 (ap (λ ts. field_at ts 1) row.0.0) in
      absurd (cc (never));
  tells = let passed = err_from_is_err_and c.from_residual-in_err-number.result c.from_residual-in_err-number.ensures.1 in one_fails_in_row c.from_residual-in_err-number.result passed.0 c.in_err-number.field-0.0 c.args.lines.now c.next_with.new.self _ c.in_ok-row.row link_form (λ _. []) passed.1 passed.2 (λ room. let row = c.in_ok-row.ensures.tells room in (row.0, link_number_fails c.in_ok-row.row row.1 row.0.filled c.integer.result c.in_err-number.field-0.0 c.in_err-number.was c.integer.ensures.tells));
}

pub returns-in_err-person : goal.returns-in_err-person
returns-in_err-person c = record {
  reads = λ n k rest h l.
      let row = c.in_ok-row.ensures.reads (link_row (n, k)) rest refl (link_fields n k h) refl l in
      let number = c.in_ok-number.ensures.reads n (link_number n k h) (connection_number n (link_connection n k h)).0 (connection_number n (link_connection n k h)).1 (ap (λ ts. field_at ts 1) row.0.0) in
      let never = c.in_err-person.ensures.reads k.person (link_person n k h) (ap (λ ts. field_at ts 2) row.0.0) in
      absurd (cc (never));
  tells = let passed = err_from_is_err_and c.from_residual-in_err-person.result c.from_residual-in_err-person.ensures.1 in one_fails_in_row c.from_residual-in_err-person.result passed.0 c.in_err-person.field-0.0 c.args.lines.now c.next_with.new.self _ c.in_ok-row.row link_form (λ _. []) passed.1 passed.2 (λ room. let row = c.in_ok-row.ensures.tells room in (row.0, link_person_fails c.in_ok-row.row row.1 row.0.filled c.object.result c.in_err-person.field-0.0 c.in_err-person.was c.object.ensures.tells));
}

pub returns-in_err-value : goal.returns-in_err-value
returns-in_err-value c = record {
  reads = λ n k rest h l.
      let row = c.in_ok-row.ensures.reads (link_row (n, k)) rest refl (link_fields n k h) refl l in
      let number = c.in_ok-number.ensures.reads n (link_number n k h) (connection_number n (link_connection n k h)).0 (connection_number n (link_connection n k h)).1 (ap (λ ts. field_at ts 1) row.0.0) in
      let person = c.in_ok-person.ensures.reads k.person (link_person n k h) (ap (λ ts. field_at ts 2) row.0.0) in
      let memory = c.in_err-value.ensures.reads (programming_held k.programming) (link_value n k h) (ap (λ ts. field_at ts 3) row.0.0) in
      let passed = err_from_is_err_and c.from_residual-in_err-value.result c.from_residual-in_err-value.ensures.1 in
      gives_passed c.from_residual-in_err-value.result passed.0 _ passed.1 (cc (passed.2, memory));
  tells = let passed = err_from_is_err_and c.from_residual-in_err-value.result c.from_residual-in_err-value.ensures.1 in one_fails_in_row c.from_residual-in_err-value.result passed.0 c.in_err-value.field-0.0 c.args.lines.now c.next_with.new.self _ c.in_ok-row.row link_form (λ _. []) passed.1 passed.2 (λ room. let row = c.in_ok-row.ensures.tells room in (row.0, link_value_fails c.in_ok-row.row row.1 row.0.filled c.value.result c.in_err-value.field-0.0 (is_literal any (field_at (row_fields c.in_ok-row.row) 3)) c.in_err-value.was c.value.ensures.tells c.in_ok-number.ensures.tells c.in_ok-person.ensures.tells (no_literal is_programming (field_at (row_fields c.in_ok-row.row) 3))));
}

pub returns-in-Nothing : goal.returns-in-Nothing
returns-in-Nothing c = record {
  reads = λ n k rest h l.
      let row = c.in_ok-row.ensures.reads (link_row (n, k)) rest refl (link_fields n k h) refl l in
      let number = c.in_ok-number.ensures.reads n (link_number n k h) (connection_number n (link_connection n k h)).0 (connection_number n (link_connection n k h)).1 (ap (λ ts. field_at ts 1) row.0.0) in
      let person = c.in_ok-person.ensures.reads k.person (link_person n k h) (ap (λ ts. field_at ts 2) row.0.0) in
      let value = c.in_ok-value.ensures.reads (programming_held k.programming) (link_value n k h) (ap (λ ts. field_at ts 3) row.0.0) in
      let held = c.in_ok-held.ensures.reads k.programming value in
      let same : c.in_ok-number.number ≡ n = cc (number) in
      let whose : c.in_ok-person.person ≡ k.person = cc (person) in
      let person_fits : SFits w32 c.in_ok-person.person = search rules in
      let person_is : to_z w32 (of_z w32 c.in_ok-person.person) ≡ k.person = to_z-of_z w32 c.in_ok-person.person person_fits ∙ whose in
      let number_fits : SFits w32 c.in_ok-number.number = search rules in
      let back = to_z-of_z w32 c.in_ok-number.number number_fits in
      let none = nothing_is k.programming (sym c.in-Nothing.is ∙ held) in
      let link : c.new.result ≡ k = c.new.ensures ∙ (λ i. record { person = person_is i; programming = sym none i }) in
      ((cc (back, same), link), row.1);
  tells = one_stands c.args.lines.now c.next_with.new.self c.in_ok-row.row link_form (λ room. let row = c.in_ok-row.ensures.tells room in (row.0, link_stands c.in_ok-row.row row.1 row.0.filled c.in_ok-number.ensures.tells c.in_ok-person.ensures.tells (literal_passes is_programming (field_at (row_fields c.in_ok-row.row) 3) c.in_ok-value.value true c.in_ok-value.ensures.said (sym (ap is_known c.in-Nothing.is) ∙ c.in_ok-held.ensures.tells))));
}

pub returns-in-Programming : goal.returns-in-Programming
returns-in-Programming c = record {
  reads = λ n k rest h l.
      let row = c.in_ok-row.ensures.reads (link_row (n, k)) rest refl (link_fields n k h) refl l in
      let number = c.in_ok-number.ensures.reads n (link_number n k h) (connection_number n (link_connection n k h)).0 (connection_number n (link_connection n k h)).1 (ap (λ ts. field_at ts 1) row.0.0) in
      let person = c.in_ok-person.ensures.reads k.person (link_person n k h) (ap (λ ts. field_at ts 2) row.0.0) in
      let value = c.in_ok-value.ensures.reads (programming_held k.programming) (link_value n k h) (ap (λ ts. field_at ts 3) row.0.0) in
      let held = c.in_ok-held.ensures.reads k.programming value in
      let same : c.in_ok-number.number ≡ n = cc (number) in
      let whose : c.in_ok-person.person ≡ k.person = cc (person) in
      let person_fits : SFits w32 c.in_ok-person.person = search rules in
      let person_is : to_z w32 (of_z w32 c.in_ok-person.person) ≡ k.person = to_z-of_z w32 c.in_ok-person.person person_fits ∙ whose in
      let number_fits : SFits w32 c.in_ok-number.number = search rules in
      let back = to_z-of_z w32 c.in_ok-number.number number_fits in
      let some = programming_is k.programming c.in-Programming.programming (sym c.in-Programming.is ∙ held) in
      let link : c.programmed.result ≡ k = c.programmed.ensures ∙ (λ i. record { person = person_is i; programming = sym some i }) in
      ((cc (back, same), link), row.1);
  tells = one_stands c.args.lines.now c.next_with.new.self c.in_ok-row.row link_form (λ room. let row = c.in_ok-row.ensures.tells room in (row.0, link_stands c.in_ok-row.row row.1 row.0.filled c.in_ok-number.ensures.tells c.in_ok-person.ensures.tells (literal_passes is_programming (field_at (row_fields c.in_ok-row.row) 3) c.in_ok-value.value true c.in_ok-value.ensures.said (sym (ap is_known c.in-Programming.is) ∙ c.in_ok-held.ensures.tells))));
}

pub returns : goal.returns
returns c = record {
  reads = λ n k rest h l.
      let row = c.in_ok-row.ensures.reads (link_row (n, k)) rest refl (link_fields n k h) refl l in
      let number = c.in_ok-number.ensures.reads n (link_number n k h) (connection_number n (link_connection n k h)).0 (connection_number n (link_connection n k h)).1 (ap (λ ts. field_at ts 1) row.0.0) in
      let person = c.in_ok-person.ensures.reads k.person (link_person n k h) (ap (λ ts. field_at ts 2) row.0.0) in
      let value = c.in_ok-value.ensures.reads (programming_held k.programming) (link_value n k h) (ap (λ ts. field_at ts 3) row.0.0) in
      let held = c.in_ok-held.ensures.reads k.programming value in
      absurd (never_other k.programming (sym c.in-Other.is ∙ held));
  tells = (λ room. let row = c.in_ok-row.ensures.tells room in row_faulty c.fault.result c.args.lines.now c.next_with.new.self c.in_ok-row.row (one link_form) (λ _. link_form) (λ _. goes_on []) row.0 (one_row link_form) (link_value_fails c.in_ok-row.row row.1 row.0.filled (failed c.fault.result) c.fault.result (is_literal is_programming (field_at (row_fields c.in_ok-row.row) 3)) refl (checks_fail (failed c.fault.result) c.fault.result c.in_ok-row.row kind.Value (is_literal is_programming (field_at (row_fields c.in_ok-row.row) 3)) refl c.fault.ensures (literal_passes is_programming (field_at (row_fields c.in_ok-row.row) 3) c.in_ok-value.value false c.in_ok-value.ensures.said (sym (ap is_known c.in-Other.is) ∙ c.in_ok-held.ensures.tells))) c.in_ok-number.ensures.tells c.in_ok-person.ensures.tells (λ k. k)));
}

pub returns-in_err-held-clause-tells : goal.returns-in_err-held-clause-tells
returns-in_err-held-clause-tells c = let passed = err_from_is_err_and c.from_residual-in_err-held.result c.from_residual-in_err-held.ensures.1 in no_memory c.from_residual-in_err-held.result passed.0 c.args.lines.now _ (one link_form ∷ []) (λ _. []) passed.1 passed.2

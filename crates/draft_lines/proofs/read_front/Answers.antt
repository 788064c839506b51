use Rattle.std.proofs.Common.{◌≡◌, ◌≤◌, [], ◌∷◌, refl, sym, subst, ◌∙◌, codes, rules, w32, SFits, to_z, of_z}
use Rattle.std.specs.Fmt.{signed_decimal}
use Rattle.std.proofs.lemmas.Int.{to_z-of_z}
use Rattle.spec_world.specs.Checkpoint.{fields, counted, flag}
use Rattle.draft_lines.proofs.Fronts.{next_ranges, greatest_ranges}
use Rattle.std.proofs.lemmas.Result.{err_from_is_err_and}
use Rattle.checkpoint_lines.proofs.Giving.{gives_passed}
use Rattle.checkpoint_lines.proofs.Going.{passed_on, first_fails, later_fails, then_goes, no_memory}
use Rattle.spec_faults.specs.Awaited.{first_line, one}
use Rattle.spec_faults.specs.Forms.{next_form, greatest_form, ending_form}
use Rattle.draft_lines.proofs.read_front.Goals as goal

pub returns-in_err-read_header : goal.returns-in_err-read_header
returns-in_err-read_header c = record {
  reads = λ w rest f one l.
      let range = next_ranges w f in let great = greatest_ranges w f in
      let memory = c.in_err-read_header.ensures.reads (counted (codes "next") w.next ∷ fields (codes "greatest" ∷ signed_decimal w.greatest ∷ []) ∷ fields (codes "ending" ∷ flag w.ending ∷ []) ∷ rest) l in
      let passed = err_from_is_err_and c.from_residual.result c.from_residual.ensures.1 in
      gives_passed c.from_residual.result passed.0 _ passed.1 (cc (passed.2, memory));
  tells = let passed = err_from_is_err_and c.from_residual.result c.from_residual.ensures.1 in passed_on c.from_residual.result passed.0 c.in_err-read_header.field-0.0 c.args.lines.now _ (first_line ∷ one next_form ∷ one greatest_form ∷ one ending_form ∷ []) (λ _. []) passed.1 passed.2 (first_fails c.in_err-read_header.field-0.0 c.args.lines.now (first_line ∷ []) (one next_form ∷ one greatest_form ∷ one ending_form ∷ []) c.in_err-read_header.ensures.tells);
}

pub returns-in_err-next : goal.returns-in_err-next
returns-in_err-next c = record {
  reads = λ w rest f one l.
      let range = next_ranges w f in let great = greatest_ranges w f in
      let read_header = c.in_ok-read_header.ensures.reads (counted (codes "next") w.next ∷ fields (codes "greatest" ∷ signed_decimal w.greatest ∷ []) ∷ fields (codes "ending" ∷ flag w.ending ∷ []) ∷ rest) l in
      let memory = c.in_err-next.ensures.reads w.next (fields (codes "greatest" ∷ signed_decimal w.greatest ∷ []) ∷ fields (codes "ending" ∷ flag w.ending ∷ []) ∷ rest) refl range.0 range.1 read_header.1 in
      let passed = err_from_is_err_and c.from_residual-in_err-next.result c.from_residual-in_err-next.ensures.1 in
      gives_passed c.from_residual-in_err-next.result passed.0 _ passed.1 (cc (passed.2, memory));
  tells = let so_1 = c.in_ok-read_header.ensures.tells in let passed = err_from_is_err_and c.from_residual-in_err-next.result c.from_residual-in_err-next.ensures.1 in passed_on c.from_residual-in_err-next.result passed.0 c.in_err-next.field-0.0 c.args.lines.now _ (first_line ∷ one next_form ∷ one greatest_form ∷ one ending_form ∷ []) (λ _. []) passed.1 passed.2 (later_fails c.in_err-next.field-0.0 (first_line ∷ []) (one next_form ∷ []) (one greatest_form ∷ one ending_form ∷ []) so_1 c.in_err-next.ensures.tells);
}

pub returns-in_err-greatest : goal.returns-in_err-greatest
returns-in_err-greatest c = record {
  reads = λ w rest f one l.
      let range = next_ranges w f in let great = greatest_ranges w f in
      let read_header = c.in_ok-read_header.ensures.reads (counted (codes "next") w.next ∷ fields (codes "greatest" ∷ signed_decimal w.greatest ∷ []) ∷ fields (codes "ending" ∷ flag w.ending ∷ []) ∷ rest) l in
      let next = c.in_ok-next.ensures.reads w.next (fields (codes "greatest" ∷ signed_decimal w.greatest ∷ []) ∷ fields (codes "ending" ∷ flag w.ending ∷ []) ∷ rest) refl range.0 range.1 read_header.1 in
      let memory = c.in_err-greatest.ensures.reads w.greatest (fields (codes "ending" ∷ flag w.ending ∷ []) ∷ rest) refl great.0 great.1 great.2 next.1 in
      let passed = err_from_is_err_and c.from_residual-in_err-greatest.result c.from_residual-in_err-greatest.ensures.1 in
      gives_passed c.from_residual-in_err-greatest.result passed.0 _ passed.1 (cc (passed.2, memory));
  tells = let so_1 = c.in_ok-read_header.ensures.tells in let so_2 = then_goes (first_line ∷ []) [] (one next_form ∷ []) [] so_1 c.in_ok-next.ensures.tells in let passed = err_from_is_err_and c.from_residual-in_err-greatest.result c.from_residual-in_err-greatest.ensures.1 in passed_on c.from_residual-in_err-greatest.result passed.0 c.in_err-greatest.field-0.0 c.args.lines.now _ (first_line ∷ one next_form ∷ one greatest_form ∷ one ending_form ∷ []) (λ _. []) passed.1 passed.2 (later_fails c.in_err-greatest.field-0.0 (first_line ∷ one next_form ∷ []) (one greatest_form ∷ []) (one ending_form ∷ []) so_2 c.in_err-greatest.ensures.tells);
}

pub returns-in_err-is_ending : goal.returns-in_err-is_ending
returns-in_err-is_ending c = record {
  reads = λ w rest f one l.
      let range = next_ranges w f in let great = greatest_ranges w f in
      let read_header = c.in_ok-read_header.ensures.reads (counted (codes "next") w.next ∷ fields (codes "greatest" ∷ signed_decimal w.greatest ∷ []) ∷ fields (codes "ending" ∷ flag w.ending ∷ []) ∷ rest) l in
      let next = c.in_ok-next.ensures.reads w.next (fields (codes "greatest" ∷ signed_decimal w.greatest ∷ []) ∷ fields (codes "ending" ∷ flag w.ending ∷ []) ∷ rest) refl range.0 range.1 read_header.1 in
      let greatest = c.in_ok-greatest.ensures.reads w.greatest (fields (codes "ending" ∷ flag w.ending ∷ []) ∷ rest) refl great.0 great.1 great.2 next.1 in
      let memory = c.in_err-is_ending.ensures.reads w.ending rest refl greatest.1 in
      let passed = err_from_is_err_and c.from_residual-in_err-is_ending.result c.from_residual-in_err-is_ending.ensures.1 in
      gives_passed c.from_residual-in_err-is_ending.result passed.0 _ passed.1 (cc (passed.2, memory));
  tells = let so_1 = c.in_ok-read_header.ensures.tells in let so_2 = then_goes (first_line ∷ []) [] (one next_form ∷ []) [] so_1 c.in_ok-next.ensures.tells in let so_3 = then_goes (first_line ∷ one next_form ∷ []) [] (one greatest_form ∷ []) [] so_2 c.in_ok-greatest.ensures.tells in let passed = err_from_is_err_and c.from_residual-in_err-is_ending.result c.from_residual-in_err-is_ending.ensures.1 in passed_on c.from_residual-in_err-is_ending.result passed.0 c.in_err-is_ending.field-0.0 c.args.lines.now _ (first_line ∷ one next_form ∷ one greatest_form ∷ one ending_form ∷ []) (λ _. []) passed.1 passed.2 (later_fails c.in_err-is_ending.field-0.0 (first_line ∷ one next_form ∷ one greatest_form ∷ []) (one ending_form ∷ []) [] so_3 c.in_err-is_ending.ensures.tells);
}

pub returns : goal.returns
returns c = record {
  reads = λ w rest f one l.
      let range = next_ranges w f in let great = greatest_ranges w f in
      let read_header = c.in_ok-read_header.ensures.reads (counted (codes "next") w.next ∷ fields (codes "greatest" ∷ signed_decimal w.greatest ∷ []) ∷ fields (codes "ending" ∷ flag w.ending ∷ []) ∷ rest) l in
      let next = c.in_ok-next.ensures.reads w.next (fields (codes "greatest" ∷ signed_decimal w.greatest ∷ []) ∷ fields (codes "ending" ∷ flag w.ending ∷ []) ∷ rest) refl range.0 range.1 read_header.1 in
      let greatest = c.in_ok-greatest.ensures.reads w.greatest (fields (codes "ending" ∷ flag w.ending ∷ []) ∷ rest) refl great.0 great.1 great.2 next.1 in
      let is_ending = c.in_ok-is_ending.ensures.reads w.ending rest refl greatest.1 in
      let low = subst (λ n. 1 ≤ n) (sym next.0) range.0 in
      let high = subst (λ n. n ≤ 33554432) (sym next.0) range.1 in
      let set = c.in_ok-set_front.ensures one low high in
      let greatest_fits : SFits w32 c.in_ok-greatest.greatest = search rules in
      let greatest_is : to_z w32 (of_z w32 c.in_ok-greatest.greatest) ≡ w.greatest = to_z-of_z w32 c.in_ok-greatest.greatest greatest_fits ∙ greatest.0 in
      (set ∙ (λ i. record (c.args.draft.now) { greatest = greatest_is i; next = next.0 i; ending = is_ending.0 i }), is_ending.1);
  tells = let so_1 = c.in_ok-read_header.ensures.tells in let so_2 = then_goes (first_line ∷ []) [] (one next_form ∷ []) [] so_1 c.in_ok-next.ensures.tells in let so_3 = then_goes (first_line ∷ one next_form ∷ []) [] (one greatest_form ∷ []) [] so_2 c.in_ok-greatest.ensures.tells in let so_4 = then_goes (first_line ∷ one next_form ∷ one greatest_form ∷ []) [] (one ending_form ∷ []) [] so_3 c.in_ok-is_ending.ensures.tells in so_4;
}

pub returns-in_err-set_front-clause-tells : goal.returns-in_err-set_front-clause-tells
returns-in_err-set_front-clause-tells c = let passed = err_from_is_err_and c.from_residual-in_err-set_front.result c.from_residual-in_err-set_front.ensures.1 in no_memory c.from_residual-in_err-set_front.result passed.0 c.args.lines.now _ (first_line ∷ one next_form ∷ one greatest_form ∷ one ending_form ∷ []) (λ _. []) passed.1 passed.2

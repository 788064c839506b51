use Rattle.std.proofs.Common.{◌≡◌, ◌∙◌, Some, false, length, sym, ap, arith}
use Rattle.std.proofs.lemmas.Option.{slice_get-get_or}
use Rattle.std.specs.Prelude.{ℕ, slice_get}
use Rattle.view.specs.BuiltIn.{is_bit_letter, begins_one}
use Rattle.view.proofs.Others.{single, longer, unmet}
use Rattle.view.proofs.built_in.is_other.Goals as goal

pub returns-then-name-eq1 : goal.returns-then-name-eq1
returns-then-name-eq1 c = λ h.
    let there : slice_get c.args.name.now 0 ≡ Some c.in-Some.first.now = slice_get-get_or c.args.name.now 0 c.in-Some.first.now c.in-Some.ensures.lookup.3.0 ∙ ap (λ (x : ℕ). Some x) (sym c.in-Some.ensures.lookup.1) in
    let one : length c.args.name.now ≡ 1 = omega arith in
    let other : is_bit_letter c.in-Some.first.now ≡ false = sym c.is_bit_letter.ensures ∙ unmet c.is_bit_letter.result h in
    single c.args.name.now c.in-Some.first.now one there other

pub returns-else-name-eq1 : goal.returns-else-name-eq1
returns-else-name-eq1 c = λ h.
    let there : slice_get c.args.name.now 0 ≡ Some c.in-Some.first.now = slice_get-get_or c.args.name.now 0 c.in-Some.first.now c.in-Some.ensures.lookup.3.0 ∙ ap (λ (x : ℕ). Some x) (sym c.in-Some.ensures.lookup.1) in
    let more : length c.args.name.now ≡ 1 → ⊥ = λ e. omega (arith, e) in
    let other : begins_one c.in-Some.first.now ≡ false = sym c.begins_one.ensures ∙ unmet c.begins_one.result h in
    longer c.args.name.now c.in-Some.first.now more there other

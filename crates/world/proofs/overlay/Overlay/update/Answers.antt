use Rattle.std.proofs.Common.{◌≡◌, ℤ, true, sym, subst, rules, w32, to_z, of_z}
use Rattle.spec_value.specs.Answer.{gives}
use Rattle.spec_value.specs.Datum.{Datum, integer}
use Rattle.spec_value.specs.Operators.{binary_value}
use Rattle.moo_value.specs.Operators.{binary_of}
use Rattle.view.specs.Writing.{IsReckoned, GoesFurther}
use Rattle.world.specs.Amended.{amended_now}
use Rattle.world.proofs.Written.{further_written}
use Rattle.world.proofs.overlay.Overlay.update.Goals as goal

pub returns-then-done-clause-updated : goal.returns-then-done-clause-updated
returns-then-done-clause-updated c =
    let old = c.args.self.now in
    let new = c.give_again-done.new.self in
    let who = c.args.programmer in
    let o = c.args.object in
    let p = c.args.name.now in
    let n = c.in_ok-number.number in
    let op = binary_of c.args.operator in
    let whole_who : to_z w32 (of_z w32 who) ≡ who = search rules in
    let whole_object : to_z w32 (of_z w32 o) ≡ o = search rules in
    let whole_second : to_z w32 (of_z w32 c.args.second) ≡ c.args.second = search rules in
    let whole_number : to_z w32 (of_z w32 n) ≡ n = search rules in
    let read = rw (whole_who, whole_object) at c.in_ok-place.ensures.read in
    let place = rw (whole_who, whole_object) at c.in_ok-place.ensures.place in
    let first = c.in_ok-place.first in
    let whole_first : to_z w32 (of_z w32 first) ≡ first = search rules in
    let answer : binary_value op (integer first) (integer c.args.second) ≡ gives (integer n) = rw (whole_first, whole_second) at c.in_ok-number.ensures in
    let value : c.integer.result ≡ integer n = search rules in
    let further : GoesFurther o p (integer n) old.changes new.changes =
    subst (λ (d : Datum). GoesFurther o p d old.changes new.changes) value (c.give_again-done.ensures.done c.if-done.true o p place.1) in
    subst (λ (k : ℤ). IsReckoned who o p op c.args.second k (amended_now old) (amended_now new)) (sym whole_number)
    (record { first = first; read = read; answer = answer; written = further_written who o p (integer n) old new c.give_again-done.ensures.home (place.0, further) })

use Rattle.std.proofs.Common.{◌≡◌, ◌∙◌, ap, sym, arith, suc, ◌∷◌, length}
use Rattle.spec_value.specs.Datum.{type_mismatch}
use Rattle.moo_program.specs.Drafting.{unraised_of}
use Rattle.moo_task.specs.Shown.{fails_of}
use Rattle.moo_task.proofs.Received.{listed_refused}
use Rattle.moo_task.proofs.moo_machine.verb.State.receives_listed.Goals as goal

pub returns-in_default-items_in : goal.returns-in_default-items_in
returns-in_default-items_in c a =
    let taken : c.args.self.now.operands ≡ c.in-Some.value ∷ c.in-Some-pop.list ∷ c.pop-2.new.self =
    c.in-Some.ensures ∙ ap (λ st. c.in-Some.value ∷ st) c.in-Some-pop.ensures in
    let sized : length c.pop.new.self ≡ suc (length c.pop-2.new.self) = ap (λ st. length st) c.in-Some-pop.ensures in
    listed_refused a c.args.call.now c.args.self.now (unraised_of c.args.unraised) c.args.end c.in-Some.value c.in-Some-pop.list c.pop-2.new.self c.args.held taken
    c.in_default-items_in.ensures (omega arith) (omega (arith, sized))
    ∙ ap (λ st. fails_of a c.args.call.now (unraised_of c.args.unraised) c.args.end type_mismatch (record (c.args.self.now) { operands = st })) (sym c.forget.ensures)
    ∙ c.in_ok-did-2.ensures a

use Rattle.std.proofs.Common.{◌≡◌, length, IfOk, IsSomeAnd, sym, subst, arith}
use Rattle.std.proofs.lemmas.Bool.{ltb-false}
use Rattle.named_objects.proofs.Records.{count_here, there_too}
use Rattle.named_objects.proofs.family.names_at_place.Goals as goal

pub returns-in-Some : goal.returns-in-Some
returns-in-Some c = λ w o x are leads e.
    let way = leads.ways c.args.place o x e in
    let count = count_here w c.args.records.now c.args.upwards.now c.args.place o x c.in-Some.record.now are leads e c.in-Some.ensures.lookup.1 c.len.result (omega (arith, c.len.ensures, c.in-Some.record.now.slots.ok.0)) in
    subst (λ ts. IfOk c.names_of.result (λ n. IsSomeAnd n (λ v. v.items ≡ ts))) way.2 (c.names_of.ensures way.0 leads.count leads.known way.1 count)

pub returns-in-None : goal.returns-in-None
returns-in-None c = λ w o x are leads e.
    let lt = there_too w c.args.records.now c.args.place (o, x) are e in
    absurd (omega (arith, lt, ltb-false c.args.place (length c.args.records.now) (sym c.in-None.ensures.lookup.0)))

use Rattle.std.proofs.Common.{◌≡◌, ◌∙◌, sym, arith}
use Rattle.std.proofs.lemmas.Bool.Decides.{Decides-eqb}
use Rattle.std.proofs.lemmas.List.{length-map}
use Rattle.std.proofs.lemmas.Option.{slice_get_within}
use Rattle.std.proofs.lemmas.Slice.Eq.{slice_eq-Decides}
use Rattle.spec_world.proofs.Trees.{some_same}
use Rattle.world_checks.proofs.Merged.{got_one}
use Rattle.world_checks.proofs.table_checks.merge.is_name.Goals as goal

pub returns-in-Some-clause-tells : goal.returns-in-Some-clause-tells
returns-in-Some-clause-tells c h =
    let there = got_one (λ n. n.items) c.args.names.now c.args.index c.in-Some.name.now c.in-Some.ensures.lookup.3.0 c.in-Some.ensures.lookup.1 in
    let same : c.as_slice.result.now ≡ c.args.next.now = (slice_eq-Decides Decides-eqb _ _ _ c.eq.ensures).0 h in
    cc (there, same, c.as_slice.ensures.value)

pub returns-in-Some-clause-finds : goal.returns-in-Some-clause-finds
returns-in-Some-clause-finds c is =
    let there = got_one (λ n. n.items) c.args.names.now c.args.index c.in-Some.name.now c.in-Some.ensures.lookup.3.0 c.in-Some.ensures.lookup.1 in
    let same : c.as_slice.result.now ≡ c.args.next.now = c.as_slice.ensures.value ∙ some_same (sym there ∙ is) in
    (slice_eq-Decides Decides-eqb _ _ _ c.eq.ensures).1 same

pub returns-in-None-clause-finds : goal.returns-in-None-clause-finds
returns-in-None-clause-finds c is =
    let within = slice_get_within _ c.args.index _ is in
    absurd (omega (arith, within, length-map c.args.names.now (λ n. n.items), c.in-None.ensures.lookup))

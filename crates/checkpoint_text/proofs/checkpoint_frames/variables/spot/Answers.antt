use Rattle.std.proofs.Common.{◌≡◌, ◌<◌, length, arith, rules, nat_cmp, Less, Equal, Greater}
use Rattle.std.specs.Cmp.Lexicographic.{slice_cmp}
use Rattle.checkpoint_text.proofs.Entries.{lent_before, lent_there, lent_behind}
use Rattle.checkpoint_text.proofs.checkpoint_frames.variables.spot.Goals as goal

pub returns-in-Less-clause-before : goal.returns-in-Less-clause-before
returns-in-Less-clause-before c =
    let e = c.index-entries-index.result in
    let lt : c.loop-index.index < length c.args.entries.now = omega arith in
    let order : slice_cmp nat_cmp c.args.name.now e.name.now ≡ Less = search (rules, c.in-Less.ensures, c.as_bytes.ensures.value) in
    (omega arith, λ v. lent_before c.args.entries.now c.args.name.now v c.loop-index.index e lt c.index-entries-index.is order (c.loop-index.invariant v))

pub returns-in-Equal-clause-there : goal.returns-in-Equal-clause-there
returns-in-Equal-clause-there c =
    let e = c.index-entries-index.result in
    let lt : c.loop-index.index < length c.args.entries.now = omega arith in
    let order : slice_cmp nat_cmp c.args.name.now e.name.now ≡ Equal = search (rules, c.in-Equal.ensures, c.as_bytes.ensures.value) in
    (lt, λ v. lent_there c.args.entries.now c.args.name.now v c.loop-index.index e lt c.index-entries-index.is order (c.loop-index.invariant v))

pub loop-index-preserved : goal.loop-index-preserved
loop-index-preserved c v =
    let e = c.index-entries-index.result in
    let lt : c.loop-index.index < length c.args.entries.now = omega arith in
    let order : slice_cmp nat_cmp c.args.name.now e.name.now ≡ Greater = search (rules, c.in-Greater.ensures, c.as_bytes.ensures.value) in
    lent_behind c.args.entries.now c.args.name.now v c.loop-index.index e lt c.index-entries-index.is order (c.loop-index.invariant v)

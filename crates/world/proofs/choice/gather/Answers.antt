use Rattle.std.proofs.Common.{◌++◌, ◌+◌, ◌<◌, ◌≤◌, ap, subst, sym, ◌∙◌, arith}
use Rattle.world.proofs.Gathered.{Gathered, left, all_left, one_gathered, none_gathered, all_gathered}
use Rattle.world.proofs.Walks.{found_within, found_reaches}
use Rattle.world.proofs.choice.gather.Goals as goal
use Rattle.world.proofs.choice.gather.Goals.{in-Some-choose+in_ok-push, in_default-choose}

pub loop-number-init : goal.loop-number-init
loop-number-init g c =
    let p = g.C.Choice.picks c.args.choice.now in
    record { within = omega arith; gathered = ap (λ ts. ts ++ left p c.args.records.now.entries 0) c.new-items.ensures.items ∙ all_left p c.args.records.now.entries }

pub choose-requires : goal.choose-requires
choose-requires g c =
    found_within (g.C.Choice.bound c.args.choice.now) c.loop-number.key c.args.records.now.entries (c.in-Some.number, c.in-Some.record.now) c.requires.keys c.in-Some.ensures

pub overflow_add-key : goal.overflow_add-key
overflow_add-key g c =
    let below : c.in-Some.number < g.C.Choice.bound c.args.choice.now = found_within (g.C.Choice.bound c.args.choice.now) c.loop-number.key c.args.records.now.entries (c.in-Some.number, c.in-Some.record.now) c.requires.keys c.in-Some.ensures in
    let most : g.C.Choice.bound c.args.choice.now ≤ 4294967296 = c.requires.bound in
    omega arith

pub loop-number-smaller : goal.loop-number-smaller
loop-number-smaller g c =
    let below : c.in-Some.number < g.C.Choice.bound c.args.choice.now = found_within (g.C.Choice.bound c.args.choice.now) c.loop-number.key c.args.records.now.entries (c.in-Some.number, c.in-Some.record.now) c.requires.keys c.in-Some.ensures in
    let most : g.C.Choice.bound c.args.choice.now ≤ 4294967296 = c.requires.bound in
    let above : c.loop-number.key ≤ c.in-Some.number = found_reaches c.loop-number.key c.args.records.now.entries (c.in-Some.number, c.in-Some.record.now) c.in-Some.ensures in
    omega arith

pub loop-number-preserved : goal.loop-number-preserved
loop-number-preserved g c =
    let p = g.C.Choice.picks c.args.choice.now in
    let es = c.args.records.now.entries in
    let below : c.in-Some.number < g.C.Choice.bound c.args.choice.now = found_within (g.C.Choice.bound c.args.choice.now) c.loop-number.key c.args.records.now.entries (c.in-Some.number, c.in-Some.record.now) c.requires.keys c.in-Some.ensures in
    let most : g.C.Choice.bound c.args.choice.now ≤ 4294967296 = c.requires.bound in
    let gathered : Gathered p es (c.in-Some.number + 1) c.match-choose.items.items =
    elim c.match-choose.branch [
      | in-Some-choose+in_ok-push w ↦
          subst (λ ts. Gathered p es (c.in-Some.number + 1) ts) (sym (ap (λ v. v.items) w.items-is ∙ w.in_ok-push.ensures.items))
          (one_gathered p es c.loop-number.key (c.in-Some.number, c.in-Some.record.now) w.in-Some-choose.item c.loop-number.items.items c.len-sorted.ensures.sorted c.in-Some.ensures w.in-Some-choose.ensures c.loop-number.invariant.gathered)
      | in_default-choose w ↦
          subst (λ ts. Gathered p es (c.in-Some.number + 1) ts) (sym (ap (λ v. v.items) w.items-is))
          (none_gathered p es c.loop-number.key (c.in-Some.number, c.in-Some.record.now) c.loop-number.items.items c.len-sorted.ensures.sorted c.in-Some.ensures w.in_default-choose.ensures c.loop-number.invariant.gathered)
    ] in
    record { within = omega arith; gathered = gathered }

pub returns : goal.returns
returns g c = all_gathered (g.C.Choice.picks c.args.choice.now) c.args.records.now.entries c.loop-number.key c.loop-number.items.items c.in_default.ensures c.loop-number.invariant.gathered

use Rattle.std.proofs.Common.{◌≡◌, ◌+◌, ◌<◌, ◌≤◌, length, refl, subst, sym, arith}
use Rattle.std.proofs.lemmas.Bool.Decides.{nat_tests}
use Rattle.world.proofs.Gathered.{Matches, first_matches, one_matches, none_matches, one_there, there_is, all_match}
use Rattle.world.proofs.Walks.{found_within, found_reaches}
use Rattle.world.proofs.choice.is_gathered.Goals as goal
use Rattle.world.proofs.choice.is_gathered.Goals.{in-Some-choose+else-not-is_at, in_default-choose}

pub loop-number-init : goal.loop-number-init
loop-number-init g c =
    record { within = omega arith; few = omega arith; count = omega arith; same = first_matches (g.C.Choice.picks c.args.choice.now) c.args.records.now.entries c.args.items.now }

pub choose-requires : goal.choose-requires
choose-requires g c =
    found_within (g.C.Choice.bound c.args.choice.now) c.loop-number.key c.args.records.now.entries (c.in-Some.number, c.in-Some.record.now) c.requires.keys c.in-Some.ensures

pub returns-then-not-is_at : goal.returns-then-not-is_at
returns-then-not-is_at g c = (
  λ h. absurd (cc),
  λ e.
      c.if-not-is_at.ensures.1
      (one_there (g.C.Choice.picks c.args.choice.now) c.args.records.now.entries c.loop-number.key c.loop-number.count (c.in-Some.number, c.in-Some.record.now) c.in-Some-choose.item c.args.items.now c.len-sorted.ensures.sorted c.in-Some.ensures c.in-Some-choose.ensures c.loop-number.invariant.same e),
)

pub overflow_add-count : goal.overflow_add-count
overflow_add-count g c =
    let few : c.loop-number.count ≤ c.loop-number.key = c.loop-number.invariant.few in
    let within : c.loop-number.key ≤ 4294967296 = c.loop-number.invariant.within in
    omega arith

pub overflow_add-key : goal.overflow_add-key
overflow_add-key g c =
    let below : c.in-Some.number < g.C.Choice.bound c.args.choice.now = found_within (g.C.Choice.bound c.args.choice.now) c.loop-number.key c.args.records.now.entries (c.in-Some.number, c.in-Some.record.now) c.requires.keys c.in-Some.ensures in
    let most : g.C.Choice.bound c.args.choice.now ≤ 4294967296 = c.requires.bound in
    omega arith

pub loop-number-smaller : goal.loop-number-smaller
loop-number-smaller g c =
    let below : c.in-Some.number < g.C.Choice.bound c.args.choice.now = found_within (g.C.Choice.bound c.args.choice.now) c.loop-number.key c.args.records.now.entries (c.in-Some.number, c.in-Some.record.now) c.requires.keys c.in-Some.ensures in
    let most : g.C.Choice.bound c.args.choice.now ≤ 4294967296 = c.requires.bound in
    let above : c.loop-number.key ≤ c.in-Some.number = found_reaches c.loop-number.key c.args.records.now.entries (c.in-Some.number, c.in-Some.record.now) c.in-Some.ensures in
    omega arith

pub loop-number-preserved : goal.loop-number-preserved
loop-number-preserved g c =
    let p = g.C.Choice.picks c.args.choice.now in
    let es = c.args.records.now.entries in
    let xs = c.args.items.now in
    let below : c.in-Some.number < g.C.Choice.bound c.args.choice.now = found_within (g.C.Choice.bound c.args.choice.now) c.loop-number.key c.args.records.now.entries (c.in-Some.number, c.in-Some.record.now) c.requires.keys c.in-Some.ensures in
    let most : g.C.Choice.bound c.args.choice.now ≤ 4294967296 = c.requires.bound in
    let above : c.loop-number.key ≤ c.in-Some.number = found_reaches c.loop-number.key c.args.records.now.entries (c.in-Some.number, c.in-Some.record.now) c.in-Some.ensures in
    let few : c.loop-number.count ≤ c.loop-number.key = c.loop-number.invariant.few in
    let so_far : c.loop-number.count ≤ length xs = c.loop-number.invariant.count in
    let few_after : c.match-choose.count ≤ c.in-Some.number + 1 =
    elim c.match-choose.branch [
      | in-Some-choose+else-not-is_at w ↦ let is : c.match-choose.count ≡ c.loop-number.count + 1 = w.count-is in omega arith
      | in_default-choose w ↦ let is : c.match-choose.count ≡ c.loop-number.count = w.count-is in omega arith
    ] in
    let count : c.match-choose.count ≤ length xs =
    elim c.match-choose.branch [
      | in-Some-choose+else-not-is_at w ↦
          let is : c.match-choose.count ≡ c.loop-number.count + 1 = w.count-is in
          let there : c.loop-number.count + 1 ≤ length xs = there_is p es c.loop-number.count w.in-Some-choose.item xs (w.if-not-is_at.ensures.0 refl) in
          omega arith
      | in_default-choose w ↦ let is : c.match-choose.count ≡ c.loop-number.count = w.count-is in omega arith
    ] in
    let same : Matches p es (c.in-Some.number + 1) c.match-choose.count xs =
    elim c.match-choose.branch [
      | in-Some-choose+else-not-is_at w ↦
          subst (λ n. Matches p es (c.in-Some.number + 1) n xs) (sym w.count-is)
          (one_matches p es c.loop-number.key c.loop-number.count (c.in-Some.number, c.in-Some.record.now) w.in-Some-choose.item xs c.len-sorted.ensures.sorted c.in-Some.ensures w.in-Some-choose.ensures (w.if-not-is_at.ensures.0 refl) c.loop-number.invariant.same)
      | in_default-choose w ↦
          subst (λ n. Matches p es (c.in-Some.number + 1) n xs) (sym w.count-is)
          (none_matches p es c.loop-number.key c.loop-number.count (c.in-Some.number, c.in-Some.record.now) xs c.len-sorted.ensures.sorted c.in-Some.ensures w.in_default-choose.ensures c.loop-number.invariant.same)
    ] in
    record { within = omega arith; few = few_after; count = count; same = same }

pub returns : goal.returns
returns g c =
    let end = all_match (g.C.Choice.picks c.args.choice.now) c.args.records.now.entries c.loop-number.key c.loop-number.count c.args.items.now c.in_default.ensures c.loop-number.invariant.count c.loop-number.invariant.same in (
      λ h. end.0 (let is : c.loop-number.count ≡ length c.args.items.now = grind (arith, nat_tests) in is),
      λ e. let is : c.loop-number.count ≡ length c.args.items.now = end.1 e in grind (arith, nat_tests),
    )

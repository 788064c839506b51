use Rattle.std.proofs.Common.{◌≡◌, ◌+◌, ◌++◌, ◌∷◌, [], sym, subst, length, w32, to_z, of_z, rules, arith}
use Rattle.world_checks.proofs.Climbing.{Settling, settle_step, settled, popped}
use Rattle.world_checks.proofs.object_checks.guess.settle.Goals as goal

pub loop-number-preserved : goal.loop-number-preserved
loop-number-preserved c =
    let whole = c.args.line.now.items in
    let number = c.in-Some.number in
    let took : c.loop-number.line.items ≡ c.pop.new.self.items ++ number ∷ [] = c.in-Some.ensures.items in
    let p = popped whole c.loop-number.line.items c.pop.new.self.items number c.loop-number.invariant.first took in
    let item : to_z w32 (of_z w32 number) ≡ number = search rules in
    let given = rw item at c.in_ok-put.ensures in
    record {
      first = p.0;
      back = λ depth total falls is_total small may.
          let before = c.loop-number.invariant.back depth total falls is_total small may in
          let here = subst (λ n. Settling depth total whole c.args.ranks.now c.loop-number.ranks c.loop-number.rank n) p.2 before in
          let rank : c.saturating_add-rank.result ≡ c.loop-number.rank + 1 = let rest = here.rest in let next = c.saturating_add-rank.ensures in omega (arith, rest, next, small) in
          let given_so = rw rank at given in
          subst (λ n. Settling depth total whole c.args.ranks.now c.put.new.self n (length c.pop.new.self.items)) (sym rank)
          (settle_step depth total whole c.args.ranks.now c.loop-number.ranks c.put.new.self c.loop-number.rank (length c.pop.new.self.items) number falls may p.1 given_so here);
    }

pub returns-clause-ranks : goal.returns-clause-ranks
returns-clause-ranks c depth total falls is_total small may =
    let before = c.loop-number.invariant.back depth total falls is_total small may in
    let none : length c.loop-number.line.items ≡ 0 = search rules in
    settled depth total c.args.line.now.items c.args.ranks.now c.loop-number.ranks c.loop-number.rank
    (subst (λ n. Settling depth total c.args.line.now.items c.args.ranks.now c.loop-number.ranks c.loop-number.rank n) none before)

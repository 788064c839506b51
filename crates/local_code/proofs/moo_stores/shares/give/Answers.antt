use Rattle.std.proofs.Common.{◌∙◌, ◌<◌, ap, arith, suc, drop, length, sym}
use Rattle.moo_task.proofs.Next.{next_place}
use Rattle.local_code.specs.Giving.{given_slots}
use Rattle.local_code.proofs.Sharing.{gives_next, all_given}
use Rattle.local_code.proofs.moo_stores.shares.give.Goals as goal

pub loop-i-preserved : goal.loop-i-preserved
loop-i-preserved c =
    let in_items : c.loop-i.i < length c.args.items.now = omega arith in
    let in_shares : c.loop-i.i < length c.args.shares.now = omega arith in
    record {
      given =
          ap (λ n. given_slots (drop n c.args.items.now) (drop n c.args.shares.now) c.give_one.new.slots.items) (next_place c.loop-i.i)
          ∙ ap (λ xs. given_slots (drop (suc c.loop-i.i) c.args.items.now) (drop (suc c.loop-i.i) c.args.shares.now) xs) c.in_ok-give_one.ensures.given
          ∙ gives_next c.args.items.now c.args.shares.now c.loop-i.slots.items c.loop-i.i _ c.index-shares-i.result in_items in_shares c.index-shares-i.is
          ∙ c.loop-i.invariant.given;
      count = c.in_ok-give_one.ensures.count ∙ c.loop-i.invariant.count;
    }

pub returns : goal.returns
returns c = sym (all_given c.args.items.now c.args.shares.now c.loop-i.slots.items c.loop-i.i (omega arith)) ∙ c.loop-i.invariant.given

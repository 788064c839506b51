use Rattle.std.proofs.Common.{rules, arith, ◌≡◌, ◌∙◌, true, false, ap, sym, subst, w32, to_z, of_z}
use Rattle.std.proofs.lemmas.Int.{to_z-of_z}
use Rattle.moo_task.specs.Effects.{waiting_of}
use Rattle.moo_task.specs.Frames.{kept_of, outers_of}
use Rattle.tree_parts.specs.Standing.{AllStand}
use Rattle.tree_parts.proofs.Found.{first_stands, others_stand}
use Rattle.tree_parts.proofs.Waiting.{made_from}
use Rattle.tree_parts.proofs.frame_tasks.task.stopped.Goals as goal

pub returns-clause-tells : goal.returns-clause-tells
returns-clause-tells c =
    made_from c.args.player (to_z w32 (of_z w32 c.args.player)) (waiting_of c.args.waiting) (kept_of c.args.frame) c.in_ok-outer.outer (outers_of c.args.outer.items)
    c.in_ok-task.task c.requires (c.in_ok-verb_stands.ensures.tells c.if-not-verb_stands.false)
    (subst AllStand (ap outers_of c.as_slice.ensures.value) (c.in_ok-others_stand.ensures.tells c.if-not-others_stand.false)) c.in_ok-outer.ensures
    (to_z-of_z w32 c.args.player c.ranges.player) c.in_ok-task.ensures

pub returns-then-not-verb_stands-clause-finds : goal.returns-then-not-verb_stands-clause-finds
returns-then-not-verb_stands-clause-finds c h =
    let yes : c.in_ok-verb_stands.verb_stands ≡ true = c.in_ok-verb_stands.ensures.finds (first_stands (kept_of c.args.frame) (outers_of c.args.outer.items) h) in
    let no : c.in_ok-verb_stands.verb_stands ≡ false = first_of (search rules, grind arith) in
    sym no ∙ yes

pub returns-then-not-others_stand-clause-finds : goal.returns-then-not-others_stand-clause-finds
returns-then-not-others_stand-clause-finds c h =
    let yes : c.in_ok-others_stand.others_stand ≡ true =
    c.in_ok-others_stand.ensures.finds (subst AllStand (sym (ap outers_of c.as_slice.ensures.value)) (others_stand (kept_of c.args.frame) (outers_of c.args.outer.items) h)) in
    let no : c.in_ok-others_stand.others_stand ≡ false = first_of (search rules, grind arith) in
    sym no ∙ yes

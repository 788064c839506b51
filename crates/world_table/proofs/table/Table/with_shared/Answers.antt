use Rattle.std.proofs.Common.{◌≡◌, ℕ, ◌%◌, ◌+◌, sym, ◌∙◌, ap, arith, length}
use Rattle.std.proofs.Math.Nat.{mod-eq_of_lt}
use Rattle.std.specs.Ordering.{nat_cmp}
use Rattle.std.specs.FinMap.{find, put}
use Rattle.world_table.specs.Branch.{reach}
use Rattle.world_table.specs.Contents.{Contents}
use Rattle.world_table.proofs.Rows.{put_branch}
use Rattle.world_table.proofs.Roots.{entries_bound, put_length_some, put_length_none}
use Rattle.world_table.proofs.table.Table.with_shared.Goals as goal
use Rattle.world_table.proofs.table.Table.with_shared.Goals.{in-Some, in-None}

pub overflow_add-count : goal.overflow_add-count
overflow_add-count g c = let most = entries_bound g.row.LEVELS _ c.self.invariant.0 c.self.invariant.1 in omega arith

pub invariant_of-result : goal.invariant_of-result
invariant_of-result g c =
    let root = c.self.inside.root in
    let es = root.entries in
    let made = put_branch g.row.LEVELS c.args.key c.args.value.value root c.in_ok-root.root c.self.invariant.1 c.in_ok-root.ensures.height c.in_ok-root.ensures.entries in
    let found = c.get_shared.ensures ∙ ap (λ (t : Contents g.row.R.Denot). find nat_cmp c.args.key t.entries) (sym c.self.view_is) in
    let key : c.args.key % reach g.row.LEVELS ≡ c.args.key = mod-eq_of_lt c.requires in
    let put_is : c.in_ok-root.root.entries ≡ put nat_cmp c.args.key c.args.value.value es = rw key at c.in_ok-root.ensures.entries in
    let count : c.match-get_shared.count ≡ length (put nat_cmp c.args.key c.args.value.value es) =
    elim c.match-get_shared.branch [
      | in-Some w ↦ w.count-is ∙ c.self.invariant.2 ∙ sym (put_length_some g.row.LEVELS _ _ root _ _ _ c.self.invariant.1 w.in-Some.is found)
      | in-None w ↦ w.count-is ∙ ap (λ (n : ℕ). n + 1) c.self.invariant.2 ∙ sym (put_length_none g.row.LEVELS _ _ root _ _ c.self.invariant.1 w.in-None.is found)
    ] in
    (c.self.invariant.0, made, count ∙ ap length (sym put_is))

pub returns-clause-entries : goal.returns-clause-entries
returns-clause-entries g c =
    let key : c.args.key % reach g.row.LEVELS ≡ c.args.key = mod-eq_of_lt c.requires in
    rw key at c.in_ok-root.ensures.entries ∙ ap (λ (t : Contents g.row.R.Denot). put nat_cmp c.args.key c.args.value.value t.entries) c.self.view_is

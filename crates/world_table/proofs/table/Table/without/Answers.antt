use Rattle.std.proofs.Common.{◌≡◌, ℕ, ◌-◌, is_some, sym, ◌∙◌, ap, length}
use Rattle.std.specs.Ordering.{nat_cmp}
use Rattle.std.specs.FinMap.{find}
use Rattle.world_table.specs.Branch.{Branch}
use Rattle.world_table.specs.Contents.{Contents}
use Rattle.world_table.specs.Entries.{without}
use Rattle.world_table.proofs.Rows.{without_branch}
use Rattle.world_table.proofs.Rising.{without_absent}
use Rattle.world_table.proofs.Roots.{without_root, without_length_some, found_within}
use Rattle.world_table.proofs.table.Table.without.Goals as goal

pub returns-in_ok-share-in-None-clause-entries : goal.returns-in_ok-share-in-None-clause-entries
returns-in_ok-share-in-None-clause-entries g c =
    ap (λ (b : Branch g.row.R.Denot). b.entries) c.in_ok-share-in-None.ensures
    ∙ ap (λ (t : Contents g.row.R.Denot). t.entries) c.self.view_is
    ∙ sym (without_absent c.args.key c.args.self.now.entries (sym c.in-None.ensures))

pub invariant_of-result-in-Some : goal.invariant_of-result-in-Some
invariant_of-result-in-Some g c =
    let root = c.self.inside.root in
    let made = c.in_ok-root-in-Some.ensures in
    let found = c.in-Some.ensures ∙ ap (λ (t : Contents g.row.R.Denot). find nat_cmp c.args.key t.entries) (sym c.self.view_is) in
    let within = found_within g.row.LEVELS c.args.key _ root c.self.invariant.1 found in
    let is : c.in_ok-root-in-Some.root.entries ≡ without c.args.key root.entries = made.entries ∙ without_root g.row.LEVELS c.args.key root c.self.invariant.1 within in (
      c.self.invariant.0,
      without_branch g.row.LEVELS _ root c.in_ok-root-in-Some.root c.self.invariant.1 made.height made.lower made.entries,
      ap (λ (n : ℕ). n - 1) c.self.invariant.2 ∙ sym (without_length_some g.row.LEVELS c.args.key root c.self.invariant.1 (ap is_some (sym found))) ∙ ap length (sym is),
    )

pub returns-in_ok-root-in-Some-clause-entries : goal.returns-in_ok-root-in-Some-clause-entries
returns-in_ok-root-in-Some-clause-entries g c =
    let root = c.self.inside.root in
    let found = c.in-Some.ensures ∙ ap (λ (t : Contents g.row.R.Denot). find nat_cmp c.args.key t.entries) (sym c.self.view_is) in
    let within = found_within g.row.LEVELS c.args.key _ root c.self.invariant.1 found in
    c.in_ok-root-in-Some.ensures.entries ∙ without_root g.row.LEVELS c.args.key root c.self.invariant.1 within ∙ ap (λ (t : Contents g.row.R.Denot). without c.args.key t.entries) c.self.view_is

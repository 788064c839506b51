use Rattle.std.proofs.Common.{sym, ◌∙◌, ◌<◌, ◌≤◌, ⊎_elim, ap, refl}
use Rattle.std.proofs.lemmas.Bool.{cases_lt}
use Rattle.std.specs.Ordering.{nat_cmp}
use Rattle.std.specs.FinMap.{find}
use Rattle.world_table.specs.Branch.{reach}
use Rattle.world_table.specs.Contents.{Contents}
use Rattle.world_table.proofs.Roots.{find_root, find_beyond}
use Rattle.world_table.proofs.table.Table.get_shared.Goals as goal

pub returns-then-fits : goal.returns-then-fits
returns-then-fits g c =
    c.get.ensures
    ∙ find_root g.row.LEVELS c.args.key _ c.self.invariant.1 (c.if-fits.ensures.0 refl)
    ∙ ap (λ (t : Contents g.row.R.Denot). find nat_cmp c.args.key t.entries) c.self.view_is

pub returns-else-fits : goal.returns-else-fits
returns-else-fits g c =
    let beyond : reach g.row.LEVELS ≤ c.args.key =
    ⊎_elim (λ (p : c.args.key < reach g.row.LEVELS). absurd (let no = c.if-fits.ensures.1 p in cc)) (λ (p : reach g.row.LEVELS ≤ c.args.key). p) (cases_lt c.args.key (reach g.row.LEVELS)) in
    sym (find_beyond g.row.LEVELS c.args.key _ c.self.invariant.1 beyond)
    ∙ ap (λ (t : Contents g.row.R.Denot). find nat_cmp c.args.key t.entries) c.self.view_is

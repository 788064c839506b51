use Rattle.std.proofs.Common.{◌*◌}
use Rattle.world_table.proofs.Roots.{fits_decides}
use Rattle.world_table.proofs.table.Table.fits.Goals as goal

pub returns : goal.returns
returns g c = fits_decides c.args.key (5 * g.row.LEVELS)

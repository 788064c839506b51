use Rattle.std.proofs.Common.{◌<◌, arith, get_or, length}
use Rattle.std.proofs.lemmas.List.{get_or_default}
use Rattle.moo_program.specs.declared.instruction.Part.{Part}
use Rattle.local_code.proofs.Wanting.{place_known}
use Rattle.local_code.proofs.moo_stores.wanted.part_among.Goals as goal

pub returns-then-parts-at : goal.returns-then-parts-at
returns-then-parts-at c after =
    let parts = c.args.parts.now in
    let at = c.partition_point-at.result in
    let first : Part = record { number = 0; place = 0 } in
    let part : Part = get_or parts at first in
    let small : at < length parts = omega arith in
    place_known parts at c.args.number part c.requires small (get_or_default parts at first part small) c.if-parts-at.true after

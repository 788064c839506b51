use Rattle.object_lines.proofs.FieldKinds.{other_items}
use Rattle.object_lines.proofs.link.held_items.Goals.{in_default-via-then-items-lt3, in_default-via-else-items-lt3+else-items-lt4}
use Rattle.std.proofs.Common.{arith}
use Rattle.object_lines.proofs.link.held_items.Goals as goal

pub returns-in_default-clause-tells : goal.returns-in_default-clause-tells
returns-in_default-clause-tells c = other_items c.args.items.now (elim c.in_default.branch [ in_default-via-then-items-lt3 w ↦ (λ k. grind arith) | in_default-via-else-items-lt3+else-items-lt4 w ↦ (λ k. grind arith) ])

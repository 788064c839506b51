use Rattle.std.proofs.Common.{◌≡◌, ◌∙◌, length, ap, arith}
use Rattle.moo_code.specs.Slots.{slot_of}
use Rattle.moo_program.specs.Names.{known}
use Rattle.moo_program.proofs.Slots.{slot_named}
use Rattle.moo_program.proofs.names.Names.slot.Goals as goal

pub returns-then-place-len : goal.returns-then-place-len
returns-then-place-len c =
    slot_named c.args.self.now c.args.name.now c.place-place.result (c.place-place.ensures ∙ ap (slot_of (known c.args.self.now)) c.as_str.ensures)
    (omega (arith, c.if-place-len.true, c.self.inside.list.ok.0, ap length c.self.view_is))

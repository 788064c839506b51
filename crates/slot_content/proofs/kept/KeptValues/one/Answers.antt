use Rattle.std.proofs.Common.{◌≡◌, Some}
use Rattle.spec_faults.specs.Literals.{value_of}
use Rattle.slot_content.proofs.Pieces.{read_back}
use Rattle.slot_content.proofs.kept.KeptValues.one.Goals as goal

pub returns-in-Some : goal.returns-in-Some
returns-in-Some c =
    let read : value_of c.literal.result.now ≡ Some c.in-Some.value = cc (c.as_bytes.ensures.value, c.in_ok-found.ensures.fault, c.in-Some.is) in
    read_back _ _ _ _ c.requires c.literal.ensures read

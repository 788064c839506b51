use Rattle.std.proofs.Common.{◌≡◌, ◌≤◌, ◌<◌, ◌+◌, ◌∙◌, ◌++◌, [], ◌∷◌, length, sym, ap, arith}
use Rattle.moo_code.specs.Slots.{slot_of}
use Rattle.moo_code.specs.Names.{with_names}
use Rattle.moo_program.specs.Names.{known}
use Rattle.moo_program.proofs.Slots.{mention_known, mention_new, absent, places_next}
use Rattle.moo_program.proofs.names.Names.mention.Goals as goal

pub returns-then-place-len : goal.returns-then-place-len
returns-then-place-len c =
    let slot = c.place.ensures ∙ ap (slot_of (known c.args.self.now)) c.as_str-text.ensures in
    sym (mention_known c.args.self.now c.args.name.now (omega (arith, slot, c.self.inside.list.ok.0, ap length c.self.view_is)))

pub invariant_of-self-in-Ok : goal.invariant_of-self-in-Ok
invariant_of-self-in-Ok c =
    let names = c.self.inside.list.items in
    let slot = c.place.ensures ∙ ap (slot_of (known c.args.self.now)) c.as_str-text.ensures ∙ ap (λ ns. slot_of (known ns) c.args.name.now) (sym c.self.view_is) in
    let new = absent names c.args.name.now (omega (arith, slot, c.self.inside.list.ok.0)) in
    places_next names c.push.new.self.items c.args.name.now c.in_ok-clone.field-0 c.as_str-text.result.now c.self.inside.places c.insert.new.self c.len-place.result c.self.invariant
    (omega (arith, c.self.inside.list.ok.0)) c.in_ok-push.ensures.items c.in_ok-clone.ensures.cases c.as_str-text.ensures new c.in-Ok.ensures.updates

pub returns-in-Ok : goal.returns-in-Ok
returns-in-Ok c =
    let names = c.self.inside.list.items in
    let slot = c.place.ensures ∙ ap (slot_of (known c.args.self.now)) c.as_str-text.ensures ∙ ap (λ ns. slot_of (known ns) c.args.name.now) (sym c.self.view_is) in
    ap known (c.in_ok-push.ensures.items ∙ ap (λ t. names ++ t ∷ []) c.in_ok-clone.ensures.cases)
    ∙ sym (mention_new names c.args.name.now (omega (arith, slot, c.self.inside.list.ok.0)))
    ∙ ap (λ ns. with_names (known ns) (c.args.name.now ∷ [])) c.self.view_is

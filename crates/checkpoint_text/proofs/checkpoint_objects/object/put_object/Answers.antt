use Rattle.std.proofs.Common.{◌≡◌, ℤ, ◌++◌, List, subst, ◌∙◌, w32}
use Rattle.std.proofs.lemmas.Int.{to_z-of_z}
use Rattle.spec_world.specs.World.{Header, Verb}
use Rattle.spec_world.specs.Checkpoint.{slot_lines, verb_lines, with_line_ends}
use Rattle.checkpoint_text.specs.CheckpointObjectsLines.{name_lines, owner_lines, location_lines}
use Rattle.checkpoint_text.proofs.CheckpointObjectsWholes.{object_written}
use Rattle.checkpoint_text.proofs.checkpoint_objects.object.put_object.Goals as goal

pub returns : goal.returns
returns c =
    let number = to_z-of_z w32 c.args.number c.ranges.number in
    object_written c.args.draft.now c.args.number c.args.object.now
    c.args.page.now c.put_name.new.page c.put_owner.new.page c.put_location.new.page c.put_family.new.page c.put_own.new.page c.put_slots.new.page c.put_verbs.new.page
    (subst (λ (h : Header). c.put_name.new.page ≡ c.args.page.now ++ with_line_ends (name_lines c.args.number h)) c.header.ensures (rw number at c.in_ok-put_name.ensures))
    (subst (λ (h : Header). c.put_owner.new.page ≡ c.put_name.new.page ++ with_line_ends (owner_lines h)) c.header-2.ensures c.in_ok-put_owner.ensures)
    (subst (λ (h : Header). c.put_location.new.page ≡ c.put_owner.new.page ++ with_line_ends (location_lines h)) c.header-3.ensures c.in_ok-put_location.ensures)
    c.in_ok-put_family.ensures c.in_ok-put_own.ensures (subst (λ (n : ℤ). c.put_slots.new.page ≡ c.put_own.new.page ++ with_line_ends (slot_lines c.args.draft.now n)) number c.in_ok-put_slots.ensures)
    (subst (λ (vs : List Verb). c.put_verbs.new.page ≡ c.put_slots.new.page ++ with_line_ends (verb_lines vs)) (c.as_slice.ensures ∙ c.verbs.ensures) c.in_ok-put_verbs.ensures)

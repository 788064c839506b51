use Rattle.std.proofs.Common.{◌≡◌, ◌∙◌, rules, w32, SFits, to_z, of_z, [], ◌∷◌, refl, codes}
use Rattle.spec_world.specs.Checkpoint.{fields, object_text}
use Rattle.object_lines.proofs.ObjectParts.{naming_name, naming_owner, naming_parent, naming_location}
use Rattle.std.proofs.lemmas.Int.{to_z-of_z}
use Rattle.std.proofs.lemmas.Result.{err_from_is_err_and}
use Rattle.checkpoint_lines.proofs.Giving.{gives_passed}
use Rattle.checkpoint_lines.proofs.Going.{passed_on, first_fails, later_fails, then_goes}
use Rattle.object_lines.proofs.Families.{name_line, owner_line, parent_line, location_line}
use Rattle.object_lines.specs.ObjectAwaited.{naming_awaited}
use Rattle.object_lines.proofs.header.next_naming.Goals as goal

pub returns-in_err-name : goal.returns-in_err-name
returns-in_err-name c = record {
  reads = λ h rest k l.
      let memory = c.in_err-name.ensures.reads h.name (fields (codes "owner" ∷ object_text h.owner ∷ []) ∷ fields (codes "parent" ∷ object_text h.parent ∷ []) ∷ fields (codes "location" ∷ object_text h.location ∷ []) ∷ rest) refl (naming_name h k) l in
      let passed = err_from_is_err_and c.from_residual.result c.from_residual.ensures.1 in
      gives_passed c.from_residual.result passed.0 _ passed.1 (cc (passed.2, memory));
  tells = let passed = err_from_is_err_and c.from_residual.result c.from_residual.ensures.1 in passed_on c.from_residual.result passed.0 c.in_err-name.field-0.0 c.args.lines.now _ naming_awaited (λ _. []) passed.1 passed.2 (first_fails c.in_err-name.field-0.0 c.args.lines.now (name_line ∷ []) (owner_line ∷ parent_line ∷ location_line ∷ []) c.in_err-name.ensures.tells);
}

pub returns-in_err-owner : goal.returns-in_err-owner
returns-in_err-owner c = record {
  reads = λ h rest k l.
      let name = c.in_ok-name.ensures.reads h.name (fields (codes "owner" ∷ object_text h.owner ∷ []) ∷ fields (codes "parent" ∷ object_text h.parent ∷ []) ∷ fields (codes "location" ∷ object_text h.location ∷ []) ∷ rest) refl (naming_name h k) l in
      let memory = c.in_err-owner.ensures.reads h.owner (fields (codes "parent" ∷ object_text h.parent ∷ []) ∷ fields (codes "location" ∷ object_text h.location ∷ []) ∷ rest) refl (naming_owner h k) name.1 in
      let passed = err_from_is_err_and c.from_residual-in_err-owner.result c.from_residual-in_err-owner.ensures.1 in
      gives_passed c.from_residual-in_err-owner.result passed.0 _ passed.1 (cc (passed.2, memory));
  tells = let so_1 = c.in_ok-name.ensures.tells in let passed = err_from_is_err_and c.from_residual-in_err-owner.result c.from_residual-in_err-owner.ensures.1 in passed_on c.from_residual-in_err-owner.result passed.0 c.in_err-owner.field-0.0 c.args.lines.now _ naming_awaited (λ _. []) passed.1 passed.2 (later_fails c.in_err-owner.field-0.0 (name_line ∷ []) (owner_line ∷ []) (parent_line ∷ location_line ∷ []) so_1 c.in_err-owner.ensures.tells);
}

pub returns-in_err-parent : goal.returns-in_err-parent
returns-in_err-parent c = record {
  reads = λ h rest k l.
      let name = c.in_ok-name.ensures.reads h.name (fields (codes "owner" ∷ object_text h.owner ∷ []) ∷ fields (codes "parent" ∷ object_text h.parent ∷ []) ∷ fields (codes "location" ∷ object_text h.location ∷ []) ∷ rest) refl (naming_name h k) l in
      let owner = c.in_ok-owner.ensures.reads h.owner (fields (codes "parent" ∷ object_text h.parent ∷ []) ∷ fields (codes "location" ∷ object_text h.location ∷ []) ∷ rest) refl (naming_owner h k) name.1 in
      let memory = c.in_err-parent.ensures.reads h.parent (fields (codes "location" ∷ object_text h.location ∷ []) ∷ rest) refl (naming_parent h k) owner.1 in
      let passed = err_from_is_err_and c.from_residual-in_err-parent.result c.from_residual-in_err-parent.ensures.1 in
      gives_passed c.from_residual-in_err-parent.result passed.0 _ passed.1 (cc (passed.2, memory));
  tells = let so_1 = c.in_ok-name.ensures.tells in let so_2 = then_goes (name_line ∷ []) [] (owner_line ∷ []) [] so_1 c.in_ok-owner.ensures.tells in let passed = err_from_is_err_and c.from_residual-in_err-parent.result c.from_residual-in_err-parent.ensures.1 in passed_on c.from_residual-in_err-parent.result passed.0 c.in_err-parent.field-0.0 c.args.lines.now _ naming_awaited (λ _. []) passed.1 passed.2 (later_fails c.in_err-parent.field-0.0 (name_line ∷ owner_line ∷ []) (parent_line ∷ []) (location_line ∷ []) so_2 c.in_err-parent.ensures.tells);
}

pub returns-in_err-location : goal.returns-in_err-location
returns-in_err-location c = record {
  reads = λ h rest k l.
      let name = c.in_ok-name.ensures.reads h.name (fields (codes "owner" ∷ object_text h.owner ∷ []) ∷ fields (codes "parent" ∷ object_text h.parent ∷ []) ∷ fields (codes "location" ∷ object_text h.location ∷ []) ∷ rest) refl (naming_name h k) l in
      let owner = c.in_ok-owner.ensures.reads h.owner (fields (codes "parent" ∷ object_text h.parent ∷ []) ∷ fields (codes "location" ∷ object_text h.location ∷ []) ∷ rest) refl (naming_owner h k) name.1 in
      let parent = c.in_ok-parent.ensures.reads h.parent (fields (codes "location" ∷ object_text h.location ∷ []) ∷ rest) refl (naming_parent h k) owner.1 in
      let memory = c.in_err-location.ensures.reads h.location rest refl (naming_location h k) parent.1 in
      let passed = err_from_is_err_and c.from_residual-in_err-location.result c.from_residual-in_err-location.ensures.1 in
      gives_passed c.from_residual-in_err-location.result passed.0 _ passed.1 (cc (passed.2, memory));
  tells = let so_1 = c.in_ok-name.ensures.tells in let so_2 = then_goes (name_line ∷ []) [] (owner_line ∷ []) [] so_1 c.in_ok-owner.ensures.tells in let so_3 = then_goes (name_line ∷ owner_line ∷ []) [] (parent_line ∷ []) [] so_2 c.in_ok-parent.ensures.tells in let passed = err_from_is_err_and c.from_residual-in_err-location.result c.from_residual-in_err-location.ensures.1 in passed_on c.from_residual-in_err-location.result passed.0 c.in_err-location.field-0.0 c.args.lines.now _ naming_awaited (λ _. []) passed.1 passed.2 (later_fails c.in_err-location.field-0.0 (name_line ∷ owner_line ∷ parent_line ∷ []) (location_line ∷ []) [] so_3 c.in_err-location.ensures.tells);
}

pub returns : goal.returns
returns c = record {
  reads = λ h rest k l.
      let name = c.in_ok-name.ensures.reads h.name (fields (codes "owner" ∷ object_text h.owner ∷ []) ∷ fields (codes "parent" ∷ object_text h.parent ∷ []) ∷ fields (codes "location" ∷ object_text h.location ∷ []) ∷ rest) refl (naming_name h k) l in
      let owner = c.in_ok-owner.ensures.reads h.owner (fields (codes "parent" ∷ object_text h.parent ∷ []) ∷ fields (codes "location" ∷ object_text h.location ∷ []) ∷ rest) refl (naming_owner h k) name.1 in
      let parent = c.in_ok-parent.ensures.reads h.parent (fields (codes "location" ∷ object_text h.location ∷ []) ∷ rest) refl (naming_parent h k) owner.1 in
      let location = c.in_ok-location.ensures.reads h.location rest refl (naming_location h k) parent.1 in
      let owner_fits : SFits w32 c.in_ok-owner.owner = search rules in
      let owner_is : to_z w32 (of_z w32 c.in_ok-owner.owner) ≡ h.owner = to_z-of_z w32 c.in_ok-owner.owner owner_fits ∙ owner.0 in
      let parent_fits : SFits w32 c.in_ok-parent.parent = search rules in
      let parent_is : to_z w32 (of_z w32 c.in_ok-parent.parent) ≡ h.parent = to_z-of_z w32 c.in_ok-parent.parent parent_fits ∙ parent.0 in
      let location_fits : SFits w32 c.in_ok-location.location = search rules in
      let location_is : to_z w32 (of_z w32 c.in_ok-location.location) ≡ h.location = to_z-of_z w32 c.in_ok-location.location location_fits ∙ location.0 in
      (record { name = name.0; owner = owner_is; parent = parent_is; location = location_is }, location.1);
  tells = let so_1 = c.in_ok-name.ensures.tells in let so_2 = then_goes (name_line ∷ []) [] (owner_line ∷ []) [] so_1 c.in_ok-owner.ensures.tells in let so_3 = then_goes (name_line ∷ owner_line ∷ []) [] (parent_line ∷ []) [] so_2 c.in_ok-parent.ensures.tells in let so_4 = then_goes (name_line ∷ owner_line ∷ parent_line ∷ []) [] (location_line ∷ []) [] so_3 c.in_ok-location.ensures.tells in so_4;
}

use Rattle.std.proofs.Common.{◌≡◌, ◌+◌, ◌++◌, List, Some, [], ◌∷◌, map, reverse, sym, ap, subst, ◌∙◌}
use Rattle.std.proofs.lemmas.List.{reverse-append}
use Rattle.spec_world.specs.World.{World}
use Rattle.spec_world.specs.Questions.{put_record}
use Rattle.named_objects.specs.declared.record.ObjectRecord.{ObjectRecord}
use Rattle.named_objects.specs.Told.{told}
use Rattle.draft_objects.proofs.Puts.{Stands, next_object}
use Rattle.draft_objects.proofs.put_each.Goals as goal

popped : (old new : List ObjectRecord) (x : ObjectRecord) → old ≡ new ++ x ∷ [] → reverse old ≡ x ∷ reverse new
popped old new x e = ap reverse e ∙ reverse-append new (x ∷ [])

pub putting-preserved : goal.putting-preserved
putting-preserved c = λ w are names none.
    let l = c.putting in
    let s = l.invariant w are names none in
    let steps : reverse l.records.items ≡ c.in-Some.record ∷ reverse c.pop.new.self.items = popped l.records.items c.pop.new.self.items c.in-Some.record (rw c.in-Some.is at c.pop.ensures.items) in
    let stands : Stands w s.0 (c.in-Some.record ∷ reverse c.pop.new.self.items) (c.in-Some-first_names.names.now ∷ c.in-Some-first_names.rest.now) =
    record { records = ap (map told) (sym steps) ∙ s.2.records; names_left = sym c.in-Some-first_names.ensures ∙ s.2.names_left } in
    let n = next_object w s.0 c.in-Some.record (reverse c.pop.new.self.items) c.in-Some-first_names.names.now c.in-Some-first_names.rest.now are.well_formed stands in
    let put = c.in_ok-put_one.ensures w n.number n.object are.well_formed n.there n.is_told n.is_named in
    let room : reverse c.pop.new.self.items ≡ reverse c.let_room_go.new.records.items = sym (ap reverse c.let_room_go.ensures) in (
      s.0 + 1,
      put ∙ ap (λ (d : World). record d { objects = put_record d.objects n.number (Some n.object) }) s.1 ∙ ap (λ es. record (c.args.draft.now) { objects = es }) n.put,
      subst (λ rs. Stands w (s.0 + 1) rs c.in-Some-first_names.rest.now) room n.later,
    )

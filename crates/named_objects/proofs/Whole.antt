-- A record with the names of its slots is its object.
use Rattle.std.proofs.Common.{◌≡◌, ℤ, List, [], Some, Result, Ok, Err, IfOk, ap, ◌∙◌}
use Rattle.spec_value.specs.Datum.{Text}
use Rattle.spec_value.specs.Table.{Named}
use Rattle.spec_world.specs.World.{World, Object, Slot, Verb, object_at}
use Rattle.spec_world.specs.WellFormed.{IsWellFormed}
use Rattle.named_objects.specs.declared.record.ObjectRecord.{ObjectRecord}
use Rattle.named_objects.specs.Told.{Told, told, shown_object, object_names, all_named}
use Rattle.named_objects.proofs.SlotsNamed.{slots_are_those}

pub ok_more : {A E : Type 0} (r : Result A E) (P Q : A → Type 0) → IfOk r P → ((x : A) → P x → Q x) → IfOk r Q
ok_more (Ok x) P Q h f = f x h
ok_more (Err e) P Q h f = tt

abbrev pub object_of : ObjectRecord → Named Slot → List Verb → Object
object_of r slots verbs =
    record { header = r.header; children = r.lists.children.items; contents = r.lists.contents.items; defines = r.lists.defines.items; slots = slots; verbs = verbs }

pub object_is : (w : World) (o : ℤ) (x : Object) (r : ObjectRecord) (names : List Text) (slots : Named Slot) (verbs : List Verb) → IsWellFormed w → object_at w o ≡ Some x → told r ≡ shown_object w (o, x)
    → names ≡ object_names w o → slots ≡ all_named [] names r.slots.items → verbs ≡ r.verbs.items → object_of r slots verbs ≡ x
object_is w o x r names slots verbs h is told_so named all kept =
    let header = ap (λ (t : Told). t.header) told_so in
    let children = ap (λ (t : Told). t.children) told_so in
    let contents = ap (λ (t : Told). t.contents) told_so in
    let defines = ap (λ (t : Told). t.defines) told_so in
    let found = ap (λ (t : Told). t.slots) told_so in
    let own : verbs ≡ x.verbs = kept ∙ ap (λ (t : Told). t.verbs) told_so in
    let by_name : slots ≡ x.slots = all ∙ (λ i. all_named [] (named i) (found i)) ∙ (slots_are_those w o x h is).1 in
    λ i. record { header = header i; children = children i; contents = contents i; defines = defines i; slots = by_name i; verbs = own i }

use Rattle.std.proofs.Common.{◌≡◌, ◌<◌, ◌≤◌, ℤ, length, map, ap, ◌∙◌, arith, Vec, Global}
use Rattle.moo_value.specs.declared.text.Text.{Text}
use Rattle.spec_world.specs.World.{Object}
use Rattle.named_objects.specs.Told.{object_names}
use Rattle.named_objects.proofs.Records.{entry_here, all_taken, one_more, some_is, none_is}
use Rattle.named_objects.proofs.family.gathered.Goals as goal

pub loop-place-preserved : goal.loop-place-preserved
loop-place-preserved c = λ w are leads.
    let lt : c.loop-place.place < length c.args.records.now = omega arith in
    let e = entry_here w c.args.records.now c.loop-place.place are lt in
    one_more _ c.loop-place.all.items c.push.new.self.items w.objects c.loop-place.place c.in_ok-names-in-Some.names e.0 c.in_ok-push-in-Some.ensures.items e.1 (c.loop-place.invariant w are leads)
    (c.in_ok-names-in-Some.ensures ∙ some_is c.in_ok-names.names c.in-Some.names (λ (v : Vec Text Global). v.items ≡ object_names w (e.0).0) c.in-Some.is (c.in_ok-names.ensures w (e.0).0 (e.0).1 are leads e.1))

pub returns-in-None : goal.returns-in-None
returns-in-None c = λ w are leads.
    let lt : c.loop-place.place < length c.args.records.now = omega arith in
    let e = entry_here w c.args.records.now c.loop-place.place are lt in
    none_is c.in_ok-names.names (λ (v : Vec Text Global). v.items ≡ object_names w (e.0).0) c.in-None.is (c.in_ok-names.ensures w (e.0).0 (e.0).1 are leads e.1)

pub returns : goal.returns
returns c = λ w are leads.
    let le : length c.args.records.now ≤ c.loop-place.place = omega arith in
    c.loop-place.invariant w are leads ∙ ap (map (λ (e : ℤ × Object). object_names w e.0)) (all_taken w c.args.records.now c.loop-place.place are le)

use Rattle.std.proofs.Common.{◌≡◌, ap, refl, ℤ, pos, Option, Some, length, w32, to_z, of_z, arith, rules}
use Rattle.spec_value.specs.Datum.{Datum, Text, integer, object, text, list}
use Rattle.moo_task.proofs.Beginning.{all_seventeen}
use Rattle.moo_task.proofs.begin.put_first.Goals as goal

pub returns : goal.returns
returns c args h =
    let player : to_z w32 (of_z w32 c.args.player) ≡ c.args.player = search rules in
    let s1 : c.argstr.result.now ≡ c.args.start.now.argstr = c.argstr.ensures in
    let s2 : (to_z w32 (of_z w32 c.call.inside.caller)) ≡ c.args.call.now.caller = search rules in
    let s3 : (to_z w32 (of_z w32 c.dobj.result)) ≡ c.args.start.now.dobj = search rules in
    let s4 : c.dobjstr.result.now ≡ c.args.start.now.dobjstr = c.dobjstr.ensures in
    let s7 : (to_z w32 (of_z w32 c.iobj.result)) ≡ c.args.start.now.iobj = search rules in
    let s8 : c.iobjstr.result.now ≡ c.args.start.now.iobjstr = c.iobjstr.ensures in
    let s13 : c.prepstr.result.now ≡ c.args.start.now.prepstr = c.prepstr.ensures in
    let s15 : (to_z w32 (of_z w32 c.call.inside.this)) ≡ c.args.call.now.this = search rules in
    let s16 : c.call.inside.verb ≡ c.args.call.now.verb = search rules in
    let many : length c.put_text-5.new.row ≡ 17 = omega (arith, c.requires, c.put.ensures.length, c.in_ok-put_text.ensures.length, c.put_object.ensures.length, c.put_object-2.ensures.length, c.in_ok-put_text-2.ensures.length, c.put_integer.ensures.length, c.put_integer-2.ensures.length, c.put_object-3.ensures.length, c.in_ok-put_text-3.ensures.length, c.put_integer-3.ensures.length, c.put_integer-4.ensures.length, c.put_integer-5.ensures.length, c.put_object-4.ensures.length, c.in_ok-put_text-4.ensures.length, c.put_integer-6.ensures.length, c.put_object-5.ensures.length, c.in_ok-put_text-5.ensures.length) in
    all_seventeen {X = Option Datum} c.args.row.now c.put.new.row c.put_text.new.row c.put_object.new.row c.put_object-2.new.row c.put_text-2.new.row c.put_integer.new.row c.put_integer-2.new.row c.put_object-3.new.row c.put_text-3.new.row c.put_integer-3.new.row c.put_integer-4.new.row c.put_integer-5.new.row c.put_object-4.new.row c.put_text-4.new.row c.put_integer-6.new.row c.put_object-5.new.row c.put_text-5.new.row
    (Some c.args.arguments) (Some (text c.argstr.result.now)) (Some (object (to_z w32 (of_z w32 c.call.inside.caller)))) (Some (object (to_z w32 (of_z w32 c.dobj.result)))) (Some (text c.dobjstr.result.now)) (Some (integer (pos 3))) (Some (integer (pos 0))) (Some (object (to_z w32 (of_z w32 c.iobj.result)))) (Some (text c.iobjstr.result.now)) (Some (integer (pos 4))) (Some (integer (pos 0))) (Some (integer (pos 1))) (Some (object (to_z w32 (of_z w32 c.args.player)))) (Some (text c.prepstr.result.now)) (Some (integer (pos 2))) (Some (object (to_z w32 (of_z w32 c.call.inside.this)))) (Some (text c.call.inside.verb))
    (Some (list args)) (Some (text c.args.start.now.argstr)) (Some (object c.args.call.now.caller)) (Some (object c.args.start.now.dobj)) (Some (text c.args.start.now.dobjstr)) (Some (integer (pos 3))) (Some (integer (pos 0))) (Some (object c.args.start.now.iobj)) (Some (text c.args.start.now.iobjstr)) (Some (integer (pos 4))) (Some (integer (pos 0))) (Some (integer (pos 1))) (Some (object c.args.player)) (Some (text c.args.start.now.prepstr)) (Some (integer (pos 2))) (Some (object c.args.call.now.this)) (Some (text c.args.call.now.verb))
    c.put.ensures.front (ap (λ (v : Datum). Some v) h) c.in_ok-put_text.ensures.front (ap (λ (z : Text). Some (text z)) s1) c.put_object.ensures.front (ap (λ (z : ℤ). Some (object z)) s2) c.put_object-2.ensures.front (ap (λ (z : ℤ). Some (object z)) s3) c.in_ok-put_text-2.ensures.front (ap (λ (z : Text). Some (text z)) s4) c.put_integer.ensures.front refl c.put_integer-2.ensures.front refl c.put_object-3.ensures.front (ap (λ (z : ℤ). Some (object z)) s7) c.in_ok-put_text-3.ensures.front (ap (λ (z : Text). Some (text z)) s8) c.put_integer-3.ensures.front refl c.put_integer-4.ensures.front refl c.put_integer-5.ensures.front refl c.put_object-4.ensures.front (ap (λ (z : ℤ). Some (object z)) player) c.in_ok-put_text-4.ensures.front (ap (λ (z : Text). Some (text z)) s13) c.put_integer-6.ensures.front refl c.put_object-5.ensures.front (ap (λ (z : ℤ). Some (object z)) s15) c.in_ok-put_text-5.ensures.front (ap (λ (z : Text). Some (text z)) s16) many

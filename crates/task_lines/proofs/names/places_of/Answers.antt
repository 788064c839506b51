use Rattle.std.proofs.Common.{subst, ap, ◌∙◌, nat_cmp}
use Rattle.std.specs.BTreeMap.{is_at}
use Rattle.std.specs.Map.{lookup}
use Rattle.std.specs.Cmp.Lexicographic.{slice_cmp}
use Rattle.std.proofs.lemmas.List.{take_all}
use Rattle.moo_program.specs.Names.{HasPlaces}
use Rattle.task_lines.proofs.NamePlaces.{next_place, none_placed}
use Rattle.task_lines.proofs.names.places_of.Goals as goal

pub loop-place-init : goal.loop-place-init
loop-place-init c = λ x. ap (λ es. lookup (is_at (λ k. slice_cmp nat_cmp x k.now)) es) c.new-places.ensures.empty ∙ none_placed x

pub loop-place-preserved : goal.loop-place-preserved
loop-place-preserved c =
    next_place c.args.own.now c.loop-place.place c.index-own-place.result c.as_str.result.now c.loop-place.places c.insert.new.self c.requires c.loop-place-test.true c.index-own-place.is c.as_str.ensures
    c.loop-place.invariant c.in_ok-insert.ensures.updates

pub returns : goal.returns
returns c = subst (λ ns. HasPlaces ns c.loop-place.places) (take_all c.loop-place.place c.args.own.now c.loop-place-test.false) c.loop-place.invariant

use Rattle.std.proofs.Common.{ap, ◌∙◌, Some}
use Rattle.std.specs.Prelude.{option_map}
use Rattle.std.specs.Str.{bytes_eq}
use Rattle.std.specs.BTreeMap.{get_by}
use Rattle.std.specs.Cmp.Lexicographic.{slice_cmp}
use Rattle.std.specs.Ordering.{nat_cmp}
use Rattle.std.proofs.lemmas.Map.Text.{btree_map_updates_str}
use Rattle.moo_task.proofs.LookedUp.{shown}
use Rattle.moo_task.proofs.moo_forks.lookup.put_value.Goals as goal

pub returns-in-Ok : goal.returns-in-Ok
returns-in-Ok c x =
    let name = c.args.name.now in
    ap (option_map (λ v. v.now)) (btree_map_updates_str name c.args.values.now c.insert.new.self (Some c.args.value) c.in-Ok.ensures.updates x)
    ∙ shown (bytes_eq name x) c.args.value (get_by (λ k. slice_cmp nat_cmp x k.now) c.args.values.now)

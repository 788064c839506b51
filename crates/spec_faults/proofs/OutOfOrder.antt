-- Links that are out of order are no well-formed world's.
use Rattle.std.proofs.Common.{◌≡◌, inr, Bool, false, List, [], ◌∷◌, ◌++◌, length, drop, IsTrue, ◌==◌, refl, ap, subst, codes}
use Rattle.std.specs.List.{list_all}
use Rattle.std.specs.Fmt.{digits}
use Rattle.spec_value.specs.Datum.{Text, in_number_range}
use Rattle.spec_value.specs.Table.{Numbered, is_numbered}
use Rattle.spec_value.proofs.Entries.{first_holds, second_holds}
use Rattle.spec_world.specs.World.{World, Link}
use Rattle.spec_world.specs.Checkpoint.{checkpoint_text, counted, link_lines, each_object, each_task, world_lines}
use Rattle.spec_checkpoint.specs.Records.{link_holds}
use Rattle.spec_checkpoint.specs.Holding.{is_number, world_holds}
use Rattle.spec_checkpoint.proofs.Lines.{whole_lines_read_once}
use Rattle.spec_checkpoint.proofs.Runs.{runs_read_once}
use Rattle.spec_checkpoint.proofs.RecordLines.{links_read_once}
use Rattle.spec_checkpoint.proofs.Unbroken.{values_have_lines}
use Rattle.spec_faults.specs.Faults.{first_fault, IsNoWorlds}
use Rattle.spec_faults.specs.Literals.{value_front}
use Rattle.spec_faults.specs.WorldRows.{out_of_order, OutOfOrder}

abbrev is_link_line : Text → Bool
is_link_line [] = false
is_link_line (c ∷ t) = c == 108

are_link_lines : (es : Numbered Link) → IsTrue (list_all is_link_line (link_lines es))
are_link_lines [] = refl
are_link_lines (e ∷ es) = are_link_lines es

abbrev behind_links : World → List Text
behind_links w = counted (codes "objects") (length w.objects) ∷ (each_object w w.objects ++ (counted (codes "tasks") (length w.tasks) ∷ (each_task w.tasks ++ codes "end" ∷ [])))

links_told : (w : World) → IsTrue (world_holds w) → world_lines w ≡ world_lines out_of_order → w.links ≡ out_of_order.links
links_told w h e =
    let later : link_lines w.links ++ behind_links w ≡ link_lines out_of_order.links ++ behind_links out_of_order = ap (λ ts. drop 5 ts) e in
    let lines = runs_read_once is_link_line (link_lines w.links) (link_lines out_of_order.links) (behind_links w) (behind_links out_of_order) (are_link_lines w.links) (are_link_lines out_of_order.links) refl refl later in
    links_read_once w.links out_of_order.links (first_holds (list_all link_holds w.links) _ (second_holds (in_number_range w.greatest) _ (second_holds (is_number w.next) _ h))) refl lines.0

no_worlds : IsNoWorlds (checkpoint_text out_of_order)
unfolding checkpoint_text
no_worlds w wf h e =
    let lines = whole_lines_read_once (world_lines w) (world_lines out_of_order) (values_have_lines w h) (values_have_lines out_of_order refl) e in
    let order : IsTrue (is_numbered out_of_order.links) = subst (λ es. IsTrue (is_numbered es)) (links_told w h lines) wf.links_in_order in
    cc

pub links_out_of_order : OutOfOrder
unfolding first_fault checkpoint_text digits value_front
links_out_of_order = inr (record { none = refl; kind = refl; line = refl; no_world = no_worlds })

-- Values may go to other threads, and be lent to them.
use denote.Param.Send.{IsSend, IsSync, recorded_send, recorded_sync, sendable}
use denote.Model.Goals.{has_of, part_has, both_laws, All, All-both_laws, tied_goals, send, sync}
use denote.Param.SendFields.{as_row_send, as_row_sync, declared_send, declared_sync, variants_send, variants_sync}
use denote.RattleType.{RattleType}
use denote.Struct.Field.{row_field}
use denote.Model.Cut.{split_one}
use denote.Model.Local.{Parts, rows}
use Rattle.std.proofs.Crossing.{crosses}
use Rattle.moo_value.specs.declared.value.Value.TheDeep.{the_members, member-Value, split-Value, join-Value, joins-Value, split-Node, join-Node, joins-Node}
use Rattle.moo_value.specs.declared.value.Value.TheInside.{Inside}
use Rattle.moo_value.specs.declared.value.Node.{Node}
use Rattle.std.specs.contracts.sync.Arc as Arc
use Rattle.std.specs.contracts.vec.Vec as Vec
use Rattle.std.specs.contracts.alloc.Global as Global
use Rattle.std.specs.contracts.impls.GlobalAllocator.TheImpl.{ghosts}
use Rattle.moo_value.specs.contracts.value.Value.TheKnot as knot
use Rattle.moo_value.specs.contracts.value.Value as value
use Rattle.moo_value.specs.contracts.text.Text as text
use Rattle.moo_value.specs.contracts.error.MooError as error

pub text_send : IsSend text.the_row
text_send = search (sendable, crosses) depth 60

pub text_sync : IsSync text.the_row
text_sync = search (sendable, crosses) depth 60

error_send : IsSend error.the_row
error_send = search (sendable, crosses) depth 60

error_sync : IsSync error.the_row
error_sync = search (sendable, crosses) depth 60

abbrev Values : Parts knot.frame → RattleType
Values p = Vec.the_row (rows knot.frame p member-Value) Global.the_row ghosts

abbrev Items : Parts knot.frame → RattleType
Items p = Arc.the_row (Values p) Global.the_row ghosts

values_send : (p : Parts knot.frame) → IsSend (rows knot.frame p member-Value) → IsSend (Values p)
values_send p a = search (sendable, crosses, a) depth 60

values_sync : (p : Parts knot.frame) → IsSync (rows knot.frame p member-Value) → IsSync (Values p)
values_sync p a = search (sendable, crosses, a) depth 60

items_send : (p : Parts knot.frame) → IsSend (rows knot.frame p member-Value) → IsSync (rows knot.frame p member-Value) → IsSend (Items p)
items_send p a b = let c = values_send p a in let d = values_sync p b in search (sendable, crosses, c, d) depth 60

items_sync : (p : Parts knot.frame) → IsSend (rows knot.frame p member-Value) → IsSync (rows knot.frame p member-Value) → IsSync (Items p)
items_sync p a b = let c = values_send p a in let d = values_sync p b in search (sendable, crosses, c, d) depth 60

at_node_send : (p : Parts knot.frame) → IsSend (rows knot.frame p member-Value) → IsSync (rows knot.frame p member-Value) → IsSend (knot.at-Node p)
at_node_send p a b = recorded_send _ _ _ (split_one (knot.layer-Node (rows knot.frame p member-Value)) Node split-Node join-Node joins-Node) (variants_send (knot.type-Node (rows knot.frame p member-Value)) (((search (sendable, crosses, as_row_send, text_send, error_send) depth 60), tt), (((search (sendable, crosses, as_row_send, text_send, error_send) depth 60), tt), (((search (sendable, crosses, as_row_send, text_send, error_send) depth 60), tt), (((search (sendable, crosses, as_row_send, text_send, error_send) depth 60), tt), (((search (sendable, crosses, as_row_send, text_send, error_send) depth 60), (as_row_send (row_field (Items p)) (items_send p a b), tt)), (((search (sendable, crosses, as_row_send, text_send, error_send) depth 60), tt), tt)))))))

at_value_send : (p : Parts knot.frame) → IsSend (knot.at-Node p) → IsSend (knot.at-Value p)
at_value_send p a = recorded_send _ _ _ (split_one (knot.layer-Value (knot.at-Node p)) Inside split-Value join-Value joins-Value) (declared_send (knot.type-Value (knot.at-Node p)) (as_row_send (row_field (knot.at-Node p)) a, tt))

at_node_sync : (p : Parts knot.frame) → IsSend (rows knot.frame p member-Value) → IsSync (rows knot.frame p member-Value) → IsSync (knot.at-Node p)
at_node_sync p a b = recorded_sync _ _ _ (split_one (knot.layer-Node (rows knot.frame p member-Value)) Node split-Node join-Node joins-Node) (variants_sync (knot.type-Node (rows knot.frame p member-Value)) (((search (sendable, crosses, as_row_sync, text_sync, error_sync) depth 60), tt), (((search (sendable, crosses, as_row_sync, text_sync, error_sync) depth 60), tt), (((search (sendable, crosses, as_row_sync, text_sync, error_sync) depth 60), tt), (((search (sendable, crosses, as_row_sync, text_sync, error_sync) depth 60), tt), (((search (sendable, crosses, as_row_sync, text_sync, error_sync) depth 60), (as_row_sync (row_field (Items p)) (items_sync p a b), tt)), (((search (sendable, crosses, as_row_sync, text_sync, error_sync) depth 60), tt), tt)))))))

at_value_sync : (p : Parts knot.frame) → IsSync (knot.at-Node p) → IsSync (knot.at-Value p)
at_value_sync p a = recorded_sync _ _ _ (split_one (knot.layer-Value (knot.at-Node p)) Inside split-Value join-Value joins-Value) (declared_sync (knot.type-Value (knot.at-Node p)) (as_row_sync (row_field (knot.at-Node p)) a, tt))

view_sent : (p : Parts knot.frame) → IsSend (knot.at-Value p) → IsSend (knot.view-Value p)
view_sent p a = search (sendable, a) depth 60

view_shared : (p : Parts knot.frame) → IsSync (knot.at-Value p) → IsSync (knot.view-Value p)
view_shared p a = search (sendable, a) depth 60

step_send : (p : Parts knot.frame) → ((j : the_members) → IsSend (rows knot.frame p j)) → ((j : the_members) → IsSync (rows knot.frame p j)) → (i : the_members) → IsSend (rows knot.frame (knot.step p) i)
step_send p s y member-Value = has_of knot.frame send (knot.step p) member-Value (part_has send (knot.view-Value p) (view_sent p (at_value_send p (at_node_send p (s member-Value) (y member-Value)))))

step_sync : (p : Parts knot.frame) → ((j : the_members) → IsSend (rows knot.frame p j)) → ((j : the_members) → IsSync (rows knot.frame p j)) → (i : the_members) → IsSync (rows knot.frame (knot.step p) i)
step_sync p s y member-Value = has_of knot.frame sync (knot.step p) member-Value (part_has sync (knot.view-Value p) (view_shared p (at_value_sync p (at_node_sync p (s member-Value) (y member-Value)))))

goals : All (both_laws the_members) (rows knot.frame knot.tied)
goals = tied_goals knot.frame knot.step knot.sizes (both_laws the_members) (λ p all. All-both_laws (rows knot.frame (knot.step p)) (step_send p (λ j. all (j, send)) (λ j. all (j, sync))) (step_sync p (λ j. all (j, send)) (λ j. all (j, sync))))

hole_send : IsSend knot.hole-Value
hole_send = goals (member-Value, send)

hole_sync : IsSync knot.hole-Value
hole_sync = goals (member-Value, sync)

pub value_send : IsSend value.the_row
value_send = search (sendable, crosses, text_send, text_sync, hole_send, hole_sync) depth 60

pub value_sync : IsSync value.the_row
value_sync = search (sendable, crosses, text_send, text_sync, hole_send, hole_sync) depth 60

-- Expressions may go to other threads, and be lent to them: shown of each kind of node from its parts, and then of whole trees.
use denote.Param.Send.{IsSend, IsSync, recorded_send, recorded_sync, sendable}
use denote.Model.Goals.{has_of, part_has, both_laws, All, All-both_laws, tied_goals, send, sync}
use denote.Param.SendFields.{as_row_send, as_row_sync, declared_send, declared_sync, variants_send, variants_sync}
use denote.RattleType.{RattleType}
use denote.Struct.Field.{row_field}
use denote.Model.Cut.{split_one}
use denote.Model.Local.{Parts, rows}
use Rattle.std.proofs.Crossing.{crosses}
use Rattle.std.specs.contracts.alloc.Global as Global
use Rattle.std.specs.contracts.boxed.Box as Box
use Rattle.std.specs.contracts.vec.Vec as Vec
use Rattle.std.specs.contracts.impls.GlobalAllocator.TheImpl.{ghosts}
use Rattle.moo_value.proofs.Crossing.{value_send, value_sync, text_send, text_sync}
use Rattle.moo_value.specs.contracts.operator.BinaryOperator as binary
use Rattle.moo_value.specs.contracts.operator.UnaryOperator as unary
use Rattle.moo_tree.specs.declared.expression.ExpressionNode.{ExpressionNode}
use Rattle.moo_tree.specs.declared.expression.Argument.{Argument}
use Rattle.moo_tree.specs.declared.expression.Codes.{Codes}
use Rattle.moo_tree.specs.declared.expression.Fallback.{Fallback}
use Rattle.moo_tree.specs.declared.expression.TargetNode.{TargetNode}
use Rattle.moo_tree.specs.declared.expression.Item.{Item}
use Rattle.moo_tree.specs.declared.expression.Expression.TheDeep.{the_members, member-Expression, member-Target, split-Expression, join-Expression, joins-Expression, split-ExpressionNode, join-ExpressionNode, joins-ExpressionNode, split-Argument, join-Argument, joins-Argument, split-Codes, join-Codes, joins-Codes, split-Fallback, join-Fallback, joins-Fallback, split-Target, join-Target, joins-Target, split-TargetNode, join-TargetNode, joins-TargetNode, split-Item, join-Item, joins-Item}
use Rattle.moo_tree.specs.declared.expression.Expression.TheInside.{Inside}
use Rattle.moo_tree.specs.declared.expression.Target.TheInside.{Inside as TargetInside}
use Rattle.moo_tree.specs.contracts.expression.Expression.TheKnot as knot
use Rattle.moo_tree.specs.contracts.expression.Expression as expression
use Rattle.moo_tree.specs.contracts.expression.Codes as codes

abbrev Held : Parts knot.frame → RattleType
Held p = rows knot.frame p member-Expression

abbrev Aimed : Parts knot.frame → RattleType
Aimed p = rows knot.frame p member-Target

abbrev Boxed : Parts knot.frame → RattleType
Boxed p = Box.the_row (Held p) Global.the_row ghosts

abbrev BoxedTarget : Parts knot.frame → RattleType
BoxedTarget p = Box.the_row (Aimed p) Global.the_row ghosts

abbrev Arguments : Parts knot.frame → RattleType
Arguments p = Vec.the_row (knot.at-Argument p) Global.the_row ghosts

abbrev Items : Parts knot.frame → RattleType
Items p = Vec.the_row (knot.at-Item p) Global.the_row ghosts

unary_send : IsSend unary.the_row
unary_send = search (sendable, crosses) depth 60

binary_send : IsSend binary.the_row
binary_send = search (sendable, crosses) depth 60

boxed_send : (p : Parts knot.frame) → IsSend (Held p) → IsSend (Boxed p)
boxed_send p a = search (sendable, crosses, a) depth 60

boxed_target_send : (p : Parts knot.frame) → IsSend (Aimed p) → IsSend (BoxedTarget p)
boxed_target_send p a = search (sendable, crosses, a) depth 60

at_argument_send : (p : Parts knot.frame) → IsSend (Held p) → IsSend (knot.at-Argument p)
at_argument_send p a =
    let h = as_row_send (row_field (Held p)) (a) in
    recorded_send _ _ _ (split_one (knot.layer-Argument (Held p) (Held p)) Argument split-Argument join-Argument joins-Argument)
    (variants_send (knot.type-Argument (Held p) (Held p))
    ((h, tt), ((h, tt), tt)))

arguments_send : (p : Parts knot.frame) → IsSend (Held p) → IsSend (Arguments p)
arguments_send p a = let b = at_argument_send p a in search (sendable, crosses, b) depth 60

at_codes_send : (p : Parts knot.frame) → IsSend (Held p) → IsSend (knot.at-Codes p)
at_codes_send p a =
    let v = as_row_send (row_field (Arguments p)) (arguments_send p a) in
    recorded_send _ _ _ (split_one (knot.layer-Codes (knot.at-Argument p)) Codes split-Codes join-Codes joins-Codes)
    (variants_send (knot.type-Codes (knot.at-Argument p))
    (tt, ((v, tt), tt)))

at_fallback_send : (p : Parts knot.frame) → IsSend (Held p) → IsSend (knot.at-Fallback p)
at_fallback_send p a =
    let b = as_row_send (row_field (Boxed p)) (boxed_send p a) in
    recorded_send _ _ _ (split_one (knot.layer-Fallback (Held p)) Fallback split-Fallback join-Fallback joins-Fallback)
    (variants_send (knot.type-Fallback (Held p))
    (tt, ((b, tt), tt)))

at_item_send : (p : Parts knot.frame) → IsSend (Held p) → IsSend (knot.at-Item p)
at_item_send p a =
    let h = as_row_send (row_field (Held p)) (a) in
    recorded_send _ _ _ (split_one (knot.layer-Item (Held p)) Item split-Item join-Item joins-Item)
    (variants_send (knot.type-Item (Held p))
    (((search (sendable, crosses, as_row_send, value_send, text_send, unary_send, binary_send) depth 60), tt), (((search (sendable, crosses, as_row_send, value_send, text_send, unary_send, binary_send) depth 60), tt), (((search (sendable, crosses, as_row_send, value_send, text_send, unary_send, binary_send) depth 60), tt), (((search (sendable, crosses, as_row_send, value_send, text_send, unary_send, binary_send) depth 60), (h, tt)), tt)))))

items_send : (p : Parts knot.frame) → IsSend (Held p) → IsSend (Items p)
items_send p a = let b = at_item_send p a in search (sendable, crosses, b) depth 60

at_target_node_send : (p : Parts knot.frame) → IsSend (Held p) → IsSend (Aimed p) → IsSend (knot.at-TargetNode p)
at_target_node_send p a d =
    let b = as_row_send (row_field (Boxed p)) (boxed_send p a) in
    let t = as_row_send (row_field (BoxedTarget p)) (boxed_target_send p d) in
    recorded_send _ _ _ (split_one (knot.layer-TargetNode (Held p) (Held p) (Aimed p) (Held p) (Aimed p) (Held p) (Held p)) TargetNode split-TargetNode join-TargetNode joins-TargetNode)
    (variants_send (knot.type-TargetNode (Held p) (Held p) (Aimed p) (Held p) (Aimed p) (Held p) (Held p))
    (((search (sendable, crosses, as_row_send, value_send, text_send, unary_send, binary_send) depth 60), tt), ((b, (b, tt)), ((t, (b, tt)), ((t, (b, (b, tt))), tt)))))

at_node_send : (p : Parts knot.frame) → IsSend (Held p) → IsSend (Aimed p) → IsSend (knot.at-ExpressionNode p)
at_node_send p a d =
    let b = as_row_send (row_field (Boxed p)) (boxed_send p a) in
    let c = as_row_send (row_field (knot.at-Codes p)) (at_codes_send p a) in
    let g = as_row_send (row_field (Aimed p)) (d) in
    let i = as_row_send (row_field (Items p)) (items_send p a) in
    let o = as_row_send (row_field (knot.at-Fallback p)) (at_fallback_send p a) in
    let v = as_row_send (row_field (Arguments p)) (arguments_send p a) in
    recorded_send _ _ _ (split_one (knot.layer-ExpressionNode (Held p) (Held p) (Held p) (Held p) (Held p) (Held p) (Held p) (Held p) (Held p) (Held p) (knot.at-Argument p) (knot.at-Argument p) (Held p) (Held p) (Held p) (Held p) (knot.at-Argument p) (Held p) (Held p) (Held p) (Held p) (Held p) (Held p) (knot.at-Codes p) (knot.at-Fallback p) (Aimed p) (Held p) (knot.at-Item p) (Held p)) ExpressionNode split-ExpressionNode join-ExpressionNode joins-ExpressionNode)
    (variants_send (knot.type-ExpressionNode (Held p) (Held p) (Held p) (Held p) (Held p) (Held p) (Held p) (Held p) (Held p) (Held p) (knot.at-Argument p) (knot.at-Argument p) (Held p) (Held p) (Held p) (Held p) (knot.at-Argument p) (Held p) (Held p) (Held p) (Held p) (Held p) (Held p) (knot.at-Codes p) (knot.at-Fallback p) (Aimed p) (Held p) (knot.at-Item p) (Held p))
    (((search (sendable, crosses, as_row_send, value_send, text_send, unary_send, binary_send) depth 60), tt), (((search (sendable, crosses, as_row_send, value_send, text_send, unary_send, binary_send) depth 60), tt), (tt, (((search (sendable, crosses, as_row_send, value_send, text_send, unary_send, binary_send) depth 60), (b, tt)), (((search (sendable, crosses, as_row_send, value_send, text_send, unary_send, binary_send) depth 60), (b, (b, tt))), ((b, (b, tt)), ((b, (b, tt)), ((b, (b, (b, tt))), ((v, tt), (((search (sendable, crosses, as_row_send, value_send, text_send, unary_send, binary_send) depth 60), (v, tt)), ((b, (b, tt)), ((b, (b, (v, tt))), ((b, (b, tt)), ((b, (b, (b, tt))), ((b, (c, (o, tt))), ((g, (b, tt)), ((i, (b, tt)), tt))))))))))))))))))

at_expression_send : (p : Parts knot.frame) → IsSend (knot.at-ExpressionNode p) → IsSend (knot.at-Expression p)
at_expression_send p a =
    recorded_send _ _ _ (split_one (knot.layer-Expression (knot.at-ExpressionNode p)) Inside split-Expression join-Expression joins-Expression)
    (declared_send (knot.type-Expression (knot.at-ExpressionNode p)) (as_row_send (row_field (knot.at-ExpressionNode p)) a, tt))

view_expression_send : (p : Parts knot.frame) → IsSend (knot.at-Expression p) → IsSend (knot.view-Expression p)
view_expression_send p a = search (sendable, a) depth 60

at_target_send : (p : Parts knot.frame) → IsSend (knot.at-TargetNode p) → IsSend (knot.at-Target p)
at_target_send p a =
    recorded_send _ _ _ (split_one (knot.layer-Target (knot.at-TargetNode p)) TargetInside split-Target join-Target joins-Target)
    (declared_send (knot.type-Target (knot.at-TargetNode p)) (as_row_send (row_field (knot.at-TargetNode p)) a, tt))

view_target_send : (p : Parts knot.frame) → IsSend (knot.at-Target p) → IsSend (knot.view-Target p)
view_target_send p a = search (sendable, a) depth 60

step_send : (p : Parts knot.frame) → ((j : the_members) → IsSend (rows knot.frame p j)) → (i : the_members) → IsSend (rows knot.frame (knot.step p) i)
step_send p s member-Expression =
    has_of knot.frame send (knot.step p) member-Expression
    (part_has send (knot.view-Expression p) (view_expression_send p (at_expression_send p (at_node_send p (s member-Expression) (s member-Target)))))
step_send p s member-Target =
    has_of knot.frame send (knot.step p) member-Target
    (part_has send (knot.view-Target p) (view_target_send p (at_target_send p (at_target_node_send p (s member-Expression) (s member-Target)))))

unary_sync : IsSync unary.the_row
unary_sync = search (sendable, crosses) depth 60

binary_sync : IsSync binary.the_row
binary_sync = search (sendable, crosses) depth 60

boxed_sync : (p : Parts knot.frame) → IsSync (Held p) → IsSync (Boxed p)
boxed_sync p a = search (sendable, crosses, a) depth 60

boxed_target_sync : (p : Parts knot.frame) → IsSync (Aimed p) → IsSync (BoxedTarget p)
boxed_target_sync p a = search (sendable, crosses, a) depth 60

at_argument_sync : (p : Parts knot.frame) → IsSync (Held p) → IsSync (knot.at-Argument p)
at_argument_sync p a =
    let h = as_row_sync (row_field (Held p)) (a) in
    recorded_sync _ _ _ (split_one (knot.layer-Argument (Held p) (Held p)) Argument split-Argument join-Argument joins-Argument)
    (variants_sync (knot.type-Argument (Held p) (Held p))
    ((h, tt), ((h, tt), tt)))

arguments_sync : (p : Parts knot.frame) → IsSync (Held p) → IsSync (Arguments p)
arguments_sync p a = let b = at_argument_sync p a in search (sendable, crosses, b) depth 60

at_codes_sync : (p : Parts knot.frame) → IsSync (Held p) → IsSync (knot.at-Codes p)
at_codes_sync p a =
    let v = as_row_sync (row_field (Arguments p)) (arguments_sync p a) in
    recorded_sync _ _ _ (split_one (knot.layer-Codes (knot.at-Argument p)) Codes split-Codes join-Codes joins-Codes)
    (variants_sync (knot.type-Codes (knot.at-Argument p))
    (tt, ((v, tt), tt)))

at_fallback_sync : (p : Parts knot.frame) → IsSync (Held p) → IsSync (knot.at-Fallback p)
at_fallback_sync p a =
    let b = as_row_sync (row_field (Boxed p)) (boxed_sync p a) in
    recorded_sync _ _ _ (split_one (knot.layer-Fallback (Held p)) Fallback split-Fallback join-Fallback joins-Fallback)
    (variants_sync (knot.type-Fallback (Held p))
    (tt, ((b, tt), tt)))

at_item_sync : (p : Parts knot.frame) → IsSync (Held p) → IsSync (knot.at-Item p)
at_item_sync p a =
    let h = as_row_sync (row_field (Held p)) (a) in
    recorded_sync _ _ _ (split_one (knot.layer-Item (Held p)) Item split-Item join-Item joins-Item)
    (variants_sync (knot.type-Item (Held p))
    (((search (sendable, crosses, as_row_sync, value_sync, text_sync, unary_sync, binary_sync) depth 60), tt), (((search (sendable, crosses, as_row_sync, value_sync, text_sync, unary_sync, binary_sync) depth 60), tt), (((search (sendable, crosses, as_row_sync, value_sync, text_sync, unary_sync, binary_sync) depth 60), tt), (((search (sendable, crosses, as_row_sync, value_sync, text_sync, unary_sync, binary_sync) depth 60), (h, tt)), tt)))))

items_sync : (p : Parts knot.frame) → IsSync (Held p) → IsSync (Items p)
items_sync p a = let b = at_item_sync p a in search (sendable, crosses, b) depth 60

at_target_node_sync : (p : Parts knot.frame) → IsSync (Held p) → IsSync (Aimed p) → IsSync (knot.at-TargetNode p)
at_target_node_sync p a d =
    let b = as_row_sync (row_field (Boxed p)) (boxed_sync p a) in
    let t = as_row_sync (row_field (BoxedTarget p)) (boxed_target_sync p d) in
    recorded_sync _ _ _ (split_one (knot.layer-TargetNode (Held p) (Held p) (Aimed p) (Held p) (Aimed p) (Held p) (Held p)) TargetNode split-TargetNode join-TargetNode joins-TargetNode)
    (variants_sync (knot.type-TargetNode (Held p) (Held p) (Aimed p) (Held p) (Aimed p) (Held p) (Held p))
    (((search (sendable, crosses, as_row_sync, value_sync, text_sync, unary_sync, binary_sync) depth 60), tt), ((b, (b, tt)), ((t, (b, tt)), ((t, (b, (b, tt))), tt)))))

at_node_sync : (p : Parts knot.frame) → IsSync (Held p) → IsSync (Aimed p) → IsSync (knot.at-ExpressionNode p)
at_node_sync p a d =
    let b = as_row_sync (row_field (Boxed p)) (boxed_sync p a) in
    let c = as_row_sync (row_field (knot.at-Codes p)) (at_codes_sync p a) in
    let g = as_row_sync (row_field (Aimed p)) (d) in
    let i = as_row_sync (row_field (Items p)) (items_sync p a) in
    let o = as_row_sync (row_field (knot.at-Fallback p)) (at_fallback_sync p a) in
    let v = as_row_sync (row_field (Arguments p)) (arguments_sync p a) in
    recorded_sync _ _ _ (split_one (knot.layer-ExpressionNode (Held p) (Held p) (Held p) (Held p) (Held p) (Held p) (Held p) (Held p) (Held p) (Held p) (knot.at-Argument p) (knot.at-Argument p) (Held p) (Held p) (Held p) (Held p) (knot.at-Argument p) (Held p) (Held p) (Held p) (Held p) (Held p) (Held p) (knot.at-Codes p) (knot.at-Fallback p) (Aimed p) (Held p) (knot.at-Item p) (Held p)) ExpressionNode split-ExpressionNode join-ExpressionNode joins-ExpressionNode)
    (variants_sync (knot.type-ExpressionNode (Held p) (Held p) (Held p) (Held p) (Held p) (Held p) (Held p) (Held p) (Held p) (Held p) (knot.at-Argument p) (knot.at-Argument p) (Held p) (Held p) (Held p) (Held p) (knot.at-Argument p) (Held p) (Held p) (Held p) (Held p) (Held p) (Held p) (knot.at-Codes p) (knot.at-Fallback p) (Aimed p) (Held p) (knot.at-Item p) (Held p))
    (((search (sendable, crosses, as_row_sync, value_sync, text_sync, unary_sync, binary_sync) depth 60), tt), (((search (sendable, crosses, as_row_sync, value_sync, text_sync, unary_sync, binary_sync) depth 60), tt), (tt, (((search (sendable, crosses, as_row_sync, value_sync, text_sync, unary_sync, binary_sync) depth 60), (b, tt)), (((search (sendable, crosses, as_row_sync, value_sync, text_sync, unary_sync, binary_sync) depth 60), (b, (b, tt))), ((b, (b, tt)), ((b, (b, tt)), ((b, (b, (b, tt))), ((v, tt), (((search (sendable, crosses, as_row_sync, value_sync, text_sync, unary_sync, binary_sync) depth 60), (v, tt)), ((b, (b, tt)), ((b, (b, (v, tt))), ((b, (b, tt)), ((b, (b, (b, tt))), ((b, (c, (o, tt))), ((g, (b, tt)), ((i, (b, tt)), tt))))))))))))))))))

at_expression_sync : (p : Parts knot.frame) → IsSync (knot.at-ExpressionNode p) → IsSync (knot.at-Expression p)
at_expression_sync p a =
    recorded_sync _ _ _ (split_one (knot.layer-Expression (knot.at-ExpressionNode p)) Inside split-Expression join-Expression joins-Expression)
    (declared_sync (knot.type-Expression (knot.at-ExpressionNode p)) (as_row_sync (row_field (knot.at-ExpressionNode p)) a, tt))

view_expression_sync : (p : Parts knot.frame) → IsSync (knot.at-Expression p) → IsSync (knot.view-Expression p)
view_expression_sync p a = search (sendable, a) depth 60

at_target_sync : (p : Parts knot.frame) → IsSync (knot.at-TargetNode p) → IsSync (knot.at-Target p)
at_target_sync p a =
    recorded_sync _ _ _ (split_one (knot.layer-Target (knot.at-TargetNode p)) TargetInside split-Target join-Target joins-Target)
    (declared_sync (knot.type-Target (knot.at-TargetNode p)) (as_row_sync (row_field (knot.at-TargetNode p)) a, tt))

view_target_sync : (p : Parts knot.frame) → IsSync (knot.at-Target p) → IsSync (knot.view-Target p)
view_target_sync p a = search (sendable, a) depth 60

step_sync : (p : Parts knot.frame) → ((j : the_members) → IsSync (rows knot.frame p j)) → (i : the_members) → IsSync (rows knot.frame (knot.step p) i)
step_sync p s member-Expression =
    has_of knot.frame sync (knot.step p) member-Expression
    (part_has sync (knot.view-Expression p) (view_expression_sync p (at_expression_sync p (at_node_sync p (s member-Expression) (s member-Target)))))
step_sync p s member-Target =
    has_of knot.frame sync (knot.step p) member-Target
    (part_has sync (knot.view-Target p) (view_target_sync p (at_target_sync p (at_target_node_sync p (s member-Expression) (s member-Target)))))

goals : All (both_laws the_members) (rows knot.frame knot.tied)
goals =
    tied_goals knot.frame knot.step knot.sizes (both_laws the_members) (λ p all.
    All-both_laws (rows knot.frame (knot.step p)) (step_send p (λ j. all (j, send))) (step_sync p (λ j. all (j, sync))))

pub expression_send : IsSend expression.the_row
expression_send = goals (member-Expression, send)

pub expression_sync : IsSync expression.the_row
expression_sync = goals (member-Expression, sync)

pub codes_send : IsSend codes.the_row
codes_send = search (sendable, crosses, expression_send) depth 60

pub codes_sync : IsSync codes.the_row
codes_sync = search (sendable, crosses, expression_sync) depth 60

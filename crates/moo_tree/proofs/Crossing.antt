-- Statements and programs may go to other threads, and be lent to them.
use denote.Param.Send.{IsSend, IsSync, recorded_send, recorded_sync, enum_send, enum_sync, sendable}
use denote.Enum.Declared as E
use denote.Enum.Enum.{Enum}
use denote.Model.Goals.{has_of, part_has, both_laws, All, All-both_laws, tied_goals, send, sync}
use denote.Param.SendFields.{as_row_send, as_row_sync, declared_send, declared_sync, variants_send, variants_sync}
use denote.RattleType.{RattleType}
use denote.Struct.Field.{row_field}
use denote.Model.Cut.{split_one}
use denote.Model.Local.{Parts, rows}
use Rattle.std.proofs.Crossing.{crosses}
use Rattle.std.specs.contracts.alloc.Global as Global
use Rattle.std.specs.contracts.vec.Vec as Vec
use Rattle.std.specs.contracts.option.Option as Option
use Rattle.std.specs.contracts.impls.GlobalAllocator.TheImpl.{ghosts}
use Rattle.moo_value.proofs.Crossing.{text_send, text_sync}
use Rattle.moo_tree.proofs.ExpressionCrossing.{expression_send, expression_sync, codes_send, codes_sync}
use Rattle.moo_tree.specs.declared.statement.StatementNode.{StatementNode}
use Rattle.moo_tree.specs.declared.statement.Branch.{Branch}
use Rattle.moo_tree.specs.declared.statement.Arm.{Arm}
use Rattle.moo_tree.specs.declared.statement.Statement.TheDeep.{the_members, member-Statement, split-Statement, join-Statement, joins-Statement, split-StatementNode, join-StatementNode, joins-StatementNode, split-Branch, join-Branch, joins-Branch, split-Arm, join-Arm, joins-Arm}
use Rattle.moo_tree.specs.declared.statement.Statement.TheInside.{Inside}
use Rattle.moo_tree.specs.contracts.statement.Statement.TheKnot as knot
use Rattle.moo_tree.specs.contracts.statement.Statement as statement
use Rattle.moo_tree.specs.contracts.statement.Tree as tree

abbrev Held : Parts knot.frame → RattleType
Held p = rows knot.frame p member-Statement

abbrev Block : Parts knot.frame → RattleType
Block p = Vec.the_row (Held p) Global.the_row ghosts

abbrev Else : Parts knot.frame → RattleType
Else p = Option.the_row (Block p)

abbrev Branches : Parts knot.frame → RattleType
Branches p = Vec.the_row (knot.at-Branch p) Global.the_row ghosts

abbrev Arms : Parts knot.frame → RattleType
Arms p = Vec.the_row (knot.at-Arm p) Global.the_row ghosts

block_send : (p : Parts knot.frame) → IsSend (Held p) → IsSend (Block p)
block_send p a = search (sendable, crosses, a) depth 60

option_send : (R : RattleType) → IsSend R → IsSend (Option.the_row R)
option_send R a = let T = Option.the_type R in recorded_send (Enum (E.shape T)) T.D T.to T.to_one (enum_send (E.shape T) (tt, ((a, tt), tt)))

else_send : (p : Parts knot.frame) → IsSend (Held p) → IsSend (Else p)
else_send p a = option_send (Block p) (block_send p a)

at_branch_send : (p : Parts knot.frame) → IsSend (Held p) → IsSend (knot.at-Branch p)
at_branch_send p a =
    let b = as_row_send (row_field (Block p)) (block_send p a) in
    recorded_send _ _ _ (split_one (knot.layer-Branch (Held p)) Branch split-Branch join-Branch joins-Branch)
    (declared_send (knot.type-Branch (Held p)) ((search (sendable, crosses, as_row_send, expression_send, codes_send, text_send) depth 60), (b, tt)))

at_arm_send : (p : Parts knot.frame) → IsSend (Held p) → IsSend (knot.at-Arm p)
at_arm_send p a =
    let b = as_row_send (row_field (Block p)) (block_send p a) in
    recorded_send _ _ _ (split_one (knot.layer-Arm (Held p)) Arm split-Arm join-Arm joins-Arm)
    (declared_send (knot.type-Arm (Held p)) ((search (sendable, crosses, as_row_send, expression_send, codes_send, text_send) depth 60), ((search (sendable, crosses, as_row_send, expression_send, codes_send, text_send) depth 60), (b, tt))))

branches_send : (p : Parts knot.frame) → IsSend (Held p) → IsSend (Branches p)
branches_send p a = let b = at_branch_send p a in search (sendable, crosses, b) depth 60

arms_send : (p : Parts knot.frame) → IsSend (Held p) → IsSend (Arms p)
arms_send p a = let b = at_arm_send p a in search (sendable, crosses, b) depth 60

at_node_send : (p : Parts knot.frame) → IsSend (Held p) → IsSend (knot.at-StatementNode p)
at_node_send p a =
    let b = as_row_send (row_field (Block p)) (block_send p a) in
    let o = as_row_send (row_field (Else p)) (else_send p a) in
    let r = as_row_send (row_field (Branches p)) (branches_send p a) in
    let m = as_row_send (row_field (Arms p)) (arms_send p a) in
    recorded_send _ _ _ (split_one (knot.layer-StatementNode (knot.at-Branch p) (Held p) (Held p) (Held p) (Held p) (Held p) (Held p) (knot.at-Arm p) (Held p) (Held p)) StatementNode split-StatementNode join-StatementNode joins-StatementNode)
    (variants_send (knot.type-StatementNode (knot.at-Branch p) (Held p) (Held p) (Held p) (Held p) (Held p) (Held p) (knot.at-Arm p) (Held p) (Held p))
    (((search (sendable, crosses, as_row_send, expression_send, codes_send, text_send) depth 60), tt), (((search (sendable, crosses, as_row_send, expression_send, codes_send, text_send) depth 60), tt), ((r, (o, tt)), (((search (sendable, crosses, as_row_send, expression_send, codes_send, text_send) depth 60), ((search (sendable, crosses, as_row_send, expression_send, codes_send, text_send) depth 60), (b, tt))), (((search (sendable, crosses, as_row_send, expression_send, codes_send, text_send) depth 60), ((search (sendable, crosses, as_row_send, expression_send, codes_send, text_send) depth 60), ((search (sendable, crosses, as_row_send, expression_send, codes_send, text_send) depth 60), (b, tt)))), (((search (sendable, crosses, as_row_send, expression_send, codes_send, text_send) depth 60), ((search (sendable, crosses, as_row_send, expression_send, codes_send, text_send) depth 60), (b, tt))), (((search (sendable, crosses, as_row_send, expression_send, codes_send, text_send) depth 60), ((search (sendable, crosses, as_row_send, expression_send, codes_send, text_send) depth 60), (b, tt))), ((b, (m, tt)), ((b, (b, tt)), (((search (sendable, crosses, as_row_send, expression_send, codes_send, text_send) depth 60), tt), (((search (sendable, crosses, as_row_send, expression_send, codes_send, text_send) depth 60), tt), tt))))))))))))

at_statement_send : (p : Parts knot.frame) → IsSend (knot.at-StatementNode p) → IsSend (knot.at-Statement p)
at_statement_send p a =
    recorded_send _ _ _ (split_one (knot.layer-Statement (knot.at-StatementNode p)) Inside split-Statement join-Statement joins-Statement)
    (declared_send (knot.type-Statement (knot.at-StatementNode p)) (as_row_send (row_field (knot.at-StatementNode p)) a, tt))

view_send : (p : Parts knot.frame) → IsSend (knot.at-Statement p) → IsSend (knot.view-Statement p)
view_send p a = search (sendable, a) depth 60

step_send : (p : Parts knot.frame) → ((j : the_members) → IsSend (rows knot.frame p j)) → (i : the_members) → IsSend (rows knot.frame (knot.step p) i)
step_send p s member-Statement =
    has_of knot.frame send (knot.step p) member-Statement (part_has send (knot.view-Statement p) (view_send p (at_statement_send p (at_node_send p (s member-Statement)))))

block_sync : (p : Parts knot.frame) → IsSync (Held p) → IsSync (Block p)
block_sync p a = search (sendable, crosses, a) depth 60

option_sync : (R : RattleType) → IsSync R → IsSync (Option.the_row R)
option_sync R a = let T = Option.the_type R in recorded_sync (Enum (E.shape T)) T.D T.to T.to_one (enum_sync (E.shape T) (tt, ((a, tt), tt)))

else_sync : (p : Parts knot.frame) → IsSync (Held p) → IsSync (Else p)
else_sync p a = option_sync (Block p) (block_sync p a)

at_branch_sync : (p : Parts knot.frame) → IsSync (Held p) → IsSync (knot.at-Branch p)
at_branch_sync p a =
    let b = as_row_sync (row_field (Block p)) (block_sync p a) in
    recorded_sync _ _ _ (split_one (knot.layer-Branch (Held p)) Branch split-Branch join-Branch joins-Branch)
    (declared_sync (knot.type-Branch (Held p)) ((search (sendable, crosses, as_row_sync, expression_sync, codes_sync, text_sync) depth 60), (b, tt)))

at_arm_sync : (p : Parts knot.frame) → IsSync (Held p) → IsSync (knot.at-Arm p)
at_arm_sync p a =
    let b = as_row_sync (row_field (Block p)) (block_sync p a) in
    recorded_sync _ _ _ (split_one (knot.layer-Arm (Held p)) Arm split-Arm join-Arm joins-Arm)
    (declared_sync (knot.type-Arm (Held p)) ((search (sendable, crosses, as_row_sync, expression_sync, codes_sync, text_sync) depth 60), ((search (sendable, crosses, as_row_sync, expression_sync, codes_sync, text_sync) depth 60), (b, tt))))

branches_sync : (p : Parts knot.frame) → IsSync (Held p) → IsSync (Branches p)
branches_sync p a = let b = at_branch_sync p a in search (sendable, crosses, b) depth 60

arms_sync : (p : Parts knot.frame) → IsSync (Held p) → IsSync (Arms p)
arms_sync p a = let b = at_arm_sync p a in search (sendable, crosses, b) depth 60

at_node_sync : (p : Parts knot.frame) → IsSync (Held p) → IsSync (knot.at-StatementNode p)
at_node_sync p a =
    let b = as_row_sync (row_field (Block p)) (block_sync p a) in
    let o = as_row_sync (row_field (Else p)) (else_sync p a) in
    let r = as_row_sync (row_field (Branches p)) (branches_sync p a) in
    let m = as_row_sync (row_field (Arms p)) (arms_sync p a) in
    recorded_sync _ _ _ (split_one (knot.layer-StatementNode (knot.at-Branch p) (Held p) (Held p) (Held p) (Held p) (Held p) (Held p) (knot.at-Arm p) (Held p) (Held p)) StatementNode split-StatementNode join-StatementNode joins-StatementNode)
    (variants_sync (knot.type-StatementNode (knot.at-Branch p) (Held p) (Held p) (Held p) (Held p) (Held p) (Held p) (knot.at-Arm p) (Held p) (Held p))
    (((search (sendable, crosses, as_row_sync, expression_sync, codes_sync, text_sync) depth 60), tt), (((search (sendable, crosses, as_row_sync, expression_sync, codes_sync, text_sync) depth 60), tt), ((r, (o, tt)), (((search (sendable, crosses, as_row_sync, expression_sync, codes_sync, text_sync) depth 60), ((search (sendable, crosses, as_row_sync, expression_sync, codes_sync, text_sync) depth 60), (b, tt))), (((search (sendable, crosses, as_row_sync, expression_sync, codes_sync, text_sync) depth 60), ((search (sendable, crosses, as_row_sync, expression_sync, codes_sync, text_sync) depth 60), ((search (sendable, crosses, as_row_sync, expression_sync, codes_sync, text_sync) depth 60), (b, tt)))), (((search (sendable, crosses, as_row_sync, expression_sync, codes_sync, text_sync) depth 60), ((search (sendable, crosses, as_row_sync, expression_sync, codes_sync, text_sync) depth 60), (b, tt))), (((search (sendable, crosses, as_row_sync, expression_sync, codes_sync, text_sync) depth 60), ((search (sendable, crosses, as_row_sync, expression_sync, codes_sync, text_sync) depth 60), (b, tt))), ((b, (m, tt)), ((b, (b, tt)), (((search (sendable, crosses, as_row_sync, expression_sync, codes_sync, text_sync) depth 60), tt), (((search (sendable, crosses, as_row_sync, expression_sync, codes_sync, text_sync) depth 60), tt), tt))))))))))))

at_statement_sync : (p : Parts knot.frame) → IsSync (knot.at-StatementNode p) → IsSync (knot.at-Statement p)
at_statement_sync p a =
    recorded_sync _ _ _ (split_one (knot.layer-Statement (knot.at-StatementNode p)) Inside split-Statement join-Statement joins-Statement)
    (declared_sync (knot.type-Statement (knot.at-StatementNode p)) (as_row_sync (row_field (knot.at-StatementNode p)) a, tt))

view_sync : (p : Parts knot.frame) → IsSync (knot.at-Statement p) → IsSync (knot.view-Statement p)
view_sync p a = search (sendable, a) depth 60

step_sync : (p : Parts knot.frame) → ((j : the_members) → IsSync (rows knot.frame p j)) → (i : the_members) → IsSync (rows knot.frame (knot.step p) i)
step_sync p s member-Statement =
    has_of knot.frame sync (knot.step p) member-Statement (part_has sync (knot.view-Statement p) (view_sync p (at_statement_sync p (at_node_sync p (s member-Statement)))))

goals : All (both_laws the_members) (rows knot.frame knot.tied)
goals =
    tied_goals knot.frame knot.step knot.sizes (both_laws the_members) (λ p all.
    All-both_laws (rows knot.frame (knot.step p)) (step_send p (λ j. all (j, send))) (step_sync p (λ j. all (j, sync))))

statement_send : IsSend statement.the_row
statement_send = goals (member-Statement, send)

statement_sync : IsSync statement.the_row
statement_sync = goals (member-Statement, sync)

pub tree_send : IsSend tree.the_row
tree_send = search (sendable, crosses, statement_send) depth 60

pub tree_sync : IsSync tree.the_row
tree_sync = search (sendable, crosses, statement_sync) depth 60

use Rattle.spec_program.specs.Similar.{SimilarArguments, SimilarItems, SimilarCodes, SimilarStatement, SimilarBlock, SimilarBranches, SimilarArms}
use Rattle.moo_reader.specs.Views.{arguments_found, items_found, codes_found}
use Rattle.moo_reader.specs.BlockViews.{statement_found, block_found, branches_found, arms_found}
use Rattle.moo_reader.proofs.Boxes.{boxed_again}
use Rattle.moo_syntax.proofs.Trimmed.{expression_part, operand_part, arguments_part, items_part, codes_part, statement_part, block_part, branches_part, arms_part}
use Rattle.moo_syntax.proofs.trim.trimmed_part.Goals as goal

pub returns-in_ok-found-in-Expression : goal.returns-in_ok-found-in-Expression
returns-in_ok-found-in-Expression c =
    expression_part c.args.part c.in-Expression.found c.in_ok-found-in-Expression.found c.in-Expression.is c.in_ok-found-in-Expression.ensures

pub returns-in_ok-operand-in-Operand : goal.returns-in_ok-operand-in-Operand
returns-in_ok-operand-in-Operand c =
    operand_part c.args.part c.in-Operand.operand c.in_ok-operand-in-Operand.operand c.in-Operand.is c.in_ok-operand-in-Operand.ensures

pub returns-in_ok-arguments-in-Arguments : goal.returns-in_ok-arguments-in-Arguments
returns-in_ok-arguments-in-Arguments c =
    arguments_part c.args.part c.in-Arguments.arguments c.in_ok-arguments-in-Arguments.arguments c.in-Arguments.is
    (boxed_again (λ u v. SimilarArguments (arguments_found u) (arguments_found v)) c.in-Arguments.arguments c.in_ok-arguments-in-Arguments.arguments _ _ c.into_inner.ensures c.in_ok-arguments-in-Arguments.ensures.ok c.in_ok-few-in-Arguments.ensures)

pub returns-in_ok-items-in-Items : goal.returns-in_ok-items-in-Items
returns-in_ok-items-in-Items c =
    items_part c.args.part c.in-Items.items c.in_ok-items-in-Items.items c.in-Items.is
    (boxed_again (λ u v. SimilarItems (items_found u) (items_found v)) c.in-Items.items c.in_ok-items-in-Items.items _ _ c.into_inner-in-Items.ensures c.in_ok-items-in-Items.ensures.ok c.in_ok-few-in-Items.ensures)

pub returns-in_ok-codes-in-Codes : goal.returns-in_ok-codes-in-Codes
returns-in_ok-codes-in-Codes c =
    codes_part c.args.part c.in-Codes.codes c.in_ok-codes-in-Codes.codes c.in-Codes.is
    (boxed_again (λ u v. SimilarCodes (codes_found u) (codes_found v)) c.in-Codes.codes c.in_ok-codes-in-Codes.codes _ _ c.into_inner-in-Codes.ensures c.in_ok-codes-in-Codes.ensures.ok c.in_ok-few-in-Codes.ensures)

pub returns-in_ok-statement-in-Statement : goal.returns-in_ok-statement-in-Statement
returns-in_ok-statement-in-Statement c =
    statement_part c.args.part c.in-Statement.statement c.in_ok-statement-in-Statement.statement c.in-Statement.is
    (boxed_again (λ u v. SimilarStatement (statement_found u) (statement_found v)) c.in-Statement.statement c.in_ok-statement-in-Statement.statement _ _ c.into_inner-in-Statement.ensures c.in_ok-statement-in-Statement.ensures.ok c.in_ok-few-in-Statement.ensures)

pub returns-in_ok-block-in-Block : goal.returns-in_ok-block-in-Block
returns-in_ok-block-in-Block c =
    block_part c.args.part c.in-Block.block c.in_ok-block-in-Block.block c.in-Block.is
    (boxed_again (λ u v. SimilarBlock (block_found u) (block_found v)) c.in-Block.block c.in_ok-block-in-Block.block _ _ c.into_inner-in-Block.ensures c.in_ok-block-in-Block.ensures.ok c.in_ok-few-in-Block.ensures)

pub returns-in_ok-branches-in-Branches : goal.returns-in_ok-branches-in-Branches
returns-in_ok-branches-in-Branches c =
    branches_part c.args.part c.in-Branches.branches c.in_ok-branches-in-Branches.branches c.in-Branches.is
    (boxed_again (λ u v. SimilarBranches (branches_found u) (branches_found v)) c.in-Branches.branches c.in_ok-branches-in-Branches.branches _ _ c.into_inner-in-Branches.ensures c.in_ok-branches-in-Branches.ensures.ok c.in_ok-few-in-Branches.ensures)

pub returns-in_ok-arms-in-Arms : goal.returns-in_ok-arms-in-Arms
returns-in_ok-arms-in-Arms c =
    arms_part c.args.part c.in-Arms.arms c.in_ok-arms-in-Arms.arms c.in-Arms.is
    (boxed_again (λ u v. SimilarArms (arms_found u) (arms_found v)) c.in-Arms.arms c.in_ok-arms-in-Arms.arms _ _ c.into_inner-in-Arms.ensures c.in_ok-arms-in-Arms.ensures.ok c.in_ok-few-in-Arms.ensures)

-- Something similar may stand in the place of what was found, of an operand before its steps, and of what stands before operators.
use Rattle.std.proofs.Common.{◌≡◌, ℕ, Bool, List, refl, sym, subst}
use Rattle.std.specs.Prelude.{Box}
use Rattle.std.specs.Global.{Global}
use Rattle.spec_program.specs.Tokens.{Placed}
use Rattle.spec_program.specs.ReadExpressions.{Found, Operand, whole}
use Rattle.spec_program.specs.Frames as f
use Rattle.spec_program.specs.Frames.{Kind, an_expression, an_operand, some_arguments_read, some_items_read, some_codes_read, a_statement, a_block, some_branches_read, some_arms_read, Of, Frames, push}
use Rattle.spec_program.specs.Similar.{SimilarFound, SimilarOperand, SimilarArguments, SimilarItems, SimilarCodes, SimilarStatement, SimilarBlock, SimilarBranches, SimilarArms, no_target, none, SimilarOf}
use Rattle.spec_program.proofs.Interchanged.{interchange}
use Rattle.spec_reader.specs.Next as meant
use Rattle.spec_reader.specs.Next.{found, reads_steps, reads_operators, goes}
use Rattle.moo_reader.specs.declared.found.Found.{Found as CodeFound}
use Rattle.moo_reader.specs.declared.found.Operand.{Operand as CodeOperand}
use Rattle.moo_reader.specs.declared.found.Arguments.{Arguments as CodeArguments}
use Rattle.moo_reader.specs.declared.found.Items.{Items as CodeItems}
use Rattle.moo_reader.specs.declared.found.FoundCodes.{FoundCodes as CodeFoundCodes}
use Rattle.moo_reader.specs.declared.block.FoundStatement.{FoundStatement as CodeFoundStatement}
use Rattle.moo_reader.specs.declared.block.Block.{Block as CodeBlock}
use Rattle.moo_reader.specs.declared.block.Branches.{Branches as CodeBranches}
use Rattle.moo_reader.specs.declared.block.Arms.{Arms as CodeArms}
use Rattle.moo_reader.specs.Views.{found_of, operand_of, arguments_found, items_found, codes_found}
use Rattle.moo_reader.specs.BlockViews.{statement_found, block_found, branches_found, arms_found}
use Rattle.reader_frames.specs.declared.state.Part.{Part}
use Rattle.reader_frames.specs.declared.state.Part.TheVariants as part
use Rattle.reader_frames.specs.declared.state.BeforeSteps.{BeforeSteps}
use Rattle.reader_frames.specs.declared.state.BeforeOperators.{BeforeOperators}
use Rattle.reader_frames.specs.declared.state.Next.{Next}
use Rattle.reader_frames.specs.declared.state.Next.TheVariants as next
use Rattle.reader_frames.specs.FrameViews.{all_begun}
use Rattle.reader_frames.specs.StateView.{next_of}
use Rattle.moo_syntax.specs.StandsFor.{StandsFor, PartStandsFor, NextStandsFor}

pub itself : (x : meant.Next) (ts : List Placed) → StandsFor (goes x ts) (goes x ts)
itself x ts = record { left = refl; work = refl; means = λ all n. refl }

pub found_stands : (a : Kind) (fs : Frames a) (v w : Of a) (ts : List Placed) → SimilarOf a v w → StandsFor (goes (found fs v) ts) (goes (found fs w) ts)
found_stands a fs v w ts s = record { left = refl; work = refl; means = λ all n. sym (interchange all a n fs v w ts s) }

pub steps_stand : (b : Bool) (fs : Frames an_operand) (o q : Operand) (ts : List Placed) → SimilarOperand o q
    → StandsFor (goes (reads_steps b o fs) ts) (goes (reads_steps b q fs) ts)
steps_stand b fs o q ts s =
    record { left = refl; work = refl; means = λ all n. sym (interchange all an_operand n (push (f.steps_behind b) fs) o q ts s) }

wholes : (e d : Found) → SimilarFound e d → SimilarOperand (whole e) (whole d)
wholes e d s = record { found = s; target = no_target e.nodes d.nodes; ranged = refl; braces = none }

pub operators_stand : (b : Bool) (k : ℕ) (fs : Frames an_expression) (e d : Found) (ts : List Placed) → SimilarFound e d
    → StandsFor (goes (reads_operators b k e fs) ts) (goes (reads_operators b k d fs) ts)
operators_stand b k fs e d ts s =
    record {
      left = refl;
      work = refl;
      means = λ all n. sym (interchange all an_operand n (push (f.value_behind b k) fs) (whole e) (whole d) ts (wholes e d s));
    }

-- ---- by what it is in the code

pub expression_part : (p : Part) (x y : CodeFound) → p ≡ part.Expression x → SimilarFound (found_of x) (found_of y) → PartStandsFor p (part.Expression y)
expression_part p x y e s =
    subst (λ q. PartStandsFor q (part.Expression y)) (sym e) (λ gs ts. found_stands an_expression (all_begun gs an_expression) (found_of x) (found_of y) ts s)

pub operand_part : (p : Part) (x y : CodeOperand) → p ≡ part.Operand x → SimilarOperand (operand_of x) (operand_of y) → PartStandsFor p (part.Operand y)
operand_part p x y e s =
    subst (λ q. PartStandsFor q (part.Operand y)) (sym e) (λ gs ts. found_stands an_operand (all_begun gs an_operand) (operand_of x) (operand_of y) ts s)

pub arguments_part : (p : Part) (x y : Box CodeArguments Global) → p ≡ part.Arguments x → SimilarArguments (arguments_found x.value) (arguments_found y.value) → PartStandsFor p (part.Arguments y)
arguments_part p x y e s =
    subst (λ q. PartStandsFor q (part.Arguments y)) (sym e)
    (λ gs ts. found_stands some_arguments_read (all_begun gs some_arguments_read) (arguments_found x.value) (arguments_found y.value) ts s)

pub items_part : (p : Part) (x y : Box CodeItems Global) → p ≡ part.Items x → SimilarItems (items_found x.value) (items_found y.value) → PartStandsFor p (part.Items y)
items_part p x y e s =
    subst (λ q. PartStandsFor q (part.Items y)) (sym e)
    (λ gs ts. found_stands some_items_read (all_begun gs some_items_read) (items_found x.value) (items_found y.value) ts s)

pub codes_part : (p : Part) (x y : Box CodeFoundCodes Global) → p ≡ part.Codes x → SimilarCodes (codes_found x.value) (codes_found y.value) → PartStandsFor p (part.Codes y)
codes_part p x y e s =
    subst (λ q. PartStandsFor q (part.Codes y)) (sym e)
    (λ gs ts. found_stands some_codes_read (all_begun gs some_codes_read) (codes_found x.value) (codes_found y.value) ts s)

pub statement_part : (p : Part) (x y : Box CodeFoundStatement Global) → p ≡ part.Statement x → SimilarStatement (statement_found x.value) (statement_found y.value) → PartStandsFor p (part.Statement y)
statement_part p x y e s =
    subst (λ q. PartStandsFor q (part.Statement y)) (sym e)
    (λ gs ts. found_stands a_statement (all_begun gs a_statement) (statement_found x.value) (statement_found y.value) ts s)

pub block_part : (p : Part) (x y : Box CodeBlock Global) → p ≡ part.Block x → SimilarBlock (block_found x.value) (block_found y.value) → PartStandsFor p (part.Block y)
block_part p x y e s =
    subst (λ q. PartStandsFor q (part.Block y)) (sym e)
    (λ gs ts. found_stands a_block (all_begun gs a_block) (block_found x.value) (block_found y.value) ts s)

pub branches_part : (p : Part) (x y : Box CodeBranches Global) → p ≡ part.Branches x → SimilarBranches (branches_found x.value) (branches_found y.value) → PartStandsFor p (part.Branches y)
branches_part p x y e s =
    subst (λ q. PartStandsFor q (part.Branches y)) (sym e)
    (λ gs ts. found_stands some_branches_read (all_begun gs some_branches_read) (branches_found x.value) (branches_found y.value) ts s)

pub arms_part : (p : Part) (x y : Box CodeArms Global) → p ≡ part.Arms x → SimilarArms (arms_found x.value) (arms_found y.value) → PartStandsFor p (part.Arms y)
arms_part p x y e s =
    subst (λ q. PartStandsFor q (part.Arms y)) (sym e)
    (λ gs ts. found_stands some_arms_read (all_begun gs some_arms_read) (arms_found x.value) (arms_found y.value) ts s)

pub part_next : (x : Next) (p q : Part) → x ≡ next.Found p → PartStandsFor p q → NextStandsFor x (next.Found q)
part_next x p q e s = subst (λ y. NextStandsFor y (next.Found q)) (sym e) s

pub steps_next : (x : Next) (p : BeforeSteps) (q : CodeOperand) → x ≡ next.Steps p → SimilarOperand (operand_of p.operand) (operand_of q)
    → NextStandsFor x (next.Steps (record { brackets = p.brackets; operand = q }))
steps_next x p q e s =
    subst (λ y. NextStandsFor y (next.Steps (record { brackets = p.brackets; operand = q }))) (sym e)
    (λ gs ts. steps_stand p.brackets (all_begun gs an_operand) (operand_of p.operand) (operand_of q) ts s)

pub operators_next : (x : Next) (p : BeforeOperators) (d : CodeFound) → x ≡ next.Operators p → SimilarFound (found_of p.left) (found_of d)
    → NextStandsFor x (next.Operators (record { brackets = p.brackets; level = p.level; left = d }))
operators_next x p d e s =
    subst (λ y. NextStandsFor y (next.Operators (record { brackets = p.brackets; level = p.level; left = d }))) (sym e)
    (λ gs ts. operators_stand p.brackets p.level (all_begun gs an_expression) (found_of p.left) (found_of d) ts s)

pub same_next : (x : Next) → NextStandsFor x x
same_next x gs ts = itself (next_of x gs) ts

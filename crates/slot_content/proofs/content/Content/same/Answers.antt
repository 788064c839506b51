use Rattle.slot_content.proofs.Sameness.{lent, spelling_alike, literals_alike, turned}
use Rattle.slot_content.proofs.content.Content.same.Goals as goal

pub returns-in-Value-Literal : goal.returns-in-Value-Literal
returns-in-Value-Literal c = spelling_alike _ _ _ _ _ c.spells.ensures.spelled c.spells.ensures.value c.in-Value-Literal.ensures (lent c.in-Value-Literal.b _ c.in-Value-Literal.ensures')

pub returns-in-Literal-Value : goal.returns-in-Literal-Value
returns-in-Literal-Value c = turned _ _ _ (spelling_alike _ _ _ _ _ c.spells-in-Literal-Value.ensures.spelled c.spells-in-Literal-Value.ensures.value c.in-Literal-Value.ensures' (lent c.in-Literal-Value.a _ c.in-Literal-Value.ensures))

pub returns-in-Literal-Literal : goal.returns-in-Literal-Literal
returns-in-Literal-Literal c = literals_alike _ _ _ _ _ c.are_same.ensures (lent c.in-Literal-Literal.a _ c.in-Literal-Literal.ensures) (lent c.in-Literal-Literal.b _ c.in-Literal-Literal.ensures')

-- What is read where no token is left before the end of the text, or before its fault.
use Rattle.std.proofs.Common.{◌≡◌, ℕ, Bool, false, List, [], ◌∷◌, Option, refl}
use Rattle.spec_program.specs.Tokens as t
use Rattle.spec_program.specs.Tokens.{Token, Sign, Placed}
use Rattle.spec_program.specs.ReadExpressions.{Operand}
use Rattle.spec_program.specs.Frames.{an_expression, an_operand, Frames}
use Rattle.spec_reader.specs.Next.{found, goes, stops}
use Rattle.spec_reader.specs.Begins.{operand_begins, name_begins, step_by, steps_unless}
use Rattle.moo_token.specs.declared.fault.TokenFault.{TokenFault}
use Rattle.moo_token.specs.Tokens.{Ending, whole, faulty}
use Rattle.moo_token.specs.Views.{ending_of}
use Rattle.moo_token.specs.Meaning.{ending_meant}
use Rattle.reader_begins.specs.Steps.{is_step, begins_step}

operand_at_end : (b : Bool) (k : ℕ) (fs : Frames an_operand) (e : Ending) → operand_begins b k fs (ending_meant e) ≡ stops (ending_meant e)
operand_at_end b k fs whole = refl
operand_at_end b k fs (faulty c line) = refl

pub no_operand : (b : Bool) (k : ℕ) (fs : Frames an_operand) (f : Option TokenFault) (ts : List Placed)
    → ts ≡ ending_meant (ending_of f) → operand_begins b k fs ts ≡ stops ts
no_operand b k fs f ts h = rw h (operand_at_end b k fs (ending_of f))

name_at_end : (b : Bool) (fs : Frames an_expression) (e : Ending) → name_begins b fs (ending_meant e) ≡ stops (ending_meant e)
name_at_end b fs whole = refl
name_at_end b fs (faulty c line) = refl

pub no_name : (b : Bool) (fs : Frames an_expression) (f : Option TokenFault) (ts : List Placed)
    → ts ≡ ending_meant (ending_of f) → name_begins b fs ts ≡ stops ts
no_name b fs f ts h = rw h (name_at_end b fs (ending_of f))

step_at_end : (b : Bool) (o : Operand) (fs : Frames an_operand) (e : Ending)
    → steps_unless false b o fs (ending_meant e) ≡ goes (found fs o) (ending_meant e)
step_at_end b o fs whole = refl
step_at_end b o fs (faulty c line) = refl

pub no_step : (b : Bool) (o : Operand) (fs : Frames an_operand) (f : Option TokenFault) (ts : List Placed)
    → ts ≡ ending_meant (ending_of f) → steps_unless false b o fs ts ≡ goes (found fs o) ts
no_step b o fs f ts h = rw h (step_at_end b o fs (ending_of f))

-- a token that begins no step is left where it lies

other_sign : (b : Bool) (o : Operand) (fs : Frames an_operand) (s : Sign) (ts all : List Placed) → is_step (t.sign s) ≡ false
    → step_by b o fs (t.sign s) ts all ≡ goes (found fs o) all
other_sign b o fs t.open_parenthesis ts all h = refl
other_sign b o fs t.close_parenthesis ts all h = refl
other_sign b o fs t.open_bracket ts all h = absurd (cc)
other_sign b o fs t.close_bracket ts all h = refl
other_sign b o fs t.open_brace ts all h = refl
other_sign b o fs t.close_brace ts all h = refl
other_sign b o fs t.semicolon ts all h = refl
other_sign b o fs t.comma ts all h = refl
other_sign b o fs t.colon ts all h = absurd (cc)
other_sign b o fs t.dot ts all h = absurd (cc)
other_sign b o fs t.double_dot ts all h = refl
other_sign b o fs t.assign ts all h = refl
other_sign b o fs t.equal ts all h = refl
other_sign b o fs t.arrow ts all h = refl
other_sign b o fs t.not_sign ts all h = refl
other_sign b o fs t.differs_sign ts all h = refl
other_sign b o fs t.plus_sign ts all h = refl
other_sign b o fs t.minus_sign ts all h = refl
other_sign b o fs t.times_sign ts all h = refl
other_sign b o fs t.slash ts all h = refl
other_sign b o fs t.percent ts all h = refl
other_sign b o fs t.caret ts all h = refl
other_sign b o fs t.less_sign ts all h = refl
other_sign b o fs t.less_equal ts all h = refl
other_sign b o fs t.greater_sign ts all h = refl
other_sign b o fs t.greater_equal ts all h = refl
other_sign b o fs t.and_sign ts all h = refl
other_sign b o fs t.or_sign ts all h = refl
other_sign b o fs t.bar ts all h = refl
other_sign b o fs t.question ts all h = refl
other_sign b o fs t.dollar ts all h = refl
other_sign b o fs t.at_sign ts all h = refl
other_sign b o fs t.backquote ts all h = refl
other_sign b o fs t.quote ts all h = refl

other_token : (b : Bool) (o : Operand) (fs : Frames an_operand) (x : Token) (ts all : List Placed) → is_step x ≡ false
    → step_by b o fs x ts all ≡ goes (found fs o) all
other_token b o fs (t.sign s) ts all h = other_sign b o fs s ts all h
other_token b o fs (t.word w) ts all h = refl
other_token b o fs (t.keyword k) ts all h = refl
other_token b o fs (t.error_name e) ts all h = refl
other_token b o fs (t.integer n) ts all h = refl
other_token b o fs (t.object minus n) ts all h = refl
other_token b o fs (t.string s) ts all h = refl
other_token b o fs (t.bad k) ts all h = refl

pub no_step_there : (b : Bool) (o : Operand) (fs : Frames an_operand) (ts : List Placed) → begins_step ts ≡ false
    → steps_unless false b o fs ts ≡ goes (found fs o) ts
no_step_there b o fs [] h = refl
no_step_there b o fs (p ∷ ts) h = other_token b o fs p.token ts (p ∷ ts) h

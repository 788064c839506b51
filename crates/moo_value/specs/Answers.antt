-- What an operation answers, in the words of the definitions.
use Rattle.std.specs.Prelude.{Result, Ok, Err}
use Rattle.spec_value.specs.Datum.{Datum}
use Rattle.spec_value.specs.Answer.{Answer, gives, raises}
use Rattle.moo_value.specs.Errors.{code_of}
use Rattle.moo_value.specs.declared.error.MooError.{MooError}

abbrev pub answer_of : Result Datum MooError → Answer
answer_of (Ok d) = gives d
answer_of (Err e) = raises (code_of e)

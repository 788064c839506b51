-- What a call of a verb does, by the verb that was found.
use Rattle.std.specs.Prelude.{ℤ, Result, Ok, Err, Option, Some, None}
use Rattle.spec_value.specs.Datum.{Datum, object, text, Text, Data, type_mismatch}
use Rattle.spec_world.specs.World.{World, Object}
use Rattle.spec_world.specs.VerbsSought.{Sought, find_verb}
use Rattle.spec_moo.specs.Scene.{Scene}
use Rattle.spec_moo.specs.Pending.{Pending}
use Rattle.spec_moo.specs.Calling.{verb_call}
use Rattle.spec_moo.specs.Effect.{Effect, calls, erring}
use Rattle.moo_value.specs.Errors.{code_of}
use Rattle.moo_value.specs.declared.error.MooError.{MooError}
use Rattle.moo_value.specs.declared.error.MooError.TheVariants.{InvalidIndirection, VerbNotFound}

-- the object and the word of a call that finds a verb are an object and a text
abbrev pub call_effect : Scene → Pending → Datum → Datum → Data → Result Sought MooError → Effect
call_effect s p o word xs (Err e) = erring s (code_of e)
call_effect s p (object o) (text word) xs (Ok f) = calls (verb_call p.frame.call o word f) (f.verb).program xs
call_effect s p o word xs (Ok f) = erring s type_mismatch

-- why no verb is found
abbrev pub verb_error : Option Object → MooError
verb_error None = InvalidIndirection
verb_error (Some x) = VerbNotFound

-- the verb that a word names on an object that may not be there, or the error
abbrev pub or_missing : Option Sought → Result Sought MooError
or_missing None = Err VerbNotFound
or_missing (Some f) = Ok f

abbrev pub verb_found : World → ℤ → Text → Option Object → Result Sought MooError
verb_found w o word None = Err InvalidIndirection
verb_found w o word (Some x) = or_missing (find_verb w o word)

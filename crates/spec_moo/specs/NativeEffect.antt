-- What a built-in function can do (Programmer's Manual, "Built-in Functions").
use Rattle.std.specs.Prelude.{ℤ, List}
use Rattle.spec_value.specs.Datum.{Data, ErrorCode}
use Rattle.spec_value.specs.Answer.{Answer, raises}
use Rattle.spec_program.specs.Tree.{Program}
use Rattle.spec_world.specs.World.{Call, Start, Native, Waiting}
use Rattle.spec_moo.specs.Scene.{Scene}
use Rattle.spec_moo.specs.Leaving.{Failure}

-- the task that calls it, and the verb that does: `callers` are the verbs that wait for this verb, the innermost first
pub record Caller : Type 0 where
  pub player : ℤ
  pub call : Call
  pub start : Start
  pub callers : List Call

-- `begins` calls a verb, or runs a program, with these arguments, and waits for its value as this stage
pub data NativeEffect : Type 0 where
  answers : Scene → Answer → NativeEffect
  complains : Scene → Failure → NativeEffect  -- an error with its own message and value
  begins : Scene → Native → Call → Program → Data → NativeEffect
  waits : Scene → Waiting → NativeEffect  -- the task has an id, and goes on with a value
  dies : Scene → NativeEffect  -- the task ends here
  becomes : Scene → ℤ → NativeEffect  -- the calling verb has another programmer, and the value is 0

abbrev pub refuses : Scene → ErrorCode → NativeEffect
refuses s e = answers s (raises e)

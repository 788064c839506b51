-- What a reader gives for a text that is as it must be: the only fault is that memory ran out.
use Rattle.std.specs.Prelude.{◌≡◌, Result, Ok, Err, alloc_error}
use Rattle.checkpoint_lines.specs.declared.fault.DecodeError.{DecodeError}
use Rattle.checkpoint_lines.specs.declared.fault.DecodeError.TheVariants.{Memory}

abbrev pub Gives : {A : Type 0} → Result A DecodeError → (A → Type 0) → Type 0
Gives (Ok x) P = P x
Gives (Err e) P = e ≡ Memory alloc_error

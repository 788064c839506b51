-- The targets of the definitions, by their names here.
use Rattle.std.specs.Prelude.{Option, Result, Ok, Err}
use Rattle.spec_value.specs.Datum.{Datum}
use Rattle.spec_value.specs.Scatter.{TargetKind as TargetKindOf, required_target, optional_target, rest_target, Scattering, gets, refuses}
use Rattle.moo_value.specs.Errors.{code_of}
use Rattle.moo_value.specs.declared.error.MooError.{MooError}
use Rattle.std.specs.declared.vec.Vec.{Vec}
use Rattle.std.specs.declared.alloc.Global.{Global}
use Rattle.moo_arith.specs.declared.scatter.TargetKind.{TargetKind}
use Rattle.moo_arith.specs.declared.scatter.TargetKind.TheVariants.{Required, Optional, Rest}

abbrev pub kind_of : TargetKind → TargetKindOf
kind_of Required = required_target
kind_of Optional = optional_target
kind_of Rest = rest_target

abbrev pub scattering_of : Result (Vec (Option Datum) Global) MooError → Scattering
scattering_of (Ok v) = gets v.items
scattering_of (Err e) = refuses (code_of e)

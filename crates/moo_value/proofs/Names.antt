-- Errors' names at the front of some bytes.
use Rattle.std.proofs.Common.{◌≡◌, ℕ, zero, suc, ◌+◌, ◌<◌, List, [], ◌∷◌, length, get_or, drop, refl, ap, arith, add-one, None}
use Rattle.spec_value.specs.Literal.{error_name}
use Rattle.moo_value.specs.Errors.{code_of}
use Rattle.moo_value.specs.Read.{after_name, first_named, named}
use Rattle.moo_value.specs.declared.error.MooError.{MooError}

pub nothing_after : (name : List ℕ) (i : ℕ) (rest : List ℕ) → i < length name → rest ≡ [] → after_name (drop i name) rest ≡ None
nothing_after [] i rest h e = absurd (omega arith)
nothing_after (c ∷ cs) zero rest h e = rw e refl
nothing_after (c ∷ cs) (suc i) rest h e = nothing_after cs i rest (omega arith) e

pub not_named : (es : List MooError) (i : ℕ) (d : MooError) (bytes : List ℕ) → i < length es → after_name (error_name (code_of (get_or es i d))) bytes ≡ None → first_named (drop i es) bytes ≡ first_named (drop (i + 1) es) bytes
not_named [] i d bytes h e = absurd (omega arith)
not_named (x ∷ es) zero d bytes h e = ap (named (code_of x) (first_named es bytes)) e
not_named (x ∷ es) (suc i) d bytes h e = rw add-one (rw add-one at (not_named es i d bytes (omega arith) e))

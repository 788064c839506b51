-- A program that adds again and again.
use Rattle.std.proofs.Common.{◌≡◌, ℕ, zero, suc, ◌+◌, ap, refl, [], ◌∷◌, ◌++◌}
use Rattle.std.specs.Prelude.{replicate}
use Rattle.std.proofs.lemmas.List.{replicate-append-replicate}
use Rattle.spec_program.specs.Tree.{give, evaluate, binary, seq}
use Rattle.spec_value.specs.Operators.{plus}
use Rattle.moo_tree.specs.StatementView.{program_of}
use Rattle.world_fixture.specs.Rooms.{one, adding}

pub one_more : (n : ℕ) → replicate n (evaluate (binary plus one one)) ++ evaluate (binary plus one one) ∷ [] ≡ replicate (n + 1) (evaluate (binary plus one one))
one_more n = replicate-append-replicate n 1 (evaluate (binary plus one one))

pub added : (n : ℕ) → program_of (replicate n (evaluate (binary plus one one)) ++ give one ∷ []) ≡ adding n
unfolding adding
added zero = refl
added (suc n) = ap (seq (evaluate (binary plus one one))) (added n)

use Rattle.moo_token.specs.Views.{state_of}
use Rattle.moo_token.proofs.Loop.{Invariant}
use Rattle.moo_token.proofs.tokens.tokens_of.Given as goal

abbrev pub invariant-loop-place : goal.invariant-loop-place
invariant-loop-place l = Invariant l.text l.place (state_of l.cutter)

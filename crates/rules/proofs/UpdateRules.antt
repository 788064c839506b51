-- What becomes of a property that is written what an operator gives of the integer that it has.
use Rattle.std.proofs.Common.{◌∙◌, ℤ, true, Option, Some, None, sym, subst}
use Rattle.std.specs.Prelude.{Result, Ok, Err, IfOk, OnOk}
use Rattle.spec_value.specs.Datum.{Text, integer, object, text}
use Rattle.spec_value.specs.Operators.{BinaryOperator}
use Rattle.spec_world.specs.World.{World}
use Rattle.view.specs.Law.{Goes}
use Rattle.view.specs.Writing.{IsUpdatedBy}
use Rattle.rules.specs.Lines.{AreAgreeing}
use Rattle.rules.specs.Standing.{IsStanding}
use Rattle.rules.specs.Writing.{IsSimplyUpdated}
use Rattle.rules.proofs.ReadRules.{of_own, read_by}
use Rattle.rules.proofs.WriteRules.{simply_written}
use Rattle.rules.proofs.WritesKeep.{written_well}

module _ {V E : Type 0} (holds : V → World → Type 0) (now : V → World → World) (a b : V) (who o : ℤ) (p : Text) (op : BinaryOperator) (second : ℤ) where
  pub simply_updated : (r : Result (Option ℤ) E) → AreAgreeing holds now a → IfOk r (λ n. Goes holds now a b (IsUpdatedBy who o p op second n))
      → IfOk r (λ n. Goes holds now a b (IsSimplyUpdated who o p op second n))
  simply_updated (Err e) known goes = tt
  simply_updated (Ok None) known goes = goes
  simply_updated (Ok (Some n)) known goes = λ w is.
      let g = goes w is in (
        g.0,
        record {
          first = g.1.first;
          read = of_own (now a w) who o p g.1.read.plain ∙ read_by (now a w) who o p (integer g.1.first) ((known w g.0).objects) g.1.read;
          answer = g.1.answer;
          written = simply_written (now a w) (now b w) who o p (integer n) true g.1.read.plain g.1.written;
        },
      )

  -- the world now still stands
  pub updated_known : (r : Result (Option ℤ) E) → IfOk r (λ n. Goes holds now a b (IsSimplyUpdated who o p op second n)) → AreAgreeing holds now a → OnOk r (AreAgreeing holds now b)
  updated_known (Err e) goes known = tt
  updated_known (Ok None) goes known = λ w is. let g = goes w is in subst IsStanding (sym g.1) (known w g.0)
  updated_known (Ok (Some n)) goes known = λ w is. let g = goes w is in written_well (now a w) (now b w) who (object o) (text p) (integer n) (known w g.0) g.1.written

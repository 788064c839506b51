-- What functions say of requests.
use Rattle.std.proofs.Common.{◌≡◌, ℤ, sym, subst}
use Rattle.spec_value.specs.Answer.{Answer}
use Rattle.spec_world.specs.World.{World}
use Rattle.view.specs.Law.{Goes, Tells}
use Rattle.builtins_view.specs.Said.{Does, Says}
use Rattle.builtins_view.specs.Requests.{asking_of, changing_of, said_of}
use Rattle.builtins_view.specs.declared.builtin_requests.asking.Asking.{Asking}
use Rattle.builtins_view.specs.declared.builtin_requests.changing.Changing.{Changing}

module _ {V : Type 0} (holds : V → World → Type 0) (now : V → World → World) (old new : V) (who : ℤ) (a : Answer) where
  -- whoever asks
  pub told_anyone : (q p : Asking) → q ≡ p → Tells holds now old new (λ w. (x : ℤ) → Says (said_of (asking_of p)) w x a)
      → Tells holds now old new (λ w. Says (said_of (asking_of q)) w who a)
  told_anyone q p is told w left =
      let t = told w left in
      (t.0, (t.1.0, subst (λ z. Says (said_of (asking_of z)) (now old w) who a) (sym is) (t.1.1 who)))

  pub done_so : (q p : Changing) → q ≡ p → Goes holds now old new (λ before after. Does (said_of (changing_of p)) before after who a)
      → Goes holds now old new (λ before after. Does (said_of (changing_of q)) before after who a)
  done_so q p is done w left =
      let t = done w left in (t.0, subst (λ z. Does (said_of (changing_of z)) (now old w) (now new w) who a) (sym is) t.1)

-- What is read, and what is left besides.
use Rattle.std.proofs.Common.{◌≡◌, Result, Ok, Err, Option, Some, None, MatchOption, alloc_error, ap, ◌∙◌, sym, subst}
use Rattle.std.specs.Option.{ok_or}
use Rattle.checkpoint_lines.specs.declared.fault.DecodeError.{DecodeError}
use Rattle.checkpoint_lines.specs.declared.fault.DecodeError.TheVariants.{Memory}
use Rattle.checkpoint_lines.specs.Gives.{Gives}

pub gives_and : {A : Type 0} (r : Result A DecodeError) (P : A → Type 0) (Q : Type 0) → Gives r P → Q → Gives r (λ x. P x × Q)
gives_and (Ok x) P Q g q = (g, q)
gives_and (Err e) P Q g q = g

pub gives_ok : {A : Type 0} (r : Result A DecodeError) (x : A) (P : A → Type 0) → r ≡ Ok x → P x → Gives r P
gives_ok r x P e h = subst (λ s. Gives s P) (sym e) h

pub gives_map : {A : Type 0} (r : Result A DecodeError) (P Q : A → Type 0) → Gives r P → ((x : A) → P x → Q x) → Gives r Q
gives_map (Ok x) P Q g f = f x g
gives_map (Err e) P Q g f = g

-- ---- what is found, or else is a fault

pub found_ok : {A : Type 0} (o : Option A) (x : A) (r : Result A DecodeError) (e : DecodeError) → o ≡ Some x → r ≡ ok_or o e → r ≡ Ok x
found_ok o x r e h m = m ∙ ap (λ q. ok_or q e) h

pub gives_found : {A : Type 0} (o : Option A) (r : Result A DecodeError) (e : DecodeError) (P : A → Type 0) → r ≡ ok_or o e → MatchOption o ⊥ P → Gives r P
gives_found None r e P m f = absurd f
gives_found (Some x) r e P m f = gives_ok r x P m f

pub gives_exact : {A : Type 0} (o : Option A) (r : Result A DecodeError) (e : DecodeError) (M : Type 0) (P Q : A → Type 0) → r ≡ ok_or o e → MatchOption o M P → (M → ⊥) → ((x : A) → P x → Q x) → Gives r Q
gives_exact None r e M P Q m f missing on = absurd (missing f)
gives_exact (Some x) r e M P Q m f missing on = gives_ok r x Q m (on x f)

-- ---- a fault that is passed on

pub gives_passed : {A : Type 0} (r : Result A DecodeError) (y : DecodeError) (P : A → Type 0) → r ≡ Err y → y ≡ Memory alloc_error → Gives r P
gives_passed r y P e h = subst (λ s. Gives s P) (sym e) h

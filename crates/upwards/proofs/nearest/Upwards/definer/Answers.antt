use Rattle.std.proofs.Common.{◌≡◌, ℕ, Option, Some, None, List, [], ◌∷◌, Bool, refl, sym, ◌∙◌, subst}
use Rattle.upwards.specs.Ways.{IsWay, first_filled}
use Rattle.upwards.proofs.Ways.{wholly_known, found_at, found_none}
use Rattle.upwards.proofs.nearest.Upwards.definer.Goals as goal

of_none : (filled : List Bool) (parents : List (Option ℕ)) (o : Option ℕ) → ((p : ℕ) → o ≡ Some p → ⊥) → (line : List ℕ) → IsWay parents o line → ◌≡◌ {A = Option ℕ} None (first_filled filled line)
of_none filled parents o h [] l = refl
of_none filled parents o h (i ∷ is) l = absurd (h i l.0)

pub returns-in_default : goal.returns-in_default
returns-in_default c = λ filled line k l. of_none filled c.args.self.now.parents.items c.args.place c.in_default.not-Some line l

pub returns-in-At : goal.returns-in-At
returns-in-At c = λ filled line k l.
    let n = wholly_known filled c.args.self.now k c.in-Some.place line (subst (λ o. IsWay c.args.self.now.parents.items o line) c.in-Some.is l) c.known.result c.known.ensures in
    found_at c.in-At.definer (first_filled filled line) (sym c.in-At.is ∙ n)

pub returns-in_default-known : goal.returns-in_default-known
returns-in_default-known c = λ filled line k l.
    let n = wholly_known filled c.args.self.now k c.in-Some.place line (subst (λ o. IsWay c.args.self.now.parents.items o line) c.in-Some.is l) c.known.result c.known.ensures in
    found_none c.known.result (first_filled filled line) n c.in_default-known.not-At

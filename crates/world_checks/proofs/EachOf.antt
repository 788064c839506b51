-- What is true of all that wait is true of each.
use Rattle.std.proofs.Common.{◌≡◌, refl, sym, subst, ℕ, zero, suc, ◌+◌, ◌-◌, ◌<◌, ◌≤◌, List, [], ◌∷◌, length, take, get_or, arith}
use Rattle.std.specs.List.{AllByRecursion}
use Rattle.moo_code.specs.Machine as code
use Rattle.moo_task.specs.Frames.{outer_of, outers_of}
use Rattle.moo_task.specs.declared.frame.Outer.{Outer}
use Rattle.world_checks.proofs.Each.{last_on, all_on}

some_at : (os : List Outer) (n : ℕ) → n < length os → (o : Outer) × (o ≡ get_or os n o)
some_at [] n lt = absurd (omega arith)
some_at (x ∷ os) zero lt = (x, refl)
some_at (x ∷ os) (suc n) lt = some_at os n (omega arith)

without_last : (P : code.Outer → Type 0) (os : List Outer) (n : ℕ) → n < length os → AllByRecursion P (outers_of (take (n + 1) os)) → AllByRecursion P (outers_of (take n os))
without_last P os n small h =
    let o = some_at os n small in
    let both : AllByRecursion P (outer_of o.0 ∷ outers_of (take n os)) = subst (AllByRecursion P) (sym (last_on os n o.0 small o.1)) h in
    both.1

first_of_them : (P : code.Outer → Type 0) (os : List Outer) (d n : ℕ) → n + d ≤ length os → AllByRecursion P (outers_of (take (n + d) os)) → AllByRecursion P (outers_of (take n os))
first_of_them P os zero n le h = let same : n + 0 ≡ n = omega arith in subst (λ m. AllByRecursion P (outers_of (take m os))) same h
first_of_them P os (suc d) n le h =
    let same : n + suc d ≡ n + d + 1 = omega arith in
    first_of_them P os d n (omega arith)
    (without_last P os (n + d) (omega arith) (subst (λ m. AllByRecursion P (outers_of (take m os))) same h))

pub one_of_them : (P : code.Outer → Type 0) (os : List Outer) (n : ℕ) (o : Outer) → n < length os → o ≡ get_or os n o → AllByRecursion P (outers_of os) → P (outer_of o)
one_of_them P os n o small is h =
    let d = length os - (n + 1) in
    let count : n + 1 + d ≡ length os = omega arith in
    let whole : AllByRecursion P (outers_of (take (n + 1 + d) os)) = subst (AllByRecursion P) (sym (all_on os (n + 1 + d) (omega (arith, count)))) h in
    let those : AllByRecursion P (outers_of (take (n + 1) os)) = first_of_them P os d (n + 1) (omega (arith, count)) whole in
    let both : AllByRecursion P (outer_of o ∷ outers_of (take n os)) = subst (AllByRecursion P) (sym (last_on os n o small is)) those in
    both.0

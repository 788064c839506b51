-- What is true of each that waits, as it is stored.
use Rattle.std.proofs.Common.{◌≡◌, refl, subst, ap, ℕ, ◌+◌, ◌<◌, ◌≤◌, List, ◌∷◌, length, take, get_or}
use Rattle.std.specs.List.{AllByRecursion}
use Rattle.std.proofs.lemmas.List.{take_all}
use Rattle.moo_code.specs.Machine as code
use Rattle.moo_task.specs.Frames.{outer_of, outers_of}
use Rattle.moo_task.specs.declared.frame.Outer.{Outer}
use Rattle.moo_task.proofs.Stacks.{one_copied}

pub last_on : (os : List Outer) (n : ℕ) (o : Outer) → n < length os → o ≡ get_or os n o → outer_of o ∷ outers_of (take n os) ≡ outers_of (take (n + 1) os)
last_on os n o small is = one_copied os n o (outers_of (take n os)) (outer_of o ∷ outers_of (take n os)) small is refl refl

pub all_on : (os : List Outer) (n : ℕ) → length os ≤ n → outers_of (take n os) ≡ outers_of os
all_on os n all = ap outers_of (take_all n os all)

pub one_more : (P : code.Outer → Type 0) (os : List Outer) (n : ℕ) (o : Outer) → n < length os → o ≡ get_or os n o → P (outer_of o)
    → AllByRecursion P (outers_of (take n os)) → AllByRecursion P (outers_of (take (n + 1) os))
one_more P os n o small is own rest = subst (AllByRecursion P) (last_on os n o small is) (own, rest)

pub all_of_them : (P : code.Outer → Type 0) (os : List Outer) (n : ℕ) → length os ≤ n → AllByRecursion P (outers_of (take n os)) → AllByRecursion P (outers_of os)
all_of_them P os n all h = subst (AllByRecursion P) (all_on os n all) h

-- What all do that wait, each of them does, as it is stored.
use Rattle.std.proofs.Common.{◌≡◌, ◌∙◌, ap, sym, subst, ℕ, zero, suc, ◌<◌, List, [], ◌∷◌, ◌++◌, length, map, reverse, get_or, arith}
use Rattle.std.proofs.lemmas.List.{reverse-append, map-append}
use Rattle.moo_code.specs.Machine as code
use Rattle.moo_task.specs.Frames.{outer_of, outers_of}
use Rattle.moo_task.specs.declared.frame.Outer.{Outer}
use Rattle.tree_parts.specs.Standing.{OuterStands, AllStand}

stored_first : (o : Outer) (os : List Outer) → outers_of (o ∷ os) ≡ outers_of os ++ outer_of o ∷ []
stored_first o os = ap (map outer_of) (reverse-append (o ∷ []) os) ∙ map-append outer_of (reverse os) (o ∷ [])

apart : (ks : List code.Outer) (k : code.Outer) → AllStand (ks ++ k ∷ []) → AllStand ks × OuterStands k
apart [] k h = (tt, h.0)
apart (j ∷ ks) k h = let more = apart ks k h.1 in ((h.0, more.0), more.1)

pub stands_among : (os : List Outer) (i : ℕ) (o : Outer) → i < length os → o ≡ get_or os i o → AllStand (outers_of os) → OuterStands (outer_of o)
stands_among [] i o small is h = absurd (omega (arith, small))
stands_among (x ∷ os) zero o small is h =
    subst (λ z. OuterStands (outer_of z)) (sym is) (apart (outers_of os) (outer_of x) (subst AllStand (stored_first x os) h)).1
stands_among (x ∷ os) (suc i) o small is h = stands_among os i o (omega (arith, small)) is (apart (outers_of os) (outer_of x) (subst AllStand (stored_first x os) h)).0

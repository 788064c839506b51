-- What waits, as it is stored.
use Rattle.std.proofs.Common.{◌≡◌, ◌∙◌, ap, sym, refl, ℕ, ◌+◌, ◌<◌, ◌≤◌, ℤ, List, [], ◌∷◌, ◌++◌, length, map, reverse, take, get_or, append_assoc, arith}
use Rattle.std.proofs.lemmas.List.{reverse-append, length-reverse, take_more}
use Rattle.spec_moo.specs.Leaving.{Traced}
use Rattle.spec_moo.specs.Pending.{outer_trace}
use Rattle.moo_code.specs.Machine as code
use Rattle.moo_task.specs.Frames.{outer_of, outers_of}
use Rattle.moo_task.specs.declared.frame.Outer.{Outer}
use Rattle.moo_task.specs.declared.frame.Outer.TheVariants.{Verb, Native as NativeOf}

pub one_more : (os : List Outer) (o : Outer) → outers_of (os ++ o ∷ []) ≡ outer_of o ∷ outers_of os
one_more os o = ap (map outer_of) (reverse-append os (o ∷ []))

few : (os : List Outer) → code.verbs (map outer_of os) ≤ length os
few [] = omega arith
few (Verb f ∷ os) = omega (arith, few os)
few (NativeOf n ∷ os) = omega (arith, few os)

pub few_verbs : (os : List Outer) → code.verbs (outers_of os) ≤ length os
few_verbs os = omega (arith, few (reverse os), length-reverse os)

-- ---- traces of the verbs that wait

last_of : (os : List Outer) (n : ℕ) (o : Outer) → n < length os → o ≡ get_or os n o → outers_of (take (n + 1) os) ≡ outer_of o ∷ outers_of (take n os)
last_of os n o small is =
    ap outers_of (take_more os n o small) ∙ ap (λ x. outers_of (take n os ++ x ∷ [])) (sym is) ∙ one_more (take n os) o

own_trace : (player : ℤ) (o : Outer) (ks : List code.Outer)
    → outer_trace player (code.entries (outer_of o ∷ ks)) ≡ outer_trace player (code.entries (outer_of o ∷ [])) ++ outer_trace player (code.entries ks)
own_trace player (Verb f) ks = refl
own_trace player (NativeOf m) ks = refl

pub trace_more : (player : ℤ) (os : List Outer) (n : ℕ) (o : Outer) (ts : List Traced) → n < length os → o ≡ get_or os n o
    → (ts ++ outer_trace player (code.entries (outer_of o ∷ []))) ++ outer_trace player (code.entries (outers_of (take n os)))
    ≡ ts ++ outer_trace player (code.entries (outers_of (take (n + 1) os)))
trace_more player os n o ts small is =
    append_assoc ts (outer_trace player (code.entries (outer_of o ∷ []))) (outer_trace player (code.entries (outers_of (take n os))))
    ∙ ap (λ us. ts ++ us) (sym (own_trace player o (outers_of (take n os))))
    ∙ ap (λ ks. ts ++ outer_trace player (code.entries ks)) (sym (last_of os n o small is))

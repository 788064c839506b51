-- Stacks that are put down and taken up again, in the order in which they are stored.
use Rattle.std.proofs.Common.{◌≡◌, ◌∙◌, ap, sym, refl, ℕ, zero, suc, ◌+◌, ◌-◌, ◌<◌, ◌≤◌}
use Rattle.std.proofs.Common.{List, [], ◌∷◌, ◌++◌, length, map, reverse, take, drop, get_or, Some, arith}
use Rattle.std.specs.Prelude.{slice_get}
use Rattle.std.proofs.lemmas.List.{append-nil, reverse-append, reverse-reverse, take_more, take_all}
use Rattle.std.proofs.lemmas.Option.{get_or_from_slice_get}
use Rattle.std.proofs.Math.ListN.{drop_of_length-le}
use Rattle.spec_value.specs.Datum.{Datum}
use Rattle.moo_code.specs.Performing.{onto}
use Rattle.moo_code.specs.Machine as code
use Rattle.moo_task.specs.Frames.{outer_of, outers_of}
use Rattle.moo_task.specs.declared.frame.Outer.{Outer}
use Rattle.moo_task.proofs.Waiting.{one_more}

-- ---- operands

onto_onto : (vs st us : List Datum) → onto (onto vs st) us ≡ onto st (vs ++ us)
onto_onto [] st us = refl
onto_onto (v ∷ vs) st us = onto_onto vs (v ∷ st) us

put_anew : (st : List Datum) → onto (onto st []) [] ≡ st
put_anew st = onto_onto st [] [] ∙ append-nil st

pub all_put : (st us copy : List Datum) (i : ℕ) → us ≡ onto st [] → length us ≤ i → onto (drop i us) copy ≡ onto us [] → copy ≡ st
all_put st us copy i e all so_far =
    ap (λ vs. onto vs copy) (sym (drop_of_length-le us all)) ∙ so_far ∙ ap (λ vs. onto vs []) e ∙ put_anew st

pub stacks_alike : (st us : List Datum) → onto st [] ≡ onto us [] → st ≡ us
stacks_alike st us e = sym (put_anew st) ∙ ap (λ vs. onto vs []) e ∙ put_anew us

-- ---- what waits, the innermost last

pub one_copied : (os : List Outer) (n : ℕ) (o : Outer) (ks new : List code.Outer)
    → n < length os → o ≡ get_or os n o → new ≡ outer_of o ∷ ks → ks ≡ outers_of (take n os) → new ≡ outers_of (take (n + 1) os)
one_copied os n o ks new small is added before =
    added ∙ ap (λ zs. outer_of o ∷ zs) before ∙ sym (one_more (take n os) o)
    ∙ ap (λ z. outers_of (take n os ++ z ∷ [])) is ∙ ap outers_of (sym (take_more os n o small))

map_append : (xs ys : List Outer) → map outer_of (xs ++ ys) ≡ map outer_of xs ++ map outer_of ys
map_append [] ys = refl
map_append (x ∷ xs) ys = ap (λ zs. outer_of x ∷ zs) (map_append xs ys)

map_reverse : (os : List Outer) → map outer_of (reverse os) ≡ reverse (map outer_of os)
map_reverse [] = refl
map_reverse (o ∷ os) =
    ap (map outer_of) (reverse-append (o ∷ []) os) ∙ map_append (reverse os) (o ∷ []) ∙ ap (λ zs. zs ++ outer_of o ∷ []) (map_reverse os)
    ∙ sym (reverse-append (outer_of o ∷ []) (map outer_of os))

pub outers_alike : (xs ys : List Outer) → map outer_of xs ≡ map outer_of ys → outers_of xs ≡ outers_of ys
outers_alike xs ys e = map_reverse xs ∙ ap reverse e ∙ sym (map_reverse ys)

pub alike_outers : (xs ys : List Outer) → outers_of xs ≡ outers_of ys → map outer_of xs ≡ map outer_of ys
alike_outers xs ys e =
    sym (reverse-reverse (map outer_of xs)) ∙ ap reverse (sym (map_reverse xs) ∙ e ∙ map_reverse ys) ∙ reverse-reverse (map outer_of ys)

pub outer_at : (xs ys : List Outer) (i : ℕ) (x y : Outer) → i < length xs → x ≡ get_or xs i x → y ≡ get_or ys i y → map outer_of xs ≡ map outer_of ys
    → outer_of x ≡ outer_of y
outer_at [] ys i x y small h k same = absurd (omega arith)
outer_at (a ∷ xs) [] i x y small h k same = cc
outer_at (a ∷ xs) (b ∷ ys) zero x y small h k same = let e : outer_of a ≡ outer_of b = cc in ap outer_of h ∙ e ∙ ap outer_of (sym k)
outer_at (a ∷ xs) (b ∷ ys) (suc i) x y small h k same = outer_at xs ys i x y (omega arith) h k (cc)

-- ---- the innermost

inside_of : (os : List Outer) (o : Outer) → slice_get os (length os - 1) ≡ Some o → length os - 1 < length os
inside_of [] o h = cc
inside_of (x ∷ os) o h = omega arith

pub last_is_first : (os : List Outer) (o : Outer) → slice_get os (length os - 1) ≡ Some o
    → outers_of os ≡ outer_of o ∷ outers_of (take (length os - 1) os)
last_is_first os o h =
    let small : length os - 1 < length os = inside_of os o h in
    let is : o ≡ get_or os (length os - 1) o = sym (get_or_from_slice_get os (length os - 1) o o h) in
    let whole : take (length os - 1 + 1) os ≡ os = take_all (length os - 1 + 1) os (omega (arith, small)) in
    ap outers_of (sym whole) ∙ sym (one_copied os (length os - 1) o (outers_of (take (length os - 1) os)) _ small is refl refl)

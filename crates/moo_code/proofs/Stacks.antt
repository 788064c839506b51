-- Operands on a stack: how many there are, which are taken, and which stay below.
use Rattle.std.proofs.Common.{◌≡◌, ℕ, ◌+◌, ◌-◌, List, [], ◌∷◌, ◌++◌, length, refl, sym, ap, ◌∙◌, arith, append_assoc, length-append, drop}
use Rattle.std.proofs.lemmas.List.{append-nil}
use Rattle.spec_value.specs.Datum.{Datum}
use Rattle.moo_code.specs.Performing.{onto}
use Rattle.moo_code.specs.Machine.{Step, with_operands, lowest}

pub onto_below : (vs us st : List Datum) → onto vs (us ++ st) ≡ onto vs us ++ st
onto_below [] us st = refl
onto_below (v ∷ vs) us st = onto_below vs (v ∷ us) st

pub onto_length : (vs st : List Datum) → length (onto vs st) ≡ length vs + length st
onto_length [] st = omega arith
onto_length (v ∷ vs) st = let e = onto_length vs (v ∷ st) in omega (arith, e)

pub onto_twice : (vs us st : List Datum) → onto (onto vs us) st ≡ onto us (vs ++ st)
onto_twice [] us st = refl
onto_twice (v ∷ vs) us st = onto_twice vs (v ∷ us) st

pub onto_append : (vs us st : List Datum) → onto (vs ++ us) st ≡ onto us (onto vs st)
onto_append [] us st = refl
onto_append (v ∷ vs) us st = onto_append vs us (v ∷ st)

taken : (us acc st : List Datum) (go : List Datum → List Datum → Step) → with_operands (length us) acc (us ++ st) go ≡ go (onto us acc) st
taken [] acc st go = refl
taken (u ∷ us) acc st go = taken us (u ∷ acc) st go

pub operands_taken : (k : ℕ) (vs st : List Datum) (go : List Datum → List Datum → Step) → k ≡ length vs → with_operands k [] (onto vs st) go ≡ go vs st
operands_taken k vs st go e =
    let n : k ≡ length (onto vs []) = omega (arith, e, onto_length vs []) in
    ap (λ x. with_operands k [] x go) (onto_below vs [] st) ∙ ap (λ x. with_operands x [] (onto vs [] ++ st) go) n ∙ taken (onto vs []) [] st go
    ∙ ap (λ x. go x st) (onto_twice vs [] [] ∙ append-nil vs)

drop_front : (pre st : List Datum) → drop (length pre) (pre ++ st) ≡ st
drop_front [] st = refl
drop_front (x ∷ pre) st = drop_front pre st

pub lowest_is : (pre st : List Datum) → lowest (length st) (pre ++ st) ≡ st
lowest_is pre st =
    let e : length (pre ++ st) - length st ≡ length pre = omega (arith, length-append pre st) in
    ap (λ n. drop n (pre ++ st)) e ∙ drop_front pre st

-- what a piece holds lies over what is below
pub over : (pre vs st : List Datum) → pre ++ onto vs st ≡ (pre ++ onto vs []) ++ st
over pre vs st = ap (λ x. pre ++ x) (onto_below vs [] st) ∙ sym (append_assoc pre (onto vs []) st)

-- ---- from the bottom

pub from_bottom : (vs st : List Datum) → onto (onto vs st) [] ≡ onto st [] ++ vs
from_bottom vs st = onto_twice vs st [] ∙ onto_below st [] (vs ++ []) ∙ ap (λ x. onto st [] ++ x) (append-nil vs)

pub above_those : (st vs more : List Datum) → drop (length st) ((onto st [] ++ vs) ++ more) ≡ vs ++ more
above_those st vs more =
    let n : length st ≡ length (onto st []) = omega (arith, onto_length st []) in
    ap (λ k. drop k ((onto st [] ++ vs) ++ more)) n ∙ ap (drop (length (onto st []))) (append_assoc (onto st []) vs more) ∙ drop_front (onto st []) (vs ++ more)

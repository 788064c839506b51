-- Variables that a program does not name agree where those agree that stand in one of two lists.
use Rattle.std.proofs.Common.{◌≡◌, ◌∙◌, ap, sym, refl, ℕ, zero, suc, ◌+◌, ◌<◌, ◌⊎◌, inl, inr, Bool, true, false, cond, List, [], ◌∷◌, length, map, get_or, Option, Some, None, subst, arith}
use Rattle.std.specs.Prelude.{slice_get, ◌==◌}
use Rattle.std.proofs.lemmas.Bool.{eqb-true, eqb-false}
use Rattle.spec_value.specs.Datum.{Datum, Text, same_text}
use Rattle.spec_value.specs.Table.{named}
use Rattle.spec_world.proofs.SlotTables.{sought, text_or_not}
use Rattle.moo_task.specs.Variables.{variable_of}
use Rattle.moo_task.specs.declared.variables.Variable.{Variable}
use Rattle.moo_task.specs.Sameness.{AgreeAt, AgreeOn, FurtherAgree}

-- where a name stands
record Stands (es : List (Text × Datum)) (x : Text) : Type 0 where
  place : ℕ
  entry : Text × Datum
  inside : place < length es
  there : slice_get es place ≡ Some entry
  name : entry.0 ≡ x

stands_or_not : (es : List (Text × Datum)) (x : Text) → Stands es x ⊎ (named es x ≡ None)
stands_or_not [] x = inr refl
stands_or_not (e ∷ es) x = go (text_or_not x e.0) (stands_or_not es x)
  where
    go : (x ≡ e.0) ⊎ (same_text x e.0 ≡ false) → Stands es x ⊎ (named es x ≡ None) → Stands (e ∷ es) x ⊎ (named (e ∷ es) x ≡ None)
    go (inl same) q = inl (record { place = 0; entry = e; inside = omega arith; there = refl; name = sym same })
    go (inr other) (inl s) = inl (record { place = suc s.place; entry = s.entry; inside = omega (arith, s.inside); there = s.there; name = s.name })
    go (inr other) (inr none) = inr (ap (λ b. cond b (Some e.1) (named es x)) (sought x e.0 ∙ other) ∙ none)

further_agree : (names : List Text) (xs ys : List (Text × Datum)) → AgreeOn names xs ys (length xs) xs → AgreeOn names xs ys (length ys) ys → FurtherAgree names xs ys
further_agree names xs ys of_xs of_ys x none = go (stands_or_not xs x) (stands_or_not ys x)
  where
    at : (es : List (Text × Datum)) → AgreeOn names xs ys (length es) es → Stands es x → named xs x ≡ named ys x
    at es agree s = subst (AgreeAt names xs ys) s.name (agree s.place s.entry s.inside s.there) none

    go : Stands xs x ⊎ (named xs x ≡ None) → Stands ys x ⊎ (named ys x ≡ None) → named xs x ≡ named ys x
    go (inl s) q = at xs of_xs s
    go (inr p) (inl s) = at ys of_ys s
    go (inr p) (inr q) = p ∙ sym q

counted : (vs : List Variable) → length (map variable_of vs) ≡ length vs
counted [] = refl
counted (v ∷ vs) = ap suc (counted vs)

of_slice : (names : List Text) (xs ys es : List (Text × Datum)) (vs : List Variable) → map variable_of vs ≡ es → AgreeOn names xs ys (length vs) (map variable_of vs)
    → AgreeOn names xs ys (length es) es
of_slice names xs ys es vs same h i e small there =
    h i e (omega (arith, small, ap length same, counted vs)) (ap (λ zs. slice_get zs i) same ∙ there)

-- the same of the variables in two slices
pub slices_agree : (names : List Text) (xs ys : List (Text × Datum)) (vs us : List Variable) → map variable_of vs ≡ xs → map variable_of us ≡ ys
    → AgreeOn names xs ys (length vs) (map variable_of vs) → AgreeOn names xs ys (length us) (map variable_of us) → FurtherAgree names xs ys
slices_agree names xs ys vs us of_vs of_us h g = further_agree names xs ys (of_slice names xs ys xs vs of_vs h) (of_slice names xs ys ys us of_us g)

pub agree_on_any : (names : List Text) (xs ys : List (Text × Datum)) (count : ℕ) (es : List (Text × Datum)) → FurtherAgree names xs ys → AgreeOn names xs ys count es
agree_on_any names xs ys count es agree i e small there = agree e.0

entry_at : (vs : List Variable) (i : ℕ) (v : Variable) → i < length vs → v ≡ get_or vs i v → slice_get (map variable_of vs) i ≡ Some (variable_of v)
entry_at [] i v small is = absurd (omega arith)
entry_at (u ∷ vs) zero v small is = ap (λ (w : Variable). Some (variable_of w)) (sym is)
entry_at (u ∷ vs) (suc i) v small is = entry_at vs i v (omega arith) is

-- one more of them agrees
pub one_more_agrees : (names : List Text) (xs ys : List (Text × Datum)) (vs : List Variable) (i : ℕ) (v : Variable) → i < length vs → v ≡ get_or vs i v
    → AgreeOn names xs ys i (map variable_of vs) → AgreeAt names xs ys v.name → AgreeOn names xs ys (i + 1) (map variable_of vs)
one_more_agrees names xs ys vs i v small is before at j e less there = go (j == i) refl
  where
    entry : Option (Text × Datum) → Text
    entry None = v.name
    entry (Some w) = w.0

    go : (b : Bool) → (j == i) ≡ b → AgreeAt names xs ys e.0
    go true same =
        let here : Some e ≡ Some (variable_of v) = sym there ∙ ap (slice_get (map variable_of vs)) (eqb-true j i same) ∙ entry_at vs i v small is in
        subst (AgreeAt names xs ys) (sym (ap entry here)) at
    go false other = before j e (omega (arith, less, eqb-false j i other)) there

-- one that does not
pub agrees_there : (names : List Text) (xs ys : List (Text × Datum)) (vs : List Variable) (i : ℕ) (v : Variable) → i < length vs → v ≡ get_or vs i v
    → AgreeOn names xs ys (length vs) (map variable_of vs) → AgreeAt names xs ys v.name
agrees_there names xs ys vs i v small is agree = agree i (variable_of v) small (entry_at vs i v small is)

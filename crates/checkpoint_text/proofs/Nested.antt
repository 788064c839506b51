-- One list more that is open, or one less.
use Rattle.std.proofs.Common.{◌≡◌, List, [], ◌∷◌, ◌++◌, refl, sym, ap, ◌∙◌, append_assoc}
use Rattle.std.specs.Borrow.{Bor}
use Rattle.spec_value.specs.Datum.{Datum, Text, of_list}
use Rattle.spec_value.specs.Literal.{literal, more_text}
use Rattle.checkpoint_text.specs.Nested.{closed_before, closed, to_come, first_to_last, more_to_last}

-- the innermost list
closed_last : (rs : List (Bor (List Datum))) (r : Bor (List Datum)) (t : Text) → closed_before (rs ++ r ∷ []) t ≡ more_text (of_list r.now) ++ (125 ∷ closed_before rs t)
closed_last [] r t = refl
closed_last (q ∷ rs) r t = closed_last rs r (more_text (of_list q.now) ++ (125 ∷ t))

-- a value, and what is left of its list
one_of : (x : Datum) (r : Bor (List Datum)) (rs qs : List (Bor (List Datum))) → qs ≡ rs ++ r ∷ [] → to_come x qs ≡ (literal x ++ more_text (of_list r.now)) ++ (125 ∷ closed rs)
one_of x r rs qs e =
    ap (λ ps. to_come x ps) e ∙ ap (λ t. literal x ++ t) (closed_last rs r []) ∙ sym (append_assoc (literal x) (more_text (of_list r.now)) (125 ∷ closed rs))

pub first_comes : (old new : Text) (x : Datum) (r : Bor (List Datum)) (rs qs : List (Bor (List Datum))) (whole : List Datum)
    → new ≡ old ++ 123 ∷ [] → qs ≡ rs ++ r ∷ [] → whole ≡ x ∷ r.now → new ++ to_come x qs ≡ old ++ first_to_last whole rs
first_comes old new x r rs qs whole wrote begun split =
    ap (λ t. t ++ to_come x qs) wrote ∙ append_assoc old (123 ∷ []) (to_come x qs) ∙ ap (λ t. old ++ 123 ∷ t) (one_of x r rs qs begun)
    ∙ ap (λ xs. old ++ first_to_last xs rs) (sym split)

pub next_comes : (old new : Text) (x : Datum) (r : Bor (List Datum)) (rs qs : List (Bor (List Datum))) (whole : List Datum)
    → new ≡ old ++ 44 ∷ 32 ∷ [] → qs ≡ rs ++ r ∷ [] → whole ≡ x ∷ r.now → new ++ to_come x qs ≡ old ++ more_to_last whole rs
next_comes old new x r rs qs whole wrote begun split =
    ap (λ t. t ++ to_come x qs) wrote ∙ append_assoc old (44 ∷ 32 ∷ []) (to_come x qs) ∙ ap (λ t. old ++ 44 ∷ 32 ∷ t) (one_of x r rs qs begun)
    ∙ ap (λ xs. old ++ more_to_last xs rs) (sym split)

-- what was left of a list is behind the others
pub taken_up : (r : Bor (List Datum)) (rs qs : List (Bor (List Datum))) → qs ≡ rs ++ r ∷ [] → closed qs ≡ more_to_last r.now rs
taken_up r rs qs e = ap closed e ∙ closed_last rs r []

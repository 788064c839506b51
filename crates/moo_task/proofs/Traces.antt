-- The verbs of a traceback, as values.
use Rattle.std.proofs.Common.{◌≡◌, List, [], ◌∷◌, ◌++◌, map, refl, ap}
use Rattle.spec_value.specs.Datum.{item, of_list}
use Rattle.spec_moo.specs.Leaving.{Traced, traced_value, trace_values}

pub values_of_trace : (ts : List Traced) → of_list (map traced_value ts) ≡ trace_values ts
values_of_trace [] = refl
values_of_trace (t ∷ ts) = ap (item (traced_value t)) (values_of_trace ts)

pub one_more : (ts : List Traced) (t : Traced) → map traced_value (ts ++ t ∷ []) ≡ map traced_value ts ++ traced_value t ∷ []
one_more [] t = refl
one_more (u ∷ ts) t = ap (λ vs. traced_value u ∷ vs) (one_more ts t)

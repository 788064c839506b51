-- Ways to leave a part, back from the values that held them.
use Rattle.std.proofs.Common.{◌≡◌, ◌∙◌, ap, refl, sym, arith, ℕ, zero, suc, ◌<◌, pos, negsuc, List, [], ◌∷◌, ◌++◌, length, take, get_or, Option, Some, None}
use Rattle.std.specs.Prelude.{option_map}
use Rattle.spec_value.specs.Datum.{Datum, integer, object, text, error, list, Data, no_data, item, of_list}
use Rattle.spec_moo.specs.Leaving.{Traced, Leaving, onto_trace, read_traced, read_trace, read_loops}
use Rattle.moo_task.specs.Meant.{read_count}

-- ---- the verbs of a traceback

more_read : (o : Option Traced) (p q : Option (List Traced)) (ts : List Traced) (t : Traced) → onto_trace o p ≡ Some ts
    → ((us : List Traced) → p ≡ Some us → q ≡ Some (us ++ t ∷ [])) → onto_trace o q ≡ Some (ts ++ t ∷ [])
more_read None p q ts t e h = absurd (cc)
more_read (Some u) None q ts t e h = absurd (cc)
more_read (Some u) (Some us) q ts t e h = ap (λ z. onto_trace (Some u) z) (h us refl) ∙ ap (λ z. option_map (λ ws. ws ++ t ∷ []) z) e

pub read_more : (xs : List Datum) (ts : List Traced) (v : Datum) (t : Traced) → read_trace (of_list xs) ≡ Some ts → read_traced v ≡ Some t
    → read_trace (of_list (xs ++ v ∷ [])) ≡ Some (ts ++ t ∷ [])
read_more [] ts v t e f = rw f (ap (λ o. option_map (λ us. us ++ t ∷ []) o) e)
read_more (x ∷ xs) ts v t e f =
    more_read (read_traced x) (read_trace (of_list xs)) (read_trace (of_list (xs ++ v ∷ []))) ts t e (λ us h. read_more xs us v t h f)

stops_later : (o : Option Traced) (p : Option (List Traced)) → p ≡ None → onto_trace o p ≡ None
stops_later None p e = refl
stops_later (Some t) p e = ap (λ q. onto_trace (Some t) q) e

pub one_more_taken : (xs : List Datum) (i : ℕ) (v : Datum) → i < length xs → v ≡ get_or xs i v → take (suc i) xs ≡ take i xs ++ v ∷ []
one_more_taken [] i v h e = absurd (omega (arith, h))
one_more_taken (x ∷ xs) zero v h e = ap (λ y. y ∷ []) (sym e)
one_more_taken (x ∷ xs) (suc i) v h e = ap (λ ys. x ∷ ys) (one_more_taken xs i v (omega (arith, h)) e)

pub read_stops : (xs : List Datum) (i : ℕ) (v : Datum) → i < length xs → v ≡ get_or xs i v → read_traced v ≡ None → read_trace (of_list xs) ≡ None
read_stops [] i v h e f = absurd (omega (arith, h))
read_stops (x ∷ xs) zero v h e f = ap (λ o. onto_trace o (read_trace (of_list xs))) (ap read_traced (sym e) ∙ f)
read_stops (x ∷ xs) (suc i) v h e f = stops_later (read_traced x) (read_trace (of_list xs)) (read_stops xs i v (omega (arith, h)) e f)

-- ---- loops

pub counted : (f : ℕ → Leaving) (xs : Data) → read_loops f xs ≡ option_map f (read_count xs)
counted f no_data = refl
counted f (item (integer (pos k)) no_data) = refl
counted f (item (integer (pos k)) (item x xs)) = refl
counted f (item (integer (negsuc k)) xs) = refl
counted f (item (object z) xs) = refl
counted f (item (text t) xs) = refl
counted f (item (error e) xs) = refl
counted f (item (list ys) xs) = refl

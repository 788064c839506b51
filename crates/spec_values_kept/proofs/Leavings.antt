-- How a body was left whose finally part is under way, by what is held of it.
use Rattle.std.proofs.Common.{ℕ, length, ◌+◌, ◌==◌, pos, Bool, true, false, List, [], ◌∷◌, Option, Some, None, option_map, IsTrue, refl, if◌then◌else◌}
use Rattle.spec_value.specs.Datum.{Datum, integer, object, text, list, Data, no_data, item}
use Rattle.spec_value.proofs.Entries.{first_holds, second_holds}
use Rattle.spec_checkpoint.specs.Holding.{is_number}
use Rattle.spec_moo.specs.Leaving.{Leaving, returned, failed, broken, continued, Traced, traced_value, trace_values, failure_value, BodyLeft, ended, left_by, read_traced, onto_trace, read_trace, read_failure, read_return, read_loops, read_numbered, read_left}
use Rattle.spec_values_kept.specs.Values.{is_flat, InRange, IsValue, AreData, IfThere}
use Rattle.spec_values_kept.specs.WorldValues.{IsNumber, LeftHolds}
use Rattle.spec_values_kept.specs.Whole.{left_within}
use Rattle.spec_values_kept.proofs.Nesting.{kept_of}
use Rattle.spec_values_kept.proofs.ValuesGiven.{onto_data, first_datum, later_data, data_of}

abbrev pub LeavingValues : Leaving → Type 0
LeavingValues (returned v) = IsValue v
LeavingValues (failed f) = IsValue (failure_value f)
LeavingValues (broken k) = IsNumber k
LeavingValues (continued k) = IsNumber k

abbrev pub LeftValues : Option BodyLeft → Type 0
LeftValues None = Unit {0}
LeftValues (Some ended) = Unit {0}
LeftValues (Some (left_by l)) = LeavingValues l

traced_back : (d : Datum) → IsValue d → IfThere (λ t. IsValue (traced_value t)) (read_traced d)
traced_back (list (item (object this) (item (text verb) (item (object programmer) (item (object definer) (item (object player) no_data)))))) h = h
traced_back d h = tt

trace_back : (ds : Data) → AreData ds → IfThere (λ ts. AreData (trace_values ts)) (read_trace ds)
trace_back no_data h = refl
trace_back (item d ds) h = go (read_traced d) (read_trace ds) (traced_back d (first_datum d ds h)) (trace_back ds (later_data d ds h))
  where
    go : (a : Option Traced) (b : Option (List Traced)) → IfThere (λ t. IsValue (traced_value t)) a → IfThere (λ ts. AreData (trace_values ts)) b
        → IfThere (λ ts. AreData (trace_values ts)) (onto_trace a b)
    go None b i k = tt
    go (Some t) None i k = tt
    go (Some t) (Some ts) i k = onto_data (traced_value t) (trace_values ts) i k

left_one : (o : Option Leaving) → IfThere LeavingValues o → LeftValues (option_map (λ l. left_by l) o)
left_one None h = tt
left_one (Some l) h = h

failure_back : (xs : Data) → AreData xs → IfThere LeavingValues (read_failure xs)
failure_back (item x (item (text m) (item v (item (list ds) no_data)))) h = go (read_trace ds) (trace_back ds traces)
  where
    first : IsValue x
    first = first_datum x (item (text m) (item v (item (list ds) no_data))) h

    second : AreData (item (text m) (item v (item (list ds) no_data)))
    second = later_data x (item (text m) (item v (item (list ds) no_data))) h

    third : AreData (item v (item (list ds) no_data))
    third = later_data (text m) (item v (item (list ds) no_data)) second

    traces : AreData ds
    traces = first_datum (list ds) no_data (later_data v (item (list ds) no_data) third)

    go : (o : Option (List Traced)) → IfThere (λ ts. AreData (trace_values ts)) o
        → IfThere LeavingValues (option_map (λ trace. failed (record { code = x; message = m; value = v; traceback = trace })) o)
    go None i = tt
    go (Some ts) i = data_of (x ∷ text m ∷ v ∷ list (trace_values ts) ∷ []) (first, (first_datum (text m) (item v (item (list ds) no_data)) second, (first_datum v (item (list ds) no_data) third, (i, tt))))
failure_back xs h = tt

return_back : (xs : Data) → AreData xs → IfThere LeavingValues (read_return xs)
return_back no_data h = tt
return_back (item v no_data) h = first_datum v no_data h
return_back (item v (item u us)) h = tt

loops_back : (f : ℕ → Leaving) (xs : Data) → ((k : ℕ) → InRange (pos k) → LeavingValues (f k)) → AreData xs → IfThere LeavingValues (read_loops f xs)
loops_back f (item (integer (pos k)) no_data) more h = more k (first_datum (integer (pos k)) no_data h)
loops_back f xs more h = tt

numbered_back : (n : ℕ) (xs : Data) → AreData xs → LeftValues (read_numbered n xs)
numbered_back n xs k = whole (n == 0)
  where
    either_loop : (d : Bool) (m : ℕ) → InRange (pos m) → LeavingValues (if d then broken m else continued m)
    either_loop true m i = i
    either_loop false m i = i

    by_loops : IfThere LeavingValues (read_loops (λ m. if n == 3 then broken m else continued m) xs)
    by_loops = loops_back (λ m. if n == 3 then broken m else continued m) xs (either_loop (n == 3)) k

    by_failure : (d : Bool) → IfThere LeavingValues (if d then read_failure xs else read_loops (λ m. if n == 3 then broken m else continued m) xs)
    by_failure true = failure_back xs k
    by_failure false = by_loops

    by_return : (d : Bool) → IfThere LeavingValues (if d then read_return xs else (if n == 2 then read_failure xs else read_loops (λ m. if n == 3 then broken m else continued m) xs))
    by_return true = return_back xs k
    by_return false = by_failure (n == 2)

    whole : (d : Bool)
        → LeftValues (if d then Some ended else option_map (λ l. left_by l) (if n == 1 then read_return xs else (if n == 2 then read_failure xs else read_loops (λ m. if n == 3 then broken m else continued m) xs)))
    whole true = tt
    whole false = left_one (if n == 1 then read_return xs else (if n == 2 then read_failure xs else read_loops (λ m. if n == 3 then broken m else continued m) xs)) (by_return (n == 1))

pub left_back : (d : Datum) → IsValue d → LeftValues (read_left d)
left_back (list (item (integer (pos n)) xs)) k = numbered_back n xs (later_data (integer (pos n)) xs k)
left_back d k = tt

pub left_flat : (around : ℕ) (o : Option BodyLeft) → LeftValues o → IsTrue (left_within around o) → LeftHolds around o
left_flat around None h k = tt
left_flat around (Some ended) h k = tt
left_flat around (Some (left_by (returned v))) h k = kept_of v k h
left_flat around (Some (left_by (failed f))) h k =
    (kept_of (failure_value f) (first_holds (is_flat (failure_value f)) (is_number (length f.traceback + around)) k) h, second_holds (is_flat (failure_value f)) (is_number (length f.traceback + around)) k)
left_flat around (Some (left_by (broken n))) h k = h
left_flat around (Some (left_by (continued n))) h k = h

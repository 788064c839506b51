-- How values compare (Programmer's Manual, "Comparing Values for Order").
use Rattle.std.specs.Prelude.{Option, Some, None}
use Rattle.std.specs.Cmp.Lexicographic.{slice_cmp}
use Rattle.std.specs.Ordering.{nat_cmp, int_cmp}
use Rattle.std.specs.declared.cmp.Ordering.{Ordering}
use Rattle.spec_value.specs.Datum.{Datum, integer, object, text, error, error_number, fold_case}

-- integers and objects by number, errors by their order, texts by their characters with the case of A to Z ignored; nothing else compares
abbrev pub order : Datum → Datum → Option Ordering
order (integer m) (integer n) = Some (int_cmp m n)
order (object m) (object n) = Some (int_cmp m n)
order (text s) (text t) = Some (slice_cmp nat_cmp (fold_case s) (fold_case t))
order (error e) (error f) = Some (nat_cmp (error_number e) (error_number f))
order _ _ = None

-- Values that a field can hold.
use Rattle.std.specs.Prelude.{ℕ, Bool, ◌&&◌, nat_le, List}
use Rattle.std.specs.List.{list_all}
use Rattle.spec_value.specs.Datum.{Datum, is_value}
use Rattle.moo_value.specs.Depth.{depth}
use Rattle.spec_checkpoint.specs.Holding.{is_number}

-- it nests no deeper than literals that are read
abbrev pub nests_no_deeper : Datum → Bool
nests_no_deeper v = nat_le (depth v) 100000

abbrev pub is_readable : Datum → Bool
is_readable v = is_value v && nests_no_deeper v

-- the parts of a construct are counted from 1
abbrev pub are_places : List ℕ → Bool
are_places ns = list_all (λ n. nat_le 1 n && is_number n) ns

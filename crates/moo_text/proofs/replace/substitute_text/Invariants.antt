use Rattle.std.proofs.Common.{◌≡◌, ◌≤◌, ◌-◌, ◌++◌, drop, length, IsTrue, string_bytes}
use Rattle.spec_value.specs.Datum.{is_text}
use Rattle.spec_value.specs.TextSearch.{replaced}
use Rattle.moo_text.proofs.replace.substitute_text.Given as goal

abbrev pub invariant-places : goal.invariant-places
invariant-places l = record {
  place : l.place ≤ length l.text;
  out : IsTrue (is_text (string_bytes l.out));
  left : string_bytes l.out ++ replaced l.case_counts l.sought l.replacement 0 (drop l.place l.text) ≡ replaced l.case_counts l.sought l.replacement 0 l.text;
}

abbrev pub decreases-places : goal.decreases-places
decreases-places l = length l.text - l.place

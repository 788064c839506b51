-- What a line is found to be, by its row.
use Rattle.std.specs.Prelude.{◌≡◌, List, [], Result, Ok, Err, IsTrue}
use Rattle.std.specs.List.{list_all}
use Rattle.spec_faults.specs.Cutting.{is_filled}
use Rattle.spec_faults.specs.Awaited.{Awaited, Verdict, faulty, goes_on}
use Rattle.checkpoint_lines.specs.Rows.{row_fields}
use Rattle.checkpoint_lines.specs.Told.{meant, is_cut}
use Rattle.checkpoint_lines.specs.declared.fault.DecodeError.{DecodeError}
use Rattle.checkpoint_lines.specs.declared.fault.DecodeError.TheVariants.{Line, Memory}
use Rattle.checkpoint_lines.specs.declared.row.Row.{Row}

-- all of a line in its fields, some and none of them empty
pub record IsWhole (r : Row) : Type 0 where
  pub filled : IsTrue (list_all is_filled (row_fields r))
  pub cut : IsTrue (is_cut (row_fields r))
  pub some : row_fields r ≡ [] → ⊥

-- the line goes on so behind what is read; or the error tells its fault
abbrev pub VerdictTells : {A : Type 0} → Result A DecodeError → Row → Verdict → (A → List Awaited) → Type 0
VerdictTells (Ok x) r v after = v ≡ goes_on (after x)
VerdictTells (Err (Line n k)) r v after = (n ≡ r.line) × (v ≡ faulty 0 (meant k))
VerdictTells (Err (Memory e)) r v after = Unit {0}

-- The tests of an entry's own line, each at its place.
use Rattle.std.proofs.Common.{◌≡◌, ℕ, ◌<◌, Bool, true, false, not, List, [], ◌∷◌, length, refl, ap, codes, arith}
use Rattle.spec_value.specs.Datum.{Text}
use Rattle.spec_faults.specs.Cutting.{field_at}
use Rattle.spec_faults.specs.Plain.{is_number, is_object, is_flag, is_one_of}
use Rattle.spec_faults.specs.Literals.{is_literal, any, is_string}
use Rattle.spec_faults.specs.Forms.{is_misspelt, is_no_value, one_is, has_form, frame_form, native_form}
use Rattle.task_lines.proofs.Telling.{form_length}
use Rattle.task_lines.proofs.RowForms.{one_at, none_of}

-- ---- a verb's

module _ (ts : List Text) (h : has_form frame_form ts ≡ true) where
  pub this_misspelt : is_object (field_at ts 1) ≡ false → one_is is_misspelt frame_form ts ≡ true
  this_misspelt f = one_at is_misspelt frame_form ts 1 (form_length frame_form ts h) (omega arith) (ap not f)

  pub caller_misspelt : is_object (field_at ts 2) ≡ false → one_is is_misspelt frame_form ts ≡ true
  caller_misspelt f = one_at is_misspelt frame_form ts 2 (form_length frame_form ts h) (omega arith) (ap not f)

  pub definer_misspelt : is_object (field_at ts 3) ≡ false → one_is is_misspelt frame_form ts ≡ true
  definer_misspelt f = one_at is_misspelt frame_form ts 3 (form_length frame_form ts h) (omega arith) (ap not f)

  pub programmer_misspelt : is_object (field_at ts 4) ≡ false → one_is is_misspelt frame_form ts ≡ true
  programmer_misspelt f = one_at is_misspelt frame_form ts 4 (form_length frame_form ts h) (omega arith) (ap not f)

  pub debug_misspelt : is_flag (field_at ts 6) ≡ false → one_is is_misspelt frame_form ts ≡ true
  debug_misspelt f = one_at is_misspelt frame_form ts 6 (form_length frame_form ts h) (omega arith) (ap not f)

  pub lines_misspelt : is_number 0 9223372036854775807 (field_at ts 7) ≡ false → one_is is_misspelt frame_form ts ≡ true
  lines_misspelt f = one_at is_misspelt frame_form ts 7 (form_length frame_form ts h) (omega arith) (ap not f)

  pub frame_spelt : is_object (field_at ts 1) ≡ true → is_object (field_at ts 2) ≡ true → is_object (field_at ts 3) ≡ true → is_object (field_at ts 4) ≡ true → is_flag (field_at ts 6) ≡ true
      → is_number 0 9223372036854775807 (field_at ts 7) ≡ true → one_is is_misspelt frame_form ts ≡ false
  frame_spelt this caller definer programmer debug lines =
      none_of is_misspelt frame_form 8 ts (form_length frame_form ts h) (refl, (ap not this, (ap not caller, (ap not definer, (ap not programmer, (refl, (ap not debug, (ap not lines, tt))))))))

  pub verb_no_value : is_literal is_string (field_at ts 5) ≡ false → one_is is_no_value frame_form ts ≡ true
  verb_no_value f = one_at is_no_value frame_form ts 5 (form_length frame_form ts h) (omega arith) (ap not f)

  pub frame_values : is_literal is_string (field_at ts 5) ≡ true → one_is is_no_value frame_form ts ≡ false
  frame_values verb = none_of is_no_value frame_form 8 ts (form_length frame_form ts h) (refl, (refl, (refl, (refl, (refl, (ap not verb, (refl, (refl, tt))))))))

-- ---- a built-in function's

abbrev pub is_native_name : Text → Bool
is_native_name t = is_one_of (codes "move" ∷ codes "create" ∷ codes "recycle" ∷ codes "eval" ∷ []) t

module _ (ts : List Text) (h : has_form native_form ts ≡ true) where
  pub name_misspelt : is_native_name (field_at ts 1) ≡ false → one_is is_misspelt native_form ts ≡ true
  name_misspelt f = one_at is_misspelt native_form ts 1 (form_length native_form ts h) (omega arith) (ap not f)

  pub stage_misspelt : is_number 1 3 (field_at ts 2) ≡ false → one_is is_misspelt native_form ts ≡ true
  stage_misspelt f = one_at is_misspelt native_form ts 2 (form_length native_form ts h) (omega arith) (ap not f)

  pub native_spelt : is_native_name (field_at ts 1) ≡ true → is_number 1 3 (field_at ts 2) ≡ true → one_is is_misspelt native_form ts ≡ false
  native_spelt name stage = none_of is_misspelt native_form 4 ts (form_length native_form ts h) (refl, (ap not name, (ap not stage, (refl, tt))))

  pub arguments_no_value : is_literal any (field_at ts 3) ≡ false → one_is is_no_value native_form ts ≡ true
  arguments_no_value f = one_at is_no_value native_form ts 3 (form_length native_form ts h) (omega arith) (ap not f)

  pub native_values : is_literal any (field_at ts 3) ≡ true → one_is is_no_value native_form ts ≡ false
  native_values arguments = none_of is_no_value native_form 4 ts (form_length native_form ts h) (refl, (refl, (refl, (ap not arguments, tt))))

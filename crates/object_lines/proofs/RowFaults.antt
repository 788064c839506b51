-- What the fields of a line of an object tell: the first that is not as it is wanted is the line's fault, and where all are it has none.
use Rattle.std.proofs.Common.{◌≡◌, ◌||◌, pos, Bool, true, false, not, List, [], ◌∷◌, codes, Result, Err, None, IsTrue, refl, ap}
use Rattle.std.specs.List.{list_all}
use Rattle.spec_value.specs.Datum.{Text}
use Rattle.spec_faults.specs.Cutting.{field_at, is_filled}
use Rattle.spec_faults.specs.Plain.{is_integer, is_number, is_object, are_bits, are_flags, number_in}
use Rattle.spec_faults.specs.Literals.{is_literal, is_string, is_programming}
use Rattle.spec_faults.specs.Forms.{Wanted, word, other, value, one_is, is_misspelt, is_other_word, fault_of, connection, object_number, how_many, string, content, object_part, preposition, link_form, slot_form, verb_form}
use Rattle.spec_faults.specs.Awaited.{Verdict, goes_on, verb, code, of_verb}
use Rattle.checkpoint_lines.specs.declared.fault.DecodeError.{DecodeError}
use Rattle.checkpoint_lines.specs.declared.fault.FaultKind.TheVariants as kind
use Rattle.checkpoint_lines.specs.declared.row.Row.{Row}
use Rattle.checkpoint_lines.specs.Rows.{row_fields}
use Rattle.checkpoint_lines.specs.Told.{line_fields, Checks, IsHeaded, IsRow, IsRowFault}
use Rattle.checkpoint_lines.proofs.Telling.{listed, one_word, all_meet, fails_misspelt, fails_value, literal_one, content_one, number_one, flags_one}
use Rattle.object_lines.specs.ObjectAwaited.{is_content, is_object_part, is_preposition}

-- ---- one test before others

pub here : (a b : Bool) → a ≡ false → (not a || b) ≡ true
here a b e = ap (λ x. not x || b) e

pub later : (a b : Bool) → b ≡ true → (not a || b) ≡ true
later true b e = e
later false b e = refl

pub neither : (a b : Bool) → a ≡ true → b ≡ false → (not a || b) ≡ false
neither true b e f = f
neither false b e f = cc

-- ---- the flags of an object

abbrev pub flags_form : List Wanted
flags_form = word (codes "flags") ∷ other (are_flags 6) ∷ []

module _ (r : Row) (h : IsHeaded r (codes "flags") 1) (filled : IsTrue (list_all is_filled (row_fields r))) where
  abbrev flags_test : Bool
  flags_test = are_flags 6 (field_at (row_fields r) 1)

  flags_is : row_fields r ≡ field_at (row_fields r) 0 ∷ field_at (row_fields r) 1 ∷ []
  flags_is = listed 2 (row_fields r) h.many

  flags_word : one_is is_other_word flags_form (field_at (row_fields r) 0 ∷ field_at (row_fields r) 1 ∷ []) ≡ false
  flags_word = one_word (codes "flags") (other (are_flags 6) ∷ []) (field_at (row_fields r) 0) (field_at (row_fields r) 1 ∷ []) h.word refl

  pub flags_fail : {A : Type 0} (res : Result A DecodeError) (e : DecodeError) → res ≡ Err e → Checks res r kind.Number flags_test → IsRowFault e r (fault_of flags_form (line_fields r))
  flags_fail res e was c = fails_misspelt r flags_form (field_at (row_fields r) 0 ∷ field_at (row_fields r) 1 ∷ []) flags_is refl filled flags_word res e flags_test was c (λ k. here flags_test false k)

  pub flags_stand : flags_test ≡ true → fault_of flags_form (line_fields r) ≡ None
  flags_stand f =
      (all_meet r flags_form (field_at (row_fields r) 0 ∷ field_at (row_fields r) 1 ∷ []) flags_is refl filled flags_word (neither flags_test false f refl) refl
      (flags_one 6 (field_at (row_fields r) 1) f)).1

-- ---- links

module _ (r : Row) (h : IsHeaded r (codes "link") 3) (filled : IsTrue (list_all is_filled (row_fields r))) where
  abbrev link_at : List Text
  link_at = field_at (row_fields r) 0 ∷ field_at (row_fields r) 1 ∷ field_at (row_fields r) 2 ∷ field_at (row_fields r) 3 ∷ []

  abbrev number_test : Bool
  number_test = is_integer (pos 1) (pos 999999) (field_at (row_fields r) 1)

  abbrev person_test : Bool
  person_test = is_object (field_at (row_fields r) 2)

  abbrev programming_test : Bool
  programming_test = is_literal is_programming (field_at (row_fields r) 3)

  link_is : row_fields r ≡ link_at
  link_is = listed 4 (row_fields r) h.many

  link_word : one_is is_other_word link_form link_at ≡ false
  link_word =
      one_word (codes "link") (connection ∷ object_number ∷ value (is_literal is_programming) ∷ []) (field_at (row_fields r) 0)
      (field_at (row_fields r) 1 ∷ field_at (row_fields r) 2 ∷ field_at (row_fields r) 3 ∷ []) h.word refl

  link_spelt : number_test ≡ true → person_test ≡ true → one_is is_misspelt link_form link_at ≡ false
  link_spelt a b = neither number_test _ a (neither person_test false b refl)

  pub link_number_fails : {A : Type 0} (res : Result A DecodeError) (e : DecodeError) → res ≡ Err e → Checks res r kind.Number number_test → IsRowFault e r (fault_of link_form (line_fields r))
  link_number_fails res e was c = fails_misspelt r link_form link_at link_is refl filled link_word res e number_test was c (λ k. here number_test _ k)

  pub link_person_fails : {A : Type 0} (res : Result A DecodeError) (e : DecodeError) → res ≡ Err e → Checks res r kind.Number person_test → IsRowFault e r (fault_of link_form (line_fields r))
  link_person_fails res e was c = fails_misspelt r link_form link_at link_is refl filled link_word res e person_test was c (λ k. later number_test _ (here person_test false k))

  -- by a test that what a link is programming passes too
  pub link_value_fails : {A : Type 0} (res : Result A DecodeError) (e : DecodeError) (test : Bool) → res ≡ Err e → Checks res r kind.Value test → number_test ≡ true → person_test ≡ true
      → (test ≡ false → programming_test ≡ false) → IsRowFault e r (fault_of link_form (line_fields r))
  link_value_fails res e test was c a b so =
      fails_value r link_form link_at link_is refl filled link_word res e test was c (link_spelt a b) (λ k. here programming_test false (so k))

  pub link_stands : number_test ≡ true → person_test ≡ true → programming_test ≡ true → fault_of link_form (line_fields r) ≡ None
  link_stands a b d =
      (all_meet r link_form link_at link_is refl filled link_word (link_spelt a b) (neither programming_test false d refl) (literal_one is_programming (field_at (row_fields r) 3) d)).1

-- ---- slots

module _ (r : Row) (h : IsHeaded r (codes "slot") 3) (filled : IsTrue (list_all is_filled (row_fields r))) where
  abbrev slot_at : List Text
  slot_at = field_at (row_fields r) 0 ∷ field_at (row_fields r) 1 ∷ field_at (row_fields r) 2 ∷ field_at (row_fields r) 3 ∷ []

  abbrev owner_test : Bool
  owner_test = is_object (field_at (row_fields r) 1)

  abbrev bits_test : Bool
  bits_test = are_bits (codes "rwc") (field_at (row_fields r) 2)

  abbrev content_test : Bool
  content_test = is_content (field_at (row_fields r) 3)

  slot_is : row_fields r ≡ slot_at
  slot_is = listed 4 (row_fields r) h.many

  slot_word : one_is is_other_word slot_form slot_at ≡ false
  slot_word =
      one_word (codes "slot") (object_number ∷ other (are_bits (codes "rwc")) ∷ content ∷ []) (field_at (row_fields r) 0)
      (field_at (row_fields r) 1 ∷ field_at (row_fields r) 2 ∷ field_at (row_fields r) 3 ∷ []) h.word refl

  slot_spelt : owner_test ≡ true → bits_test ≡ true → one_is is_misspelt slot_form slot_at ≡ false
  slot_spelt a b = neither owner_test _ a (neither bits_test false b refl)

  pub slot_owner_fails : {A : Type 0} (res : Result A DecodeError) (e : DecodeError) → res ≡ Err e → Checks res r kind.Number owner_test → IsRowFault e r (fault_of slot_form (line_fields r))
  slot_owner_fails res e was c = fails_misspelt r slot_form slot_at slot_is refl filled slot_word res e owner_test was c (λ k. here owner_test _ k)

  pub slot_bits_fail : {A : Type 0} (res : Result A DecodeError) (e : DecodeError) → res ≡ Err e → Checks res r kind.Number bits_test → IsRowFault e r (fault_of slot_form (line_fields r))
  slot_bits_fail res e was c = fails_misspelt r slot_form slot_at slot_is refl filled slot_word res e bits_test was c (λ k. later owner_test _ (here bits_test false k))

  pub slot_content_fails : {A : Type 0} (res : Result A DecodeError) (e : DecodeError) → res ≡ Err e → Checks res r kind.Value content_test → owner_test ≡ true → bits_test ≡ true
      → IsRowFault e r (fault_of slot_form (line_fields r))
  slot_content_fails res e was c a b = fails_value r slot_form slot_at slot_is refl filled slot_word res e content_test was c (slot_spelt a b) (λ k. here content_test false k)

  pub slot_stands : owner_test ≡ true → bits_test ≡ true → content_test ≡ true → fault_of slot_form (line_fields r) ≡ None
  slot_stands a b d =
      (all_meet r slot_form slot_at slot_is refl filled slot_word (slot_spelt a b) (neither content_test false d refl) (content_one (field_at (row_fields r) 3) d)).1

-- ---- verbs

module _ (r : Row) (h : IsHeaded r (codes "verb") 7) (filled : IsTrue (list_all is_filled (row_fields r))) where
  abbrev behind_word : List Text
  behind_word =
      field_at (row_fields r) 1 ∷ field_at (row_fields r) 2 ∷ field_at (row_fields r) 3 ∷ field_at (row_fields r) 4 ∷ field_at (row_fields r) 5 ∷ field_at (row_fields r) 6
      ∷ field_at (row_fields r) 7 ∷ []

  abbrev verb_at : List Text
  verb_at = field_at (row_fields r) 0 ∷ behind_word

  abbrev names_test : Bool
  names_test = is_literal is_string (field_at (row_fields r) 1)

  abbrev holder_test : Bool
  holder_test = is_object (field_at (row_fields r) 2)

  abbrev rights_test : Bool
  rights_test = are_bits (codes "rwxd") (field_at (row_fields r) 3)

  abbrev direct_test : Bool
  direct_test = is_object_part (field_at (row_fields r) 4)

  abbrev set_test : Bool
  set_test = is_preposition (field_at (row_fields r) 5)

  abbrev indirect_test : Bool
  indirect_test = is_object_part (field_at (row_fields r) 6)

  abbrev many_test : Bool
  many_test = is_number 0 9223372036854775807 (field_at (row_fields r) 7)

  verb_is : row_fields r ≡ verb_at
  verb_is = listed 8 (row_fields r) h.many

  verb_word : one_is is_other_word verb_form verb_at ≡ false
  verb_word =
      one_word (codes "verb") (string ∷ object_number ∷ other (are_bits (codes "rwxd")) ∷ object_part ∷ preposition ∷ object_part ∷ how_many ∷ []) (field_at (row_fields r) 0) behind_word
      h.word refl

  verb_spelt : holder_test ≡ true → rights_test ≡ true → direct_test ≡ true → set_test ≡ true → indirect_test ≡ true → many_test ≡ true → one_is is_misspelt verb_form verb_at ≡ false
  verb_spelt a b c d e f = neither holder_test _ a (neither rights_test _ b (neither direct_test _ c (neither set_test _ d (neither indirect_test _ e (neither many_test false f refl)))))

  pub verb_owner_fails : {A : Type 0} (res : Result A DecodeError) (e : DecodeError) → res ≡ Err e → Checks res r kind.Number holder_test → IsRowFault e r (fault_of verb_form (line_fields r))
  verb_owner_fails res e was c = fails_misspelt r verb_form verb_at verb_is refl filled verb_word res e holder_test was c (λ k. here holder_test _ k)

  pub verb_bits_fail : {A : Type 0} (res : Result A DecodeError) (e : DecodeError) → res ≡ Err e → Checks res r kind.Number rights_test → IsRowFault e r (fault_of verb_form (line_fields r))
  verb_bits_fail res e was c = fails_misspelt r verb_form verb_at verb_is refl filled verb_word res e rights_test was c (λ k. later holder_test _ (here rights_test _ k))

  pub verb_direct_fails : {A : Type 0} (res : Result A DecodeError) (e : DecodeError) → res ≡ Err e → Checks res r kind.Number direct_test → IsRowFault e r (fault_of verb_form (line_fields r))
  verb_direct_fails res e was c = fails_misspelt r verb_form verb_at verb_is refl filled verb_word res e direct_test was c (λ k. later holder_test _ (later rights_test _ (here direct_test _ k)))

  pub verb_preposition_fails : {A : Type 0} (res : Result A DecodeError) (e : DecodeError) → res ≡ Err e → Checks res r kind.Number set_test → IsRowFault e r (fault_of verb_form (line_fields r))
  verb_preposition_fails res e was c = fails_misspelt r verb_form verb_at verb_is refl filled verb_word res e set_test was c (λ k. later holder_test _ (later rights_test _ (later direct_test _ (here set_test _ k))))

  pub verb_indirect_fails : {A : Type 0} (res : Result A DecodeError) (e : DecodeError) → res ≡ Err e → Checks res r kind.Number indirect_test → IsRowFault e r (fault_of verb_form (line_fields r))
  verb_indirect_fails res e was c = fails_misspelt r verb_form verb_at verb_is refl filled verb_word res e indirect_test was c (λ k. later holder_test _ (later rights_test _ (later direct_test _ (later set_test _ (here indirect_test _ k)))))

  pub verb_lines_fail : {A : Type 0} (res : Result A DecodeError) (e : DecodeError) → res ≡ Err e → Checks res r kind.Number many_test → IsRowFault e r (fault_of verb_form (line_fields r))
  verb_lines_fail res e was c = fails_misspelt r verb_form verb_at verb_is refl filled verb_word res e many_test was c (λ k. later holder_test _ (later rights_test _ (later direct_test _ (later set_test _ (later indirect_test _ (here many_test false k))))))

  pub verb_names_fail : {A : Type 0} (res : Result A DecodeError) (e : DecodeError) → res ≡ Err e → Checks res r kind.Value names_test → holder_test ≡ true → rights_test ≡ true → direct_test ≡ true → set_test ≡ true → indirect_test ≡ true → many_test ≡ true
      → IsRowFault e r (fault_of verb_form (line_fields r))
  verb_names_fail res err was ch a b c d e f =
      fails_value r verb_form verb_at verb_is refl filled verb_word res err names_test was ch (verb_spelt a b c d e f) (λ k. here names_test false k)

  pub verb_stands : names_test ≡ true → holder_test ≡ true → rights_test ≡ true → direct_test ≡ true → set_test ≡ true → indirect_test ≡ true → many_test ≡ true
      → (line_fields r ≡ verb_at) × (fault_of verb_form (line_fields r) ≡ None)
  verb_stands n a b c d e f =
      all_meet r verb_form verb_at verb_is refl filled verb_word (verb_spelt a b c d e f) (neither names_test false n refl) (number_one 0 9223372036854775807 (field_at (row_fields r) 7) f)

-- behind its own line come those of its program
abbrev pub verb_next : List Text → Verdict
verb_next ts = goes_on (code (number_in (field_at ts 7)) [] of_verb ∷ [])

pub verb_row_is : IsRow verb (λ _. verb_form) verb_next
verb_row_is = record { told = λ t. refl; first = λ more. refl }

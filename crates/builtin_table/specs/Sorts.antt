-- Kinds of arguments.
use Rattle.std.specs.Prelude.{◌+◌, ◌≤◌, Bool, true, false, ◌&&◌, List, [], ◌∷◌, length, IsTrue}
use Rattle.spec_value.specs.Datum.{Datum, object, text}
use Rattle.spec_moo.specs.Natives.Rows as rows
use Rattle.builtin_table.specs.declared.sort.Sort.{Sort}
use Rattle.builtin_table.specs.declared.sort.Sort.TheVariants.{AnyValue, Integer, Object, Text, Verb, TextLines, OwnerAndBits, OwnerBitsNames, VerbSpecifier}

abbrev pub sort_of : Sort → rows.Sort
sort_of AnyValue = rows.any_value
sort_of Integer = rows.an_integer
sort_of Object = rows.an_object
sort_of Text = rows.a_text
sort_of Verb = rows.a_verb
sort_of TextLines = rows.text_lines
sort_of OwnerAndBits = rows.owner_and_bits
sort_of OwnerBitsNames = rows.owner_bits_names
sort_of VerbSpecifier = rows.verb_specifier

abbrev pub is_object : Datum → Bool
is_object (object o) = true
is_object v = false

abbrev pub is_text : Datum → Bool
is_text (text t) = true
is_text v = false

-- ---- items of given kinds

abbrev pub is_end : List Datum → Bool
is_end [] = true
is_end (v ∷ vs) = false

abbrev pub one_text : List Datum → Bool
one_text [] = false
one_text (v ∷ vs) = is_text v && is_end vs

abbrev pub two_texts : List Datum → Bool
two_texts [] = false
two_texts (v ∷ vs) = is_text v && one_text vs

abbrev pub three_texts : List Datum → Bool
three_texts [] = false
three_texts (v ∷ vs) = is_text v && two_texts vs

abbrev pub object_and_text : List Datum → Bool
object_and_text [] = false
object_and_text (v ∷ vs) = is_object v && one_text vs

abbrev pub object_and_texts : List Datum → Bool
object_and_texts [] = false
object_and_texts (v ∷ vs) = is_object v && two_texts vs

-- ---- arguments: as many as are wanted, and at most those that are taken besides, each of its sort

pub record Fit (wanted further : List rows.Sort) (args : List Datum) : Type 0 where
  pub fewest : length wanted ≤ length args
  pub most : length args ≤ length wanted + length further
  pub kinds : IsTrue (rows.all_fit wanted further args)

-- The lines of an object tell all of it but the names of its slots.
use Rattle.std.proofs.Common.{◌≡◌, ℤ, List, [], ◌∷◌, ◌++◌, map, length, get_or, drop, IsTrue, Bool, true, false, not, ◌&&◌, ◌==◌, refl, ap, sym, ◌∙◌, codes, append_assoc, Option, Some, None}
use Rattle.std.specs.List.{list_all}
use Rattle.std.specs.Fmt.{signed_decimal}
use Rattle.std.proofs.lemmas.List.{append_cancel_left}
use Rattle.spec_value.specs.Datum.{Text, is_text, text, in_number_range}
use Rattle.spec_value.specs.Literal.{literal}
use Rattle.spec_value.specs.Table.{Numbered}
use Rattle.spec_value.proofs.Entries.{first_holds, second_holds, both_hold}
use Rattle.spec_world.specs.World.{World, Header, Object, Slot, object_at}
use Rattle.spec_world.specs.Inherit.{ancestors, slot_at}
use Rattle.spec_world.specs.Checkpoint.{fields, counted, object_text, object_list, text_list, list_literal, flags_text, slot_line, slots_named, names_defined, slots_along, each_verb, verb_lines, object_lines, each_object}
use Rattle.spec_checkpoint.specs.Holding.{slot_holds, verb_holds, header_holds, object_holds, numbered_object_holds}
use Rattle.spec_checkpoint.proofs.CodeLines.{closes, all_both}
use Rattle.spec_checkpoint.proofs.Runs.{rest_same, stops, runs_read_once, each_of, AreRecords, records_read_once, begins_with}
use Rattle.spec_checkpoint.proofs.Fields.{whole_signed, whole_text, whole_objects, whole_texts, flag_same, whole_flag}
use Rattle.spec_checkpoint.proofs.VerbRecords.{is_verb_line, verbs_in_front}
use Rattle.spec_checkpoint.proofs.OpenLines.{signed_open, not_closed_behind}

-- an object by its number, and the lines of its slots
abbrev pub Shown : Type 0
Shown = ℤ × Object × List Text

abbrev pub shown_lines : Shown → List Text
shown_lines e =
    fields (codes "object" ∷ signed_decimal e.0 ∷ [])
    ∷ fields (codes "name" ∷ literal (text (e.1).header.name) ∷ [])
    ∷ fields (codes "owner" ∷ object_text (e.1).header.owner ∷ [])
    ∷ fields (codes "parent" ∷ object_text (e.1).header.parent ∷ [])
    ∷ fields (codes "location" ∷ object_text (e.1).header.location ∷ [])
    ∷ fields (codes "children" ∷ list_literal (object_list (e.1).children) ∷ [])
    ∷ fields (codes "contents" ∷ list_literal (object_list (e.1).contents) ∷ [])
    ∷ fields (codes "flags" ∷ flags_text e.1 ∷ [])
    ∷ fields (codes "defines" ∷ list_literal (text_list (e.1).defines) ∷ [])
    ∷ ((counted (codes "slots") (length e.2) ∷ e.2) ++ verb_lines (e.1).verbs)

-- all that they tell
abbrev pub without_slots : Object → Object
without_slots x = record x { slots = [] }

abbrev pub shown_key : Shown → ℤ × (Object × List Text)
shown_key e = (e.0, (without_slots e.1, e.2))

-- ---- slots

abbrev pub is_slot_line : Text → Bool
is_slot_line [] = false
is_slot_line (c ∷ t) = c == 115

abbrev are_slot_lines : List Text → Bool
are_slot_lines ts = list_all is_slot_line ts

slot_is_line : (s : Option Slot) → IsTrue (are_slot_lines (slot_line s))
slot_is_line None = refl
slot_is_line (Some s) = refl

named_are_lines : (w : World) (o : ℤ) (ts : List Text) → IsTrue (are_slot_lines (slots_named w o ts))
named_are_lines w o [] = refl
named_are_lines w o (t ∷ ts) = all_both is_slot_line (slot_line (slot_at w o t)) (slots_named w o ts) (slot_is_line (slot_at w o t)) (named_are_lines w o ts)

slots_are_lines : (w : World) (o : ℤ) (ps : List ℤ) → IsTrue (are_slot_lines (slots_along w o ps))
slots_are_lines w o [] = refl
slots_are_lines w o (p ∷ ps) =
    all_both is_slot_line (slots_named w o (names_defined (object_at w p))) (slots_along w o ps) (named_are_lines w o (names_defined (object_at w p))) (slots_are_lines w o ps)

-- ---- an object

abbrev shown_holds : Shown → Bool
shown_holds e = in_number_range e.0 && (object_holds e.1 && are_slot_lines e.2)

abbrev behind_object : List Text → Bool
behind_object r = stops closes r && not (begins_with is_verb_line r)

abbrev is_object_line : Text → Bool
is_object_line [] = false
is_object_line (c ∷ t) = c == 111

header_told : (x y : Object) → IsTrue (header_holds x.header) → IsTrue (header_holds y.header)
    → fields (codes "name" ∷ literal (text x.header.name) ∷ []) ≡ fields (codes "name" ∷ literal (text y.header.name) ∷ [])
    → fields (codes "owner" ∷ object_text x.header.owner ∷ []) ≡ fields (codes "owner" ∷ object_text y.header.owner ∷ [])
    → fields (codes "parent" ∷ object_text x.header.parent ∷ []) ≡ fields (codes "parent" ∷ object_text y.header.parent ∷ [])
    → fields (codes "location" ∷ object_text x.header.location ∷ []) ≡ fields (codes "location" ∷ object_text y.header.location ∷ [])
    → fields (codes "flags" ∷ flags_text x ∷ []) ≡ fields (codes "flags" ∷ flags_text y ∷ []) → x.header ≡ y.header
header_told x y h k en eo ep el ef =
    let a : Header = x.header in
    let b : Header = y.header in
    let h1 = second_holds (is_text a.name) _ h in
    let k1 = second_holds (is_text b.name) _ k in
    let h2 = second_holds (in_number_range a.owner) _ h1 in
    let k2 = second_holds (in_number_range b.owner) _ k1 in
    let n = whole_text a.name b.name (append_cancel_left (codes "name ") _ _ en) in
    let o = whole_signed a.owner b.owner (first_holds (in_number_range a.owner) _ h1) (first_holds (in_number_range b.owner) _ k1) (append_cancel_left (codes "owner #") _ _ eo) in
    let p = whole_signed a.parent b.parent (first_holds (in_number_range a.parent) _ h2) (first_holds (in_number_range b.parent) _ k2) (append_cancel_left (codes "parent #") _ _ ep) in
    let l = whole_signed a.location b.location (second_holds (in_number_range a.parent) (in_number_range a.location) h2) (second_holds (in_number_range b.parent) (in_number_range b.location) k2) (append_cancel_left (codes "location #") _ _ el) in
    let f1 = flag_same a.is_player b.is_player _ _ (append_cancel_left (codes "flags ") (flags_text x) (flags_text y) ef) in
    let f2 = flag_same a.is_programmer b.is_programmer _ _ f1.1 in
    let f3 = flag_same a.is_wizard b.is_wizard _ _ f2.1 in
    let f4 = flag_same a.readable b.readable _ _ f3.1 in
    let f5 = flag_same a.writable b.writable _ _ f4.1 in
    let f6 = whole_flag a.fertile b.fertile f5.1 in
    λ i. record {
      name = n i;
      owner = o i;
      parent = p i;
      location = l i;
      is_player = f1.0 i;
      is_programmer = f2.0 i;
      is_wizard = f3.0 i;
      readable = f4.0 i;
      writable = f5.0 i;
      fertile = f6 i;
    }

object_same : (x y : Shown) (r s : List Text) → IsTrue (shown_holds x) → IsTrue (shown_holds y) → IsTrue (behind_object r) → IsTrue (behind_object s)
    → shown_lines x ++ r ≡ shown_lines y ++ s → (shown_key x ≡ shown_key y) × (r ≡ s)
object_same x y r s h k f g e =
    let a : Object = x.1 in
    let b : Object = y.1 in
    let h0 = second_holds (in_number_range x.0) _ h in
    let k0 = second_holds (in_number_range y.0) _ k in
    let ha = first_holds (object_holds a) (are_slot_lines x.2) h0 in
    let kb = first_holds (object_holds b) (are_slot_lines y.2) k0 in
    let h1 = second_holds (header_holds a.header) _ ha in
    let k1 = second_holds (header_holds b.header) _ kb in
    let h2 = second_holds (list_all in_number_range a.children) _ h1 in
    let k2 = second_holds (list_all in_number_range b.children) _ k1 in
    let h3 = second_holds (list_all in_number_range a.contents) _ h2 in
    let k3 = second_holds (list_all in_number_range b.contents) _ k2 in
    let h4 = second_holds (list_all is_text a.defines) _ h3 in
    let k4 = second_holds (list_all is_text b.defines) _ k3 in
    let hv = second_holds (list_all (λ (q : Text × Slot). slot_holds q.1) a.slots) (list_all verb_holds a.verbs) h4 in
    let kv = second_holds (list_all (λ (q : Text × Slot). slot_holds q.1) b.slots) (list_all verb_holds b.verbs) k4 in
    let number = whole_signed x.0 y.0 (first_holds (in_number_range x.0) _ h) (first_holds (in_number_range y.0) _ k) (append_cancel_left (codes "object ") _ _ (ap (λ ts. get_or ts 0 []) e)) in
    let header = header_told a b (first_holds (header_holds a.header) _ ha) (first_holds (header_holds b.header) _ kb) (ap (λ ts. get_or ts 1 []) e) (ap (λ ts. get_or ts 2 []) e) (ap (λ ts. get_or ts 3 []) e) (ap (λ ts. get_or ts 4 []) e) (ap (λ ts. get_or ts 7 []) e) in
    let children = whole_objects a.children b.children (first_holds (list_all in_number_range a.children) _ h1) (first_holds (list_all in_number_range b.children) _ k1) (append_cancel_left (codes "children ") _ _ (ap (λ ts. get_or ts 5 []) e)) in
    let contents = whole_objects a.contents b.contents (first_holds (list_all in_number_range a.contents) _ h2) (first_holds (list_all in_number_range b.contents) _ k2) (append_cancel_left (codes "contents ") _ _ (ap (λ ts. get_or ts 6 []) e)) in
    let defines = whole_texts a.defines b.defines (first_holds (list_all is_text a.defines) _ h3) (first_holds (list_all is_text b.defines) _ k3) (append_cancel_left (codes "defines ") _ _ (ap (λ ts. get_or ts 8 []) e)) in
    let later : (x.2 ++ verb_lines a.verbs) ++ r ≡ (y.2 ++ verb_lines b.verbs) ++ s = ap (λ ts. drop 10 ts) e in
    let slots = runs_read_once is_slot_line x.2 y.2 (verb_lines a.verbs ++ r) (verb_lines b.verbs ++ s) (second_holds (object_holds a) (are_slot_lines x.2) h0) (second_holds (object_holds b) (are_slot_lines y.2) k0) refl refl
    (sym (append_assoc x.2 (verb_lines a.verbs) r) ∙ later ∙ append_assoc y.2 (verb_lines b.verbs) s) in
    let verbs = verbs_in_front a.verbs b.verbs r s hv kv (first_holds (stops closes r) _ f) (first_holds (stops closes s) _ g)
    (second_holds (stops closes r) (not (begins_with is_verb_line r)) f) (second_holds (stops closes s) (not (begins_with is_verb_line s)) g)
    (rest_same _ _ (each_verb a.verbs ++ r) (each_verb b.verbs ++ s) slots.1) in
    (λ i. (number i, (record { header = header i; children = children i; contents = contents i; defines = defines i; slots = []; verbs = verbs.0 i }, slots.0 i)), verbs.1)

object_goes : (x : Shown) (r : List Text) → IsTrue (behind_object (shown_lines x ++ r))
object_goes x r = both_hold (not (closes (fields (codes "object" ∷ signed_decimal x.0 ∷ [])))) true (not_closed_behind (codes "object ") (signed_decimal x.0) (signed_open x.0)) refl

objects_are : AreRecords shown_lines shown_key shown_holds (begins_with is_object_line) behind_object
objects_are = record { starts = λ x r. refl; goes = object_goes; one = object_same }

-- ---- the objects of a world

abbrev pub shown_in : World → ℤ × Object → Shown
shown_in w e = (e.0, e.1, slots_along w e.0 (ancestors w e.0))

objects_each : (w : World) (es : Numbered Object) → each_object w es ≡ each_of shown_lines (map (shown_in w) es)
objects_each w [] = refl
objects_each w (e ∷ es) = ap (λ ts. object_lines w e.0 e.1 ++ ts) (objects_each w es)

objects_hold : (w : World) (es : Numbered Object) → IsTrue (list_all numbered_object_holds es) → IsTrue (list_all shown_holds (map (shown_in w) es))
objects_hold w [] h = refl
objects_hold w (e ∷ es) h =
    let one = first_holds (numbered_object_holds e) (list_all numbered_object_holds es) h in
    both_hold (shown_holds (shown_in w e)) (list_all shown_holds (map (shown_in w) es))
    (both_hold (in_number_range e.0) (object_holds e.1 && are_slot_lines (slots_along w e.0 (ancestors w e.0))) (first_holds (in_number_range e.0) (object_holds e.1) one)
    (both_hold (object_holds e.1) (are_slot_lines (slots_along w e.0 (ancestors w e.0))) (second_holds (in_number_range e.0) (object_holds e.1) one) (slots_are_lines w e.0 (ancestors w e.0))))
    (objects_hold w es (second_holds (numbered_object_holds e) (list_all numbered_object_holds es) h))

-- what is shown of each object, in front of a line that is neither an object's nor a verb's nor a program's
pub objects_in_front : (v w : World) (es fs : Numbered Object) (r s : List Text) → IsTrue (list_all numbered_object_holds es) → IsTrue (list_all numbered_object_holds fs)
    → IsTrue (stops closes r) → IsTrue (stops closes s) → IsTrue (not (begins_with is_verb_line r)) → IsTrue (not (begins_with is_verb_line s))
    → IsTrue (not (begins_with is_object_line r)) → IsTrue (not (begins_with is_object_line s)) → each_object v es ++ r ≡ each_object w fs ++ s
    → (map shown_key (map (shown_in v) es) ≡ map shown_key (map (shown_in w) fs)) × (r ≡ s)
objects_in_front v w es fs r s h k f g m n a b e =
    records_read_once shown_lines shown_key shown_holds (begins_with is_object_line) behind_object (objects_are) (map (shown_in v) es) (map (shown_in w) fs) r s (objects_hold v es h) (objects_hold w fs k)
    (both_hold (stops closes r) (not (begins_with is_verb_line r)) f m) (both_hold (stops closes s) (not (begins_with is_verb_line s)) g n) a b
    (ap (λ ts. ts ++ r) (sym (objects_each v es)) ∙ e ∙ ap (λ ts. ts ++ s) (objects_each w fs))

-- The lines of links and of objects have no fault.
use Rattle.std.proofs.Common.{◌≡◌, ℕ, zero, suc, ◌+◌, ◌<◌, ◌≤◌, ◌^◌, ◌&&◌, ℤ, pos, negsuc, int_le, Bool, true, false, List, [], ◌∷◌, ◌++◌, length, codes, Option, Some, None, IsTrue, refl, ap, sym, subst, ◌∙◌, arith, append_assoc, length-append, cond}
use Rattle.std.specs.Ordering.{eq_by_cmp, nat_cmp}
use Rattle.std.specs.Cmp.Lexicographic.{slice_cmp}
use Rattle.std.proofs.lemmas.Bool.Decides.{nat_tests}
use Rattle.std.specs.List.{list_all}
use Rattle.std.specs.Fmt.{decimal, signed_decimal}
use Rattle.spec_value.specs.Datum.{Text, is_text, text, in_number_range, is_value}
use Rattle.spec_value.specs.Literal.{literal}
use Rattle.spec_value.specs.Table.{Numbered, Named, named}
use Rattle.spec_value.proofs.Entries.{first_holds, second_holds, both_hold, each_entry as each_found}
use Rattle.spec_program.specs.Tree.{Program, the_end}
use Rattle.spec_program.specs.Trees.{is_tree}
use Rattle.spec_program.specs.Spelling.{canonical_lines}
use Rattle.spec_spelling.proofs.ProgramsCut.{one_tree}
use Rattle.spec_world.specs.World.{World, Link, Slot, Verb, Header, Object, object_at}
use Rattle.spec_world.specs.WellFormed.{is_connection}
use Rattle.spec_world.specs.Inherit.{ancestors, slot_of, slot_at}
use Rattle.spec_world.specs.Checkpoint.{fields, counted, object_text, object_list, text_list, list_literal, flags_text, programming_held, link_lines, slot_bits, content_text, slot_line, slots_named, names_defined, slots_along, verb_bits, part_text, preposition_number, verb_line, each_verb, verb_lines, object_lines, each_object}
use Rattle.spec_checkpoint.specs.Records.{link_holds}
use Rattle.spec_checkpoint.specs.Holding.{content_holds, slot_holds, preposition_holds, verb_holds, header_holds, object_holds, numbered_object_holds}
use Rattle.spec_faults.specs.Plain.{number_in, are_flags, is_integer}
use Rattle.spec_faults.specs.Forms as form
use Rattle.spec_faults.specs.Forms.{Wanted, word, other, value}
use Rattle.spec_faults.specs.Codes.{program_of}
use Rattle.spec_faults.specs.Awaited as awaited
use Rattle.spec_faults.specs.Awaited.{Awaited, one, again, Group, each_link, each_slot, group, Whose, of_verb, of_frame, code, behind_code, whole_code, goes_on, told, opened}
use Rattle.spec_faults.specs.FieldLaws.{is_unmarked}
use Rattle.spec_faults.specs.Cutting.{is_filled, field_at}
use Rattle.spec_faults.specs.Reach.{content_near, preposition_near, object_near}
use Rattle.spec_faults.proofs.Spelling.{programs_told}
use Rattle.spec_faults.proofs.Suiting.{AllSuit, form_told, one_told}
use Rattle.spec_faults.proofs.FieldsSuit.{a_word, a_count, count_said, an_integer, an_object, some_flags, slot_bits_suit, verb_bits_suit, part_suits, preposition_suits, a_string, content_suits, some_objects, some_texts, programming_suits}
use Rattle.spec_faults.proofs.Fine.{Fine, fine_same, fine_line, AllTold, told_then, fine_group}
use Rattle.spec_faults.proofs.Entering.{EachIs}

pub fine_one : (ws : List Wanted) (t : Text) (ts us : List Text) (more : List Awaited) → AllSuit ws (t ∷ ts) → Fine us more → Fine (fields (t ∷ ts) ∷ us) (one ws ∷ more)
fine_one ws t ts us more s f = fine_line (one ws) [] more (fields (t ∷ ts)) us refl (one_told ws t ts s) f

pub counted_told : (w : Text) (g : Group) (n : ℕ) → IsTrue (list_all is_unmarked w) → IsTrue (is_filled w) → n < 2 ^ 63 → told (awaited.counted w g) (counted w n) ≡ goes_on (again n g ∷ [])
counted_told w g n h k l =
    form_told (form.counted_form w) w (decimal n ∷ []) (λ ts. goes_on (again (number_in (field_at ts 1)) g ∷ [])) (a_word w h k, (a_count n l, tt)) ∙ ap (λ m. goes_on (again m g ∷ [])) (count_said n l)

pub fine_counted : (w : Text) (g : Group) (n : ℕ) (us : List Text) (more : List Awaited) → IsTrue (list_all is_unmarked w) → IsTrue (is_filled w) → n < 2 ^ 63
    → Fine us (again n g ∷ more) → Fine (counted w n ∷ us) (awaited.counted w g ∷ more)
fine_counted w g n us more h k l f = fine_line (awaited.counted w g) (again n g ∷ []) more (counted w n) us refl (counted_told w g n h k l) f

-- ---- links

link_told : (c : ℤ) (k : Link) → IsTrue (is_connection c) → IsTrue (link_holds (c, k)) → AllTold form.link_form (link_lines ((c, k) ∷ []))
link_told c k h l =
    let person = second_holds (in_number_range c) (in_number_range k.person && is_value (programming_held k.programming)) l in (
      one_told form.link_form (codes "link") (signed_decimal c ∷ object_text k.person ∷ literal (programming_held k.programming) ∷ []) (a_word (codes "link") refl refl, (an_integer (pos 1) (pos 999999) c (first_holds (in_number_range c) (in_number_range k.person && is_value (programming_held k.programming)) l) h, (an_object k.person (first_holds (in_number_range k.person) (is_value (programming_held k.programming)) person), (programming_suits k.programming (second_holds (in_number_range k.person) (is_value (programming_held k.programming)) person), tt)))),
      tt,
    )

links_told : (es : Numbered Link) → EachIs (λ c k. IsTrue (is_connection c)) es → IsTrue (list_all link_holds es) → AllTold form.link_form (link_lines es)
links_told [] h l = tt
links_told (e ∷ es) h l =
    told_then form.link_form (link_lines (e ∷ [])) (link_lines es) (link_told e.0 e.1 h.0 (first_holds (link_holds e) (list_all link_holds es) l)) (links_told es h.1 (second_holds (link_holds e) (list_all link_holds es) l))

pub as_many_links : (es : Numbered Link) → length (link_lines es) ≡ length es
as_many_links [] = refl
as_many_links (e ∷ es) = ap suc (as_many_links es)

pub links_fine : (es : Numbered Link) (us : List Text) (more : List Awaited) → EachIs (λ c k. IsTrue (is_connection c)) es → IsTrue (list_all link_holds es) → Fine us more
    → Fine (link_lines es ++ us) (again (length es) each_link ∷ more)
links_fine es us more h l f =
    subst (λ n. Fine (link_lines es ++ us) (again n each_link ∷ more)) (as_many_links es) (fine_group each_link form.link_form refl (link_lines es) us more (links_told es h l) f)

-- ---- slots

abbrev slot_good : Slot → Bool
slot_good s = slot_holds s && content_near s.content

abbrev found_good : Option Slot → Bool
found_good None = true
found_good (Some s) = slot_good s

slot_told : (m : Option Slot) → IsTrue (found_good m) → AllTold form.slot_form (slot_line m)
slot_told None h = tt
slot_told (Some s) h =
    let holds = first_holds (slot_holds s) (content_near s.content) h in (
      one_told form.slot_form (codes "slot") (object_text s.owner ∷ slot_bits s ∷ content_text s.content ∷ []) (a_word (codes "slot") refl refl, (an_object s.owner (first_holds (in_number_range s.owner) (content_holds s.content) holds), (slot_bits_suit s, (content_suits s.content (second_holds (in_number_range s.owner) (content_holds s.content) holds) (second_holds (slot_holds s) (content_near s.content) h), tt)))),
      tt,
    )

named_good : (es : Named Slot) → IsTrue (list_all (λ e. slot_holds e.1) es) → IsTrue (list_all (λ e. content_near (e.1).content) es) → (q : Text) → IsTrue (found_good (named es q))
named_good [] h k q = refl
named_good (e ∷ es) h k q = go (eq_by_cmp (slice_cmp nat_cmp) q e.0) (named_good es (second_holds (slot_holds e.1) _ h) (second_holds (content_near (e.1).content) _ k) q)
  where
    go : (b : Bool) → IsTrue (found_good (named es q)) → IsTrue (found_good (cond b (Some e.1) (named es q)))
    go true later = both_hold (slot_holds e.1) (content_near (e.1).content) (first_holds (slot_holds e.1) _ h) (first_holds (content_near (e.1).content) _ k)
    go false later = later

module _ (w : World) (h : IsTrue (list_all numbered_object_holds w.objects)) (k : IsTrue (list_all (λ e. object_near e.1) w.objects)) where
  slot_found : (o : ℤ) (t : Text) → IsTrue (found_good (slot_at w o t))
  slot_found o t = go (object_at w o) refl
    where
      go : (m : Option Object) → object_at w o ≡ m → IsTrue (found_good (slot_of m t))
      go None is = refl
      go (Some x) is =
          let hx = second_holds (in_number_range o) (object_holds x) (each_found (λ q z. in_number_range q && object_holds z) w.objects h o x is) in
          let near = each_found (λ q z. object_near z) w.objects k o x is in
          let rest = second_holds (list_all is_text x.defines) _ (second_holds (list_all in_number_range x.contents) _ (second_holds (list_all in_number_range x.children) _ (second_holds (header_holds x.header) _ hx))) in
          named_good x.slots (first_holds (list_all (λ (e : Text × Slot). slot_holds e.1) x.slots) (list_all verb_holds x.verbs) rest)
          (first_holds (list_all (λ (e : Text × Slot). content_near (e.1).content) x.slots) (list_all (λ v. preposition_near v.preposition) x.verbs) near) _

  named_told : (o : ℤ) (ts : List Text) → AllTold form.slot_form (slots_named w o ts)
  named_told o [] = tt
  named_told o (t ∷ ts) = told_then form.slot_form (slot_line (slot_at w o t)) (slots_named w o ts) (slot_told (slot_at w o t) (slot_found o t)) (named_told o ts)

  slots_told : (o : ℤ) (ps : List ℤ) → AllTold form.slot_form (slots_along w o ps)
  slots_told o [] = tt
  slots_told o (p ∷ ps) = told_then form.slot_form (slots_named w o (names_defined (object_at w p))) (slots_along w o ps) (named_told o (names_defined (object_at w p))) (slots_told o ps)

-- ---- programs

code_goes : (whose : Whose) (p : Program) (t : Text) (ts before us : List Text) (more : List Awaited) → program_of (before ++ t ∷ ts) ≡ Some p → Fine us (behind_code whose p ++ more)
    → Fine (t ∷ (ts ++ us)) (code (suc (length ts)) before whose ∷ more)
code_goes whose p t [] before us more e f = fine_line (code 1 before whose) (behind_code whose p) more t us refl (ap (whole_code (length before) whose) e) f
code_goes whose p t (u ∷ ts) before us more e f =
    fine_line (code (suc (suc (length ts))) before whose) (code (suc (length ts)) (before ++ t ∷ []) whose ∷ []) more t (u ∷ (ts ++ us)) refl refl
    (code_goes whose p u ts (before ++ t ∷ []) us more (ap program_of (append_assoc before (t ∷ []) (u ∷ ts)) ∙ e) f)

no_code : (whose : Whose) (ts us : List Text) (more : List Awaited) → Fine us (behind_code whose the_end ++ more) → Fine us (code zero ts whose ∷ more)
no_code of_verb ts us more f = fine_same (code zero ts of_verb ∷ more) more us refl f
no_code (of_frame is_fork) ts us more f = fine_same (code zero ts (of_frame is_fork) ∷ more) (behind_code (of_frame is_fork) the_end ++ more) us refl f

code_there : (whose : Whose) (p : Program) (ts us : List Text) (more : List Awaited) → program_of ts ≡ Some p → (ts ≡ [] → p ≡ the_end) → Fine us (behind_code whose p ++ more)
    → Fine (ts ++ us) (code (length ts) [] whose ∷ more)
code_there whose p [] us more e none f = no_code whose [] us more (subst (λ q. Fine us (behind_code whose q ++ more)) (none refl) f)
code_there whose p (t ∷ ts) us more e none f = code_goes whose p t ts [] us more e f

pub code_fine : (whose : Whose) (p : Program) (us : List Text) (more : List Awaited) → IsTrue (is_tree p) → Fine us (behind_code whose p ++ more)
    → Fine (canonical_lines p ++ us) (code (length (canonical_lines p)) [] whose ∷ more)
code_fine whose p us more h f = code_there whose p (canonical_lines p) us more (programs_told p h) (λ e. one_tree p the_end h refl e) f

-- ---- verbs

pub verb_told : (v : Verb) (n : ℕ) → IsTrue (verb_holds v) → IsTrue (preposition_near v.preposition) → n < 2 ^ 63 → told awaited.verb (verb_line v n) ≡ goes_on (code n [] of_verb ∷ [])
verb_told v n h k l =
    form_told form.verb_form (codes "verb") (literal (text v.names) ∷ object_text v.owner ∷ verb_bits v ∷ part_text v.direct ∷ preposition_number v.preposition ∷ part_text v.indirect ∷ decimal n ∷ [])
    (λ ts. goes_on (code (number_in (field_at ts 7)) [] of_verb ∷ [])) (a_word (codes "verb") refl refl, (a_string v.names (first_holds (is_text v.names) _ h), (an_object v.owner (first_holds (in_number_range v.owner) _ (second_holds (is_text v.names) _ h)), (verb_bits_suit v, (part_suits v.direct, (preposition_suits v.preposition k, (part_suits v.indirect, (a_count n l, tt))))))))
    ∙ ap (λ m. goes_on (code m [] of_verb ∷ [])) (count_said n l)

pub verbs_fine : (vs : List Verb) (us : List Text) (more : List Awaited) → IsTrue (list_all verb_holds vs) → IsTrue (list_all (λ v. preposition_near v.preposition) vs)
    → length (each_verb vs) < 2 ^ 63 → Fine us more → Fine (each_verb vs ++ us) (again (length vs) awaited.each_verb ∷ more)
verbs_fine [] us more h k l f = fine_same (again zero awaited.each_verb ∷ more) more us refl f
verbs_fine (v ∷ vs) us more h k l f =
    let n : ℕ = length (canonical_lines v.program) in
    let here = first_holds (verb_holds v) (list_all verb_holds vs) h in
    let tree = second_holds (preposition_holds v.preposition) (is_tree v.program) (second_holds (in_number_range v.owner) _ (second_holds (is_text v.names) _ here)) in
    let room = length-append (canonical_lines v.program) (each_verb vs) in
    let later = verbs_fine vs us more (second_holds (verb_holds v) (list_all verb_holds vs) h) (second_holds (preposition_near v.preposition) _ k) (omega arith) f in
    let below : Fine (canonical_lines v.program ++ (each_verb vs ++ us)) (code n [] of_verb ∷ again (length vs) awaited.each_verb ∷ more) =
    code_fine of_verb v.program (each_verb vs ++ us) (again (length vs) awaited.each_verb ∷ more) tree later in
    fine_same (again (suc (length vs)) awaited.each_verb ∷ more) (awaited.verb ∷ again (length vs) awaited.each_verb ∷ more) (each_verb (v ∷ vs) ++ us) refl
    (fine_line awaited.verb (code n [] of_verb ∷ []) (again (length vs) awaited.each_verb ∷ more) (verb_line v n) ((canonical_lines v.program ++ each_verb vs) ++ us) refl
    (verb_told v n here (first_holds (preposition_near v.preposition) _ k) (omega arith))
    (subst (λ ts. Fine ts (code n [] of_verb ∷ again (length vs) awaited.each_verb ∷ more)) (sym (append_assoc (canonical_lines v.program) (each_verb vs) us)) below))

pub as_many_verbs : (vs : List Verb) → length vs ≤ length (each_verb vs)
as_many_verbs [] = omega arith
as_many_verbs (v ∷ vs) = let later = as_many_verbs vs in let room = length-append (canonical_lines v.program) (each_verb vs) in omega (arith, later, room)

-- ---- objects

pub in_range : (o g : ℤ) → IsTrue (int_le (pos 0) o) → IsTrue (int_le o g) → IsTrue (int_le g (pos 999999)) → IsTrue (int_le (pos 0) o && int_le o (pos 999999))
in_range (pos o) (pos g) h k l = grind (arith, nat_tests)
in_range (pos o) (negsuc g) h k l = cc
in_range (negsuc o) g h k l = cc

abbrev pub IsNumber : ℤ → Type 0
IsNumber o = IsTrue (int_le (pos 0) o && int_le o (pos 999999))

module _ (w : World) (all : IsTrue (list_all numbered_object_holds w.objects)) (near : IsTrue (list_all (λ e. object_near e.1) w.objects)) where
  object_fine : (o : ℤ) (x : Object) (us : List Text) (more : List Awaited) → IsNumber o → IsTrue (numbered_object_holds (o, x)) → IsTrue (object_near x) → length (object_lines w o x) < 2 ^ 63
      → Fine us more → Fine (object_lines w o x ++ us) (group awaited.each_object ++ more)
  object_fine o x us more number h k l f =
      let slots : List Text = slots_along w o (ancestors w o) in
      let verbs : List Text = verb_lines x.verbs in
      let room : length (object_lines w o x) ≡ 10 + length (slots ++ verbs) = omega arith in
      let parts = length-append slots verbs in
      let many = as_many_verbs x.verbs in
      let head : Header = x.header in
      let holds = second_holds (in_number_range o) (object_holds x) h in
      let hh = first_holds (header_holds head) _ holds in
      let h1 = second_holds (is_text head.name) _ hh in
      let h2 = second_holds (in_number_range head.owner) _ h1 in
      let l1 = second_holds (header_holds head) _ holds in
      let l2 = second_holds (list_all in_number_range x.children) _ l1 in
      let l3 = second_holds (list_all in_number_range x.contents) _ l2 in
      let l4 = second_holds (list_all is_text x.defines) _ l3 in
      let verbs_hold = second_holds (list_all (λ (e : Text × Slot). slot_holds e.1) x.slots) (list_all verb_holds x.verbs) l4 in
      let verbs_near = second_holds (list_all (λ (e : Text × Slot). content_near (e.1).content) x.slots) (list_all (λ v. preposition_near v.preposition) x.verbs) k in
      let after_slots : List Awaited = awaited.counted (codes "verbs") awaited.each_verb ∷ more in
      let verbs_read = fine_counted (codes "verbs") awaited.each_verb (length x.verbs) (each_verb x.verbs ++ us) more refl refl (omega arith) (verbs_fine x.verbs us more verbs_hold verbs_near (omega arith) f) in
      let slots_read = fine_group each_slot form.slot_form refl slots (verbs ++ us) after_slots (slots_told w all near o (ancestors w o)) verbs_read in
      let lines9 : List Text = counted (codes "slots") (length slots) ∷ ((slots ++ verbs) ++ us) in
      let forms9 : List Awaited = awaited.counted (codes "slots") each_slot ∷ after_slots in
      let fine9 : Fine lines9 forms9 =
      fine_counted (codes "slots") each_slot (length slots) ((slots ++ verbs) ++ us) after_slots refl refl (omega arith)
      (subst (λ ts. Fine ts (again (length slots) each_slot ∷ after_slots)) (sym (append_assoc slots verbs us)) slots_read) in
      let lines8 : List Text = fields (codes "defines" ∷ list_literal (text_list x.defines) ∷ []) ∷ lines9 in
      let forms8 : List Awaited = one (word (codes "defines") ∷ form.strings ∷ []) ∷ forms9 in
      let fine8 : Fine lines8 forms8 = fine_one (word (codes "defines") ∷ form.strings ∷ []) (codes "defines") (list_literal (text_list x.defines) ∷ []) lines9 forms9 (a_word (codes "defines") refl refl, (some_texts x.defines (first_holds (list_all is_text x.defines) _ l3), tt)) fine9 in
      let lines7 : List Text = fields (codes "flags" ∷ flags_text x ∷ []) ∷ lines8 in
      let forms7 : List Awaited = one (word (codes "flags") ∷ other (are_flags 6) ∷ []) ∷ forms8 in
      let fine7 : Fine lines7 forms7 = fine_one (word (codes "flags") ∷ other (are_flags 6) ∷ []) (codes "flags") (flags_text x ∷ []) lines8 forms8 (a_word (codes "flags") refl refl, (some_flags x, tt)) fine8 in
      let lines6 : List Text = fields (codes "contents" ∷ list_literal (object_list x.contents) ∷ []) ∷ lines7 in
      let forms6 : List Awaited = one (word (codes "contents") ∷ form.objects ∷ []) ∷ forms7 in
      let fine6 : Fine lines6 forms6 = fine_one (word (codes "contents") ∷ form.objects ∷ []) (codes "contents") (list_literal (object_list x.contents) ∷ []) lines7 forms7 (a_word (codes "contents") refl refl, (some_objects x.contents (first_holds (list_all in_number_range x.contents) _ l2), tt)) fine7 in
      let lines5 : List Text = fields (codes "children" ∷ list_literal (object_list x.children) ∷ []) ∷ lines6 in
      let forms5 : List Awaited = one (word (codes "children") ∷ form.objects ∷ []) ∷ forms6 in
      let fine5 : Fine lines5 forms5 = fine_one (word (codes "children") ∷ form.objects ∷ []) (codes "children") (list_literal (object_list x.children) ∷ []) lines6 forms6 (a_word (codes "children") refl refl, (some_objects x.children (first_holds (list_all in_number_range x.children) _ l1), tt)) fine6 in
      let lines4 : List Text = fields (codes "location" ∷ object_text head.location ∷ []) ∷ lines5 in
      let forms4 : List Awaited = one (word (codes "location") ∷ form.object_number ∷ []) ∷ forms5 in
      let fine4 : Fine lines4 forms4 = fine_one (word (codes "location") ∷ form.object_number ∷ []) (codes "location") (object_text head.location ∷ []) lines5 forms5 (a_word (codes "location") refl refl, (an_object head.location (second_holds (in_number_range head.parent) (in_number_range head.location) h2), tt)) fine5 in
      let lines3 : List Text = fields (codes "parent" ∷ object_text head.parent ∷ []) ∷ lines4 in
      let forms3 : List Awaited = one (word (codes "parent") ∷ form.object_number ∷ []) ∷ forms4 in
      let fine3 : Fine lines3 forms3 = fine_one (word (codes "parent") ∷ form.object_number ∷ []) (codes "parent") (object_text head.parent ∷ []) lines4 forms4 (a_word (codes "parent") refl refl, (an_object head.parent (first_holds (in_number_range head.parent) (in_number_range head.location) h2), tt)) fine4 in
      let lines2 : List Text = fields (codes "owner" ∷ object_text head.owner ∷ []) ∷ lines3 in
      let forms2 : List Awaited = one (word (codes "owner") ∷ form.object_number ∷ []) ∷ forms3 in
      let fine2 : Fine lines2 forms2 = fine_one (word (codes "owner") ∷ form.object_number ∷ []) (codes "owner") (object_text head.owner ∷ []) lines3 forms3 (a_word (codes "owner") refl refl, (an_object head.owner (first_holds (in_number_range head.owner) _ h1), tt)) fine3 in
      let lines1 : List Text = fields (codes "name" ∷ literal (text head.name) ∷ []) ∷ lines2 in
      let forms1 : List Awaited = one (word (codes "name") ∷ form.string ∷ []) ∷ forms2 in
      let fine1 : Fine lines1 forms1 = fine_one (word (codes "name") ∷ form.string ∷ []) (codes "name") (literal (text head.name) ∷ []) lines2 forms2 (a_word (codes "name") refl refl, (a_string head.name (first_holds (is_text head.name) _ hh), tt)) fine2 in
      fine_one (word (codes "object") ∷ other (is_integer (pos 0) (pos 999999)) ∷ []) (codes "object") (signed_decimal o ∷ []) lines1 forms1 (a_word (codes "object") refl refl, (an_integer (pos 0) (pos 999999) o (first_holds (in_number_range o) (object_holds x) h) number, tt)) fine1

  pub objects_fine : (es : Numbered Object) (us : List Text) (more : List Awaited) → EachIs (λ o x. IsNumber o) es → IsTrue (list_all numbered_object_holds es) → IsTrue (list_all (λ e. object_near e.1) es)
      → length (each_object w es) < 2 ^ 63 → Fine us more → Fine (each_object w es ++ us) (again (length es) awaited.each_object ∷ more)
  objects_fine [] us more n h k l f = fine_same (again zero awaited.each_object ∷ more) more us refl f
  objects_fine (e ∷ es) us more n h k l f =
      let room = length-append (object_lines w e.0 e.1) (each_object w es) in
      let later = objects_fine es us more n.1 (second_holds (numbered_object_holds e) (list_all numbered_object_holds es) h) (second_holds (object_near e.1) _ k) (omega arith) f in
      let here = object_fine e.0 e.1 (each_object w es ++ us) (again (length es) awaited.each_object ∷ more) n.0 (first_holds (numbered_object_holds e) (list_all numbered_object_holds es) h) (first_holds (object_near e.1) _ k) (omega arith) later in
      fine_same (again (suc (length es)) awaited.each_object ∷ more) (group awaited.each_object ++ (again (length es) awaited.each_object ∷ more)) (each_object w (e ∷ es) ++ us) refl
      (subst (λ ts. Fine ts (group awaited.each_object ++ (again (length es) awaited.each_object ∷ more))) (sym (append_assoc (object_lines w e.0 e.1) (each_object w es) us)) here)

pub as_many_objects : (w : World) (es : Numbered Object) → length es ≤ length (each_object w es)
as_many_objects w [] = omega arith
as_many_objects w (e ∷ es) =
    let later = as_many_objects w es in
    let room = length-append (object_lines w e.0 e.1) (each_object w es) in
    let own : 1 ≤ length (object_lines w e.0 e.1) = omega arith in
    omega (arith, later, room, own)

-- Slots go by the names along the line of parents, and of two worlds that show the same these are the same.
use Rattle.std.proofs.Common.{◌≡◌, ◌⊎◌, inl, inr, ℕ, zero, suc, ℤ, pos, ◌+ℤ◌, nat_abs, List, [], ◌∷◌, ◌++◌, map, IsTrue, Bool, true, false, ◌&&◌, refl, ap, sym, subst, ◌∙◌, cond, codes, append_assoc, Option, Some, None, is_some, is_eq, int_cmp, nat_cmp, Ordering, Less, Equal, Greater}
use Rattle.std.specs.Prelude.{option_map}
use Rattle.std.specs.List.{list_all}
use Rattle.std.specs.Cmp.{int_cmp_total}
use Rattle.std.specs.Cmp.Lexicographic.{slice_cmp}
use Rattle.std.specs.Ordering.{eq_by_cmp}
use Rattle.std.specs.FinMap.{int_cmp-IsAntisymmetric}
use Rattle.std.specs.FinMap.Entries.{same_entries}
use Rattle.std.proofs.lemmas.List.{append_cancel_left}
use Rattle.spec_value.specs.Datum.{Text, is_text, in_number_range, fold_case, same_text}
use Rattle.spec_value.specs.Table.{Numbered, Named, at, named}
use Rattle.spec_value.proofs.Entries.{first_holds, second_holds, each_entry}
use Rattle.spec_value.proofs.Keys.{as_type}
use Rattle.spec_value.proofs.Same.{same_texts}
use Rattle.spec_world.specs.World.{World, Slot, Object, object_at}
use Rattle.spec_world.specs.Inherit.{line_onto, line, line_bound, ancestors, slot_of}
use Rattle.spec_world.specs.WellFormed.{folded_names, defined_on, has_name, slot_names, IsWellFormed}
use Rattle.spec_world.specs.Checkpoint.{object_text, slot_bits, content_text, slot_line, slots_named, names_defined, slots_along, each_object}
use Rattle.spec_world.proofs.SlotChanges.{names_total, names_apart}
use Rattle.spec_world.proofs.SlotTables.{key_there, here_name, later_name}
use Rattle.spec_world.proofs.Trees.{either}
use Rattle.spec_world.proofs.Households.{of_named, same_tests}
use Rattle.spec_checkpoint.specs.Holding.{slot_holds, verb_holds, header_holds, object_holds, numbered_object_holds}
use Rattle.spec_checkpoint.specs.ObjectsTold.{ObjectsReadOnce}
use Rattle.spec_checkpoint.proofs.Numbers.{tail_same}
use Rattle.spec_checkpoint.proofs.Lines.{cut_same}
use Rattle.spec_checkpoint.proofs.Runs.{first_same, rest_same}
use Rattle.spec_checkpoint.proofs.Fields.{object_same, has, three_bits, whole_content}
use Rattle.spec_checkpoint.proofs.ObjectRecords.{without_slots, shown_key, shown_in, objects_in_front}
use Rattle.std.proofs.lemmas.List.{append-nil}

-- ---- what is shown of the object with a number

abbrev tell : World → ℤ → Object → Object × List Text
tell w o x = (without_slots x, slots_along w o (ancestors w o))

shown_at : (w : World) (es : Numbered Object) (k : ℤ) → at (map shown_key (map (shown_in w) es)) k ≡ option_map (tell w k) (at es k)
shown_at w [] k = refl
shown_at w (e ∷ es) k = go (int_cmp k e.0) refl (shown_at w es k)
  where
    go : (r : Ordering) → int_cmp k e.0 ≡ r → at (map shown_key (map (shown_in w) es)) k ≡ option_map (tell w k) (at es k)
        → cond (is_eq r) (Some (tell w e.0 e.1)) (at (map shown_key (map (shown_in w) es)) k) ≡ option_map (tell w k) (cond (is_eq r) (Some e.1) (at es k))
    go Less t later = later
    go Greater t later = later
    go Equal t later = ap (λ j. Some (tell w j e.1)) (sym (int_cmp-IsAntisymmetric k e.0 t))

-- each object of one is shown as the other's
abbrev pub ShowSame : World → World → Type 0
ShowSame v w = (k : ℤ) → option_map (tell v k) (object_at v k) ≡ option_map (tell w k) (object_at w k)

pub all_shown : (v w : World) → map shown_key (map (shown_in v) v.objects) ≡ map shown_key (map (shown_in w) w.objects) → ShowSame v w
all_shown v w e k = sym (shown_at v v.objects k) ∙ ap (λ (es : Numbered (Object × List Text)). at es k) e ∙ shown_at w w.objects k

-- ---- the line of parents, and the names along it

abbrev names_in : Option (Object × List Text) → List Text
names_in None = []
names_in (Some y) = (y.0).defines

names_tell : (w : World) (o : ℤ) (m : Option Object) → names_in (option_map (tell w o) m) ≡ names_defined m
names_tell w o None = refl
names_tell w o (Some x) = refl

abbrev above_in : (ℤ → List ℤ) → ℤ → Option (Object × List Text) → List ℤ
above_in above o None = []
above_in above o (Some y) = o ∷ above (y.0).header.parent

above_tell : (w : World) (above : ℤ → List ℤ) (o : ℤ) (m : Option Object) → above_in above o (option_map (tell w o) m) ≡ line_onto above o m
above_tell w above o None = refl
above_tell w above o (Some x) = refl

onto_same : (f g : ℤ → List ℤ) → ((p : ℤ) → f p ≡ g p) → (o : ℤ) (m : Option Object) → line_onto f o m ≡ line_onto g o m
onto_same f g each o None = refl
onto_same f g each o (Some x) = ap (λ ps. o ∷ ps) (each x.header.parent)

folded : (m : Option Object) → map fold_case (names_defined m) ≡ folded_names m
folded None = refl
folded (Some x) = refl

module _ (v w : World) (show : ShowSame v w) where
  names_same : (p : ℤ) → names_defined (object_at v p) ≡ names_defined (object_at w p)
  names_same p = sym (names_tell v p (object_at v p)) ∙ ap names_in (show p) ∙ names_tell w p (object_at w p)

  line_same : (n : ℕ) (o : ℤ) → line n v o ≡ line n w o
  unfolding line
  line_same zero o = refl
  line_same (suc n) o =
      sym (above_tell v (line n v) o (object_at v o)) ∙ ap (above_in (line n v) o) (show o) ∙ above_tell w (line n v) o (object_at w o)
      ∙ onto_same (line n v) (line n w) (line_same n) o (object_at w o)

  ancestors_same : v.greatest ≡ w.greatest → (o : ℤ) → ancestors v o ≡ ancestors w o
  unfolding ancestors
  ancestors_same g o = ap (λ z. line (nat_abs (z +ℤ pos 1)) v o) g ∙ line_same (line_bound w) o

  defined_same : (ps : List ℤ) → defined_on v ps ≡ defined_on w ps
  unfolding defined_on
  defined_same [] = refl
  defined_same (p ∷ ps) =
      let here : folded_names (object_at v p) ≡ folded_names (object_at w p) = sym (folded (object_at v p)) ∙ ap (map fold_case) (names_same p) ∙ folded (object_at w p) in
      λ i. here i ++ defined_same ps i

-- ---- the lines of slots, by their names

lines_named : Named Slot → List Text → List Text
lines_named es [] = []
lines_named es (q ∷ qs) = slot_line (named es q) ++ lines_named es qs

lines_both : (es : Named Slot) (qs rs : List Text) → lines_named es (qs ++ rs) ≡ lines_named es qs ++ lines_named es rs
unfolding lines_named
lines_both es [] rs = refl
lines_both es (q ∷ qs) rs = ap (λ ts. slot_line (named es q) ++ ts) (lines_both es qs rs) ∙ sym (append_assoc (slot_line (named es q)) (lines_named es qs) (lines_named es rs))

module _ (w : World) (o : ℤ) (x : Object) (is : object_at w o ≡ Some x) where
  named_lines : (ts : List Text) → slots_named w o ts ≡ lines_named x.slots (map fold_case ts)
  unfolding lines_named
  named_lines [] = refl
  named_lines (t ∷ ts) = λ i. slot_line (slot_of (is i) t) ++ named_lines ts i

  along_lines : (ps : List ℤ) → slots_along w o ps ≡ lines_named x.slots (defined_on w ps)
  unfolding defined_on lines_named
  along_lines [] = refl
  along_lines (p ∷ ps) =
      let here : slots_named w o (names_defined (object_at w p)) ≡ lines_named x.slots (folded_names (object_at w p)) = named_lines (names_defined (object_at w p)) ∙ ap (lines_named x.slots) (folded (object_at w p)) in
      (λ i. here i ++ along_lines ps i) ∙ sym (lines_both x.slots (folded_names (object_at w p)) (defined_on w ps))

-- ---- a line tells its slot

slot_told : (s u : Slot) → IsTrue (slot_holds s) → IsTrue (slot_holds u)
    → object_text s.owner ++ (32 ∷ (slot_bits s ++ (32 ∷ content_text s.content))) ≡ object_text u.owner ++ (32 ∷ (slot_bits u ++ (32 ∷ content_text u.content))) → s ≡ u
slot_told s u h k e =
    let a : Text = slot_bits s ++ (32 ∷ content_text s.content) in
    let b : Text = slot_bits u ++ (32 ∷ content_text u.content) in
    let o = object_same s.owner u.owner (32 ∷ a) (32 ∷ b) (first_holds (in_number_range s.owner) _ h) (first_holds (in_number_range u.owner) _ k) refl refl e in
    let fs = three_bits s.readable s.writable s.changeable in
    let fu = three_bits u.readable u.writable u.changeable in
    let c = cut_same 32 (slot_bits s) (slot_bits u) (content_text s.content) (content_text u.content) fs.3 fu.3 (tail_same 32 32 a b o.1) in
    let content = whole_content s.content u.content (second_holds (in_number_range s.owner) _ h) (second_holds (in_number_range u.owner) _ k) c.1 in
    let readable : s.readable ≡ u.readable = sym fs.0 ∙ ap (has 114) c.0 ∙ fu.0 in
    let writable : s.writable ≡ u.writable = sym fs.1 ∙ ap (has 119) c.0 ∙ fu.1 in
    let changeable : s.changeable ≡ u.changeable = sym fs.2 ∙ ap (has 99) c.0 ∙ fu.2 in
    λ i. record { content = content i; owner = o.0 i; readable = readable i; writable = writable i; changeable = changeable i }

abbrev pub found_holds : Option Slot → Bool
found_holds None = true
found_holds (Some s) = slot_holds s

slots_tell : (m n : Option Slot) (r s : List Text) → IsTrue (found_holds m) → IsTrue (found_holds n) → IsTrue (is_some m) → IsTrue (is_some n) → slot_line m ++ r ≡ slot_line n ++ s → (m ≡ n) × (r ≡ s)
slots_tell None n r s h k f g e = cc
slots_tell (Some a) None r s h k f g e = cc
slots_tell (Some a) (Some b) r s h k f g e =
    (ap Some (slot_told a b h k (append_cancel_left (codes "slot ") _ _ (first_same _ _ r s e))), rest_same _ _ r s e)

pub named_holds : (es : Named Slot) → IsTrue (list_all (λ e. slot_holds e.1) es) → (q : Text) → IsTrue (found_holds (named es q))
named_holds [] h q = refl
named_holds (e ∷ es) h q = go (eq_by_cmp (slice_cmp nat_cmp) q e.0) (named_holds es (second_holds (slot_holds e.1) _ h) q)
  where
    go : (b : Bool) → IsTrue (found_holds (named es q)) → IsTrue (found_holds (cond b (Some e.1) (named es q)))
    go true later = first_holds (slot_holds e.1) _ h
    go false later = later

module _ (es fs : Named Slot) (h : IsTrue (list_all (λ e. slot_holds e.1) es)) (k : IsTrue (list_all (λ e. slot_holds e.1) fs)) where
  lines_tell : (qs : List Text) → ((q : Text) → IsTrue (has_name qs q) → IsTrue (is_some (named es q))) → ((q : Text) → IsTrue (has_name qs q) → IsTrue (is_some (named fs q)))
      → lines_named es qs ≡ lines_named fs qs → (q : Text) → IsTrue (has_name qs q) → named es q ≡ named fs q
  unfolding lines_named
  lines_tell [] a b e q there = cc
  lines_tell (t ∷ qs) a b e q there =
      let p = slots_tell (named es t) (named fs t) (lines_named es qs) (lines_named fs qs) (named_holds es h t) (named_holds fs k t) (a t (here_name t qs)) (b t (here_name t qs)) e in
      go p.0 (lines_tell qs (λ z y. a z (later_name t z qs y)) (λ z y. b z (later_name t z qs y)) p.1 q) (either (same_text q t) (has_name qs q) there)
    where
      go : named es t ≡ named fs t → (IsTrue (has_name qs q) → named es q ≡ named fs q) → IsTrue (same_text q t) ⊎ IsTrue (has_name qs q) → named es q ≡ named fs q
      go here later (inl same) = subst (λ z. named es z ≡ named fs z) (sym (same_texts q t same)) here
      go here later (inr y) = later y

-- ---- an object's slots

slots_along_line : (w : World) (o : ℤ) (x : Object) → IsWellFormed w → object_at w o ≡ Some x → (t : Text) → is_some (named x.slots t) ≡ has_name (defined_on w (ancestors w o)) t
slots_along_line w o x h is t =
    let qs : List Text = defined_on w (ancestors w o) in
    key_there x.slots t
    ∙ same_tests (has_name (slot_names x) t) (has_name qs t) (of_named (has_name qs) (slot_names x) (first_holds (list_all (has_name qs) (slot_names x)) _ (h.slots o x is)) t)
    (of_named (has_name (slot_names x)) qs (second_holds (list_all (has_name qs) (slot_names x)) (list_all (has_name (slot_names x)) qs) (h.slots o x is)) t)

none_there : (m : Option Slot) → is_some m ≡ false → m ≡ None
none_there None e = refl
none_there (Some s) e = cc

found_same : {A : Type 0} (x y : A) → ◌≡◌ {A = Option A} (Some x) (Some y) → x ≡ y
found_same x y e = cc

module _ (v w : World) (hv : IsWellFormed v) (hw : IsWellFormed w) (show : ShowSame v w) (g : v.greatest ≡ w.greatest) where
  slots_same : (o : ℤ) (x y : Object) → object_at v o ≡ Some x → object_at w o ≡ Some y → IsTrue (object_holds x) → IsTrue (object_holds y)
      → slots_along v o (ancestors v o) ≡ slots_along w o (ancestors w o) → x.slots ≡ y.slots
  slots_same o x y ix iy hx hy lines =
      let qs : List Text = defined_on w (ancestors w o) in
      let same_line : defined_on v (ancestors v o) ≡ qs = defined_same v w show (ancestors v o) ∙ ap (defined_on w) (ancestors_same v w show g o) in
      let there_x : (t : Text) → is_some (named x.slots t) ≡ has_name qs t = λ t. slots_along_line v o x hv ix t ∙ ap (λ rs. has_name rs t) same_line in
      let there_y : (t : Text) → is_some (named y.slots t) ≡ has_name qs t = λ t. slots_along_line w o y hw iy t in
      let told : lines_named x.slots qs ≡ lines_named y.slots qs = ap (lines_named x.slots) (sym same_line) ∙ sym (along_lines v o x ix (ancestors v o)) ∙ lines ∙ along_lines w o y iy (ancestors w o) in
      let hx1 = second_holds (list_all is_text x.defines) _ (second_holds (list_all in_number_range x.contents) _ (second_holds (list_all in_number_range x.children) _ (second_holds (header_holds x.header) _ hx))) in
      let hy1 = second_holds (list_all is_text y.defines) _ (second_holds (list_all in_number_range y.contents) _ (second_holds (list_all in_number_range y.children) _ (second_holds (header_holds y.header) _ hy))) in
      let hold_x = first_holds (list_all (λ (e : Text × Slot). slot_holds e.1) x.slots) (list_all verb_holds x.verbs) hx1 in
      let hold_y = first_holds (list_all (λ (e : Text × Slot). slot_holds e.1) y.slots) (list_all verb_holds y.verbs) hy1 in
      same_entries (slice_cmp nat_cmp) names_total names_apart x.slots y.slots (as_type _ (hv.slot_order o x ix)) (as_type _ (hw.slot_order o y iy))
      (λ q. by_name x.slots y.slots qs q (there_x q) (there_y q)
      (lines_tell x.slots y.slots hold_x hold_y qs (λ t is. there_x t ∙ is) (λ t is. there_y t ∙ is) told q))
    where
      by_name : (es fs : Named Slot) (qs : List Text) (q : Text) → is_some (named es q) ≡ has_name qs q → is_some (named fs q) ≡ has_name qs q
          → (IsTrue (has_name qs q) → named es q ≡ named fs q) → named es q ≡ named fs q
      by_name es fs qs q a b told = go (has_name qs q) refl
        where
          go : (b : Bool) → has_name qs q ≡ b → named es q ≡ named fs q
          go true e = told e
          go false e = none_there (named es q) (a ∙ e) ∙ sym (none_there (named fs q) (b ∙ e))

  object_found : (hold_v : IsTrue (list_all numbered_object_holds v.objects)) → (hold_w : IsTrue (list_all numbered_object_holds w.objects)) → (o : ℤ) → object_at v o ≡ object_at w o
  object_found hold_v hold_w o = go (object_at v o) (object_at w o) refl refl (show o)
    where
      go : (m n : Option Object) → object_at v o ≡ m → object_at w o ≡ n → option_map (tell v o) m ≡ option_map (tell w o) n → m ≡ n
      go None None ix iy e = refl
      go None (Some y) ix iy e = cc
      go (Some x) None ix iy e = cc
      go (Some x) (Some y) ix iy e =
          let t : tell v o x ≡ tell w o y = found_same (tell v o x) (tell w o y) e in
          let hx = second_holds (in_number_range o) (object_holds x) (each_entry (λ k z. in_number_range k && object_holds z) v.objects hold_v o x ix) in
          let hy = second_holds (in_number_range o) (object_holds y) (each_entry (λ k z. in_number_range k && object_holds z) w.objects hold_w o y iy) in
          let slots = slots_same o x y ix iy hx hy (ap (λ (q : Object × List Text). q.1) t) in
          λ i. Some (record ((t i).0) { slots = slots i })

  pub objects_same : IsTrue (list_all numbered_object_holds v.objects) → IsTrue (list_all numbered_object_holds w.objects) → v.objects ≡ w.objects
  objects_same hold_v hold_w =
      same_entries int_cmp int_cmp_total int_cmp-IsAntisymmetric v.objects w.objects (as_type _ hv.objects_in_order) (as_type _ hw.objects_in_order) (object_found hold_v hold_w)

pub objects_read_once : ObjectsReadOnce
objects_read_once v w hv hw hold_v hold_w g e =
    let p = objects_in_front v w v.objects w.objects [] [] hold_v hold_w refl refl refl refl refl refl
    (append-nil (each_object v v.objects) ∙ e ∙ sym (append-nil (each_object w w.objects))) in
    objects_same v w hv hw (all_shown v w p.0) g hold_v hold_w

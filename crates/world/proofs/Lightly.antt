-- What is asked after light changes.
use Rattle.std.proofs.Common.{◌≡◌, ℤ, Bool, true, false, ◌&&◌, List, [], ◌∷◌, ◌++◌, Option, Some, None, option_map, IsTrue, Result, Ok, Err, IfOk, refl, sym, subst, ◌∙◌, ap}
use Rattle.std.specs.Ordering.{nat_cmp, int_cmp, ordering_reverse}
use Rattle.std.specs.Cmp.{int_cmp_total, Equal-is, IsTotalOrder}
use Rattle.std.specs.Cmp.Lexicographic.{slice_cmp, nat_list_cmp_total}
use Rattle.std.specs.declared.cmp.Ordering.{Ordering}
use Rattle.std.specs.declared.cmp.Ordering.TheVariants.{Less, Equal, Greater}
use Rattle.spec_value.specs.Datum.{Datum, Text, fold_case}
use Rattle.spec_world.specs.World.{World, Slot}
use Rattle.spec_world.specs.Questions.{Question, about_header, about_children, about_contents, about_defines, about_slot, about_verbs, about_task, about_waiting, about_link, about_readers, about_connections, about_connected, about_greatest, about_ending, Answer, the_slot, ask, slot_on, Change, new_part, new_value, new_object, new_task, new_link, new_greatest, new_ending, new_next, apply, apply_all}
use Rattle.view.specs.Meanings.{answer_of}
use Rattle.view.specs.declared.question.Answer as answered
use Rattle.world.specs.Late.{is_light, AllLight, is_about_slot, slot_told}
use Rattle.world.proofs.History.{next_unseen}
use Rattle.world.proofs.Local.{same_number, same_name, number_is, name_is, both_true, filled, refilled, after, value_after}

-- ---- light changes one after another

pub light_last : (cs : List Change) (c : Change) → AllLight cs → IsTrue (is_light c) → AllLight (cs ++ c ∷ [])
light_last [] c all one = (one, tt)
light_last (d ∷ cs) c all one = (all.0, light_last cs c all.1 one)

pub light_pushed : (c : Change) (cs ds : List Change) → ds ≡ cs ++ c ∷ [] → AllLight cs → IsTrue (is_light c) → AllLight ds
light_pushed c cs ds is all one = subst AllLight (sym is) (light_last cs c all one)

-- ---- what is no slot

elsewhere : (o : ℤ) (p : Text) (v : Datum) (q : Question) (a : Answer) → is_about_slot q ≡ false → after (new_value o p v) q a ≡ a
elsewhere o p v (about_header q) a e = refl
elsewhere o p v (about_children q) a e = refl
elsewhere o p v (about_contents q) a e = refl
elsewhere o p v (about_defines q) a e = refl
elsewhere o p v (about_slot q r) a e = cc
elsewhere o p v (about_verbs q) a e = refl
elsewhere o p v (about_task i) a e = refl
elsewhere o p v about_waiting a e = refl
elsewhere o p v (about_link c) a e = refl
elsewhere o p v (about_readers c) a e = refl
elsewhere o p v (about_connections q) a e = refl
elsewhere o p v about_connected a e = refl
elsewhere o p v about_greatest a e = refl
elsewhere o p v about_ending a e = refl

unseen : (c : Change) (w : World) (q : Question) → IsTrue (is_light c) → is_about_slot q ≡ false → ask (apply c w) q ≡ ask w q
unseen (new_part o a) w q light e = cc
unseen (new_value o p v) w q light e = value_after o p v w q ∙ elsewhere o p v q (ask w q) e
unseen (new_object o x) w q light e = cc
unseen (new_task i t) w q light e = cc
unseen (new_link c k) w q light e = cc
unseen (new_greatest o) w q light e = cc
unseen (new_ending b) w q light e = cc
unseen (new_next n) w q light e = next_unseen n w q

-- light changes are seen in slots alone
pub all_unseen : (cs : List Change) (w : World) (q : Question) → AllLight cs → is_about_slot q ≡ false → ask (apply_all cs w) q ≡ ask w q
all_unseen [] w q all e = refl
all_unseen (c ∷ cs) w q all e = all_unseen cs (apply c w) q all.1 e ∙ unseen c w q all.0 e

-- ---- slots

abbrev told : Answer → Option (Option Slot)
told (the_slot s) = s
told _ = None

slot_after_value : (o q : ℤ) (p r : Text) (v : Datum) (w : World)
    → slot_on (apply (new_value o p v) w) q r ≡ option_map (refilled (same_number q o && same_name (fold_case r) (fold_case p)) v) (slot_on w q r)
slot_after_value o q p r v w = ap told (value_after o p v w (about_slot q r))

self_equal : {K : Type 0} (R : K → K → Ordering) → IsTotalOrder R → (x : K) → R x x ≡ Equal
self_equal R total x = go (R x x) (total.antisymm x x)
  where
    go : (r : Ordering) → r ≡ ordering_reverse r → r ≡ Equal
    go Less e = cc
    go Equal e = refl
    go Greater e = cc

number_self : (q o : ℤ) → q ≡ o → same_number q o ≡ true
number_self q o e = ap (same_number q) (sym e) ∙ (Equal-is (int_cmp q q)).1 (self_equal int_cmp int_cmp_total q)

name_self : (s t : Text) → s ≡ t → same_name s t ≡ true
name_self s t e = ap (same_name s) (sym e) ∙ (Equal-is (slice_cmp nat_cmp s s)).1 (self_equal (slice_cmp nat_cmp) nat_list_cmp_total s)

-- another value comes into the slot that is asked for
pub slot_hit : (o q : ℤ) (p r : Text) (v : Datum) (w : World) (s : Slot) → q ≡ o → fold_case r ≡ fold_case p → slot_on w q r ≡ Some (Some s)
    → slot_on (apply (new_value o p v) w) q r ≡ Some (Some (filled s v))
slot_hit o q p r v w s number name is =
    slot_after_value o q p r v w ∙ ap (option_map (refilled (same_number q o && same_name (fold_case r) (fold_case p)) v)) is
    ∙ ap (λ b. Some (refilled b v (Some s))) (ap (λ b. b && same_name (fold_case r) (fold_case p)) (number_self q o number) ∙ name_self (fold_case r) (fold_case p) name)

-- or into another one
pub slot_missed : (o q : ℤ) (p r : Text) (v : Datum) (w : World) (s : Slot) → ((q ≡ o) × (fold_case r ≡ fold_case p) → ⊥) → slot_on w q r ≡ Some (Some s)
    → slot_on (apply (new_value o p v) w) q r ≡ Some (Some s)
slot_missed o q p r v w s other is =
    slot_after_value o q p r v w ∙ ap (option_map (refilled (same_number q o && same_name (fold_case r) (fold_case p)) v)) is
    ∙ go (same_number q o && same_name (fold_case r) (fold_case p)) refl
  where
    go : (b : Bool) → (same_number q o && same_name (fold_case r) (fold_case p)) ≡ b → option_map (refilled b v) (Some (Some s)) ≡ Some (Some s)
    go true e = let both = both_true (same_number q o) (same_name (fold_case r) (fold_case p)) e in absurd (other (number_is q o both.0, name_is (fold_case r) (fold_case p) both.1))
    go false e = refl

-- where there is none, none comes
absent : (b : Bool) (v : Datum) (s : Option (Option Slot)) → slot_told (the_slot s) ≡ None → option_map (refilled b v) s ≡ s
absent b v None none = refl
absent true v (Some None) none = refl
absent false v (Some None) none = refl
absent b v (Some (Some s)) none = cc

absent_stays : (c : Change) (w : World) (q : ℤ) (r : Text) (s : Option (Option Slot)) → IsTrue (is_light c) → slot_told (the_slot s) ≡ None → slot_on w q r ≡ s → slot_on (apply c w) q r ≡ s
absent_stays (new_part o a) w q r s light none is = cc
absent_stays (new_value o p v) w q r s light none is =
    slot_after_value o q p r v w ∙ ap (option_map (refilled (same_number q o && same_name (fold_case r) (fold_case p)) v)) is
    ∙ absent (same_number q o && same_name (fold_case r) (fold_case p)) v s none
absent_stays (new_object o x) w q r s light none is = cc
absent_stays (new_task i t) w q r s light none is = cc
absent_stays (new_link c k) w q r s light none is = cc
absent_stays (new_greatest o) w q r s light none is = cc
absent_stays (new_ending b) w q r s light none is = cc
absent_stays (new_next n) w q r s light none is = is

pub all_absent : (cs : List Change) (w : World) (q : ℤ) (r : Text) (s : Option (Option Slot)) → AllLight cs → slot_told (the_slot s) ≡ None → slot_on w q r ≡ s → slot_on (apply_all cs w) q r ≡ s
all_absent [] w q r s all none is = is
all_absent (c ∷ cs) w q r s all none is = all_absent cs (apply c w) q r s all.1 none (absent_stays c w q r s all.0 none is)

-- ---- answers of a world

pub asked_unseen : {E : Type 0} (r : Result answered.Answer E) (cs : List Change) (w : World) (q : Question) → AllLight cs → is_about_slot q ≡ false
    → IfOk r (λ a. answer_of a ≡ ask w q) → IfOk r (λ a. answer_of a ≡ ask (apply_all cs w) q)
asked_unseen (Ok a) cs w q all e is = is ∙ sym (all_unseen cs w q all e)
asked_unseen (Err x) cs w q all e is = tt

pub asked_absent : (s : Option (Option Slot)) (cs : List Change) (w : World) (o : ℤ) (p : Text) → AllLight cs → slot_told (the_slot s) ≡ None → s ≡ slot_on w o p → the_slot s ≡ the_slot (slot_on (apply_all cs w) o p)
asked_absent s cs w o p all none is = ap the_slot (sym (all_absent cs w o p s all none (sym is)))

-- ---- copies of answers

pub copy_unseen : {E : Type 0} (r : Result answered.Answer E) (home : Answer) (cs : List Change) (q : Question) → AllLight cs → is_about_slot q ≡ false
    → IfOk r (λ a. answer_of a ≡ home) → IfOk r (λ a. (w : World) → home ≡ ask w q → answer_of a ≡ ask (apply_all cs w) q)
copy_unseen (Ok a) home cs q all e is = λ w same. is ∙ same ∙ sym (all_unseen cs w q all e)
copy_unseen (Err x) home cs q all e is = tt

pub copy_absent : {E : Type 0} (r : Result answered.Answer E) (home : Answer) (cs : List Change) (o : ℤ) (p : Text) → AllLight cs → slot_told home ≡ None
    → IfOk r (λ a. answer_of a ≡ home) → IfOk r (λ a. (w : World) → home ≡ the_slot (slot_on w o p) → answer_of a ≡ the_slot (slot_on (apply_all cs w) o p))
copy_absent (Ok a) home cs o p all none is = λ w same. is ∙ same ∙ sym (ap the_slot (all_absent cs w o p (slot_on w o p) all (sym (ap slot_told same) ∙ none) refl))
copy_absent (Err x) home cs o p all none is = tt

-- Verbs that stay, and what agrees then.
use Rattle.std.proofs.Common.{◌≡◌, ℤ, Bool, true, false, cond, List, [], ◌∷◌, Option, Some, None, option_map, IsTrue, IsFalse, refl, ap, ◌∙◌}
use Rattle.std.specs.Ordering.{int_eq}
use Rattle.std.specs.List.{list_all}
use Rattle.spec_value.specs.Datum.{Datum, Text}
use Rattle.spec_value.proofs.Entries.{first_holds, second_holds}
use Rattle.spec_world.specs.World.{World, Object, Slot, object_at}
use Rattle.spec_world.specs.Inherit.{slot_at, put_slot, with_slot}
use Rattle.spec_world.specs.Families.{change_object}
use Rattle.spec_world.specs.Questions.{Question, about_header, about_children, about_contents, about_defines, about_slot, about_verbs, about_task, about_waiting, about_link, about_readers, about_connections, about_connected, about_greatest, about_ending, the_verbs, verbs_at, Answer, ask, Read, Agrees, Part, new_header, new_children, new_contents, new_defines, new_verbs, new_slot, put_part, Change, new_part, new_value, new_object, new_task, new_link, new_greatest, new_ending, new_next, put_value, apply, apply_all}
use Rattle.spec_world.proofs.ObjectChanges.{at_change}
use Rattle.world.specs.Besides.{is_about_verbs, AgreesBesides}
use Rattle.world.proofs.Local.{facet_stays}
use Rattle.speculate.specs.Verbs.{SameVerbs, leaves_verbs, all_leave_verbs}

-- ---- changes that leave verbs as they are

changed_stays : (f : Object → Object) → ((x : Object) → (f x).verbs ≡ x.verbs) → (w : World) (o q : ℤ) → verbs_at (change_object w o f) q ≡ verbs_at w q
changed_stays f same w o q = ap (option_map (λ x. x.verbs)) (at_change w o q f) ∙ go (int_eq q o) (object_at w q)
  where
    go : (b : Bool) (m : Option Object) → option_map (λ x. x.verbs) (option_map (λ y. cond b (f y) y) m) ≡ option_map (λ x. x.verbs) m
    go b None = refl
    go true (Some y) = ap Some (same y)
    go false (Some y) = refl

part_stays : (a : Part) (w : World) (o q : ℤ) → IsTrue (leaves_verbs (new_part o a)) → verbs_at (change_object w o (put_part a)) q ≡ verbs_at w q
part_stays (new_header h) w o q leaves = changed_stays (put_part (new_header h)) (λ x. refl) w o q
part_stays (new_children os) w o q leaves = changed_stays (put_part (new_children os)) (λ x. refl) w o q
part_stays (new_contents os) w o q leaves = changed_stays (put_part (new_contents os)) (λ x. refl) w o q
part_stays (new_defines ts) w o q leaves = changed_stays (put_part (new_defines ts)) (λ x. refl) w o q
part_stays (new_verbs vs) w o q leaves = cc
part_stays (new_slot p s) w o q leaves = changed_stays (put_part (new_slot p s)) (λ x. refl) w o q

slot_stays : (w : World) (o q : ℤ) (p : Text) (s : Slot) (m : Option Object) → object_at w o ≡ m → verbs_at (put_slot w o p s m) q ≡ verbs_at w q
slot_stays w o q p s None is = refl
slot_stays w o q p s (Some x) is = facet_stays (λ y. y.verbs) w o q x _ is refl

value_stays : (w : World) (o q : ℤ) (p : Text) (v : Datum) (m : Option Slot) → verbs_at (put_value w o p v m) q ≡ verbs_at w q
unfolding with_slot
value_stays w o q p v None = refl
value_stays w o q p v (Some s) = slot_stays w o q p (record s { content = Some v }) (object_at w o) refl

one_stays : (c : Change) (w : World) (q : ℤ) → IsTrue (leaves_verbs c) → verbs_at (apply c w) q ≡ verbs_at w q
one_stays (new_part o a) w q leaves = part_stays a w o q leaves
one_stays (new_value o p v) w q leaves = value_stays w o q p v (slot_at w o p)
one_stays (new_object o x) w q leaves = cc
one_stays (new_task i t) w q leaves = refl
one_stays (new_link c k) w q leaves = refl
one_stays (new_greatest o) w q leaves = refl
one_stays (new_ending b) w q leaves = refl
one_stays (new_next n) w q leaves = refl

pub verbs_stay : (cs : List Change) (w : World) → IsTrue (all_leave_verbs cs) → SameVerbs w (apply_all cs w)
verbs_stay [] w leave = λ o. refl
verbs_stay (c ∷ cs) w leave = λ o.
    verbs_stay cs (apply c w) (second_holds (leaves_verbs c) (list_all leaves_verbs cs) leave) o ∙ one_stays c w o (first_holds (leaves_verbs c) (list_all leaves_verbs cs) leave)

-- ---- agreement

answer_stays : (v w : World) (q : Question) (a : Answer) → SameVerbs v w → ask v q ≡ a → (IsFalse (is_about_verbs q) → ask w q ≡ a) → ask w q ≡ a
answer_stays v w (about_header o) a same is besides = besides refl
answer_stays v w (about_children o) a same is besides = besides refl
answer_stays v w (about_contents o) a same is besides = besides refl
answer_stays v w (about_defines o) a same is besides = besides refl
answer_stays v w (about_slot o p) a same is besides = besides refl
answer_stays v w (about_verbs o) a same is besides = ap the_verbs (same o) ∙ is
answer_stays v w (about_task i) a same is besides = besides refl
answer_stays v w about_waiting a same is besides = besides refl
answer_stays v w (about_link c) a same is besides = besides refl
answer_stays v w (about_readers c) a same is besides = besides refl
answer_stays v w (about_connections o) a same is besides = besides refl
answer_stays v w about_connected a same is besides = besides refl
answer_stays v w about_greatest a same is besides = besides refl
answer_stays v w about_ending a same is besides = besides refl

-- where the verbs are the same, a world agrees that agrees besides
pub agrees_by_rest : (v w : World) (rs : List Read) → SameVerbs v w → Agrees v rs → AgreesBesides w rs → Agrees w rs
agrees_by_rest v w [] same agrees besides = tt
agrees_by_rest v w (r ∷ rs) same agrees besides = (answer_stays v w r.question r.answer same agrees.0 besides.0, agrees_by_rest v w rs same agrees.1 besides.1)

pub rest_agrees : (w : World) (rs : List Read) → Agrees w rs → AgreesBesides w rs
rest_agrees w [] agrees = tt
rest_agrees w (r ∷ rs) agrees = (λ f. agrees.0, rest_agrees w rs agrees.1)

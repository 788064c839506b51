-- Slots and parents by the answers about them.
use Rattle.std.proofs.Common.{◌≡◌, ℤ, List, Option, Some, None, refl, sym, ap, ◌∙◌}
use Rattle.std.specs.Prelude.{option_map}
use Rattle.spec_value.specs.Datum.{Datum, Text, fold_case}
use Rattle.spec_value.specs.Table.{named}
use Rattle.spec_world.specs.World.{World, Object, Header, Slot, Verb, object_at}
use Rattle.spec_world.specs.Inherit.{slot_of, slot_at}
use Rattle.spec_world.specs.Questions.{ask, header_at, verbs_at, slot_on, the_header, the_slot, the_verbs, about_header, about_slot, about_verbs, Change, apply_all}
use Rattle.view.specs.Kin.{IsKin}
use Rattle.view.proofs.SlotsTold.{slot_told, no_object_told}
use Rattle.world.specs.Late.{AllLight, with_later}
use Rattle.world.specs.Trace.{AnswersAlike}
use Rattle.world.proofs.Lightly.{all_unseen, asked_absent}

--- a slot, by what is found on its object
found : (x : Option Object) (p : Text) (s : Option Slot) → option_map (λ y. named y.slots (fold_case p)) x ≡ Some s → slot_of x p ≡ s
found None p s is = cc
found (Some x) p s is = cc

pub slot_found : (w : World) (o : ℤ) (p : Text) (s : Option Slot) → slot_on w o p ≡ Some s → slot_at w o p ≡ s
slot_found w o p s is = found (object_at w o) p s is

nowhere : (x : Option Object) (p : Text) → option_map (λ y. named y.slots (fold_case p)) x ≡ None → slot_of x p ≡ None
nowhere None p is = refl
nowhere (Some x) p is = cc

pub slot_nowhere : (w : World) (o : ℤ) (p : Text) → slot_on w o p ≡ None → slot_at w o p ≡ None
slot_nowhere w o p is = nowhere (object_at w o) p is

--- a slot, by the answer about it
pub slot_answered : (w : World) (o : ℤ) (p : Text) (s : Option Slot) → the_slot (slot_on w o p) ≡ the_slot (Some s) → slot_at w o p ≡ s
slot_answered w o p s is = slot_told w o p s is

pub nothing_answered : (w : World) (o : ℤ) (p : Text) → the_slot (slot_on w o p) ≡ the_slot None → slot_at w o p ≡ None
nothing_answered w o p is = no_object_told w o p is

--- worlds that answer alike have the same slots and parents
same_slot : (x y : Option Object) (p : Text) → the_slot (option_map (λ z. named z.slots (fold_case p)) x) ≡ the_slot (option_map (λ z. named z.slots (fold_case p)) y) → slot_of x p ≡ slot_of y p
same_slot None None p is = refl
same_slot None (Some y) p is = cc
same_slot (Some x) None p is = cc
same_slot (Some x) (Some y) p is = cc

pub slot_by_answer : (v w : World) (o : ℤ) (p : Text) → ask v (about_slot o p) ≡ ask w (about_slot o p) → slot_at v o p ≡ slot_at w o p
slot_by_answer v w o p is = same_slot (object_at v o) (object_at w o) p is

same_parent : (h k : Option Header) → the_header h ≡ the_header k → option_map (λ x. x.parent) h ≡ option_map (λ x. x.parent) k
same_parent h k is = cc

pub parent_by_answer : (v w : World) (o : ℤ) → ask v (about_header o) ≡ ask w (about_header o) → option_map (λ x. x.parent) (header_at v o) ≡ option_map (λ x. x.parent) (header_at w o)
parent_by_answer v w o is = same_parent (header_at v o) (header_at w o) is

pub parent_alike : (v w : World) (o : ℤ) → AnswersAlike v w → option_map (λ x. x.parent) (header_at v o) ≡ option_map (λ x. x.parent) (header_at w o)
parent_alike v w o alike = parent_by_answer v w o (alike (about_header o))

--- no light change gives an object another parent
pub parent_lightly : (cs : List Change) (w : World) (o : ℤ) → AllLight cs → option_map (λ x. x.parent) (header_at (apply_all cs w) o) ≡ option_map (λ x. x.parent) (header_at w o)
parent_lightly cs w o all = same_parent (header_at (apply_all cs w) o) (header_at w o) (all_unseen cs w (about_header o) all refl)

same_verbs : (x y : Option (List Verb)) → the_verbs x ≡ the_verbs y → x ≡ y
same_verbs x y is = cc

pub verbs_by_answer : (v w : World) (o : ℤ) → ask v (about_verbs o) ≡ ask w (about_verbs o) → verbs_at v o ≡ verbs_at w o
verbs_by_answer v w o is = same_verbs (verbs_at v o) (verbs_at w o) is

pub verbs_alike : (v w : World) (o : ℤ) → AnswersAlike v w → verbs_at v o ≡ verbs_at w o
verbs_alike v w o alike = verbs_by_answer v w o (alike (about_verbs o))

--- no light change gives an object other verbs
pub verbs_lightly : (cs : List Change) (w : World) (o : ℤ) → AllLight cs → verbs_at (apply_all cs w) o ≡ verbs_at w o
verbs_lightly cs w o all = same_verbs (verbs_at (apply_all cs w) o) (verbs_at w o) (all_unseen cs w (about_verbs o) all refl)

--- a slot with a value that it may have got later
pub slot_later : (cs : List Change) (w : World) (o : ℤ) (p : Text) (later : Option Datum) → AllLight cs
    → ((v : World) (s : Slot) → slot_on v o p ≡ Some (Some s) → slot_on (apply_all cs v) o p ≡ Some (Some (with_later s later)))
    → slot_at (apply_all cs w) o p ≡ option_map (λ t. with_later t later) (slot_at w o p)
slot_later cs w o p later all becomes = go (slot_on w o p) refl
  where
    go : (x : Option (Option Slot)) → slot_on w o p ≡ x → slot_at (apply_all cs w) o p ≡ option_map (λ t. with_later t later) (slot_at w o p)
    go None is =
        nothing_answered (apply_all cs w) o p (sym (asked_absent None cs w o p all refl (sym is)))
        ∙ ap (option_map (λ t. with_later t later)) (sym (slot_nowhere w o p is))
    go (Some None) is =
        slot_answered (apply_all cs w) o p None (sym (asked_absent (Some None) cs w o p all refl (sym is)))
        ∙ ap (option_map (λ t. with_later t later)) (sym (slot_found w o p None is))
    go (Some (Some s)) is =
        slot_found (apply_all cs w) o p (Some (with_later s later)) (becomes w s is)
        ∙ ap (option_map (λ t. with_later t later)) (sym (slot_found w o p (Some s) is))

--- no light change gives an object another parent or other verbs
pub kin_lightly : (cs : List Change) (w : World) (o parent : ℤ) (vs : List Verb) → AllLight cs → IsKin w o parent vs → IsKin (apply_all cs w) o parent vs
kin_lightly cs w o parent vs all kin = record { above = parent_lightly cs w o all ∙ kin.above; own = verbs_lightly cs w o all ∙ kin.own }

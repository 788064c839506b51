-- Reads and changes, one more at a time.
use Rattle.std.proofs.Common.{◌≡◌, ℕ, List, [], ◌∷◌, ◌++◌, refl, sym, ap, ◌∙◌}
use Rattle.spec_world.specs.World.{World}
use Rattle.spec_world.specs.Questions.{Question, Answer, ask, Read, Agrees, Change, apply, apply_all, new_next, about_header, about_children, about_contents, about_defines, about_slot, about_verbs, about_task, about_waiting, about_link, about_readers, about_connections, about_connected, about_greatest, about_ending}
use Rattle.view.specs.Facets.{DoesLast}
use Rattle.view.specs.Sound.{IsSound}
use Rattle.view.proofs.Facets.{pushed_last}
use Rattle.world.specs.Amended.{Amended, amended_now}
use Rattle.world.specs.Trace.{AnswersAlike}
use Rattle.world.proofs.Local.{InOrder, alike_after}

-- one change more
pub pushed_on : (c : Change) (cs ds : List Change) → ds ≡ cs ++ c ∷ [] → DoesLast c cs ds
pushed_on c cs ds is w = ap (λ (es : List Change). apply_all es w) is ∙ pushed_last c cs w

-- a world that has one change more
pub amended_last : (c : Change) (old new : Amended) → new.home ≡ old.home → DoesLast c old.changes new.changes → amended_now new ≡ apply c (amended_now old)
amended_last c old new stays last = ap (apply_all new.changes) stays ∙ last old.home

-- the number of the next step is no answer
pub next_unseen : (n : ℕ) (w : World) → AnswersAlike (apply (new_next n) w) w
next_unseen n w (about_header o) = refl
next_unseen n w (about_children o) = refl
next_unseen n w (about_contents o) = refl
next_unseen n w (about_defines o) = refl
next_unseen n w (about_slot o p) = refl
next_unseen n w (about_verbs o) = refl
next_unseen n w (about_task i) = refl
next_unseen n w about_waiting = refl
next_unseen n w (about_link c) = refl
next_unseen n w (about_readers c) = refl
next_unseen n w (about_connections o) = refl
next_unseen n w about_connected = refl
next_unseen n w about_greatest = refl
next_unseen n w about_ending = refl

-- one change more that is not seen
pub unseen_last : (cs ds : List Change) (c : Change) (w : World) → DoesLast c cs ds → AnswersAlike (apply_all cs w) w → ((v : World) → AnswersAlike (apply c v) v) → AnswersAlike (apply_all ds w) w
unseen_last cs ds c w last before more q = ap (λ v. ask v q) (last w) ∙ more (apply_all cs w) q ∙ before q

pub agrees_more : (w : World) (rs : List Read) (r : Read) → Agrees w rs → ask w r.question ≡ r.answer → Agrees w (rs ++ r ∷ [])
agrees_more w [] r h e = (e, tt)
agrees_more w (s ∷ rs) r h e = (h.0, agrees_more w rs r h.1 e)

pub agrees_before : (w : World) (rs : List Read) (r : Read) → Agrees w (rs ++ r ∷ []) → Agrees w rs
agrees_before w [] r h = tt
agrees_before w (s ∷ rs) r h = (h.0, agrees_before w rs r h.1)

pub agrees_last : (w : World) (rs : List Read) (r : Read) → Agrees w (rs ++ r ∷ []) → ask w r.question ≡ r.answer
agrees_last w [] r h = h.0
agrees_last w (s ∷ rs) r h = agrees_last w rs r h.1

in_order : (w : World) → IsSound w → InOrder w
in_order w h = record { tasks = h.well_formed.tasks_in_order; links = h.well_formed.links_in_order }

-- what home answers now is what each start answers now that answered as home
pub answered_now : (w home : World) (cs : List Change) (q : Question) (a : Answer) → IsSound w → IsSound home → ask w q ≡ ask home q
    → a ≡ ask (apply_all cs home) q → ask (apply_all cs w) q ≡ a
answered_now w home cs q a sound home_sound alike now = alike_after cs w home q (in_order w sound) (in_order home home_sound) alike ∙ sym now

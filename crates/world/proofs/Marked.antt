-- What is told of the objects on which slots are asked for.
use Rattle.std.proofs.Common.{◌≡◌, ◌∙◌, ℤ, false, List, [], ◌∷◌, ◌++◌, map, Contains, refl, sym, ap, subst}
use Rattle.std.proofs.lemmas.List.{map-append}
use Rattle.spec_world.specs.World.{World}
use Rattle.spec_world.specs.Questions.{Question, about_header, about_children, about_contents, about_defines, about_slot, about_verbs, about_task, about_waiting, about_link, about_readers, about_connections, about_connected, about_greatest, about_ending, Read, Agrees, Change, apply}
use Rattle.view.specs.Facets.{DoesLast}
use Rattle.view.specs.Law.{Goes}
use Rattle.world.specs.Amended.{Amended}
use Rattle.world.specs.Late.{is_about_slot}
use Rattle.world.specs.Marked.{IsOnThese, AreOnThese, answered_on}
use Rattle.world.specs.Trace.{Trace, IsStart, IsTold, world_now}
use Rattle.world.proofs.Goings.{told_now}
use Rattle.world.proofs.History.{agrees_more}

-- a question that is about no slot
pub about_others : (os : List ℤ) (q : Question) → is_about_slot q ≡ false → IsOnThese os q
about_others os (about_slot o p) is = cc
about_others os (about_header o) is = tt
about_others os (about_children o) is = tt
about_others os (about_contents o) is = tt
about_others os (about_defines o) is = tt
about_others os (about_verbs o) is = tt
about_others os (about_task i) is = tt
about_others os about_waiting is = tt
about_others os (about_link c) is = tt
about_others os (about_readers c) is = tt
about_others os (about_connections o) is = tt
about_others os about_connected is = tt
about_others os about_greatest is = tt
about_others os about_ending is = tt

stays_on : (os ps : List ℤ) → ((o : ℤ) → Contains os o → Contains ps o) → (q : Question) → IsOnThese os q → IsOnThese ps q
stays_on os ps more (about_slot o p) is = more o is
stays_on os ps more (about_header o) is = tt
stays_on os ps more (about_children o) is = tt
stays_on os ps more (about_contents o) is = tt
stays_on os ps more (about_defines o) is = tt
stays_on os ps more (about_verbs o) is = tt
stays_on os ps more (about_task i) is = tt
stays_on os ps more about_waiting is = tt
stays_on os ps more (about_link c) is = tt
stays_on os ps more (about_readers c) is = tt
stays_on os ps more (about_connections o) is = tt
stays_on os ps more about_connected is = tt
stays_on os ps more about_greatest is = tt
stays_on os ps more about_ending is = tt

-- the home answers as it does
pub agrees_at_home : (home : World) (qs : List Question) → Agrees home (map (answered_on home) qs)
agrees_at_home home [] = tt
agrees_at_home home (q ∷ qs) = (refl, agrees_at_home home qs)

-- more objects
pub on_more : (home : World) (rs : List Read) (os ps : List ℤ) → ((o : ℤ) → Contains os o → Contains ps o) → AreOnThese home rs os → AreOnThese home rs ps
on_more home rs os ps more on w sound alike = on w sound (λ q is. alike q (stays_on os ps more q is))

-- one question more
pub asked_more : (home : World) (qs rs : List Question) (os : List ℤ) (q : Question) → rs ≡ qs ++ q ∷ [] → IsOnThese os q → AreOnThese home (map (answered_on home) qs) os
    → AreOnThese home (map (answered_on home) rs) os
asked_more home qs rs os q is this on w sound alike =
    subst (λ (xs : List Read). Agrees w xs) (sym (ap (map (answered_on home)) is ∙ map-append (answered_on home) qs (q ∷ [])))
    (agrees_more w (map (answered_on home) qs) (answered_on home q) (on w sound alike) (alike q this))

-- it tells its answer
pub told_more : (t : Trace) (qs rs : List Question) (q : Question) → t.reads ≡ map (answered_on t.home) qs → rs ≡ qs ++ q ∷ [] → IsTold t (record t { reads = map (answered_on t.home) rs }) q
told_more t qs rs q before is =
    told_now t (record t { reads = map (answered_on t.home) rs }) q
    (ap (λ (xs : List Read). record t { reads = xs })
    (ap (map (answered_on t.home)) is ∙ map-append (answered_on t.home) qs (q ∷ []) ∙ ap (λ (xs : List Read). xs ++ answered_on t.home q ∷ []) (sym before)))

-- one change more
pub goes_on_by : (old new : Amended) (qs : List Question) (c : Change) → new.home ≡ old.home → DoesLast c old.changes new.changes
    → Goes IsStart world_now (record { home = old.home; reads = map (answered_on old.home) qs; changes = old.changes }) (record { home = new.home; reads = map (answered_on new.home) qs; changes = new.changes })
    (λ before after. after ≡ apply c before)
goes_on_by old new qs c same last w is = ((is.0, subst (λ (h : World). Agrees w (map (answered_on h) qs)) same is.1), last w)

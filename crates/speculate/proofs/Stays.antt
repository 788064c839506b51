-- Over every schedule.
use Rattle.std.proofs.Common.{None, List, [], ◌∷◌, inl, inr, refl, sym, subst}
use Rattle.speculate.specs.declared.held.Held.TheVariants.{Holds}
use Rattle.speculate.specs.BoardState.{BoardState, IsHonest}
use Rattle.speculate.specs.Progress.{ready, rest}
use Rattle.speculate.specs.Events.{Event, Claim, Post, Lose, Advance, Scene, Happens, IsFair, AllFair, Leads, at_start, StaysHonest, IsAdvanced}
use Rattle.speculate.proofs.Honest.{advances_keep, part_keeps, holding_keeps, lose_keeps, opened_honest}

abbrev IsHonestOn : Scene → Type 0
IsHonestOn s = IsHonest s.board

advanced_keeps : (b b' : BoardState) → IsHonest b → IsAdvanced b b' → IsHonest b'
advanced_keeps b b' honest h = elim h [ inl a ↦ advances_keep (ready (rest b)) b b' honest a | inr a ↦ part_keeps b b' honest a ]

happens_keeps : (e : Event) (s s' : Scene) → IsHonestOn s → IsFair e → Happens e s s' → IsHonestOn s'
happens_keeps (Claim seat) s s' honest fair h =
    elim h [ inl a ↦ subst IsHonestOn (sym a.3) honest | inr a ↦ subst IsHonestOn (sym a) honest ]
happens_keeps (Post i g) s s' honest fair h =
    elim h [
      | inl a ↦ subst IsHonestOn (sym a.2) (holding_keeps s.board i g.step (Holds g None) honest a.1 (refl, fair) tt)
      | inr a ↦ subst IsHonestOn (sym a) honest
    ]
happens_keeps (Lose i) s s' honest fair h =
    elim h [ inl a ↦ subst IsHonestOn (sym a.1) (lose_keeps s.board i honest) | inr a ↦ subst IsHonestOn (sym a) honest ]
happens_keeps Advance s s' honest fair h = subst IsHonestOn (sym h.2) (advanced_keeps s.board h.0 honest h.1)

leads_keep : (es : List Event) (s s' : Scene) → IsHonestOn s → AllFair es → Leads es s s' → IsHonestOn s'
leads_keep [] s s' honest fair l = subst IsHonestOn (sym l) honest
leads_keep (e ∷ es) s s' honest fair l = leads_keep es l.0 s' (happens_keeps e s l.0 honest fair.0 l.1) fair.1 l.2

pub stays : StaysHonest
stays base steps seats sound runs range events fair s leads =
    leads_keep events (at_start base steps seats) s (opened_honest base steps sound runs range) fair leads

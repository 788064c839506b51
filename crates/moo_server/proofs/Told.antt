-- What is told of a run, from how far it was played.
use Rattle.std.proofs.Common.{◌≡◌, ℕ, List, Option, Result, Ok, IfOk, IfSome, sym, subst}
use Rattle.spec_world.specs.World.{World}
use Rattle.spec_world.specs.Step.{Step, RunsOn, AllInRange}
use Rattle.world.specs.Counted.{Counted}
use Rattle.moo_script.specs.Scripts.{IsScript}
use Rattle.moo_script.proofs.OneReading.{one_list}
use Rattle.moo_server.specs.declared.parts.Played.{Played}
use Rattle.moo_server.specs.declared.parts.Played.TheVariants.{Whole, Part, Unwritten}
use Rattle.moo_server.specs.Runs.{reopened, Ran, RanInPart, IsPlayed, conclusion}

-- a fact of what is there in both
pub of_both : {V S E F : Type 0} (world : Result V E) (script : Result S F) (w : V) (s : S) (P : V → S → Type 0) → world ≡ Ok w → script ≡ Ok s → P w s → IfOk world (λ v. IfOk script (λ t. P v t))
of_both {V} {S} {E} {F} world script w s P e f h =
    let Q : Result S F → Type 0 = λ y. IfOk y (λ t. P w t) in
    let R : Result V E → Type 0 = λ x. IfOk x (λ v. IfOk script (λ t. P v t)) in subst R (sym e) (subst Q (sym f) h)

pub played_as : (u v : World) (ss ts : List Step) (old new : Option (List ℕ)) (p : Played) → u ≡ v → ss ≡ ts → IsPlayed u ss old new p → IsPlayed v ts old new p
played_as u v ss ts old new p e f h =
    let P : World → Type 0 = λ w. IsPlayed w ss old new p in
    let Q : List Step → Type 0 = λ l. IsPlayed v l old new p in subst Q f (subst P e h)

abbrev pub WholeTold : World → List ℕ → Option (List ℕ) → Option (List ℕ) → Option Counted × ℕ → Type 0
WholeTold w script old new r = IfSome r.0 (λ after. r.1 ≡ 0 → Ran w script after.plain old new)

abbrev pub PartTold : World → List ℕ → Option (List ℕ) → Option (List ℕ) → Option Counted × ℕ → Type 0
PartTold w script old new r = IfSome r.0 (λ after. r.1 ≡ 3 → (count : ℕ) × RanInPart w script count after.plain old new)

whole_concluded : (w : World) (script : List ℕ) (steps : List Step) (old new : Option (List ℕ)) (p : Played) → IsScript script w.next steps → IsPlayed (reopened w) steps old new p → WholeTold w script old new (conclusion p)
whole_concluded w script steps old new (Whole after) h k = λ e. (steps, h, k)
whole_concluded w script steps old new (Part after count) h k = λ e. cc
whole_concluded w script steps old new Unwritten h k = tt

part_concluded : (w : World) (script : List ℕ) (steps : List Step) (old new : Option (List ℕ)) (p : Played) → IsScript script w.next steps → IsPlayed (reopened w) steps old new p → PartTold w script old new (conclusion p)
part_concluded w script steps old new (Whole after) h k = λ e. cc
part_concluded w script steps old new (Part after count) h k = λ e. (count, (steps, h, k.0, k.1))
part_concluded w script steps old new Unwritten h k = tt

pub whole_told : (w : World) (script : List ℕ) (steps : List Step) (old new : Option (List ℕ)) (p : Played) (r : Option Counted × ℕ) → r ≡ conclusion p → IsScript script w.next steps → IsPlayed (reopened w) steps old new p → WholeTold w script old new r
whole_told w script steps old new p r e h k = let P : Option Counted × ℕ → Type 0 = λ x. WholeTold w script old new x in subst P (sym e) (whole_concluded w script steps old new p h k)

pub part_told : (w : World) (script : List ℕ) (steps : List Step) (old new : Option (List ℕ)) (p : Played) (r : Option Counted × ℕ) → r ≡ conclusion p → IsScript script w.next steps → IsPlayed (reopened w) steps old new p → PartTold w script old new r
part_told w script steps old new p r e h k = let P : Option Counted × ℕ → Type 0 = λ x. PartTold w script old new x in subst P (sym e) (part_concluded w script steps old new p h k)

-- the steps of a script that may run are all that it gives
pub may_run : (w : World) (script : List ℕ) (steps others : List Step) → IsScript script w.next steps → RunsOn w steps × AllInRange steps → IsScript script w.next others → RunsOn w others × AllInRange others
may_run w script steps others h runs k =
    let P : List Step → Type 0 = λ l. RunsOn w l × AllInRange l in subst P (one_list script w.next steps others h k) runs

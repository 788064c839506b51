-- What was forked is one verb at its beginning.
use Rattle.std.proofs.Common.{◌≡◌, ◌<◌, ◌≤◌, ap, sym, refl, subst, ◌∙◌, List, [], ◌∷◌, length, reverse, get_or, arith, true, IsTrue}
use Rattle.std.proofs.lemmas.List.{length-map, length-reverse}
use Rattle.spec_value.proofs.Entries.{first_holds, both_hold}
use Rattle.spec_world.specs.World.{Frame}
use Rattle.spec_world.specs.WellFormed.{frame_fits}
use Rattle.moo_code.specs.Machine as code
use Rattle.moo_code.specs.Machine.{verb, native, entries}
use Rattle.moo_task.specs.Frames.{outer_of, outers_of}
use Rattle.moo_task.specs.declared.frame.Outer.{Outer}
use Rattle.moo_task.specs.Keeping.{BeginsAlone}
use Rattle.world_checks.specs.TaskChecksTasks.{entries_fit, BeginsFitting, BeginsFound}

pub one_stored : (os : List Outer) (o : Outer) → 1 ≤ length os → length os < 2 → o ≡ get_or os 0 o → outers_of os ≡ outer_of o ∷ []
one_stored [] o some few is = absurd (omega arith)
one_stored (x ∷ y ∷ os) o some few is = absurd (omega arith)
one_stored (x ∷ []) o some few is = ap (λ z. outer_of z ∷ []) (sym is)

alone : (o : code.Outer) → BeginsFitting o → IsTrue (entries_fit (entries (o ∷ [])))
alone (native n) h = absurd h
alone (verb k) h =
    let f : Frame = record { call = k.call; start = k.start; program = k.program; variables = k.variables; pieces = [] } in
    both_hold (frame_fits f) true (h f refl refl) refl

pub alone_fits : (ks : List code.Outer) (o : code.Outer) → ks ≡ o ∷ [] → BeginsFitting o → IsTrue (entries_fit (entries ks))
alone_fits ks o is h = subst (λ js. IsTrue (entries_fit (entries js))) (sym is) (alone o h)

-- ---- and the other way round

alone_is : (o : code.Outer) → BeginsAlone (o ∷ []) → IsTrue (entries_fit (entries (o ∷ []))) → BeginsFound o
alone_is (native n) b h = absurd b
alone_is (verb k) b h =
    let f : Frame = record { call = k.call; start = k.start; program = k.program; variables = k.variables; pieces = [] } in
    (f, refl, first_holds (frame_fits f) true h)

pub alone_found : (ks : List code.Outer) (o : code.Outer) → ks ≡ o ∷ [] → BeginsAlone ks → IsTrue (entries_fit (entries ks)) → BeginsFound o
alone_found ks o is b h = alone_is o (subst BeginsAlone is b) (subst (λ js. IsTrue (entries_fit (entries js))) is h)

-- what begins alone is one
pub one_alone : (os : List Outer) → BeginsAlone (outers_of os) → (1 ≤ length os) × (length os < 2)
one_alone os b = go (outers_of os) b (counted os)
  where
    counted : (os : List Outer) → length (outers_of os) ≡ length os
    counted os = length-map (reverse os) outer_of ∙ length-reverse os

    go : (ks : List code.Outer) → BeginsAlone ks → length ks ≡ length os → (1 ≤ length os) × (length os < 2)
    go [] b e = absurd b
    go (native n ∷ ks) b e = absurd b
    go (verb k ∷ x ∷ ks) b e = absurd b
    go (verb k ∷ []) b e = (omega (arith, e), omega (arith, e))

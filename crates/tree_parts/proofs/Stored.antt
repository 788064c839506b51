-- Lines of what waits, as it is stored with the innermost last.
use Rattle.std.proofs.Common.{◌≡◌, ◌∙◌, ap, sym, refl, subst, List, [], ◌∷◌, ◌++◌, length, map, reverse, append_assoc}
use Rattle.std.specs.List.{flat_map}
use Rattle.std.proofs.lemmas.List.{append-nil, reverse-append, length-map, length-reverse, map-append}
use Rattle.spec_world.specs.World.{frame_entry, Waiting, forked, timed, idle, reading_on, Task}
use Rattle.spec_world.specs.Checkpoint.{each_entry}
use Rattle.moo_code.specs.Machine as code
use Rattle.moo_code.specs.Machine.{verb, native}
use Rattle.moo_code.specs.Rebuilding.{entries_of}
use Rattle.moo_task.specs.Frames.{outer_of, outers_of}
use Rattle.moo_task.specs.Keeping.{AllAtCall, IsKept, those, entries_for, task_of}
use Rattle.moo_task.specs.declared.frame.Outer.{Outer}
use Rattle.moo_task.proofs.Kept.{rebuilt_there}
use Rattle.tree_parts.specs.Telling.{outer_lines, each_outer, AreTold, WaitsAtCalls}
use Rattle.tree_parts.proofs.Told.{calls_told, forks_told}

lines_append : (why : Waiting) (ks js : List code.Outer) → each_outer why (ks ++ js) ≡ each_outer why js ++ each_outer why ks
lines_append why [] js = sym (append-nil (each_outer why js))
lines_append why (k ∷ ks) js =
    ap (λ l. l ++ outer_lines why k) (lines_append why ks js) ∙ append_assoc (each_outer why js) (each_outer why ks) (outer_lines why k)

lines_stored : (why : Waiting) (os : List Outer) → each_outer why (outers_of os) ≡ flat_map (λ o. outer_lines why (outer_of o)) os
lines_stored why [] = refl
lines_stored why (o ∷ os) =
    ap (λ l. each_outer why (map outer_of l)) (reverse-append (o ∷ []) os) ∙ ap (each_outer why) (map-append outer_of (reverse os) (o ∷ []))
    ∙ lines_append why (outers_of os) (outer_of o ∷ []) ∙ ap (λ l. outer_lines why (outer_of o) ++ l) (lines_stored why os)

count_stored : (os : List Outer) → length (outers_of os) ≡ length os
count_stored os = length-map (reverse os) outer_of ∙ length-reverse os

-- ---- what is kept

at_calls : (why : Waiting) (ks : List code.Outer) → WaitsAtCalls why → AllAtCall ks → AreTold why (those (entries_of ks)) ks
at_calls why [] c h = absurd h
at_calls why (native n ∷ ks) c h = absurd h
at_calls why (verb k ∷ ks) c h =
    subst (λ es. AreTold why es (verb k ∷ ks)) (sym (rebuilt_there k ks h)) (calls_told why (frame_entry h.frame ∷ h.entries) (verb k ∷ ks) c h.waiting h.standing)

kept_told : (why : Waiting) (ks : List code.Outer) → IsKept why ks → AreTold why (entries_for why ks) ks
kept_told (forked due) ks h = forks_told due ks
kept_told (timed due v) ks h = at_calls (timed due v) ks tt h
kept_told idle ks h = at_calls idle ks tt h
kept_told (reading_on c) ks h = at_calls (reading_on c) ks tt h

task_told : (t : Task) (ks : List code.Outer) → IsKept t.waiting ks → t ≡ task_of t.player t.waiting ks → AreTold t.waiting t.entries ks
task_told t ks h e =
    subst (λ es. AreTold t.waiting es ks) (sym (ap (λ (u : Task). u.entries) e)) (kept_told t.waiting ks h)

pub count_told : (t : Task) (ks : List code.Outer) (os : List Outer) → IsKept t.waiting ks → t ≡ task_of t.player t.waiting ks → outers_of os ≡ ks → length t.entries ≡ length os
count_told t ks os h e same = (task_told t ks h e).count ∙ ap length (sym same) ∙ count_stored os

pub lines_told : (t : Task) (ks : List code.Outer) (os : List Outer) → IsKept t.waiting ks → t ≡ task_of t.player t.waiting ks → outers_of os ≡ ks
    → each_entry t.entries ≡ flat_map (λ o. outer_lines t.waiting (outer_of o)) os
lines_told t ks os h e same = (task_told t ks h e).lines ∙ ap (each_outer t.waiting) (sym same) ∙ lines_stored t.waiting os

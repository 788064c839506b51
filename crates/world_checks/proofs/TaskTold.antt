-- What is seen of all that waits is true of the entries of the task.
use Rattle.std.proofs.Common.{◌≡◌, refl, sym, subst, ℤ, true, false, List, [], ◌∷◌, Option, Some, None, IsTrue}
use Rattle.std.specs.List.{list_all}
use Rattle.spec_world.specs.World.{Entry, frame_entry, Waiting, forked, timed, idle, reading_on, Task}
use Rattle.spec_world.specs.WellFormed.{FramesStand, TaskStands, fork_fits}
use Rattle.spec_holding.specs.Whole.{entry_spelled}
use Rattle.moo_code.specs.Machine.{Outer, verb, native, entries}
use Rattle.moo_code.specs.Rebuilding.{entries_of}
use Rattle.moo_task.specs.Keeping.{BeginsAlone, AllAtCall, IsKept, those, entries_for, task_of}
use Rattle.moo_task.proofs.Kept.{rebuilt_there}
use Rattle.world_checks.specs.TaskChecksTasks.{is_fork, entries_fit, ForkStands}
use Rattle.world_checks.specs.Waiting.{OutersFit, OutersFound, AllSpelled}
use Rattle.world_checks.proofs.Told.{entries_told, entries_found, rebuilt_spelled, plain_spelled}

-- ---- of a task that ran

at_call_told : (ks : List Outer) → AllAtCall ks → OutersFit ks → IsTrue (entries_fit (those (entries_of ks)))
at_call_told [] h fit = absurd h
at_call_told (native n ∷ ks) h fit = absurd h
at_call_told (verb k ∷ ks) h fit =
    subst (λ es. IsTrue (entries_fit es)) (sym (rebuilt_there k ks h)) (entries_told (frame_entry h.frame ∷ h.entries) (verb k ∷ ks) h.waiting h.standing fit)

pub outers_told : (t : Task) (p : ℤ) (why : Waiting) (ks : List Outer) → t ≡ task_of p why ks → IsKept why ks → is_fork why ≡ false → OutersFit ks
    → IsTrue (entries_fit t.entries)
outers_told t p why ks is kept ran fit = subst (λ (u : Task). IsTrue (entries_fit u.entries)) (sym is) (go why kept ran)
  where
    go : (why : Waiting) → IsKept why ks → is_fork why ≡ false → IsTrue (entries_fit (entries_for why ks))
    go (forked m) h e = cc
    go (timed m v) h e = at_call_told ks h fit
    go idle h e = at_call_told ks h fit
    go (reading_on c) h e = at_call_told ks h fit

-- ---- of a fork

pub fork_told : (t : Task) (p : ℤ) (why : Waiting) (ks : List Outer) → t ≡ task_of p why ks → IsKept why ks → is_fork why ≡ true
    → (BeginsAlone ks → IsTrue (entries_fit (entries ks))) → IsTrue (entries_fit t.entries)
fork_told t p why ks is kept fork fit = subst (λ (u : Task). IsTrue (entries_fit u.entries)) (sym is) (go why kept fork)
  where
    go : (why : Waiting) → IsKept why ks → is_fork why ≡ true → IsTrue (entries_fit (entries_for why ks))
    go (forked m) h e = fit h
    go (timed m v) h e = cc
    go idle h e = cc
    go (reading_on c) h e = cc

-- ---- where verbs stand

at_call_stands : (ks : List Outer) → AllAtCall ks → FramesStand (those (entries_of ks))
at_call_stands [] h = absurd h
at_call_stands (native n ∷ ks) h = absurd h
at_call_stands (verb k ∷ ks) h = subst FramesStand (sym (rebuilt_there k ks h)) h.standing

pub task_stands : (t : Task) (p : ℤ) (why : Waiting) (ks : List Outer) → t ≡ task_of p why ks → IsKept why ks → TaskStands t t.waiting
task_stands t p why ks is kept = subst (λ (u : Task). TaskStands u u.waiting) (sym is) (go why kept)
  where
    go : (why : Waiting) → IsKept why ks → TaskStands (task_of p why ks) why
    go (forked m) h = tt
    go (timed m v) h = at_call_stands ks h
    go idle h = at_call_stands ks h
    go (reading_on c) h = at_call_stands ks h

alone_fits : (ks : List Outer) → BeginsAlone ks → IsTrue (fork_fits (entries ks))
alone_fits [] h = absurd h
alone_fits (native n ∷ ks) h = absurd h
alone_fits (verb k ∷ x ∷ ks) h = absurd h
alone_fits (verb k ∷ []) h = refl

pub fork_is : (t : Task) (p : ℤ) (why : Waiting) (ks : List Outer) → t ≡ task_of p why ks → IsKept why ks → ForkStands t.waiting t.entries
fork_is t p why ks is kept = subst (λ (u : Task). ForkStands u.waiting u.entries) (sym is) (go why kept)
  where
    go : (why : Waiting) → IsKept why ks → ForkStands why (entries_for why ks)
    go (forked m) h = alone_fits ks h
    go (timed m v) h = tt
    go idle h = tt
    go (reading_on c) h = tt

-- ---- texts

those_spelled : (ks : List Outer) (o : Option (List Entry)) → entries_of ks ≡ o → AllSpelled ks → IsTrue (list_all entry_spelled (those o))
those_spelled ks None e h = refl
those_spelled ks (Some es) e h = rebuilt_spelled ks es e h

pub spelled_told : (t : Task) (p : ℤ) (why : Waiting) (ks : List Outer) → t ≡ task_of p why ks → AllSpelled ks → IsTrue (list_all entry_spelled t.entries)
spelled_told t p why ks is h = subst (λ (u : Task). IsTrue (list_all entry_spelled u.entries)) (sym is) (go why)
  where
    go : (why : Waiting) → IsTrue (list_all entry_spelled (entries_for why ks))
    go (forked m) = plain_spelled ks h
    go (timed m v) = those_spelled ks (entries_of ks) refl h
    go idle = those_spelled ks (entries_of ks) refl h
    go (reading_on c) = those_spelled ks (entries_of ks) refl h

-- ---- and the other way round

at_call_found : (ks : List Outer) → AllAtCall ks → IsTrue (entries_fit (those (entries_of ks))) → OutersFound ks
at_call_found [] h fit = absurd h
at_call_found (native n ∷ ks) h fit = absurd h
at_call_found (verb k ∷ ks) h fit =
    entries_found (frame_entry h.frame ∷ h.entries) (verb k ∷ ks) h.waiting h.standing (subst (λ es. IsTrue (entries_fit es)) (rebuilt_there k ks h) fit)

pub outers_found : (t : Task) (p : ℤ) (why : Waiting) (ks : List Outer) → t ≡ task_of p why ks → IsKept why ks → is_fork why ≡ false → IsTrue (entries_fit t.entries)
    → OutersFound ks
outers_found t p why ks is kept ran fit = go why kept ran (subst (λ (u : Task). IsTrue (entries_fit u.entries)) is fit)
  where
    go : (why : Waiting) → IsKept why ks → is_fork why ≡ false → IsTrue (entries_fit (entries_for why ks)) → OutersFound ks
    go (forked m) h e f = cc
    go (timed m v) h e f = at_call_found ks h f
    go idle h e f = at_call_found ks h f
    go (reading_on c) h e f = at_call_found ks h f

pub fork_found : (t : Task) (p : ℤ) (why : Waiting) (ks : List Outer) → t ≡ task_of p why ks → IsKept why ks → is_fork why ≡ true → IsTrue (entries_fit t.entries)
    → BeginsAlone ks × IsTrue (entries_fit (entries ks))
fork_found t p why ks is kept fork fit = go why kept fork (subst (λ (u : Task). IsTrue (entries_fit u.entries)) is fit)
  where
    go : (why : Waiting) → IsKept why ks → is_fork why ≡ true → IsTrue (entries_fit (entries_for why ks)) → BeginsAlone ks × IsTrue (entries_fit (entries ks))
    go (forked m) h e f = (h, f)
    go (timed m v) h e f = cc
    go idle h e f = cc
    go (reading_on c) h e f = cc

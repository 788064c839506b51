-- A task that is kept is told by its plain task: no other machine stands for its entries.
use Rattle.std.proofs.Common.{◌≡◌, ◌∙◌, ap, sym, refl, subst, ℕ, ℤ, List, [], ◌∷◌, Some, Bool, IsTrue}
use Rattle.spec_value.specs.Datum.{Datum}
use Rattle.spec_world.specs.World.{Entry, frame_entry, native_entry, Native, Waiting, forked, timed, idle, reading_on, Task}
use Rattle.spec_world.specs.WellFormed.{FramesStand}
use Rattle.spec_moo.specs.Natives.Tasks.{innermost, is_suspended}
use Rattle.spec_moo.specs.Steps.Running.{waiting_task}
use Rattle.moo_code.specs.Machine.{Kept, Outer, verb, native, entries}
use Rattle.moo_code.specs.Rebuilding.{entries_of}
use Rattle.moo_code.specs.Resuming.{outers_of}
use Rattle.moo_code.specs.Stands.{AllWait}
use Rattle.moo_code.proofs.Rebuilding.{entries_rebuilt}
use Rattle.moo_code.proofs.Resuming.{outers_only}
use Rattle.moo_task.specs.Keeping.{BeginsAlone, WaitsAtCall, AllAtCall, IsKept, HasStopped, those, entries_for, task_of}

-- ---- its entries

pub rebuilt_there : (k : Kept) (ks : List Outer) (h : WaitsAtCall k ks) → those (entries_of (verb k ∷ ks)) ≡ frame_entry h.frame ∷ h.entries
rebuilt_there k ks h = ap those (entries_rebuilt (frame_entry h.frame ∷ h.entries) (verb k ∷ ks) h.waiting h.standing)

told_at_call : (ks : List Outer) → AllAtCall ks → ks ≡ outers_of (those (entries_of ks))
told_at_call [] h = absurd h
told_at_call (native n ∷ ks) h = absurd h
told_at_call (verb k ∷ ks) h =
    outers_only (frame_entry h.frame ∷ h.entries) (verb k ∷ ks) h.waiting h.standing ∙ ap outers_of (sym (rebuilt_there k ks h))

abbrev begun_again : List Entry → List Outer
begun_again [] = []
begun_again (native_entry n ∷ es) = []
begun_again (frame_entry f ∷ es) =
    verb (record { call = f.call; start = f.start; program = f.program; variables = f.variables; place = 0; operands = [] }) ∷ []

told_at_start : (ks : List Outer) → BeginsAlone ks → ks ≡ begun_again (entries ks)
told_at_start [] h = absurd h
told_at_start (native n ∷ ks) h = absurd h
told_at_start (verb k ∷ x ∷ ks) h = absurd h
told_at_start (verb k ∷ []) h =
    λ i. verb (record { call = k.call; start = k.start; program = k.program; variables = k.variables; place = h.0 i; operands = h.1 i }) ∷ []

abbrev machine_for : Waiting → List Entry → List Outer
machine_for (forked m) es = begun_again es
machine_for (timed m v) es = outers_of es
machine_for idle es = outers_of es
machine_for (reading_on c) es = outers_of es

told : (why : Waiting) (ks : List Outer) → IsKept why ks → ks ≡ machine_for why (entries_for why ks)
told (forked m) ks h = told_at_start ks h
told (timed m v) ks h = told_at_call ks h
told idle ks h = told_at_call ks h
told (reading_on c) ks h = told_at_call ks h

pub same_kept : (p q : ℤ) (why u : Waiting) (ks js : List Outer) → IsKept why ks → IsKept u js → task_of p why ks ≡ task_of q u js
    → (p ≡ q) × ((why ≡ u) × (ks ≡ js))
same_kept p q why u ks js h g e =
    let whys : why ≡ u = ap (λ (t : Task). t.waiting) e in
    let es : entries_for why ks ≡ entries_for u js = ap (λ (t : Task). t.entries) e in (
      ap (λ (t : Task). t.player) e,
      (whys, told why ks h ∙ (λ i. machine_for (whys i) (es i)) ∙ sym (told u js g)),
    )

pub kept_same : (p q : ℤ) (why u : Waiting) (ks js : List Outer) → p ≡ q → why ≡ u → ks ≡ js → task_of p why ks ≡ task_of q u js
kept_same p q why u ks js players whys same = λ i. task_of (players i) (whys i) (same i)

-- two plain tasks of which these are kept
pub alike_told : (r : Bool) (a b : Task) (p q : ℤ) (why u : Waiting) (ks js : List Outer)
    → task_of p why ks ≡ a → task_of q u js ≡ b → IsKept why ks → IsKept u js → p ≡ q → why ≡ u → (IsTrue r → ks ≡ js) × (ks ≡ js → IsTrue r)
    → (IsTrue r → a ≡ b) × (a ≡ b → IsTrue r)
alike_told r a b p q why u ks js d e h g players whys same = (
  λ t. sym d ∙ kept_same p q why u ks js players whys (same.0 t) ∙ e,
  λ t. same.1 (same_kept p q why u ks js h g (d ∙ t ∙ sym e)).1.1,
)

-- ---- its innermost verb

pub some_verb : (why : Waiting) (ks : List Outer) → IsKept why ks → ks ≡ [] → ⊥
some_verb (forked m) [] h e = h
some_verb (timed m v) [] h e = h
some_verb idle [] h e = h
some_verb (reading_on c) [] h e = h
some_verb why (k ∷ ks) h e = cc

pub verb_first : (why : Waiting) (n : Native) (ks js : List Outer) → IsKept why ks → ks ≡ native n ∷ js → ⊥
verb_first (forked m) n (native o ∷ ks) js h e = h
verb_first (timed m v) n (native o ∷ ks) js h e = h
verb_first idle n (native o ∷ ks) js h e = h
verb_first (reading_on c) n (native o ∷ ks) js h e = h
verb_first why n [] js h e = cc
verb_first why n (verb k ∷ ks) js h e = cc

called_there : (k : Kept) (ks : List Outer) (h : WaitsAtCall k ks) → innermost (those (entries_of (verb k ∷ ks))) ≡ Some k.call
called_there k ks h = ap innermost (rebuilt_there k ks h) ∙ ap (λ (j : Kept). Some j.call) (sym (h.waiting.0).is)

pub innermost_of : (p : ℤ) (why : Waiting) (k : Kept) (ks : List Outer) → IsKept why (verb k ∷ ks)
    → innermost (task_of p why (verb k ∷ ks)).entries ≡ Some k.call
innermost_of p (forked m) k [] h = refl
innermost_of p (forked m) k (x ∷ ks) h = absurd h
innermost_of p (timed m v) k ks h = called_there k ks h
innermost_of p idle k ks h = called_there k ks h
innermost_of p (reading_on c) k ks h = called_there k ks h

pub innermost_told : (a : Task) (p : ℤ) (why : Waiting) (k : Kept) (ks js : List Outer) → task_of p why ks ≡ a → IsKept why ks → ks ≡ verb k ∷ js
    → innermost a.entries ≡ Some k.call
innermost_told a p why k ks js d h e =
    ap (λ (t : Task). innermost t.entries) (sym d ∙ ap (task_of p why) e) ∙ innermost_of p why k js (subst (IsKept why) e h)

-- ---- a task that stopped

pub stopped_kept : (why : Waiting) (ks : List Outer) → HasStopped why ks → IsKept why ks
stopped_kept (forked m) ks h = absurd h
stopped_kept (timed m v) ks h = h
stopped_kept idle ks h = h
stopped_kept (reading_on c) ks h = h

pub stops_as : (player : ℤ) (why : Waiting) (ks : List Outer) (es : List Entry) → HasStopped why ks → AllWait es ks → FramesStand es
    → task_of player why ks ≡ waiting_task player why es
stops_as player (forked m) ks es h w st = absurd h
stops_as player (timed m v) ks es h w st = ap (λ xs. waiting_task player (timed m v) (those xs)) (entries_rebuilt es ks w st)
stops_as player idle ks es h w st = ap (λ xs. waiting_task player idle (those xs)) (entries_rebuilt es ks w st)
stops_as player (reading_on c) ks es h w st = ap (λ xs. waiting_task player (reading_on c) (those xs)) (entries_rebuilt es ks w st)

-- ---- a suspended task that has a value

pub suspended_kept : (why : Waiting) (m : ℕ) (v : Datum) (ks : List Outer) → IsTrue (is_suspended why) → IsKept why ks → IsKept (timed m v) ks
suspended_kept (forked n) m v ks s h = cc
suspended_kept (timed n u) m v ks s h = h
suspended_kept idle m v ks s h = h
suspended_kept (reading_on c) m v ks s h = cc

pub suspended_as : (player : ℤ) (why : Waiting) (m : ℕ) (v : Datum) (ks : List Outer) → IsTrue (is_suspended why)
    → task_of player (timed m v) ks ≡ record (task_of player why ks) { waiting = timed m v }
suspended_as player (forked n) m v ks s = cc
suspended_as player (timed n u) m v ks s = refl
suspended_as player idle m v ks s = refl
suspended_as player (reading_on c) m v ks s = cc

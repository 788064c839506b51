-- A task that goes on stands for what the definition has pending.
use Rattle.std.proofs.Common.{◌≡◌, ◌∙◌, ap, sym, refl, subst, ℕ, suc, ℤ, List, [], ◌∷◌, Option}
use Rattle.spec_value.specs.Datum.{Datum}
use Rattle.spec_program.specs.Construct.{of_program}
use Rattle.std.specs.Prelude.{Result, Ok, Err, IfOk}
use Rattle.std.specs.declared.alloc.AllocError.{AllocError}
use Rattle.spec_world.specs.World.{Task, Waiting, forked, timed, idle, reading_on}
use Rattle.spec_moo.specs.Pending.{begin, hand, Pending, going_on}
use Rattle.spec_moo.specs.Steps.Running.{gone_on}
use Rattle.moo_code.specs.Machine.{Kept, Outer, verb, at_place}
use Rattle.moo_code.specs.Stands.{Verb, kept, Stands}
use Rattle.moo_code.specs.Rebuilding.{entries_of}
use Rattle.moo_code.proofs.Runs.{verbs_begin, tasks_go_on}
use Rattle.moo_task.specs.Outcomes.{running_kept}
use Rattle.moo_task.specs.declared.running.Running.{Running}
use Rattle.moo_task.specs.Keeping.{BeginsAlone, WaitsAtCall, IsKept, those, task_of}
use Rattle.moo_task.specs.UnderWay.{IsUnderWay, begins, resumes, GoesOn}
use Rattle.moo_task.proofs.Kept.{rebuilt_there}

abbrev pub Goes : Option Pending → ℤ → Kept → List Outer → Type 0
Goes o player k ks = GoesOn o player k ks × IsUnderWay k ks

pub moved : (o : Option Pending) (p q : ℤ) (k j : Kept) (ks js : List Outer) → q ≡ p → j ≡ k → js ≡ ks → Goes o p k ks → Goes o q j js
moved o p q k j ks js players keeps outers h =
    subst (λ z. Goes o z j js) (sym players) (subst (λ z. Goes o p z js) (sym keeps) (subst (λ z. Goes o p k z) (sym outers) h))

-- ---- a verb at its beginning

pub begins_again : (player : ℤ) (m : ℕ) (v : Datum) (k : Kept) (ks : List Outer) → BeginsAlone (verb k ∷ ks)
    → Goes (gone_on (task_of player (forked m) (verb k ∷ ks)) (forked m) v) player k ks
begins_again player m v k (x ∷ ks) h = absurd h
begins_again player m v k [] h =
    let f : Verb = record { player = player; call = k.call; start_with = k.start; whole = k.program; outer = [] } in
    let same : kept f k.variables 0 [] ≡ k =
    λ i. record { call = k.call; start = k.start; program = k.program; variables = k.variables; place = sym h.0 i; operands = sym h.1 i } in (
      record {
        player_is = refl;
        stands = subst (λ z. Stands f k.variables (begin (of_program k.program)) [] z []) same (verbs_begin f k.variables [] tt);
      },
      begins (record { entries = []; waiting = tt; standing = tt; place = h.0; operands = h.1 }),
    )

-- ---- behind a call

goes_behind : (player : ℤ) (v : Datum) (k : Kept) (ks : List Outer) → WaitsAtCall k ks
    → Goes (going_on player (hand v) (those (entries_of (verb k ∷ ks)))) player (at_place k (suc k.place) (v ∷ k.operands)) ks
goes_behind player v k ks h = (
  subst (λ es. GoesOn (going_on player (hand v) es) player (at_place k (suc k.place) (v ∷ k.operands)) ks) (sym (rebuilt_there k ks h))
      (record { player_is = refl; stands = tasks_go_on player h.frame h.entries k ks v h.waiting }),
  resumes (record { frame = h.frame; entries = h.entries; at_call = k; value = v; waiting = h.waiting; standing = h.standing; is = refl }),
)

-- the value with which it goes on
abbrev pub own_value : Waiting → Datum → Datum
own_value (timed m u) v = u
own_value why v = v

abbrev pub NeverBegan : Waiting → Type 0
NeverBegan (forked m) = ⊥
NeverBegan why = Unit {0}

pub goes_on_behind : (player : ℤ) (why : Waiting) (v : Datum) (k : Kept) (ks : List Outer) → NeverBegan why → IsKept why (verb k ∷ ks)
    → Goes (gone_on (task_of player why (verb k ∷ ks)) why v) player (at_place k (suc k.place) (own_value why v ∷ k.operands)) ks
goes_on_behind player (forked m) v k ks n h = absurd n
goes_on_behind player (timed m u) v k ks n h = goes_behind player u k ks h
goes_on_behind player idle v k ks n h = goes_behind player v k ks h
goes_on_behind player (reading_on c) v k ks n h = goes_behind player v k ks h

-- ---- the plain task of which it is kept

pub fork_goes_on : (a : Task) (p : ℤ) (why : Waiting) (m : ℕ) (v : Datum) (k j : Kept) (ks js zs : List Outer) (q : ℤ)
    → task_of p why ks ≡ a → IsKept why ks → why ≡ forked m → ks ≡ verb k ∷ js → q ≡ p → j ≡ k → zs ≡ js
    → Goes (gone_on a a.waiting v) q j zs
fork_goes_on a p why m v k j ks js zs q d h w e players keeps outers =
    let told : task_of p (forked m) (verb k ∷ js) ≡ a = (λ i. task_of p (sym w i) (sym e i)) ∙ d in
    let begun : IsKept (forked m) (verb k ∷ js) = subst (IsKept (forked m)) e (subst (λ z. IsKept z ks) w h) in
    subst (λ (t : Task). Goes (gone_on t t.waiting v) q j zs) told
    (moved (gone_on (task_of p (forked m) (verb k ∷ js)) (forked m) v) p q k j js zs players keeps outers (begins_again p m v k js begun))

-- what it is to be, by what it becomes
abbrev pub GoesTo : Task → Datum → Running → Type 0
GoesTo a v r = Goes (gone_on a a.waiting v) r.player (running_kept r) r.outer

pub other_goes_on : (a : Task) (p q : ℤ) (why u : Waiting) (v x : Datum) (k : Kept) (ks js : List Outer) (r : Result Running AllocError)
    → task_of p why ks ≡ a → IsKept why ks → why ≡ u → NeverBegan u → x ≡ own_value u v → ks ≡ verb k ∷ js → q ≡ p
    → IfOk r (λ y. running_kept y ≡ at_place k (suc k.place) (x ∷ k.operands)) → IfOk r (λ y. y.player ≡ q) → IfOk r (λ y. y.outer ≡ js)
    → IfOk r (λ y. GoesTo a v y)
other_goes_on a p q why u v x k ks js (Err e) d h w n value there same keeps players outers = players
other_goes_on a p q why u v x k ks js (Ok y) d h w n value there same keeps players outers =
    let told : task_of p u (verb k ∷ js) ≡ a = (λ i. task_of p (sym w i) (sym there i)) ∙ d in
    let begun : IsKept u (verb k ∷ js) = subst (IsKept u) there (subst (λ z. IsKept z ks) w h) in
    subst (λ (t : Task). Goes (gone_on t t.waiting v) y.player (running_kept y) y.outer) told
    (moved (gone_on (task_of p u (verb k ∷ js)) u v) p y.player (at_place k (suc k.place) (own_value u v ∷ k.operands)) (running_kept y) js y.outer
    (players ∙ same) (keeps ∙ ap (λ z. at_place k (suc k.place) (z ∷ k.operands)) value) outers (goes_on_behind p u v k js n begun))

pub goes_pending : (a : Task) (v : Datum) (r : Result Running AllocError) → IfOk r (λ y. GoesTo a v y)
    → IfOk r (λ y. GoesOn (gone_on a a.waiting v) y.player (running_kept y) y.outer)
goes_pending a v (Err e) h = h
goes_pending a v (Ok y) h = h.0

pub goes_under_way : (a : Task) (v : Datum) (r : Result Running AllocError) → IfOk r (λ y. GoesTo a v y)
    → IfOk r (λ y. IsUnderWay (running_kept y) y.outer)
goes_under_way a v (Err e) h = h
goes_under_way a v (Ok y) h = h.1

-- What the value does with which a login ends.
use Rattle.std.proofs.Common.{◌≡◌, ◌∙◌, ap, sym, refl, subst, ℕ, suc, ◌<◌, ℤ, true, false, ◌&&◌, IsTrue, [], ◌∷◌, Option, Some, None, if◌then◌else◌}
use Rattle.std.specs.Prelude.{option_map, OnOk, codes, Ok, Err, Result as Returned}
use Rattle.spec_value.specs.Datum.{Datum, object}
use Rattle.spec_value.specs.Table.{at}
use Rattle.spec_world.specs.World.{World, Object, Header, Link, Task, object_at}
use Rattle.spec_world.specs.WellFormed.{is_connection}
use Rattle.spec_world.specs.Links.{connection_object}
use Rattle.spec_world.specs.Questions.{header_at, new_link, apply}
use Rattle.spec_moo.specs.Scene.{Scene, id_of, id_taken, enqueued}
use Rattle.spec_moo.specs.Pending.{Stop, done, raised, out_of_ticks, waiting, killed}
use Rattle.spec_world.specs.VerbsSought.{Sought, find_verb}
use Rattle.spec_moo.specs.Steps.Running.{stopped_as, system, told_on}
use Rattle.spec_moo.specs.Steps.Events.{login_value, may_log_in, logged_in, greeted, user_task, is_player, is_open_for, foreground_ticks}
use Rattle.spec_world.specs.Outcome.{Result, value_of}
use Rattle.moo_task.specs.Deeds.{scene_of}
use Rattle.moo_task.specs.declared.deeds.Deeds.{Deeds}
use Rattle.spec_moo.specs.Linking.{link_closed}
use Rattle.spec_ready.specs.Ready.{IsReady, relinked}
use Rattle.spec_ready.proofs.Readiness.{players_log_in}
use Rattle.steps.specs.Ready.{AreReady}
use Rattle.steps.proofs.Relinks.{relinked_is, is_greeted}
use Rattle.view.specs.Law.{Goes, Tells}
use Rattle.steps.proofs.Values.{no_value_else}
use Rattle.moo_value.specs.Shown.{shown_datum}
use Rattle.moo_value.specs.declared.value.Shown.{Shown as ShownDatum}
use Rattle.moo_value.specs.declared.value.Shown.TheVariants.{Integer, Object as ObjectOf, Text as TextOf, Error, List}
use Rattle.task_step.specs.OutcomeView.{result_of}
use Rattle.task_step.specs.declared.outcome.Ending.{Ending}
use Rattle.task_step.specs.declared.outcome.Ending.TheVariants.{Value}
use Rattle.steps.specs.Accepting.{Accepts, has_player}

-- whether an object is a player stands in its header
pub player_is : (m : Option Object) → is_player m ≡ has_player (option_map (λ x. x.header) m)
player_is None = refl
player_is (Some x) = refl

-- ---- what is no object leaves all as it is

abbrev pub IsNoObject : Datum → Type 0
IsNoObject (object who) = ⊥
IsNoObject v = Unit {0}

pub value_stays : (s : Scene) (c : ℤ) (v : Datum) → IsNoObject v → login_value s c (done v) ≡ s
value_stays s c (object who) h = absurd h
value_stays s c _ h = refl

abbrev pub IsNoValue : Result → Type 0
IsNoValue (value_of v) = ⊥
IsNoValue r = Unit {0}

pub no_value_stays : (s : Scene) (c : ℤ) (why : Stop) (r : Result) → IsNoValue r → stopped_as why ≡ r → login_value s c why ≡ s
no_value_stays s c (done v) r h e = let k : IsNoValue (value_of v) = subst IsNoValue (sym e) h in absurd k
no_value_stays s c (raised f) r h e = refl
no_value_stays s c (out_of_ticks ts) r h e = refl
no_value_stays s c (waiting why es) r h e = refl
no_value_stays s c killed r h e = refl

pub no_value_of : (e : Ending) → ((v : Datum) → e ≡ Value v → ⊥) → IsNoValue (result_of e)
no_value_of (Value v) h = absurd (h v refl)
no_value_of _ h = tt

pub no_object_of : (x : ShownDatum) (v : Datum) → shown_datum x ≡ v → ((o : ℤ) → x ≡ ObjectOf o → ⊥) → IsNoObject v
no_object_of (ObjectOf o) v e h = absurd (h o refl)
no_object_of (Integer n) v e h = subst IsNoObject e tt
no_object_of (TextOf t) v e h = subst IsNoObject e tt
no_object_of (Error r) v e h = subst IsNoObject e tt
no_object_of (List vs) v e h = subst IsNoObject e tt

-- ---- an object

pub refused : {V : Type 0} (holds : V → World → Type 0) (now : V → World → World) (a b : V) (d : Deeds) (c who : ℤ)
    → Tells holds now a b (λ w. (e : Deeds) (t : ℕ) → may_log_in (scene_of e w t) c who ≡ false)
    → Goes holds now a b (λ before after. (t : ℕ) → scene_of d after t ≡ login_value (scene_of d before t) c (done (object who)))
refused holds now a b d c who told w h =
    let k = told w h in (
      k.0,
      λ t. ap (λ (x : World). scene_of d x t) k.1.0 ∙ sym (ap (λ z. if z then logged_in (scene_of d (now a w) t) c who else scene_of d (now a w) t) (k.1.1 d t)),
    )

pub let_in : {V E : Type 0} (holds : V → World → Type 0) (now : V → World → World) (a b u : V) (d f : Deeds) (c who : ℤ) (r : Returned (Unit {0}) E)
    → Tells holds now a b (λ w. (e : Deeds) (t : ℕ) → may_log_in (scene_of e w t) c who ≡ true)
    → OnOk r (Goes holds now b u (λ before after. (t : ℕ) → scene_of f after t ≡ logged_in (scene_of d before t) c who))
    → OnOk r (Goes holds now a u (λ before after. (t : ℕ) → scene_of f after t ≡ login_value (scene_of d before t) c (done (object who))))
let_in holds now a b u d f c who (Err x) told goes = goes
let_in holds now a b u d f c who (Ok x) told goes = λ w h.
    let k = goes w h in
    let j = told w k.0 in (
      j.0,
      λ t. k.1 t ∙ ap (λ (x : World). logged_in (scene_of d x t) c who) j.1.0
          ∙ sym (ap (λ z. if z then logged_in (scene_of d (now a w) t) c who else scene_of d (now a w) t) (j.1.1 d t)),
    )

pub accepted_value : {V E : Type 0} (holds : V → World → Type 0) (now : V → World → World) (a u : V) (d f : Deeds) (c : ℤ) (e : Ending) (v : Datum) (r : Returned (Unit {0}) E)
    → e ≡ Value v → OnOk r (Goes holds now a u (λ before after. (t : ℕ) → scene_of f after t ≡ login_value (scene_of d before t) c (done v)))
    → OnOk r (Goes holds now a u (λ before after. Accepts c e d before f after))
accepted_value holds now a u d f c e v (Err x) is goes = goes
accepted_value holds now a u d f c e v (Ok x) is goes = λ w h.
    let k = goes w h in
    (k.0, λ t why same. k.1 t ∙ ap (login_value (scene_of d (now a w) t) c) (sym (no_value_else why v (same ∙ ap result_of is))))

-- a player who has the link is greeted
pub greeted_after : {V E : Type 0} (holds : V → World → Type 0) (now : V → World → World) (a b u : V) (d e f : Deeds) (c who : ℤ) (r : Returned (Unit {0}) E)
    → Goes holds now a b (λ before after. (t : ℕ) → scene_of e after t ≡ relinked (scene_of d before t) c who)
    → OnOk r (Goes holds now b u (λ before after. (t : ℕ) → scene_of f after t ≡ greeted (scene_of e before t) who (find_verb before system (codes "user_connected"))))
    → OnOk r (Goes holds now a u (λ before after. (t : ℕ) → scene_of f after t ≡ logged_in (scene_of d before t) c who))
greeted_after holds now a b u d e f c who (Err x) first second = second
greeted_after holds now a b u d e f c who (Ok x) first second = λ w h.
    let s = second w h in
    let k = first w s.0 in
    (k.0, λ t. s.1 t ∙ ap (λ (z : Scene). greeted z who (find_verb z.world system (codes "user_connected"))) (k.1 t))

-- ---- whether a player may log in

pub may_not : (d : Deeds) (w : World) (t : ℕ) (c who : ℤ) (h : Option Header) → header_at w who ≡ h → has_player h ≡ false → may_log_in (scene_of d w t) c who ≡ false
may_not d w t c who h is none = ap (λ b. b && is_open_for (at w.links c) (connection_object c)) (player_is (object_at w who) ∙ ap has_player is ∙ none)

pub may_where : (d : Deeds) (w : World) (t : ℕ) (c who : ℤ) (h : Option Header) (l : Option Link) → header_at w who ≡ h → has_player h ≡ true → at w.links c ≡ l
    → may_log_in (scene_of d w t) c who ≡ is_open_for l (connection_object c)
may_where d w t c who h l is player link =
    ap (λ b. b && is_open_for (at w.links c) (connection_object c)) (player_is (object_at w who) ∙ ap has_player is ∙ player) ∙ ap (λ m. is_open_for m (connection_object c)) link

-- ---- the link

pub relinked_goes : {V E : Type 0} (holds : V → World → Type 0) (now : V → World → World) (a b u : V) (d e f : Deeds) (c who : ℤ) (l : Link) (r : Returned (Unit {0}) E)
    → IsTrue (is_connection c) → l ≡ record { person = who; programming = None }
    → Goes holds now a b (λ before after. (t : ℕ) → scene_of e after t ≡ link_closed (scene_of d before t) who)
    → Goes holds now b u (λ before after. after ≡ apply (new_link c (Some l)) before)
    → OnOk r ((x : World) (t : ℕ) → scene_of f x t ≡ told_on (scene_of e x t) (Some c) (codes "*** Connected ***" ∷ []))
    → OnOk r (Goes holds now a u (λ before after. (t : ℕ) → scene_of f after t ≡ relinked (scene_of d before t) c who))
relinked_goes holds now a b u d e f c who l (Err x) ranged link closed written tells = tells
relinked_goes holds now a b u d e f c who l (Ok x) ranged link closed written tells = λ w h.
    let k = written w h in
    let j = closed w k.0 in
    (j.0, relinked_is d e f (now a w) (now b w) (now u w) c who ranged j.1 (k.1 ∙ ap (λ (y : Link). apply (new_link c (Some y)) (now b w)) link) tells)

pub relinked_ready : {V E : Type 0} (holds : V → World → Type 0) (now : V → World → World) (a u : V) (d f : Deeds) (c who : ℤ) (r : Returned (Unit {0}) E) → AreReady holds now a d
    → ((w : World) → holds a w → may_log_in (scene_of d (now a w) foreground_ticks) c who ≡ true)
    → OnOk r (Goes holds now a u (λ before after. (t : ℕ) → scene_of f after t ≡ relinked (scene_of d before t) c who)) → OnOk r (AreReady holds now u f)
relinked_ready holds now a u d f c who (Err x) ready may goes = goes
relinked_ready holds now a u d f c who (Ok x) ready may goes = λ w h t.
    let k = goes w h in subst IsReady (sym (k.1 t)) (players_log_in (scene_of d (now a w) t) c who (ready w k.0 t) (may w k.0))

-- ---- the greeting

pub greeted_goes : {V E : Type 0} (holds : V → World → Type 0) (now : V → World → World) (a b : V) (d e f : Deeds) (i who : ℤ) (found : Sought) (task : Task) (r : Returned (Unit {0}) E)
    → d.ids_used < 64 → i ≡ id_of d.number (suc d.ids_used) → ((s : Scene) → s.moment ≡ d.moment → task ≡ user_task s who found)
    → ((w : World) (t : ℕ) → scene_of e w t ≡ id_taken (scene_of d w t))
    → OnOk r (Goes holds now a b (λ before after. (t : ℕ) → scene_of f after t ≡ enqueued (scene_of e before t) i task))
    → OnOk r (Goes holds now a b (λ before after. (t : ℕ) → scene_of f after t ≡ greeted (scene_of d before t) who (Some found)))
greeted_goes holds now a b d e f i who found task (Err x) few id given taken put = put
greeted_goes holds now a b d e f i who found task (Ok x) few id given taken put = λ w h.
    let k = put w h in (k.0, is_greeted d e f (now a w) (now b w) i who found task few id given (taken (now a w)) k.1)

pub greeted_then : {V E : Type 0} (holds : V → World → Type 0) (now : V → World → World) (a b u : V) (d f : Deeds) (who : ℤ) (found : Option Sought) (r : Returned (Unit {0}) E)
    → Tells holds now a b (λ w. find_verb w system (codes "user_connected") ≡ found)
    → OnOk r (Goes holds now b u (λ before after. (t : ℕ) → scene_of f after t ≡ greeted (scene_of d before t) who found))
    → OnOk r (Goes holds now a u (λ before after. (t : ℕ) → scene_of f after t ≡ greeted (scene_of d before t) who (find_verb before system (codes "user_connected"))))
greeted_then holds now a b u d f who found (Err x) told goes = goes
greeted_then holds now a b u d f who found (Ok x) told goes = λ w h.
    let k = goes w h in
    let j = told w k.0 in
    (j.0, λ t. k.1 t ∙ ap (λ (x : World). greeted (scene_of d x t) who found) j.1.0 ∙ ap (greeted (scene_of d (now a w) t) who) (sym j.1.1))

pub not_there_greeted : {V : Type 0} (holds : V → World → Type 0) (now : V → World → World) (a b : V) (d : Deeds) (who : ℤ)
    → Tells holds now a b (λ w. find_verb w system (codes "user_connected") ≡ None)
    → Goes holds now a b (λ before after. (t : ℕ) → scene_of d after t ≡ greeted (scene_of d before t) who (find_verb before system (codes "user_connected")))
not_there_greeted holds now a b d who told = λ w h.
    let j = told w h in (j.0, λ t. ap (λ (x : World). scene_of d x t) j.1.0 ∙ ap (greeted (scene_of d (now a w) t) who) (sym j.1.1))

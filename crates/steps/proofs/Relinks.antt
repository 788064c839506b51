-- Links that are written, and what is told and queued with them.
use Rattle.std.proofs.Common.{◌≡◌, ◌∙◌, ap, sym, refl, ℕ, suc, ◌+◌, ◌<◌, ◌≤◌, ℤ, pos, negsuc, Bool, true, false, List, [], ◌∷◌, ◌++◌, append_assoc, Some, None, IsTrue, if◌then◌else◌, codes, arith, le-leb}
use Rattle.std.specs.Prelude.{int_le}
use Rattle.std.proofs.lemmas.Bool.Decides.{nat_tests}
use Rattle.std.specs.Fmt.{signed_decimal}
use Rattle.spec_value.specs.Literal.{to_text}
use Rattle.spec_value.proofs.Entries.{first_holds, second_holds, both_hold}
use Rattle.spec_value.specs.Datum.{object, no_data, item}
use Rattle.spec_value.specs.Table.{at, with}
use Rattle.spec_world.specs.World.{World, Link, Task}
use Rattle.spec_world.specs.WellFormed.{is_connection}
use Rattle.spec_world.specs.Links.{open_link}
use Rattle.spec_world.specs.VerbsSought.{Sought}
use Rattle.spec_world.specs.Questions.{new_link, is_number, apply}
use Rattle.spec_moo.specs.Scene.{Scene, in_world, has_ids, next_id, id_taken, id_of, enqueued}
use Rattle.spec_moo.specs.Linking.{link_closed}
use Rattle.spec_moo.specs.Steps.Running.{told_on, system_call, unnamed}
use Rattle.spec_moo.specs.Steps.Events.{greeted, user_task}
use Rattle.spec_ready.specs.Ready.{IsReady, relinked}
use Rattle.moo_code.specs.Machine.{Kept}
use Rattle.moo_task.specs.Deeds.{scene_of}
use Rattle.moo_task.specs.declared.deeds.Deeds.{Deeds}
use Rattle.moo_task.specs.Keeping.{forked_task}
use Rattle.view.specs.Law.{Goes}
use Rattle.steps.proofs.Beginnings.{first_kept}

number_of_link : (c : ℤ) → IsTrue (is_connection c) → IsTrue (is_number c)
number_of_link (pos n) h = both_hold (int_le (pos 0) (pos n)) _ (le-leb 0 n (omega arith)) (second_holds (int_le (pos 1) (pos n)) _ h)
number_of_link (negsuc n) h = absurd (cc (h))

-- a link that is written is open
pub written_open : (w : World) (c : ℤ) (k : Link) → IsTrue (is_connection c) → apply (new_link c (Some k)) w ≡ open_link w c k
written_open w c k h = ap (λ (b : Bool). record w { links = if b then with w.links c k else w.links }) (number_of_link c h)

pub relinked_is : (d e f : Deeds) (w u v : World) (c who : ℤ) → IsTrue (is_connection c) → ((t : ℕ) → scene_of e u t ≡ link_closed (scene_of d w t) who)
    → v ≡ apply (new_link c (Some (record { person = who; programming = None }))) u
    → ((x : World) (t : ℕ) → scene_of f x t ≡ told_on (scene_of e x t) (Some c) (codes "*** Connected ***" ∷ [])) → (t : ℕ)
    → scene_of f v t ≡ relinked (scene_of d w t) c who
relinked_is d e f w u v c who h closed written tells t =
    let k : Link = record { person = who; programming = None } in
    let there : scene_of e v t ≡ in_world (link_closed (scene_of d w t) who) (open_link (link_closed (scene_of d w t) who).world c k) =
    ap (λ (x : World). scene_of e x t) (written ∙ written_open u c k h) ∙ ap (λ (s : Scene). in_world s (open_link s.world c k)) (closed t) in
    tells v t ∙ ap (λ (s : Scene). told_on s (Some c) (codes "*** Connected ***" ∷ [])) there

-- ---- the greeting

pub not_greeted : (s : Scene) (who : ℤ) (f : Sought) → 64 ≤ s.ids_used → greeted s who (Some f) ≡ s
not_greeted s who f h =
    let full : has_ids s ≡ false = grind (arith, nat_tests) in
    ap (λ (b : Bool). if b then enqueued (id_taken s) (next_id s) (user_task s who f) else s) full

pub one_taken : (d : Deeds) (w : World) (t : ℕ) → scene_of (record d { ids_used = d.ids_used + 1 }) w t ≡ id_taken (scene_of d w t)
one_taken d w t = let more : d.ids_used + 1 ≡ suc d.ids_used = omega arith in ap (λ (n : ℕ). record (scene_of d w t) { ids_used = n }) more

pub is_greeted : (d e g : Deeds) (w v : World) (i who : ℤ) (f : Sought) (task : Task) → d.ids_used < 64 → i ≡ id_of d.number (suc d.ids_used)
    → ((s : Scene) → s.moment ≡ d.moment → task ≡ user_task s who f) → ((t : ℕ) → scene_of e w t ≡ id_taken (scene_of d w t))
    → ((t : ℕ) → scene_of g v t ≡ enqueued (scene_of e w t) i task) → (t : ℕ) → scene_of g v t ≡ greeted (scene_of d w t) who (Some f)
is_greeted d e g w v i who f task h id given taken put t =
    let s : Scene = scene_of d w t in
    let more : has_ids s ≡ true = grind (arith, nat_tests) in
    put t ∙ ap (λ (x : Scene). enqueued x i task) (taken t) ∙ ap (λ (j : ℤ). enqueued (id_taken s) j task) id
    ∙ ap (λ (x : Task). enqueued (id_taken s) (next_id s) x) (given s refl)
    ∙ sym (ap (λ (b : Bool). if b then enqueued (id_taken s) (next_id s) (user_task s who f) else s) more)

-- a link is open after it was written
pub written_goes : {V : Type 0} (holds : V → World → Type 0) (now : V → World → World) (a b : V) (c : ℤ) (l k : Link) → IsTrue (is_connection c) → l ≡ k
    → Goes holds now a b (λ before after. after ≡ apply (new_link c (Some l)) before) → Goes holds now a b (λ before after. after ≡ open_link before c k)
written_goes holds now a b c l k h same written w is =
    let t = written w is in (t.0, t.1 ∙ ap (λ (x : Link). apply (new_link c (Some x)) (now a w)) same ∙ written_open (now a w) c k h)

-- the task that greets a player, by the verb with which it begins
pub greeting_is : (s : Scene) (who : ℤ) (moment : ℕ) (f : Sought) (k : Kept) (task : Task) → task ≡ forked_task who moment k
    → k ≡ first_kept who (system_call who (codes "user_connected") f) (codes "user_connected") (unnamed []) (item (object who) no_data) (f.verb).program → s.moment ≡ moment
    → task ≡ user_task s who f
greeting_is s who moment f k task made begun same = made ∙ ap (forked_task who moment) begun ∙ ap (λ n. user_task (record s { moment = n }) who f) (sym same)

-- a link that is there is that of a connection
pub link_ranged : (s : Scene) (c : ℤ) (k : Link) → IsReady s → at s.world.links c ≡ Some k → IsTrue (is_connection c)
link_ranged s c k h e = first_holds (is_connection c) _ (h.agrees.world.links.links c k e)

-- what a player is told whose lines are collected
pub programming_told : (o : ℤ) (first name verb number : List ℕ) → first ≡ codes "Now programming " ++ (number ++ codes ":") → number ≡ to_text (object o) → name ≡ verb
    → first ++ (name ++ codes ".") ≡ codes "Now programming #" ++ (signed_decimal o ++ (codes ":" ++ (verb ++ codes ".")))
programming_told o first name verb number made is same =
    ap (λ (x : List ℕ). x ++ (name ++ codes ".")) (made ∙ ap (λ (x : List ℕ). codes "Now programming " ++ (x ++ codes ":")) is)
    ∙ ap (λ (x : List ℕ). codes "Now programming #" ++ x) (append_assoc (signed_decimal o) (codes ":") (name ++ codes "."))
    ∙ ap (λ (x : List ℕ). codes "Now programming #" ++ (signed_decimal o ++ (codes ":" ++ (x ++ codes ".")))) same

-- Steps and lists of steps lead on by permitted changes, by programs that players type, and by what the server does itself.
use Rattle.std.proofs.Common.{◌≡◌, ◌⊎◌, inl, inr, ℕ, zero, suc, ◌≤◌, ◌==◌, max, ℤ, pos, negsuc, ◌&&◌, ◌||◌, Bool, true, false, List, [], ◌∷◌, length, Option, Some, None, IsTrue, refl, sym, ap, ◌∙◌, subst, cond, arith, if◌then◌else◌, codes, option_map, leb-true}
use Rattle.std.specs.Prelude.{int_le, nat_le, nat_lt}
use Rattle.std.specs.Ordering.{int_eq}
use Rattle.std.specs.List.{list_all}
use Rattle.spec_value.specs.Datum.{Datum, object, text, Data, no_data, item, of_list, Text, same_text}
use Rattle.spec_value.specs.Table.{at}
use Rattle.spec_value.proofs.Entries.{first_holds, second_holds}
use Rattle.spec_value.proofs.Same.{same_integer}
use Rattle.spec_program.specs.Tree.{Program}
use Rattle.spec_program.specs.ReadPrograms.{Parsed, program, faulty, parsed_lines}
use Rattle.spec_world.specs.World.{World, Object, Verb, Link, Programming, Call, Start, Entry, frame_entry, native_entry, Task, Waiting, forked, timed, idle, reading_on, object_at}
use Rattle.spec_world.specs.WellFormed.{is_moment, is_connection, passes, on_object}
use Rattle.spec_world.specs.Agreeing.{Agrees}
use Rattle.spec_world.specs.Permissions.{in_place, is_wizard, wizardly, programs, program_verb, may}
use Rattle.spec_world.specs.Links.{connection_object, connection_of, reader_of, open_link, close_link}
use Rattle.spec_world.specs.Members.{with_verb, verb_changed}
use Rattle.spec_world.specs.Families.{change_at}
use Rattle.spec_world.specs.Naming.{location_of, name_object}
use Rattle.spec_world.specs.VerbsSought.{Sought, Named, find_verb, find_command_verb}
use Rattle.spec_world.specs.CommandLines as line
use Rattle.spec_world.specs.CommandLines.{Parts, Meant, Command, nothing_said, programming, calls_verb, calls_huh, not_understood, meant_on, or_then, verb_meant, huh_or_not, verb_or_huh, asks_to_program, command_or_program, line_parts, named_by, command_said}
use Rattle.spec_world.proofs.Trees.{some_same, either}
use Rattle.spec_world.proofs.WorldsKept.{next_raised}
use Rattle.spec_world.proofs.ObjectChanges.{at_change}
use Rattle.spec_moo.specs.Scene.{Scene, in_world, has_ids, next_id, id_taken, enqueued}
use Rattle.spec_moo.specs.Linking.{connection_closed, link_closed}
use Rattle.spec_moo.specs.Pending.{hand, Focus, Pending, Stop, done, raised, out_of_ticks, waiting, killed, going_on}
use Rattle.spec_moo.specs.Segment.{segment}
use Rattle.spec_moo.specs.Natives.Properties.{as_texts}
use Rattle.spec_world.specs.Step as step
use Rattle.spec_world.specs.Step.{Event, line_of, ready_task, Step, in_range, event_in_range}
use Rattle.spec_world.specs.Outcome.{ended}
use Rattle.spec_moo.specs.Steps.Outcomes.{opening_scene, idle_with}
use Rattle.spec_moo.specs.Steps.Running.{Ran, waiting_task, put_by, after_stop, run, told_on, begun, system_call, unnamed, system_task, system, on_system, beginning_of, begun_again, gone_on}
use Rattle.spec_moo.specs.Steps.Programming.{with_link, programmable_at, programmable, own_place, begins, opens, requested, written, ends_with, ends_at, ends, goes_on, collected}
use Rattle.spec_moo.specs.Steps.Events as events
use Rattle.spec_moo.specs.Steps.Events.{foreground_ticks, queued_ticks, words_value, user_task, greeted, logged_in, may_log_in, login_value, login_with, login, opened_link, nothing_runs, command_call, command_start, command_run, player_line, resumed, with_own_task, line_for, line_read, line_taken, line_on, told_gone, gone, closed_link, is_due, ready_run, ready_at, event_of, event}
use Rattle.spec_moo.specs.Steps.{numbered, play1, play}
use Rattle.spec_moo.specs.Worlds.{IsUnderWay}
use Rattle.spec_moo.proofs.StepWorlds.{steps_keep}
use Rattle.spec_ready.specs.Ready.{IsReady}
use Rattle.spec_ready.proofs.GoingOn.{beginnings_stand}
use Rattle.spec_ready.proofs.Readiness.{links_open, links_close, tasks_leave, going_on_stands, number_small}
use Rattle.spec_rights.specs.Permitted.{Allows}
use Rattle.spec_rights.specs.Chains.{Right, to_run_as, Holds, EntriesHold, TasksHold, SameObjects, IsTyping, Chain, starts, types, PendingHolds, world_after, TurnsPermit, SegmentsPermit, StepsPermit, ListsPermit}
use Rattle.spec_rights.proofs.Doing.{Among, TasksFrom, among_left, among_at, of_tasks, to_tasks, OwnsVerb, SoughtOwned, verb_owned, first_owned, closing}
use Rattle.spec_rights.proofs.Extending.{Reached, served}
use Rattle.spec_rights.proofs.Turns.{Halted, TurnedReaches, owner_runs, task_put, turn_goes}
use Rattle.spec_rights.proofs.Segments.{segment_leads}

-- ---- players who type

-- nobody is allowed to program a verb but by an object that is there
allowed_there : (w : World) (who o : ℤ) (n : ℕ) → Allows w who (program_verb o n) → (x : Object) × (object_at w who ≡ Some x)
unfolding may
allowed_there w who o n k = go (object_at w who) refl k
  where
    go : (m : Option Object) → object_at w who ≡ m → (wizardly m || (programs m && Rattle.spec_world.specs.Permissions.of_verb (Rattle.spec_world.specs.Permissions.verb_in (object_at w o) n) (λ v. Rattle.spec_world.specs.Permissions.owns_or who v.owner v.writable))) ≡ true
        → (x : Object) × (object_at w who ≡ Some x)
    go None e i = cc
    go (Some x) e i = (x, e)

below_zero : (m : ℤ) → IsTrue (is_connection m) → IsTrue (int_le (pos 0) (connection_object m)) → ⊥
below_zero (pos zero) a e = cc (a)
below_zero (pos (suc m)) a e = cc (e)
below_zero (negsuc m) a e = cc (a)

-- so it is a player who has the link
pub typing : (w : World) (c : ℤ) (k : Link) (o : ℤ) (n : ℕ) → Agrees w → at w.links c ≡ Some k → Allows w k.person (program_verb o n) → IsTyping w k.person
typing w c k o n h e allowed = go (either (int_eq k.person (connection_object c)) _ (second_holds (is_connection c) _ (h.links.links c k e)))
  where
    there : (x : Object) × (object_at w k.person ≡ Some x)
    there = allowed_there w k.person o n allowed

    go : IsTrue (int_eq k.person (connection_object c)) ⊎ IsTrue (on_object w k.person (λ x. x.header.is_player)) → IsTyping w k.person
    go (inl s) =
        absurd (below_zero c (first_holds (is_connection c) _ (h.links.links c k e)) (subst (λ z. IsTrue (int_le (pos 0) z)) (same_integer k.person (connection_object c) s) (first_holds (int_le (pos 0) k.person) _ (h.objects.numbers k.person there.0 there.1))))
    go (inr s) = (c, k, e, refl, there.0, there.1, subst (λ m. IsTrue (passes m (λ x. x.header.is_player))) there.1 s)

same_owner : (vs : List Verb) (n : ℕ) (body : Program) (m : ℕ) (v : Verb) → in_place (with_verb vs n (λ u. record u { program = body })) m ≡ Some v
    → (u : Verb) × (in_place vs m ≡ Some u) × (u.owner ≡ v.owner)
same_owner [] n body m v e = cc
same_owner (u ∷ us) zero body zero v e = (u, refl, ap (λ (z : Verb). z.owner) (some_same e))
same_owner (u ∷ us) zero body (suc m) v e = (v, e, refl)
same_owner (u ∷ us) (suc n) body zero v e = (u, refl, ap (λ (z : Verb). z.owner) (some_same e))
same_owner (u ∷ us) (suc n) body (suc m) v e = same_owner us n body m v e

-- ---- from a world on

module _ (start : Right → Bool) (first : World) where
  abbrev pub Leads : World → Type 0
  Leads u = (hs : List Right) × Reached start first hs u

  served_from : (gs : List Right) (u v : World) → Reached start first gs u → SameObjects u v → TasksFrom u.tasks v.tasks → Reached start first gs v
  served_from gs u v r same tasks =
      served start first gs u v r same (to_tasks (Holds start gs) v.tasks (λ es k. of_tasks (Holds start gs) u.tasks es r.all.tasks (tasks es k)))

  -- a player's program
  typed : (gs : List Right) (u : World) (who o : ℤ) (n : ℕ) (body : Program) → Reached start first gs u → IsTyping u who → Allows u who (program_verb o n)
      → Reached start first gs (verb_changed u o n (λ x. record x { program = body }))
  unfolding verb_changed
  typed gs u who o n body r is allowed =
      record {
        chain = types gs u who o n body r.chain is allowed;
        all = record { verbs = owned; tasks = subst (λ ts. TasksHold (Holds start gs) ts) (sym (Rattle.spec_world.proofs.WorldsKept.change_rest u o _).tasks) r.all.tasks };
      }
    where
      owned : (q : ℤ) (x : Object) (m : ℕ) (v : Verb) → object_at (verb_changed u o n (λ y. record y { program = body })) q ≡ Some x → in_place x.verbs m ≡ Some v
          → Holds start gs (to_run_as v.owner)
      owned q x m v e i = go (object_at u q) refl (sym (at_change u o q _) ∙ e)
        where
          by : (y : Object) → object_at u q ≡ Some y → (b : Bool) → cond b (record y { verbs = with_verb y.verbs n (λ z. record z { program = body }) }) y ≡ x → Holds start gs (to_run_as v.owner)
          by y is false same = r.all.verbs q y m v is (ap (λ (z : Object). in_place z.verbs m) same ∙ i)
          by y is true same =
              let f = same_owner y.verbs n body m v (ap (λ (z : Object). in_place z.verbs m) same ∙ i) in
              subst (λ z. Holds start gs (to_run_as z)) f.2 (r.all.verbs q y m f.0 is f.1)

          go : (l : Option Object) → object_at u q ≡ l → option_map (λ y. cond (int_eq q o) (record y { verbs = with_verb y.verbs n (λ z. record z { program = body }) }) y) l ≡ Some x
              → Holds start gs (to_run_as v.owner)
          go None is same = cc
          go (Some y) is same = by y is (int_eq q o) (some_same same)

  -- in a world with other links
  pub same_verbs : (u : World) (c : ℤ) (k : Link) (o : ℤ) (n : ℕ) (f : Verb → Verb)
      → SameObjects (verb_changed u o n f) (verb_changed (open_link u c k) o n f) × ((verb_changed (open_link u c k) o n f).tasks ≡ (verb_changed u o n f).tasks)
  unfolding verb_changed
  same_verbs u c k o n f = go (object_at u o)
    where
      go : (m : Option Object)
          → SameObjects (change_at u o (λ x. record x { verbs = with_verb x.verbs n f }) m) (change_at (open_link u c k) o (λ x. record x { verbs = with_verb x.verbs n f }) m)
          × ((change_at (open_link u c k) o (λ x. record x { verbs = with_verb x.verbs n f }) m).tasks ≡ (change_at u o (λ x. record x { verbs = with_verb x.verbs n f }) m).tasks)
      go None = ((refl, refl, refl), refl)
      go (Some x) = ((refl, refl, refl), refl)

  linked : (gs : List Right) (u : World) (c : ℤ) (k : Link) → Reached start first gs u → Reached start first gs (open_link u c k)
  linked gs u c k r = served_from gs u (open_link u c k) r (refl, refl, refl) (λ es i. i)

  unlinked : (gs : List Right) (s : Scene) (who : ℤ) → Reached start first gs s.world → Reached start first gs (link_closed s who).world
  unlinked gs s who r = go (connection_of s.world who)
    where
      go : (m : Option ℤ) → Reached start first gs (connection_closed s m).world
      go None = r
      go (Some c) = served_from gs s.world (close_link s.world c) r (closing s.world c).0 (closing s.world c).1

  -- ---- a task under way, to its end

  told_leads : (s : Scene) (o : Option ℤ) (ts : List Text) → Leads s.world → Leads (told_on s o ts).world
  told_leads s None ts h = h
  told_leads s (Some c) ts h = h

  stop_leads : (player : ℤ) (s : Scene) (why : Stop) → (hs : List Right) × Halted start first hs s why → Leads (after_stop player s why).world
  stop_leads player s (waiting why es) (hs, (r, k)) = go s.task
    where
      go : (o : Option ℤ) → Leads (put_by s o (waiting_task player why es)).world
      go None = (hs, r)
      go (Some i) = (hs, task_put start first hs s.world i (waiting_task player why es) r k)
  stop_leads player s (done v) h = told_leads s (connection_of s.world player) [] h
  stop_leads player s (raised f) h = told_leads s (connection_of s.world player) _ h
  stop_leads player s (out_of_ticks ts) h = told_leads s (connection_of s.world player) _ h
  stop_leads player s killed h = told_leads s (connection_of s.world player) [] h

  run_leads : (s : Scene) (p : Pending) (hs : List Right) → IsReady s → IsUnderWay p → Reached start first hs s.world → PendingHolds (Holds start hs) p → Leads (run s p).scene.world
  run_leads s p hs ready way r b =
      stop_leads p.player (segment s.ticks_left s p).scene (segment s.ticks_left s p).stop (segment_leads start first s.world.next s.ticks_left s p ((ready.agrees, way), (hs, (r, b))))

  -- ---- a verb that begins

  begun_leads : (t : Scene) (player : ℤ) (c : Call) (word : Text) (s : Start) (args : Data) (body : Program) (hs : List Right) → IsReady t → Reached start first hs t.world
      → OwnsVerb t.world c.programmer → Leads (run t (begun player c word s args body)).scene.world
  begun_leads t player c word s args body hs ready r own =
      run_leads t (begun player c word s args body) hs ready (beginnings_stand player c word s args body) r (owner_runs start first hs t.world r c.programmer own, tt)

  system_leads : (s : Scene) (who : ℤ) (word argstr : Text) (args : Data) (f : Sought) (hs : List Right) → IsReady s → Reached start first hs s.world → SoughtOwned s.world (Some f)
      → Leads (run s (system_task who word argstr args f)).scene.world
  system_leads s who word argstr args f hs ready r own = begun_leads s who (system_call who word f) word (unnamed argstr) args (f.verb).program hs ready r own

  -- ---- a task that goes on

  abbrev GoesOn : List Right → Option Pending → Type 0
  GoesOn hs None = Unit {0}
  GoesOn hs (Some p) = PendingHolds (Holds start hs) p

  going_on_holds : (hs : List Right) (player : ℤ) (f : Focus) (es : List Entry) → EntriesHold (Holds start hs) es → GoesOn hs (going_on player f es)
  going_on_holds hs player f [] h = tt
  going_on_holds hs player f (frame_entry g ∷ es) h = h
  going_on_holds hs player f (native_entry n ∷ es) h = tt

  gone_on_holds : (hs : List Right) (t : Task) (why : Waiting) (v : Datum) → EntriesHold (Holds start hs) t.entries → GoesOn hs (gone_on t why v)
  gone_on_holds hs t (forked m) v h = go (beginning_of t.entries)
    where
      go : (o : Option Program) → GoesOn hs (begun_again t o)
      go None = tt
      go (Some body) = going_on_holds hs t.player _ t.entries h
  gone_on_holds hs t (timed m u) v h = going_on_holds hs t.player (hand u) t.entries h
  gone_on_holds hs t idle v h = going_on_holds hs t.player (hand v) t.entries h
  gone_on_holds hs t (reading_on c) v h = going_on_holds hs t.player (hand v) t.entries h

  -- a task that leaves the queue, and goes on
  resumed_leads : (s : Scene) (i : ℤ) (t : Task) (v : Datum) (hs : List Right) → IsReady s → at s.world.tasks i ≡ Some t → Reached start first hs s.world
      → Leads (resumed (with_own_task s i) (gone_on t t.waiting v)).0
  resumed_leads s i t v hs ready e r =
      go (gone_on t t.waiting v) refl (gone_on_holds hs t t.waiting v (of_tasks (Holds start hs) s.world.tasks t.entries r.all.tasks (among_at s.world.tasks i t e)))
    where
      left : Reached start first hs (with_own_task s i).world
      left = served_from hs s.world (with_own_task s i).world r (refl, refl, refl) (among_left _ s.world.tasks)

      go : (m : Option Pending) → gone_on t t.waiting v ≡ m → GoesOn hs m → Leads (resumed (with_own_task s i) m).0
      go None k b = (hs, left)
      go (Some p) k b = run_leads (with_own_task s i) p hs (tasks_leave s i t e ready) (going_on_stands s i t v p ready e k) left b

  -- ---- login

  greeted_leads : (s : Scene) (who : ℤ) (f : Option Sought) (hs : List Right) → Reached start first hs s.world → SoughtOwned s.world f → Leads (greeted s who f).world
  greeted_leads s who None hs r k = (hs, r)
  greeted_leads s who (Some f) hs r k = go (has_ids s)
    where
      go : (b : Bool) → Leads (if b then enqueued (id_taken s) (next_id s) (user_task s who f) else s).world
      go false = (hs, r)
      go true = (hs, task_put start first hs s.world (next_id s) (user_task s who f) r (owner_runs start first hs s.world r (f.verb).owner k, tt))

  logged_in_leads : (s : Scene) (c who : ℤ) (hs : List Right) → Reached start first hs s.world → Leads (logged_in s c who).world
  logged_in_leads s c who hs r =
      let t : Scene = link_closed s who in
      let u : Scene = told_on (in_world t (open_link t.world c (record { person = who; programming = None }))) (Some c) (codes "*** Connected ***" ∷ []) in
      greeted_leads u who (on_system u (codes "user_connected")) hs (linked hs t.world c (record { person = who; programming = None }) (unlinked hs s who r)) (verb_owned u.world system (codes "user_connected"))

  login_value_leads : (s : Scene) (c : ℤ) (why : Stop) → Leads s.world → Leads (login_value s c why).world
  login_value_leads s c (done (object who)) (hs, r) = go (may_log_in s c who)
    where
      go : (b : Bool) → Leads (if b then logged_in s c who else s).world
      go false = (hs, r)
      go true = logged_in_leads s c who hs r
  login_value_leads s c why h = h

  login_leads : (s : Scene) (c : ℤ) (argstr : Text) (args : Data) (hs : List Right) → IsReady s → Reached start first hs s.world → Leads (login s c argstr args).0
  login_leads s c argstr args hs ready r = go (on_system s (codes "do_login_command")) (verb_owned s.world system (codes "do_login_command"))
    where
      go : (o : Option Sought) → SoughtOwned s.world o → Leads (login_with s c argstr args o).0
      go None k = (hs, r)
      go (Some f) k =
          let t : Ran = run s (system_task (connection_object c) (codes "do_login_command") argstr args f) in
          login_value_leads t.scene c t.stop (system_leads s (connection_object c) (codes "do_login_command") argstr args f hs ready r k)

  -- ---- `.program`

  requested_leads : (s : Scene) (c who : ℤ) (q : line.Request) (hs : List Right) → Reached start first hs s.world → Leads (requested s c who q).0
  requested_leads s c who line.other_form hs r = (hs, r)
  requested_leads s c who (line.program_verb t v) hs r = go (name_object s.world who t) (object_at s.world (name_object s.world who t))
    where
      on : (o : ℤ) (n : Option ℕ) → Leads (begins s c who o v n).0
      on o None = (hs, r)
      on o (Some n) = (hs, linked hs s.world c _ r)

      go : (o : ℤ) (m : Option Object) → Leads (opens s c who o v m).0
      go o None = (hs, r)
      go o (Some x) = on o (programmable s.world who o v)

  collected_leads : (s : Scene) (c : ℤ) (k : Link) (g : Programming) (t : Text) (hs : List Right) → IsReady s → at s.world.links c ≡ Some k → Reached start first hs s.world
      → Leads (collected s c k g t).0
  collected_leads s c k g t hs ready e r = go (same_text t (codes "."))
    where
      u : Scene
      u = with_link s c (record k { programming = None })

      closed : Reached start first hs (with_link s c (record k { programming = None })).world
      closed = linked hs s.world c (record k { programming = None }) r

      write : (n : ℕ) → Allows s.world k.person (program_verb g.object n) → (p : Parsed) → Leads (written (with_link s c (record k { programming = None })) c g.object n p).0
      write n allowed (program body) =
          let done : Reached start first hs (verb_changed s.world g.object n (λ v. record v { program = body })) =
          typed hs s.world k.person g.object n body r (typing s.world c k g.object n ready.agrees.world e allowed) allowed in
          let same = same_verbs s.world c (record k { programming = None }) g.object n (λ v. record v { program = body }) in
          (hs, served_from hs (verb_changed s.world g.object n (λ v. record v { program = body })) (verb_changed (open_link s.world c (record k { programming = None })) g.object n (λ v. record v { program = body })) done same.0 (λ es i. subst (λ ts. Among ts es) same.1 i))
      write n allowed (faulty f) = (hs, closed)

      lines : (n : ℕ) → Allows s.world k.person (program_verb g.object n) → (ts : Option (List Text)) → Leads (ends_with (with_link s c (record k { programming = None })) c g.object n ts).0
      lines n allowed None = (hs, closed)
      lines n allowed (Some ts) = write n allowed (parsed_lines ts)

      at_place : (m : Option ℕ) → Leads (ends_at (with_link s c (record k { programming = None })) c g (programmable_at s.world k.person g.object m)).0
      at_place None = (hs, closed)
      at_place (Some n) = by (may s.world k.person (program_verb g.object n)) refl
        where
          by : (b : Bool) → may s.world k.person (program_verb g.object n) ≡ b → Leads (ends_at (with_link s c (record k { programming = None })) c g (if b then Some n else None)).0
          by true allowed = lines n allowed g.lines
          by false allowed = (hs, closed)

      go : (b : Bool) → Leads (if b then ends s c k g else goes_on s c k g t).0
      go true = at_place (own_place (object_at s.world g.object) g.verb)
      go false = (hs, linked hs s.world c _ r)

  -- ---- commands

  abbrev MeantOwned : World → Option Meant → Type 0
  MeantOwned w None = Unit {0}
  MeantOwned w (Some m) = SoughtOwned w (Some m.sought)

  abbrev CommandOwned : World → Command → Type 0
  CommandOwned w (calls_verb p n m) = SoughtOwned w (Some m.sought)
  CommandOwned w (calls_huh p n f) = SoughtOwned w (Some f)
  CommandOwned w c = Unit {0}

  meant_owned : (w : World) (word : Text) (n : Named) (o : ℤ) → MeantOwned w (meant_on w word n o)
  unfolding find_command_verb
  meant_owned w word n o = go (find_command_verb w o word n) (first_owned w _ _)
    where
      go : (f : Option Sought) → SoughtOwned w f → MeantOwned w (option_map (λ s. record { this = o; sought = s }) f)
      go None k = tt
      go (Some f) k = k

  one_meant : (w : World) (a b : Option Meant) → MeantOwned w a → MeantOwned w b → MeantOwned w (or_then a b)
  one_meant w None b h k = k
  one_meant w (Some m) b h k = h

  command_owned : (w : World) (who : ℤ) (t : Text) → CommandOwned w (command_said w who t)
  unfolding command_said
  command_owned w who t = go (line_parts t)
    where
      huh : (p : Parts) (n : Named) (f : Option Sought) → SoughtOwned w f → CommandOwned w (huh_or_not p n f)
      huh p n None k = tt
      huh p n (Some f) k = k

      verb : (p : Parts) (n : Named) (m : Option Meant) → MeantOwned w m → CommandOwned w (verb_or_huh w who p n m)
      verb p n (Some m) k = k
      verb p n None k = huh p n (find_verb w (location_of (object_at w who)) (codes "huh")) (verb_owned w (location_of (object_at w who)) (codes "huh"))

      meant : (word : Text) (n : Named) → MeantOwned w (verb_meant w who word n)
      meant word n =
          one_meant w _ _ (meant_owned w word n who) (one_meant w _ _ (meant_owned w word n (location_of (object_at w who)))
          (one_meant w _ _ (meant_owned w word n n.direct) (meant_owned w word n n.indirect)))

      asks : (p : Parts) (b : Bool)
          → CommandOwned w (if b then programming (line.request_of p.args) else verb_or_huh w who p (named_by w who p) (verb_meant w who p.verb (named_by w who p)))
      asks p true = tt
      asks p false = verb p (named_by w who p) (verb_meant w who p.verb (named_by w who p)) (meant p.verb (named_by w who p))

      go : (o : Option Parts) → CommandOwned w (command_or_program w who o)
      go None = tt
      go (Some p) = asks p (asks_to_program w who p)

  command_leads : (s : Scene) (c who : ℤ) (m : Command) (hs : List Right) → IsReady s → Reached start first hs s.world → CommandOwned s.world m → Leads (command_run s c who m).0
  command_leads s c who nothing_said hs ready r k = (hs, r)
  command_leads s c who (programming q) hs ready r k = requested_leads s c who q hs r
  command_leads s c who (calls_verb p n m) hs ready r k =
      begun_leads s who (command_call who m.this p.verb m.sought) p.verb (command_start p n) (of_list (as_texts p.args)) (m.sought).verb.program hs ready r k
  command_leads s c who (calls_huh p n f) hs ready r k =
      begun_leads s who (command_call who (location_of (object_at s.world who)) (codes "huh") f) p.verb (command_start p n) (of_list (as_texts p.args)) (f.verb).program hs ready r k
  command_leads s c who not_understood hs ready r k = (hs, r)

  -- ---- lines

  line_for_leads : (s : Scene) (c : ℤ) (k : Link) (t : Text) (hs : List Right) → IsReady s → Reached start first hs s.world → Leads (line_for s c k t).0
  line_for_leads s c k t hs ready r = go (int_eq k.person (connection_object c))
    where
      go : (b : Bool) → Leads (if b then login s c t (words_value t) else player_line s c k.person t).0
      go true = login_leads s c t (words_value t) hs ready r
      go false = command_leads s c k.person (command_said s.world k.person t) hs ready r (command_owned s.world k.person t)

  read_leads : (s : Scene) (i : ℤ) (v : Datum) (m : Option Task) (hs : List Right) → IsReady s → at s.world.tasks i ≡ m → Reached start first hs s.world → Leads (events.read_by s i v m).0
  read_leads s i v None hs ready e r = (hs, r)
  read_leads s i v (Some t) hs ready e r = resumed_leads s i t v hs ready e r

  line_taken_leads : (s : Scene) (c : ℤ) (k : Link) (t : Text) (g : Option Programming) (hs : List Right) → IsReady s → at s.world.links c ≡ Some k → Reached start first hs s.world
      → Leads (line_taken s c k t g).0
  line_taken_leads s c k t (Some g) hs ready e r = collected_leads s c k g t hs ready e r
  line_taken_leads s c k t None hs ready e r = go (reader_of s.world c)
    where
      go : (m : Option ℤ) → Leads (line_read s c k t m).0
      go (Some i) = read_leads s i (text t) (at s.world.tasks i) hs ready refl r
      go None = line_for_leads s c k t hs ready r

  -- ---- events

  module _ (w : World) (s : Step) (ready : (t : ℕ) → IsReady (opening_scene w s t)) (hs : List Right) (r : Reached start first hs w) where
    opened_leads : (c : ℤ) (o : Option Link) → at w.links c ≡ o → IsTrue (is_connection c) → Leads (opened_link s w c o).0
    opened_leads c (Some k) e ranged = (hs, r)
    opened_leads c None e ranged =
        login_leads (opening_scene (open_link w c (record { person = connection_object c; programming = None })) s foreground_ticks) c [] no_data hs
        (links_open (opening_scene w s foreground_ticks) c (ready foreground_ticks) ranged e) (linked hs w c _ r)

    gone_leads : (u : Scene) (c who : ℤ) → IsReady u → Reached start first hs u.world → Leads (gone u c who).0
    gone_leads u c who fit k = go (int_eq who (connection_object c))
      where
        told : (f : Option Sought) → SoughtOwned u.world f → Leads (told_gone u who f).0
        told None i = (hs, k)
        told (Some f) i = system_leads u who (codes "user_disconnected") [] (item (object who) no_data) f hs fit k i

        go : (b : Bool) → Leads (if b then nothing_runs u else told_gone u who (on_system u (codes "user_disconnected"))).0
        go true = (hs, k)
        go false = told (on_system u (codes "user_disconnected")) (verb_owned u.world system (codes "user_disconnected"))

    closed_leads : (c : ℤ) (o : Option Link) → Leads (closed_link s w c o).0
    closed_leads c None = (hs, r)
    closed_leads c (Some k) =
        gone_leads (opening_scene (close_link w c) s foreground_ticks) c k.person (links_close (opening_scene w s foreground_ticks) c (ready foreground_ticks))
        (served_from hs w (close_link w c) r (closing w c).0 (closing w c).1)

    line_leads : (c : ℤ) (t : Text) (o : Option Link) → at w.links c ≡ o → Leads (line_on s w c t o).0
    line_leads c t None e = (hs, r)
    line_leads c t (Some k) e = line_taken_leads (opening_scene w s foreground_ticks) c k t k.programming hs (ready foreground_ticks) e r

    ready_leads : (i : ℤ) (o : Option Task) → at w.tasks i ≡ o → Leads (ready_at s w i o).0
    ready_leads i None e = (hs, r)
    ready_leads i (Some t) e = go (is_due s.moment t.waiting)
      where
        go : (d : Bool) → Leads (ready_run s w i t d).0
        go false = (hs, r)
        go true = resumed_leads (opening_scene w s queued_ticks) i t (object system) hs (ready queued_ticks) e r

    event_leads : (e : Event) → IsTrue (event_in_range e) → Leads (event_of w s e).0
    event_leads (step.open_link c) ranged = opened_leads c (at w.links c) refl ranged
    event_leads (step.close_link c) ranged = closed_leads c (at w.links c)
    event_leads (line_of c t) ranged = line_leads c t (at w.links c) refl
    event_leads (ready_task i) ranged = ready_leads i (at w.tasks i) refl

  -- ---- steps and lists

  pub opens_ready : (w : World) (s : Step) (t : ℕ) → Agrees w → IsTrue (in_range s) → IsReady (opening_scene (numbered s.number w) s t)
  opens_ready w s t h range =
      record { agrees = record { world = next_raised w (max (suc s.number) w.next) (omega arith) (omega (arith, small, limit)) h; number = one; before = omega arith; moment = second_holds (nat_le 1 s.number && nat_le s.number 33554431) (is_moment s.moment) with_moment; ids = omega arith; own = tt; next = refl } }
    where
      before_event : IsTrue (nat_le 1 s.number && nat_le s.number 33554431 && is_moment s.moment && (length s.key == 32) && list_all (λ b. nat_lt b 256) s.key)
      before_event = first_holds _ (event_in_range s.event) range

      with_moment : IsTrue (nat_le 1 s.number && nat_le s.number 33554431 && is_moment s.moment)
      with_moment = first_holds _ (length s.key == 32) (first_holds _ (list_all (λ b. nat_lt b 256) s.key) before_event)

      one : 1 ≤ s.number
      one = leb-true 1 s.number (first_holds _ (nat_le s.number 33554431) (first_holds _ (is_moment s.moment) with_moment))

      small : s.number ≤ 33554431
      small = number_small s range

      limit : w.next ≤ 33554432
      limit = leb-true w.next 33554432 (second_holds (nat_le 1 w.next) _ h.queue.next_in_range)

  pub step_leads : (w : World) (s : Step) (hs : List Right) → Agrees w → IsTrue (in_range s) → Reached start first hs w → Leads (play1 w s).0
  unfolding play1
  step_leads w s hs h range r = go w.ending
    where
      raised_next : Reached start first hs (numbered s.number w)
      raised_next = served_from hs w (numbered s.number w) r (refl, refl, refl) (λ es k. k)

      go : (b : Bool) → Leads (if b then (numbered s.number w, idle_with ended) else event (numbered s.number w) s).0
      go true = (hs, raised_next)
      go false = event_leads (numbered s.number w) s (λ t. opens_ready w s t h range) hs raised_next s.event (second_holds _ (event_in_range s.event) range)

  pub list_leads : (w : World) (ss : List Step) (hs : List Right) → Agrees w → IsTrue (list_all in_range ss) → Reached start first hs w → Leads (play w ss).0
  unfolding play
  list_leads w [] hs h range r = (hs, r)
  list_leads w (s ∷ ss) hs h range r =
      let one = step_leads w s hs h (first_holds (in_range s) _ range) r in
      list_leads (play1 w s).0 ss one.0 (steps_keep w s h (first_holds (in_range s) _ range)) (second_holds (in_range s) _ range) one.1

-- ---- the laws

pub turns_permit : TurnsPermit
turns_permit start k s p h all b =
    go (Rattle.spec_moo.specs.Turn.turn s p) (turn_goes start s.world [] s p h.world (record { chain = starts; all = all }) b)
  where
    halted : (t : Scene) (why : Stop) (hs : List Right) → Halted start s.world hs t why → Chain start s.world hs t.world
    halted t (waiting why es) hs r = r.0.chain
    halted t (done v) hs r = r.chain
    halted t (raised f) hs r = r.chain
    halted t (out_of_ticks ts) hs r = r.chain
    halted t killed hs r = r.chain

    go : (t : Rattle.spec_moo.specs.Pending.Turned) → TurnedReaches start s.world t → (gs : List Right) × Chain start s.world gs (world_after t)
    go (Rattle.spec_moo.specs.Pending.goes_on t q) (hs, (r, c)) = (hs, r.chain)
    go (Rattle.spec_moo.specs.Pending.halts t why) (hs, r) = (hs, halted t why hs r)

pub segments_permit : SegmentsPermit
segments_permit start k t s p h way all b = go (segment t s p).scene (segment t s p).stop (segment_leads start s.world k t s p ((h, way), ([], (record { chain = starts; all = all }, b))))
  where
    go : (u : Scene) (why : Stop) → (hs : List Right) × Halted start s.world hs u why → (gs : List Right) × Chain start s.world gs u.world
    go u (waiting why es) (hs, r) = (hs, r.0.chain)
    go u (done v) (hs, r) = (hs, r.chain)
    go u (raised f) (hs, r) = (hs, r.chain)
    go u (out_of_ticks ts) (hs, r) = (hs, r.chain)
    go u killed (hs, r) = (hs, r.chain)

pub steps_permit : StepsPermit
steps_permit start w s h range all = let r = step_leads start w w s [] h range (record { chain = starts; all = all }) in (r.0, (r.1.chain, r.1.all))

pub lists_permit : ListsPermit
lists_permit start w ss h range all = let r = list_leads start w w ss [] h range (record { chain = starts; all = all }) in (r.0, (r.1.chain, r.1.all))

-- `move`, call by call.
use Rattle.std.proofs.Common.{◌≡◌, ℤ, Bool, true, false, ◌&&◌, ◌||◌, [], ◌∷◌, Option, Some, None, Ok, Err, sym, ap, ◌∙◌, is_some, if◌then◌else◌}
use Rattle.std.specs.Prelude.{codes, option_map}
use Rattle.std.specs.Ordering.{int_eq}
use Rattle.spec_value.specs.Datum.{Datum, ErrorCode, object, item, no_data, move_refused}
use Rattle.spec_world.specs.World.{World, Call, Header, Object, move_native, object_at}
use Rattle.spec_world.specs.Naming.{location_of}
use Rattle.spec_world.specs.Permissions.{is_wizard}
use Rattle.spec_world.specs.Whereabouts.{moved}
use Rattle.spec_world.specs.Questions.{header_at}
use Rattle.spec_moo.specs.Scene.{Scene, in_world}
use Rattle.spec_moo.specs.NativeEffect as N
use Rattle.spec_moo.specs.Natives.Rows.{answers_with, zero_value}
use Rattle.spec_moo.specs.Natives.Objects.{stage, later_stage, last_stage, calls_if_there, told_to_enter, gone_over, move_now, move_checked, accepted, asked, move_row}
use Rattle.moo_value.specs.Errors.{code_of}
use Rattle.moo_value.specs.declared.error.MooError.{MooError}
use Rattle.moo_value.specs.declared.error.MooError.TheVariants.{MoveRefused}
use Rattle.moo_task.specs.Effects.{effect_of}
use Rattle.moo_task.specs.declared.effect.NativeEffect.{NativeEffect}
use Rattle.moo_task.specs.declared.effect.NativeEffect.TheVariants.{Answers}
use Rattle.view.specs.Law.{Goes, Tells}
use Rattle.builtins_view.proofs.Steps.{both_told}
use Rattle.builtins.specs.Verdict.{verdict, by_verdict}
use Rattle.builtins.proofs.BuiltinsObjectsChains.{unless_is}
use Rattle.builtins.specs.Led.{with_call, Leads, MayBegin}
use Rattle.builtins.specs.Moves.{first_checks, later_checks, is_in, MayMove}
use Rattle.builtins.proofs.Leading.{then_leads, ends_led, told_beside}

module _ (k : Call) (what place : ℤ) (s : Scene) (x : N.Caller) where
  -- after the first checks the place is asked
  pub row_is : move_row s (with_call x k) (object what ∷ object place ∷ []) ≡ by_verdict s (verdict (first_checks s.world k.programmer what place)) (asked s (with_call x k) what place)
  row_is = unless_is s (first_checks s.world k.programmer what place) (asked s (with_call x k) what place)

  -- after the later ones the object goes over
  pub accepted_is : (let_in : Bool) → (let_in || is_wizard s.world k.programmer) ≡ true
      → accepted s (with_call x k) what place let_in ≡ by_verdict s (verdict (later_checks s.world what place)) (move_now s (with_call x k) what place)
  accepted_is let_in welcome =
      ap (λ b. if b then move_checked s (with_call x k) what place (move_now s (with_call x k) what place) else N.refuses s move_refused) welcome
      ∙ unless_is s (later_checks s.world what place) (move_now s (with_call x k) what place)

  pub not_welcome : (let_in : Bool) → (let_in || is_wizard s.world k.programmer) ≡ false → accepted s (with_call x k) what place let_in ≡ N.refuses s move_refused
  not_welcome let_in unwelcome = ap (λ b. if b then move_checked s (with_call x k) what place (move_now s (with_call x k) what place) else N.refuses s move_refused) unwelcome

  -- no place is asked
  pub nobody_asked : is_some (object_at s.world place) ≡ false → asked s (with_call x k) what place ≡ move_now s (with_call x k) what place
  nobody_asked gone =
      ap (λ b. if b then calls_if_there s (with_call x k) (stage move_native (object what ∷ object place ∷ [])) place (codes "accept") (item (object what) no_data) (accepted s (with_call x k) what place false)
      else move_now s (with_call x k) what place) gone

  -- one is
  pub place_asked : is_some (object_at s.world place) ≡ true
      → asked s (with_call x k) what place
      ≡ calls_if_there s (with_call x k) (stage move_native (object what ∷ object place ∷ [])) place (codes "accept") (item (object what) no_data) (accepted s (with_call x k) what place false)
  place_asked there =
      ap (λ b. if b then calls_if_there s (with_call x k) (stage move_native (object what ∷ object place ∷ [])) place (codes "accept") (item (object what) no_data) (accepted s (with_call x k) what place false)
      else move_now s (with_call x k) what place) there

  -- it is there already, or goes over
  pub now_there : (b : Bool) (p : ℤ) → is_some (object_at s.world what) ≡ true → location_of (object_at s.world what) ≡ p → int_eq p place ≡ b
      → move_now s (with_call x k) what place
      ≡ (if b then answers_with s zero_value else gone_over (in_world s (moved s.world what place)) (with_call x k) what place (location_of (object_at s.world what)))
  now_there b p there at here =
      ap (λ z. if z then answers_with s zero_value else gone_over (in_world s (moved s.world what place)) (with_call x k) what place (location_of (object_at s.world what)))
      ((λ i. there i && int_eq (at i) place) ∙ here)

  -- it has come to the place, or has not
  pub is_entered : (b : Bool) (p : ℤ) → (is_some (object_at s.world what) && int_eq (location_of (object_at s.world what)) place && is_some (object_at s.world place)) ≡ b
      → told_to_enter s (with_call x k) what place p
      ≡ (if b then calls_if_there s (with_call x k) (last_stage move_native (object what ∷ object place ∷ object p ∷ [])) place (codes "enterfunc") (item (object what) no_data) (answers_with s zero_value)
      else answers_with s zero_value)
  is_entered b p told =
      ap (λ z. if z then calls_if_there s (with_call x k) (last_stage move_native (object what ∷ object place ∷ object p ∷ [])) place (codes "enterfunc") (item (object what) no_data) (answers_with s zero_value)
      else answers_with s zero_value) told

-- ---- over a view

-- whether an object is in a place, by its header
pub in_told : {V : Type 0} (holds : V → World → Type 0) (now : V → World → World) (what place : ℤ) (a b : V) (m : Option Header) → Tells holds now a b (λ w. header_at w what ≡ m)
    → Tells holds now a b (λ w. (is_some (object_at w what) && int_eq (location_of (object_at w what)) place) ≡ is_in m place)
in_told holds now what place a b m told w left = let t = told w left in (t.0, (t.1.0, go (object_at (now a w) what) t.1.1))
  where
    go : (o : Option Object) → option_map (λ x. x.header) o ≡ m → (is_some o && int_eq (location_of o) place) ≡ is_in m place
    go None e = ap (λ h. is_in h place) e
    go (Some x) e = ap (λ h. is_in h place) e

module _ {V : Type 0} (holds : V → World → Type 0) (now : V → World → World) (k : Call) (what place : ℤ) where
  abbrev Row : Type 0
  Row = Scene → N.Caller → N.NativeEffect

  abbrev first_row : Row
  first_row s x = move_row s x (object what ∷ object place ∷ [])

  abbrev asked_row : Row
  asked_row s x = asked s x what place

  abbrev now_row : Row
  now_row s x = move_now s x what place

  abbrev accepted_row : Bool → Row
  accepted_row let_in s x = accepted s x what place let_in

  abbrev left_row : ℤ → Row
  left_row p s x = gone_over s x what place p

  abbrev enters_row : ℤ → Row
  enters_row p s x = told_to_enter s x what place p

  abbrev pub First : Option ErrorCode → World → Type 0
  First m w = verdict (first_checks w k.programmer what place) ≡ m

  abbrev pub Later : Option ErrorCode → World → Type 0
  Later m w = verdict (later_checks w what place) ≡ m

  abbrev pub There : Bool → World → Type 0
  There b w = is_some (object_at w place) ≡ b

  abbrev pub Welcome : Bool → Bool → World → Type 0
  Welcome let_in b w = (let_in || is_wizard w k.programmer) ≡ b

  abbrev pub Entered : Bool → World → Type 0
  Entered b w = (is_some (object_at w what) && int_eq (location_of (object_at w what)) place && is_some (object_at w place)) ≡ b

  abbrev pub Accepts : Option NativeEffect → World → Type 0
  Accepts m w = MayBegin (stage move_native (object what ∷ object place ∷ [])) place (codes "accept") (item (object what) no_data) w k m

  abbrev pub Exits : ℤ → Option NativeEffect → World → Type 0
  Exits p m w = MayBegin (later_stage move_native (object what ∷ object place ∷ object p ∷ [])) p (codes "exitfunc") (item (object what) no_data) w k m

  abbrev pub Enters : ℤ → Option NativeEffect → World → Type 0
  Enters p m w = MayBegin (last_stage move_native (object what ∷ object place ∷ object p ∷ [])) place (codes "enterfunc") (item (object what) no_data) w k m

  -- ---- the first checks

  pub refused_led : (a b : V) (e : MooError) → Tells holds now a b (First (Some (code_of e))) → Goes holds now a b (λ before after. Leads first_row before after k (Answers (Err e)))
  refused_led a b e told =
      ends_led holds now k a b (First (Some (code_of e))) first_row (Answers (Err e)) told
      (λ s x h. row_is k what place s x ∙ ap (λ m. by_verdict s m (asked s (with_call x k) what place)) h)

  pub passed_led : (a b c : V) (e : NativeEffect) → Tells holds now a b (First None) → Goes holds now b c (λ before after. Leads asked_row before after k e)
      → Goes holds now a c (λ before after. Leads first_row before after k e)
  passed_led a b c e told led =
      then_leads holds now k a b c (First None) asked_row first_row e told led
      (λ s x h. row_is k what place s x ∙ ap (λ m. by_verdict s m (asked s (with_call x k) what place)) h)

  -- ---- the place is asked

  pub unasked_led : (a b c : V) (e : NativeEffect) → Tells holds now a b (There false) → Goes holds now b c (λ before after. Leads now_row before after k e)
      → Goes holds now a c (λ before after. Leads asked_row before after k e)
  unasked_led a b c e told led = then_leads holds now k a b c (There false) now_row asked_row e told led (λ s x h. nobody_asked k what place s x h)

  pub asked_led : (a b c : V) (e : NativeEffect) → Tells holds now a b (There true) → Tells holds now b c (Accepts (Some e)) → Goes holds now a c (λ before after. Leads asked_row before after k e)
  asked_led a b c e told begun =
      ends_led holds now k a c (λ w. There true w × Accepts (Some e) w) asked_row e (both_told holds now a b c (There true) (Accepts (Some e)) (λ w. There true w × Accepts (Some e) w) told begun (λ w p q. (p, q)))
      (λ s x h. place_asked k what place s x h.0 ∙ h.1 s x (accepted s (with_call x k) what place false))

  pub unheard_led : (a b c d : V) (e : NativeEffect) → Tells holds now a b (There true) → Tells holds now b c (Accepts None) → Goes holds now c d (λ before after. Leads (accepted_row false) before after k e)
      → Goes holds now a d (λ before after. Leads asked_row before after k e)
  unheard_led a b c d e told none led =
      then_leads holds now k a c d (λ w. There true w × Accepts None w) (accepted_row false) asked_row e
      (both_told holds now a b c (There true) (Accepts None) (λ w. There true w × Accepts None w) told none (λ w p q. (p, q))) led
      (λ s x h. place_asked k what place s x h.0 ∙ h.1 s x (accepted s (with_call x k) what place false))

  -- ---- it has answered

  pub welcome_told : (let_in wizard : Bool) (a b : V) → Tells holds now a b (λ w. is_wizard w k.programmer ≡ wizard) → Tells holds now a b (Welcome let_in (let_in || wizard))
  welcome_told let_in wizard a b told w left = let t = told w left in (t.0, (t.1.0, ap (λ z. let_in || z) t.1.1))

  pub unwelcome_led : (let_in : Bool) (a b : V) → Tells holds now a b (Welcome let_in false) → Goes holds now a b (λ before after. Leads (accepted_row let_in) before after k (Answers (Err MoveRefused)))
  unwelcome_led let_in a b told = ends_led holds now k a b (Welcome let_in false) (accepted_row let_in) (Answers (Err MoveRefused)) told (λ s x h. not_welcome k what place s x let_in h)

  pub later_led : (let_in : Bool) (a b c : V) (e : MooError) → Tells holds now a b (Welcome let_in true) → Tells holds now b c (Later (Some (code_of e)))
      → Goes holds now a c (λ before after. Leads (accepted_row let_in) before after k (Answers (Err e)))
  later_led let_in a b c e welcome told =
      ends_led holds now k a c (λ w. Welcome let_in true w × Later (Some (code_of e)) w) (accepted_row let_in) (Answers (Err e))
      (both_told holds now a b c (Welcome let_in true) (Later (Some (code_of e))) (λ w. Welcome let_in true w × Later (Some (code_of e)) w) welcome told (λ w p q. (p, q)))
      (λ s x h. accepted_is k what place s x let_in h.0 ∙ ap (λ m. by_verdict s m (move_now s (with_call x k) what place)) h.1)

  pub let_in_led : (let_in : Bool) (a b c d : V) (e : NativeEffect) → Tells holds now a b (Welcome let_in true) → Tells holds now b c (Later None)
      → Goes holds now c d (λ before after. Leads now_row before after k e) → Goes holds now a d (λ before after. Leads (accepted_row let_in) before after k e)
  let_in_led let_in a b c d e welcome told led =
      then_leads holds now k a c d (λ w. Welcome let_in true w × Later None w) now_row (accepted_row let_in) e
      (both_told holds now a b c (Welcome let_in true) (Later None) (λ w. Welcome let_in true w × Later None w) welcome told (λ w p q. (p, q))) led
      (λ s x h. accepted_is k what place s x let_in h.0 ∙ ap (λ m. by_verdict s m (move_now s (with_call x k) what place)) h.1)

  -- ---- it goes over

  pub stays_led : (a b : V) (p : ℤ) (v : Datum) → v ≡ zero_value → int_eq p place ≡ true → ((w : World) → holds a w → MayMove (now a w) what place)
      → Tells holds now a b (λ w. location_of (object_at w what) ≡ p) → Goes holds now a b (λ before after. Leads now_row before after k (Answers (Ok v)))
  stays_led a b p v zero here may told =
      ends_led holds now k a b (λ w. MayMove w what place × (location_of (object_at w what) ≡ p)) now_row (Answers (Ok v))
      (told_beside holds now a b (λ w. MayMove w what place) (λ w. location_of (object_at w what) ≡ p) may told)
      (λ s x h. now_there k what place s x true p h.0.there h.1 here ∙ ap (answers_with s) (sym zero))

  pub goes_led : (a b c d : V) (p : ℤ) (e : NativeEffect) → int_eq p place ≡ false → ((w : World) → holds a w → MayMove (now a w) what place)
      → Tells holds now a b (λ w. location_of (object_at w what) ≡ p) → Goes holds now b c (λ was is. is ≡ moved was what place)
      → Tells holds now c d (λ w. Leads (left_row p) w w k e) → Goes holds now a d (λ before after. Leads now_row before after k e)
  goes_led a b c d p e here may told gone led w left =
      let t = led w left in
      let u = gone w t.0 in
      let v = told w u.0 in
      let over : moved (now a w) what place ≡ now c w = sym (u.1 ∙ ap (λ z. moved z what place) v.1.0) in (
        v.0,
        λ s x. now_there k what place (in_world s (now a w)) x false p (may w v.0).there v.1.1 here
            ∙ (λ i. gone_over (in_world s (over i)) (with_call x k) what place (v.1.1 i))
            ∙ t.1.1 s x ∙ ap (λ z. effect_of e (in_world s z)) (sym t.1.0),
      )

  -- ---- the place that was left is told

  pub exits_led : (a b : V) (p : ℤ) (e : NativeEffect) → Tells holds now a b (Exits p (Some e)) → Tells holds now a b (λ w. Leads (left_row p) w w k e)
  exits_led a b p e told w left = let t = told w left in (t.0, (t.1.0, λ s x. t.1.1 s x (told_to_enter (in_world s (now a w)) (with_call x k) what place p)))

  pub no_exit_led : (a b c : V) (p : ℤ) (e : NativeEffect) → Tells holds now a b (Exits p None) → Tells holds now b c (λ w. Leads (enters_row p) w w k e)
      → Tells holds now a c (λ w. Leads (left_row p) w w k e)
  no_exit_led a b c p e none led =
      both_told holds now a b c (Exits p None) (λ w. Leads (enters_row p) w w k e) (λ w. Leads (left_row p) w w k e) none led
      (λ w so rest s x. so s x (told_to_enter (in_world s w) (with_call x k) what place p) ∙ rest s x)

  -- ---- and the new one

  pub not_entered_led : (a b : V) (p : ℤ) (v : Datum) → v ≡ zero_value → Tells holds now a b (Entered false) → Tells holds now a b (λ w. Leads (enters_row p) w w k (Answers (Ok v)))
  not_entered_led a b p v zero told w left =
      let t = told w left in
      (t.0, (t.1.0, λ s x. is_entered k what place (in_world s (now a w)) x false p t.1.1 ∙ ap (answers_with (in_world s (now a w))) (sym zero)))

  pub entered_led : (a b c : V) (p : ℤ) (e : NativeEffect) → Tells holds now a b (Entered true) → Tells holds now b c (Enters p (Some e)) → Tells holds now a c (λ w. Leads (enters_row p) w w k e)
  entered_led a b c p e told begun =
      both_told holds now a b c (Entered true) (Enters p (Some e)) (λ w. Leads (enters_row p) w w k e) told begun
      (λ w in_it so s x. is_entered k what place (in_world s w) x true p in_it ∙ so s x (answers_with (in_world s w) zero_value))

  pub no_entry_led : (a b c : V) (p : ℤ) (v : Datum) → v ≡ zero_value → Tells holds now a b (Entered true) → Tells holds now b c (Enters p None)
      → Tells holds now a c (λ w. Leads (enters_row p) w w k (Answers (Ok v)))
  no_entry_led a b c p v zero told none =
      both_told holds now a b c (Entered true) (Enters p None) (λ w. Leads (enters_row p) w w k (Answers (Ok v))) told none
      (λ w in_it so s x. is_entered k what place (in_world s w) x true p in_it ∙ so s x (answers_with (in_world s w) zero_value) ∙ ap (answers_with (in_world s w)) (sym zero))

-- What a question to a tracked view does to it.
use Rattle.std.proofs.Common.{Result, Ok, Err, IfOk, OnOk, OnErr, ◌≡◌, ℤ, List, [], ◌∷◌, ◌++◌, map, Option, Contains, refl, sym, ap, ◌∙◌, subst}
use Rattle.std.specs.Prelude.{option_map}
use Rattle.std.proofs.lemmas.List.{map-append}
use Rattle.spec_value.specs.Datum.{Text}
use Rattle.spec_world.specs.World.{World, Slot, Verb}
use Rattle.spec_world.specs.Inherit.{slot_at}
use Rattle.spec_world.specs.Questions.{Question, Answer, ask, header_at, verbs_at, about_header, about_slot, about_verbs, Agrees, apply_all}
use Rattle.view.specs.Sound.{IsSound}
use Rattle.view.specs.Law.{Tells}
use Rattle.view.specs.Meanings.{question_of}
use Rattle.world.specs.Seen.{read_on}
use Rattle.world.specs.Trace.{Trace, IsStart, IsTold, world_now}
use Rattle.world.specs.declared.noted.Noted.{Noted}
use Rattle.world.proofs.Alike.{slot_by_answer, parent_by_answer, verbs_by_answer}
use Rattle.world.proofs.Found.{given}
use Rattle.world.proofs.History.{agrees_more, agrees_before, agrees_last, answered_now}

-- a question that was asked before tells nothing new
pub told_before : (t : Trace) (q : Question) (a : Answer) → Agrees t.home t.reads → Contains t.reads record { question = q; answer = a } → IsTold t t q
told_before t q a agrees among = record {
  home_stays = refl;
  changes_stay = refl;
  agreeing = λ w. (λ of_w. (of_w, given w t.reads record { question = q; answer = a } among of_w ∙ sym (given t.home t.reads record { question = q; answer = a } among agrees)), λ h. h.0);
}

abbrev with_read : Trace → Question → Trace
with_read t q = record t { reads = t.reads ++ record { question = q; answer = ask t.home q } ∷ [] }

-- another question tells its answer
pub told_now : (old new : Trace) (q : Question) → new ≡ with_read old q → IsTold old new q
told_now old new q is = subst (λ (t : Trace). IsTold old t q) (sym is) (record {
  home_stays = refl;
  changes_stay = refl;
  agreeing = λ w. (
    λ h. (agrees_before w old.reads (record { question = q; answer = ask old.home q }) h, agrees_last w old.reads (record { question = q; answer = ask old.home q }) h),
    λ h. agrees_more w old.reads (record { question = q; answer = ask old.home q }) h.0 h.1,
  );
})

-- a note more, whose answer is the one of home
pub agrees_longer : (w : World) (ns ms : List Noted) (n : Noted) → ms ≡ ns ++ n ∷ [] → Agrees w (map (read_on w) ns) → ask w (question_of n.question) ≡ (read_on w n).answer → Agrees w (map (read_on w) ms)
agrees_longer w ns ms n is h e = subst (λ rs. Agrees w rs) (sym (ap (map (read_on w)) is ∙ map-append (read_on w) ns (n ∷ []))) (agrees_more w (map (read_on w) ns) (read_on w n) h e)

pub kept_told : (t : Trace) (ns ms : List Noted) (n : Noted) (q : Question) → t.reads ≡ map (read_on t.home) ns → ms ≡ ns ++ n ∷ [] → question_of n.question ≡ q → (read_on t.home n).answer ≡ ask t.home q
    → IsTold t (record t { reads = map (read_on t.home) ms }) q
kept_told t ns ms n q before is named answered =
    let last : map (read_on t.home) (n ∷ []) ≡ record { question = q; answer = ask t.home q } ∷ [] =
    ap (λ p. record { question = p; answer = (read_on t.home n).answer } ∷ []) named ∙ ap (λ a. record { question = q; answer = a } ∷ []) answered in
    told_now t (record t { reads = map (read_on t.home) ms }) q
    (ap (λ rs. record t { reads = rs }) (ap (map (read_on t.home)) is ∙ map-append (read_on t.home) ns (n ∷ []) ∙ ap (λ rs. rs ++ map (read_on t.home) (n ∷ [])) (sym before) ∙ ap (λ rs. t.reads ++ rs) last))

-- what follows either way
pub on_either : {A E G P Q : Type 0} (r : Result A E) → OnOk r P → OnErr r Q → (P → G) → (Q → G) → G
on_either (Ok a) p q f g = f p
on_either (Err e) p q f g = g q

pub on_good : {A E G P : Type 0} (r : Result A E) → OnOk r P → (P → G) → OnOk r G
on_good (Ok a) p f = f p
on_good (Err e) p f = tt

-- what holds anyhow holds where there is a result
pub on_ok : {A E P : Type 0} (result : Result A E) → P → OnOk result P
on_ok (Ok a) h = h
on_ok (Err e) h = tt

-- what was the answer before a question was asked is it behind it
pub answered_after : (old new : Trace) (q : Question) (a : Answer) → IsTold old new q → a ≡ ask (apply_all old.changes old.home) q → a ≡ ask (apply_all new.changes new.home) q
answered_after old new q a told is =
    is ∙ ap (λ cs. ask (apply_all cs old.home) q) (sym told.changes_stay) ∙ ap (λ v. ask (apply_all new.changes v) q) (sym told.home_stays)

-- what is known of the starts that are left once a question is asked
pub goes_on : (old new : Trace) (q : Question) (a : Answer) → IsSound new.home → IsTold old new q → a ≡ ask (apply_all new.changes new.home) q
    → Tells IsStart world_now old new (λ w. ask w q ≡ a)
goes_on old new q a sound told now w is =
    let before = (told.agreeing w).0 is.1 in
    let answer : a ≡ ask (apply_all old.changes old.home) q =
    now ∙ ap (λ cs. ask (apply_all cs new.home) q) told.changes_stay ∙ ap (λ v. ask (apply_all old.changes v) q) told.home_stays in (
      (is.0, before.0),
      (
        ap (λ cs. apply_all cs w) told.changes_stay,
        answered_now w old.home old.changes q a is.0 (subst (λ v. IsSound v) told.home_stays sound) before.1 answer,
      ),
    )

-- the same where an answer comes
pub goes_if_told : {A E : Type 0} (meaning : A → Answer) (result : Result A E) (old new : Trace) (q : Question) → IsSound new.home → OnOk result (IsTold old new q)
    → IfOk result (λ a. meaning a ≡ ask (apply_all new.changes new.home) q) → IfOk result (λ a. Tells IsStart world_now old new (λ w. ask w q ≡ meaning a))
goes_if_told meaning (Ok a) old new q sound told now = goes_on old new q (meaning a) sound told now
goes_if_told meaning (Err e) old new q sound told now = tt

-- the same of a slot that comes
pub goes_by_slot : {E : Type 0} (result : Result (Option Slot) E) (old new : Trace) (o : ℤ) (p : Text) → IsSound new.home → OnOk result (IsTold old new (about_slot o p))
    → IfOk result (λ s. s ≡ slot_at (apply_all new.changes new.home) o p) → IfOk result (λ s. Tells IsStart world_now old new (λ w. slot_at w o p ≡ s))
goes_by_slot (Ok s) old new o p sound told now = λ w is.
    let goes = goes_on old new (about_slot o p) (ask (apply_all new.changes new.home) (about_slot o p)) sound told refl w is in
    (goes.0, (goes.1.0, slot_by_answer (apply_all old.changes w) (apply_all new.changes new.home) o p goes.1.1 ∙ sym now))
goes_by_slot (Err e) old new o p sound told now = tt

-- the same of a parent that comes
pub goes_by_parent : {E : Type 0} (result : Result (Option ℤ) E) (old new : Trace) (o : ℤ) → IsSound new.home → OnOk result (IsTold old new (about_header o))
    → IfOk result (λ p. p ≡ option_map (λ h. h.parent) (header_at (apply_all new.changes new.home) o))
    → IfOk result (λ p. Tells IsStart world_now old new (λ w. option_map (λ h. h.parent) (header_at w o) ≡ p))
goes_by_parent (Ok p) old new o sound told now = λ w is.
    let goes = goes_on old new (about_header o) (ask (apply_all new.changes new.home) (about_header o)) sound told refl w is in
    (goes.0, (goes.1.0, parent_by_answer (apply_all old.changes w) (apply_all new.changes new.home) o goes.1.1 ∙ sym now))
goes_by_parent (Err e) old new o sound told now = tt

-- the same of verbs that come
pub goes_by_verbs : {E : Type 0} (result : Result (Option (List Verb)) E) (old new : Trace) (o : ℤ) → IsSound new.home → OnOk result (IsTold old new (about_verbs o))
    → IfOk result (λ vs. vs ≡ verbs_at (apply_all new.changes new.home) o) → IfOk result (λ vs. Tells IsStart world_now old new (λ w. verbs_at w o ≡ vs))
goes_by_verbs (Ok vs) old new o sound told now = λ w is.
    let goes = goes_on old new (about_verbs o) (ask (apply_all new.changes new.home) (about_verbs o)) sound told refl w is in
    (goes.0, (goes.1.0, verbs_by_answer (apply_all old.changes w) (apply_all new.changes new.home) o goes.1.1 ∙ sym now))
goes_by_verbs (Err e) old new o sound told now = tt

-- a start that answers as home does is left
pub stays : (old new : Trace) (q : Question) (w : World) → IsTold old new q → IsStart old w → ask w q ≡ ask old.home q → IsStart new w
stays old new q w told is alike = (is.0, (told.agreeing w).1 (is.1, alike))

-- the same where a question came to an end
pub stays_if_told : {A E : Type 0} (result : Result A E) (old new : Trace) (q : Question) → OnOk result (IsTold old new q)
    → OnOk result ((w : World) → IsStart old w → ask w q ≡ ask old.home q → ask (world_now old w) q ≡ ask (world_now old old.home) q → IsStart new w)
stays_if_told (Ok a) old new q told = λ w is alike _. stays old new q w told is alike
stays_if_told (Err e) old new q told = tt

-- What stands in a table of slots after its changes, and which names are on a line.
use Rattle.std.proofs.Common.{◌≡◌, ◌⊎◌, inl, inr, Bool, true, false, not, ◌||◌, List, [], ◌∷◌, ◌++◌, map, Option, Some, None, refl, sym, ap, ◌∙◌, subst, cond, IsTrue, is_some, nat_cmp}
use Rattle.std.specs.Prelude.{ℤ, option_map}
use Rattle.std.specs.Ordering.{eq_by_cmp}
use Rattle.std.specs.List.{list_any}
use Rattle.std.specs.Cmp.Lexicographic.{slice_cmp}
use Rattle.std.specs.FinMap.Entries.{find-put, is_some-find, below_all, is_sorted-where_key}
use Rattle.std.proofs.lemmas.List.Folds.{list_any-append}
use Rattle.spec_value.specs.Datum.{Text, same_text}
use Rattle.spec_value.specs.Table.{Named, named, with_name, without_name, is_named}
use Rattle.spec_world.specs.World.{Slot}
use Rattle.spec_world.specs.WellFormed.{has_name, names_once}
use Rattle.spec_world.specs.Families.{heir_slot, heir_slots, slots_named, added_slot, with_slots}
use Rattle.spec_value.proofs.Entries.{first_holds, second_holds, both_hold}
use Rattle.spec_value.proofs.Same.{same_texts, text_itself}
use Rattle.spec_value.proofs.Keys.{as_type, as_test, still_sorted}
use Rattle.spec_world.proofs.SlotChanges.{names_total, names_apart, itself, apart}

-- ---- texts

pub text_or_not : (s t : Text) → (s ≡ t) ⊎ (same_text s t ≡ false)
text_or_not s t = go (same_text s t) refl
  where
    go : (b : Bool) → same_text s t ≡ b → (s ≡ t) ⊎ (same_text s t ≡ false)
    go true e = inl (same_texts s t e)
    go false e = inr e

pub differ : (s t : Text) → same_text s t ≡ false → s ≡ t → ⊥
differ s t e is = let h : same_text s t ≡ true = subst (λ u. same_text s u ≡ true) is (text_itself s) in absurd (cc (h, e))

pub text_turned : (s t : Text) → same_text s t ≡ same_text t s
text_turned s t = go (text_or_not s t) (text_or_not t s)
  where
    go : (s ≡ t) ⊎ (same_text s t ≡ false) → (t ≡ s) ⊎ (same_text t s ≡ false) → same_text s t ≡ same_text t s
    go (inl e) k = subst (λ u. same_text s u ≡ same_text u s) e refl
    go (inr e) (inl k) = absurd (differ s t e (sym k))
    go (inr e) (inr k) = e ∙ sym k

-- keys are sought as texts are compared
pub sought : (s t : Text) → eq_by_cmp (slice_cmp nat_cmp) s t ≡ same_text s t
sought s t = go (text_or_not s t)
  where
    go : (s ≡ t) ⊎ (same_text s t ≡ false) → eq_by_cmp (slice_cmp nat_cmp) s t ≡ same_text s t
    go (inl e) = subst (λ u. eq_by_cmp (slice_cmp nat_cmp) s u ≡ same_text s u) e (itself names_total s ∙ sym (text_itself s))
    go (inr e) = apart names_apart s t (differ s t e) ∙ sym e

-- ---- tables

module _ {X : Type 0} where
  pub named_with : (es : Named X) (k t : Text) (x : X) → named (with_name es k x) t ≡ cond (same_text t k) (Some x) (named es t)
  named_with es k t x = find-put (slice_cmp nat_cmp) names_total t k x es ∙ ap (λ b. cond b (Some x) (named es t)) (sought t k)

  pub named_without : (es : Named X) (k t : Text) → named (without_name es k) t ≡ cond (same_text k t) None (named es t)
  named_without [] k t = go (same_text k t) None refl
    where
      go : (b : Bool) (o : Option X) → o ≡ None → o ≡ cond b None o
      go true o e = e
      go false o e = refl
  named_without (e ∷ es) k t = go (named_without es k t) (text_or_not t e.0) (same_text k e.0) refl
    where
      go : named (without_name es k) t ≡ cond (same_text k t) None (named es t) → (t ≡ e.0) ⊎ (same_text t e.0 ≡ false) → (b : Bool) → same_text k e.0 ≡ b
          → named (cond (not b) (e ∷ without_name es k) (without_name es k)) t ≡ cond (same_text k t) None (cond (eq_by_cmp (slice_cmp nat_cmp) t e.0) (Some e.1) (named es t))
      go rest (inl s) true h =
          let here : same_text k t ≡ true = subst (λ u. same_text k u ≡ true) (sym s) h in
          rest ∙ ap (λ b. cond b None (named es t)) here ∙ sym (ap (λ b. cond b None (cond (eq_by_cmp (slice_cmp nat_cmp) t e.0) (Some e.1) (named es t))) here)
      go rest (inl s) false h =
          let here : same_text k t ≡ false = subst (λ u. same_text k u ≡ false) (sym s) h in
          let key : eq_by_cmp (slice_cmp nat_cmp) t e.0 ≡ true = sought t e.0 ∙ subst (λ u. same_text t u ≡ true) s (text_itself t) in
          ap (λ b. cond b (Some e.1) (named (without_name es k) t)) key ∙ sym (ap (λ b. cond b (Some e.1) (named es t)) key)
          ∙ sym (ap (λ b. cond b None (cond (eq_by_cmp (slice_cmp nat_cmp) t e.0) (Some e.1) (named es t))) here)
      go rest (inr s) true h = rest ∙ ap (λ b. cond (same_text k t) None (cond b (Some e.1) (named es t))) (sym (sought t e.0 ∙ s))
      go rest (inr s) false h =
          ap (λ b. cond b (Some e.1) (named (without_name es k) t)) (sought t e.0 ∙ s) ∙ rest ∙ ap (λ b. cond (same_text k t) None (cond b (Some e.1) (named es t))) (sym (sought t e.0 ∙ s))

  -- a key is there where it is among the keys
  pub key_there : (es : Named X) (t : Text) → is_some (named es t) ≡ has_name (map (λ e. e.0) es) t
  key_there es t = is_some-find (slice_cmp nat_cmp) t es ∙ same_any (map (λ e. e.0) es)
    where
      same_any : (ks : List Text) → list_any (eq_by_cmp (slice_cmp nat_cmp) t) ks ≡ list_any (same_text t) ks
      same_any [] = refl
      same_any (k ∷ ks) = λ i. sought t k i || same_any ks i

  pub without_sorted : (es : Named X) (k : Text) → IsTrue (is_named es) → IsTrue (is_named (without_name es k))
  without_sorted es k h = as_test _ (is_sorted-where_key (slice_cmp nat_cmp) (λ u. not (same_text k u)) es (as_type _ h))

  pub with_sorted : (es : Named X) (k : Text) (x : X) → IsTrue (is_named es) → IsTrue (is_named (with_name es k x))
  with_sorted es k x h = still_sorted names_total k x es h

-- ---- the slots of heirs

pub named_heirs : (owner : ℤ) (es : Named Slot) (t : Text) → named (heir_slots owner es) t ≡ option_map (heir_slot owner) (named es t)
named_heirs owner [] t = refl
named_heirs owner (e ∷ es) t = go (named_heirs owner es t) (eq_by_cmp (slice_cmp nat_cmp) t e.0)
  where
    go : named (heir_slots owner es) t ≡ option_map (heir_slot owner) (named es t) → (b : Bool)
        → cond b (Some (heir_slot owner e.1)) (named (heir_slots owner es) t) ≡ option_map (heir_slot owner) (cond b (Some e.1) (named es t))
    go rest true = refl
    go rest false = rest

heirs_above : (owner : ℤ) (k : Text) (es : Named Slot) → IsTrue (below_all (slice_cmp nat_cmp) k es)
    → IsTrue (below_all (slice_cmp nat_cmp) k (heir_slots owner es))
heirs_above owner k [] h = refl
heirs_above owner k (e ∷ es) h = both_hold _ _ (first_holds _ _ h) (heirs_above owner k es (second_holds _ _ h))

pub heirs_sorted : (owner : ℤ) (es : Named Slot) → IsTrue (is_named es) → IsTrue (is_named (heir_slots owner es))
heirs_sorted owner [] h = refl
heirs_sorted owner (e ∷ es) h = both_hold _ _ (heirs_above owner e.0 es (first_holds _ _ h)) (heirs_sorted owner es (second_holds _ _ h))

pub named_kept : (test : Text → Bool) (es : Named Slot) (t : Text) → named (slots_named test es) t ≡ cond (test t) (named es t) None
named_kept test [] t = go (test t) None refl
  where
    go : (b : Bool) (o : Option Slot) → o ≡ None → o ≡ cond b o None
    go true o e = refl
    go false o e = e
named_kept test (e ∷ es) t = go (named_kept test es t) (text_or_not t e.0) (test e.0) refl
  where
    go : named (slots_named test es) t ≡ cond (test t) (named es t) None → (t ≡ e.0) ⊎ (same_text t e.0 ≡ false) → (b : Bool) → test e.0 ≡ b
        → named (cond b (e ∷ slots_named test es) (slots_named test es)) t ≡ cond (test t) (cond (eq_by_cmp (slice_cmp nat_cmp) t e.0) (Some e.1) (named es t)) None
    go rest (inl s) true h =
        let here : test t ≡ true = ap test s ∙ h in
        let key : eq_by_cmp (slice_cmp nat_cmp) t e.0 ≡ true = sought t e.0 ∙ subst (λ u. same_text t u ≡ true) s (text_itself t) in
        ap (λ b. cond b (Some e.1) (named (slots_named test es) t)) key ∙ sym (ap (λ b. cond b (Some e.1) (named es t)) key)
        ∙ sym (ap (λ b. cond b (cond (eq_by_cmp (slice_cmp nat_cmp) t e.0) (Some e.1) (named es t)) None) here)
    go rest (inl s) false h =
        let here : test t ≡ false = ap test s ∙ h in
        rest ∙ ap (λ b. cond b (named es t) None) here ∙ sym (ap (λ b. cond b (cond (eq_by_cmp (slice_cmp nat_cmp) t e.0) (Some e.1) (named es t)) None) here)
    go rest (inr s) true h =
        ap (λ b. cond b (Some e.1) (named (slots_named test es) t)) (sought t e.0 ∙ s) ∙ rest ∙ ap (λ b. cond (test t) (cond b (Some e.1) (named es t)) None) (sym (sought t e.0 ∙ s))
    go rest (inr s) false h = rest ∙ ap (λ b. cond (test t) (cond b (Some e.1) (named es t)) None) (sym (sought t e.0 ∙ s))

kept_above : (test : Text → Bool) (k : Text) (es : Named Slot) → IsTrue (below_all (slice_cmp nat_cmp) k es)
    → IsTrue (below_all (slice_cmp nat_cmp) k (slots_named test es))
kept_above test k [] h = refl
kept_above test k (e ∷ es) h = go (kept_above test k es (second_holds _ _ h)) (test e.0)
  where
    go : IsTrue (below_all (slice_cmp nat_cmp) k (slots_named test es)) → (b : Bool)
        → IsTrue (below_all (slice_cmp nat_cmp) k (cond b (e ∷ slots_named test es) (slots_named test es)))
    go rest true = both_hold _ _ (first_holds _ _ h) rest
    go rest false = rest

pub kept_sorted : (test : Text → Bool) (es : Named Slot) → IsTrue (is_named es) → IsTrue (is_named (slots_named test es))
kept_sorted test [] h = refl
kept_sorted test (e ∷ es) h = go (kept_sorted test es (second_holds _ _ h)) (test e.0)
  where
    go : IsTrue (is_named (slots_named test es)) → (b : Bool) → IsTrue (is_named (cond b (e ∷ slots_named test es) (slots_named test es)))
    go rest true = both_hold _ _ (kept_above test e.0 es (first_holds _ _ h)) rest
    go rest false = rest

abbrev pub or_first : Option Slot → Option Slot → Option Slot
or_first None later = later
or_first (Some s) later = Some s

named_added : (es : Named Slot) (k t : Text) (s : Slot) → named (added_slot es k s (named es k)) t ≡ or_first (named es t) (cond (same_text t k) (Some s) None)
named_added es k t s = go (named es k) refl (text_or_not t k)
  where
    same_first : (o : Option Slot) → o ≡ or_first o None
    same_first None = refl
    same_first (Some x) = refl

    go : (o : Option Slot) → named es k ≡ o → (t ≡ k) ⊎ (same_text t k ≡ false)
        → named (added_slot es k s o) t ≡ or_first (named es t) (cond (same_text t k) (Some s) None)
    go None e (inl h) =
        named_with es k t s ∙ ap (λ b. cond b (Some s) (named es t)) (subst (λ u. same_text t u ≡ true) h (text_itself t))
        ∙ sym (ap (λ o. or_first o (cond (same_text t k) (Some s) None)) (ap (named es) h ∙ e) ∙ ap (λ b. cond b (Some s) None) (subst (λ u. same_text t u ≡ true) h (text_itself t)))
    go None e (inr h) = named_with es k t s ∙ ap (λ b. cond b (Some s) (named es t)) h ∙ same_first (named es t) ∙ ap (λ b. or_first (named es t) (cond b (Some s) None)) (sym h)
    go (Some x) e (inl h) = ap (named es) h ∙ e ∙ sym (ap (λ o. or_first o (cond (same_text t k) (Some s) None)) (ap (named es) h ∙ e))
    go (Some x) e (inr h) = same_first (named es t) ∙ ap (λ b. or_first (named es t) (cond b (Some s) None)) (sym h)

added_sorted : (es : Named Slot) (k : Text) (s : Slot) (o : Option Slot) → IsTrue (is_named es) → IsTrue (is_named (added_slot es k s o))
added_sorted es k s None h = with_sorted es k s h
added_sorted es k s (Some x) h = h

pub named_both : (es fs : Named Slot) (t : Text) → named (with_slots es fs) t ≡ or_first (named es t) (named fs t)
named_both es [] t = go (named es t)
  where
    go : (o : Option Slot) → o ≡ or_first o None
    go None = refl
    go (Some x) = refl
named_both es (f ∷ fs) t =
    named_both (added_slot es f.0 f.1 (named es f.0)) fs t ∙ ap (λ o. or_first o (named fs t)) (named_added es f.0 t f.1)
    ∙ go (named es t) (same_text t f.0) ∙ ap (λ b. or_first (named es t) (cond b (Some f.1) (named fs t))) (sym (sought t f.0))
  where
    go : (o : Option Slot) (b : Bool) → or_first (or_first o (cond b (Some f.1) None)) (named fs t) ≡ or_first o (cond b (Some f.1) (named fs t))
    go None true = refl
    go None false = refl
    go (Some x) b = refl

pub both_sorted : (es fs : Named Slot) → IsTrue (is_named es) → IsTrue (is_named (with_slots es fs))
both_sorted es [] h = h
both_sorted es (f ∷ fs) h = both_sorted (added_slot es f.0 f.1 (named es f.0)) fs (added_sorted es f.0 f.1 (named es f.0) h)

-- ---- lists of names

pub has_both : (ts us : List Text) (t : Text) → has_name (ts ++ us) t ≡ (has_name ts t || has_name us t)
has_both ts us t = list_any-append (same_text t) ts us

-- no name of the one list is in the other
abbrev pub Apart : List Text → List Text → Type 0
Apart ts us = (t : Text) → IsTrue (has_name ts t) → has_name us t ≡ false

tail_false : (a b : Bool) → (a || b) ≡ false → b ≡ false
tail_false true b h = cc
tail_false false b h = h

head_false : (a b : Bool) → (a || b) ≡ false → a ≡ false
head_false true b h = cc
head_false false b h = refl

or_false : (a b : Bool) → a ≡ false → b ≡ false → (a || b) ≡ false
or_false true b h k = cc
or_false false b h k = k

denied : (a : Bool) → IsTrue (not a) → a ≡ false
denied true h = cc
denied false h = refl

deny : (a : Bool) → a ≡ false → IsTrue (not a)
deny true h = cc
deny false h = refl

pub here_name : (t : Text) (ts : List Text) → IsTrue (has_name (t ∷ ts) t)
here_name t ts = ap (λ b. b || has_name ts t) (text_itself t)

pub later_name : (s t : Text) (ts : List Text) → IsTrue (has_name ts t) → IsTrue (has_name (s ∷ ts) t)
later_name s t ts h = go (same_text t s)
  where
    go : (b : Bool) → IsTrue (b || has_name ts t)
    go true = refl
    go false = h

pub once_both : (ts us : List Text) → IsTrue (names_once ts) → IsTrue (names_once us) → Apart ts us → IsTrue (names_once (ts ++ us))
unfolding names_once
once_both [] us h k far = k
once_both (t ∷ ts) us h k far =
    both_hold _ _ (deny _ (has_both ts us t ∙ or_false _ _ (denied _ (first_holds _ _ h)) (far t (here_name t ts))))
    (once_both ts us (second_holds _ _ h) k (λ u m. far u (later_name t u ts m)))

pub once_first : (ts us : List Text) → IsTrue (names_once (ts ++ us)) → IsTrue (names_once ts)
unfolding names_once
once_first [] us h = refl
once_first (t ∷ ts) us h =
    both_hold _ _ (deny _ (head_false (has_name ts t) (has_name us t) (sym (has_both ts us t) ∙ denied _ (first_holds _ _ h)))) (once_first ts us (second_holds _ _ h))

pub once_second : (ts us : List Text) → IsTrue (names_once (ts ++ us)) → IsTrue (names_once us)
unfolding names_once
once_second [] us h = h
once_second (t ∷ ts) us h = once_second ts us (second_holds _ _ h)

pub once_apart : (ts us : List Text) → IsTrue (names_once (ts ++ us)) → Apart ts us
unfolding names_once
once_apart [] us h t m = cc
once_apart (s ∷ ts) us h t m = go (once_apart ts us (second_holds _ _ h) t) (text_or_not t s)
  where
    go : (IsTrue (has_name ts t) → has_name us t ≡ false) → (t ≡ s) ⊎ (same_text t s ≡ false) → has_name us t ≡ false
    go later (inl e) = subst (λ u. has_name us u ≡ false) (sym e) (tail_false (has_name ts s) (has_name us s) (sym (has_both ts us s) ∙ denied _ (first_holds _ _ h)))
    go later (inr e) = later (ap (λ b. b || has_name ts t) (sym e) ∙ m)

-- Texts that grow by one element after another, and how far they are written.
use Rattle.std.proofs.Common.{◌≡◌, ℕ, pos, negsuc, ℤ, List, [], ◌∷◌, ◌++◌, refl, sym, ap, append_assoc, ◌∙◌, arith, suc, ◌+◌, ◌<◌, length, map, take, drop, set, get_or, subst, if◌then◌else◌, ◌==◌}
use Rattle.std.specs.Prelude.{Vec}
use Rattle.std.specs.Global.{Global}
use Rattle.std.proofs.lemmas.List.{map_more, take_more_set, map_push, map-set, length-map, take-set, take-map, get_or-map, get_or-set_same}
use Rattle.spec_value.specs.Datum.{Text}
use Rattle.telnet_line.specs.Telnet as telnet
use Rattle.spec_world.specs.Outcome.{Outcome}
use Rattle.streams.specs.Writes.{EachWritten, IsBeginning}
use Rattle.streams.specs.Reads.{EachSpells}
use Rattle.streams.proofs.Growing.{same_at, rest_stays}
use Rattle.moo_session.specs.Sessions.{told_to, output_of, replies, ended_line, text_for, texts_from}
use Rattle.moo_session.specs.Texts.{all_items, IsCutAt}

pub told_append : (c : ℕ) (xs ys : List (ℤ × Text)) → told_to c (xs ++ ys) ≡ told_to c xs ++ told_to c ys
told_append c [] ys = refl
told_append c ((pos d, t) ∷ xs) ys =
    ap (λ r. (if d == c then ended_line t else []) ++ r) (told_append c xs ys) ∙ sym (append_assoc (if d == c then ended_line t else []) (told_to c xs) (told_to c ys))
told_append c ((negsuc d, t) ∷ xs) ys = told_append c xs ys

pub output_append : (c : ℕ) (xs ys : List Outcome) → output_of c (xs ++ ys) ≡ output_of c xs ++ output_of c ys
output_append c [] ys = refl
output_append c (o ∷ xs) ys = ap (λ r. told_to c o.output ++ r) (output_append c xs ys) ∙ sym (append_assoc (told_to c o.output) (output_of c xs) (output_of c ys))

pub replies_append : (xs ys : List telnet.Event) → replies (xs ++ ys) ≡ replies xs ++ replies ys
replies_append [] ys = refl
replies_append (telnet.Line t ∷ xs) ys = replies_append xs ys
replies_append (telnet.Reply b ∷ xs) ys = ap (λ r. b ++ r) (replies_append xs ys) ∙ sym (append_assoc b (replies xs) (replies ys))

pub grows : {A : Type 0} (f : List A → List ℕ) → ((xs ys : List A) → f (xs ++ ys) ≡ f xs ++ f ys) → (start mid end : List ℕ) (past all : List A) (x : A) → all ≡ past ++ x ∷ [] → mid ≡ start ++ f past → end ≡ mid ++ f (x ∷ []) → end ≡ start ++ f all
grows f law start mid end past all x given before now =
    now ∙ (ap (λ t. t ++ f (x ∷ [])) before ∙ (append_assoc start (f past) (f (x ∷ [])) ∙ ap (λ t. start ++ t) (sym (law past (x ∷ [])) ∙ ap f (sym given))))

texts_snoc : (c : ℕ) (past : List (List telnet.Event)) (es : List telnet.Event) (os : List Outcome) → texts_from c (past ++ es ∷ []) os ≡ texts_from c past os ++ text_for (c + length past) es os ∷ []
texts_snoc c [] es os = let z : c ≡ c + 0 = omega arith in ap (λ n. text_for n es os ∷ []) z
texts_snoc c (p ∷ past) es os =
    let z : suc c + length past ≡ c + suc (length past) = omega arith in
    ap (λ t. text_for c p os ∷ t) (texts_snoc (suc c) past es os ∙ ap (λ n. texts_from (suc c) past os ++ text_for n es os ∷ []) z)

pub texts_more : (k : ℕ) (past all : List (List telnet.Event)) (es : List telnet.Event) (os : List Outcome) (ts ts' : List (List ℕ)) (t : List ℕ) → length past ≡ k → all ≡ past ++ es ∷ [] → ts ≡ texts_from 1 past os → t ≡ text_for (k + 1) es os → ts' ≡ ts ++ t ∷ [] → ts' ≡ texts_from 1 all os
texts_more k past all es os ts ts' t len given before one now =
    let z : k + 1 ≡ 1 + length past = omega (arith, len) in
    now ∙ (ap (λ x. x ++ t ∷ []) before ∙ (ap (λ x. texts_from 1 past os ++ x ∷ []) (one ∙ ap (λ n. text_for n es os) z) ∙ (sym (texts_snoc 1 past es os) ∙ ap (λ a. texts_from 1 a os) (sym given))))

pub each_written : (old new ts : List (List ℕ)) (o n t : List ℕ) → EachWritten old new ts → n ≡ o ++ t → EachWritten (old ++ o ∷ []) (new ++ n ∷ []) (ts ++ t ∷ [])
each_written [] [] [] o n t each one = (one, tt)
each_written (a ∷ old) (b ∷ new) (c ∷ ts) o n t each one = (each.0, each_written old new ts o n t each.1 one)
each_written [] [] (c ∷ ts) o n t each one = absurd each
each_written [] (b ∷ new) [] o n t each one = absurd each
each_written [] (b ∷ new) (c ∷ ts) o n t each one = absurd each
each_written (a ∷ old) [] [] o n t each one = absurd each
each_written (a ∷ old) [] (c ∷ ts) o n t each one = absurd each
each_written (a ∷ old) (b ∷ new) [] o n t each one = absurd each

pub written_more : {W : Type 0} (f : W → List ℕ) (old now : List W) (texts : List (Vec ℕ Global)) (at : ℕ) (d x : W) (t : Vec ℕ Global) → at < length old → at < length now → at < length texts → drop at now ≡ drop at old → EachWritten (map f (take at old)) (map f (take at now)) (all_items (take at texts)) → f x ≡ f (get_or now at d) ++ (get_or texts at t).items → EachWritten (map f (take (at + 1) old)) (map f (take (at + 1) (set now at x))) (all_items (take (at + 1) texts))
written_more f old now texts at d x t below below' below'' rest each one =
    subst (λ a. EachWritten a (map f (take (at + 1) (set now at x))) (all_items (take (at + 1) texts))) (sym (map_more f old at d below))
    (subst (λ b. EachWritten (map f (take at old) ++ f (get_or old at d) ∷ []) b (all_items (take (at + 1) texts))) (sym (ap (map f) (take_more_set now at x below') ∙ map_push f (take at now) x))
    (subst (λ e. EachWritten (map f (take at old) ++ f (get_or old at d) ∷ []) (map f (take at now) ++ f x ∷ []) e) (sym (map_more (λ v. v.items) texts at t below''))
    (each_written _ _ _ (f (get_or old at d)) (f x) (get_or texts at t).items each (one ∙ ap (λ y. f y ++ (get_or texts at t).items) (same_at old now at d rest)))))

pub cut_at : {W : Type 0} (f : W → List ℕ) (old now : List W) (texts : List (Vec ℕ Global)) (at : ℕ) (d x : W) (t : Vec ℕ Global) → at < length old → at < length now → at < length texts → drop at now ≡ drop at old → EachWritten (map f (take at old)) (map f (take at now)) (all_items (take at texts)) → IsBeginning (f (get_or now at d)) (f x) (get_or texts at t).items → IsCutAt (at + 1) f old (set now at x) (all_items texts)
cut_at f old now texts at d x t below below' below'' rest each begun =
    let before : f (get_or now at d) ≡ get_or (map f old) at [] = ap f (same_at old now at d rest) ∙ sym (get_or-map f old at d [] below) in
    let after : f x ≡ get_or (map f (set now at x)) at [] =
    sym (ap (λ xs. get_or xs at []) (map-set f now at x) ∙ get_or-set_same (map f now) at (f x) [] (subst (λ k. at < k) (sym (length-map now f)) below')) in
    let whole : (get_or texts at t).items ≡ get_or (all_items texts) at [] = sym (get_or-map (λ v. v.items) texts at t [] below'') in (
      at,
      refl,
      below,
      subst (λ xs. EachWritten (map f (take at old)) (map f xs) (take at (all_items texts))) (sym (take-set now at x))
          (subst (λ ts. EachWritten (map f (take at old)) (map f (take at now)) ts) (sym (take-map (λ v. v.items) at texts)) each),
      (begun.0, sym after ∙ (begun.1 ∙ (ap (λ o. o ++ take begun.0 (get_or texts at t).items) before ∙ ap (λ w. get_or (map f old) at [] ++ take begun.0 w) whole))),
      rest_stays old now at x rest,
    )

pub as_many : (ss : List (List ℕ)) (ess : List (List telnet.Event)) → EachSpells ss ess → length ess ≡ length ss
as_many [] [] each = refl
as_many (s ∷ ss) (e ∷ ess) each = ap suc (as_many ss ess each.1)
as_many [] (e ∷ ess) each = absurd each
as_many (s ∷ ss) [] each = absurd each
